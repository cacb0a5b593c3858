-- The automations of a sound configuration, by their names.
use Rattle.std.proofs.Common.{◌≡◌, ℕ, zero, suc, ◌+◌, ◌<◌, ◌≤◌, List, [], ◌∷◌, length, get_or, map, Bool, true, false, refl, sym, ap, ◌∙◌, rules, arith}
use Rattle.std.specs.Prelude.{Option, Some, None, IsTrue, not, nat_eq, nat_le, find, option_map, slice_get, ◌&&◌, ◌||◌, if◌then◌else◌}
use Rattle.std.specs.List.{list_all, list_any, enumerate_from}
use Rattle.std.specs.Option.{option_map_or}
use Rattle.std.proofs.lemmas.Slice.Eq.{bytes_eq-Decides}
use Rattle.ha_value.specs.Ids.{is_name}
use Rattle.ha_config.specs.declared.config.Automation.{Automation}
use Rattle.ha_config.specs.declared.config.Config.{Config}
use Rattle.ha_config.specs.ValueFacts.{all_distinct}
use Rattle.ha_config.specs.Sound.{are_sound_actions, are_sound_conditions, are_sound_triggers, is_sound_automation, are_sound_automations, are_sound_helpers, are_sound_scripts, is_sound_config}
use Rattle.ha_config.specs.Names.{automation_named, name_of}
use Rattle.ha_config.specs.Words.{Text, same}
use Rattle.ha_config.proofs.EqualLemmas.{and_left, and_right, same-sound}
use Rattle.engine_entry.proofs.PlaceLemmas.{eq-self, apart-of}

pub same-self : (t : Text) → same t t ≡ true
same-self t = (bytes_eq-Decides t t).1 refl

pub or-left : (a b : Bool) → (a || b) ≡ false → a ≡ false
or-left true b h = absurd (let bad : ◌≡◌ {A = Bool} true false = h in cc)
or-left false b h = refl

pub or-right : (a b : Bool) → (a || b) ≡ false → b ≡ false
or-right true b h = absurd (let bad : ◌≡◌ {A = Bool} true false = h in cc)
or-right false b h = h

not-true : (a : Bool) → not a ≡ true → a ≡ false
not-true true h = absurd (let bad : ◌≡◌ {A = Bool} false true = h in cc)
not-true false h = refl

-- ---- what is sound

abbrev pub IsSound : Config → Type 0
IsSound c = IsTrue (is_sound_config c)

abbrev names : List Automation → List Text
names all = map {A = Automation} {B = Text} (λ a. a.name) all

own : (c : Config) → IsSound c → are_sound_automations c.automations ≡ true
own c h = and_left (are_sound_automations c.automations) (are_sound_scripts c.scripts && are_sound_helpers c.helpers) h

pub sound-few : (c : Config) → IsSound c → length c.automations ≤ 1024
sound-few c h = few (length c.automations) (and_left (nat_le (length c.automations) 1_024) (all_distinct (names c.automations)) (and_left (nat_le (length c.automations) 1_024 && all_distinct (names c.automations)) (list_all is_sound_automation c.automations) (own c h)))
  where
    few : (n : ℕ) → nat_le n 1024 ≡ true → n ≤ 1024
    few n e = search (rules, e)

pub sound-distinct : (c : Config) → IsSound c → all_distinct (names c.automations) ≡ true
sound-distinct c h = and_right (nat_le (length c.automations) 1_024) (all_distinct (names c.automations)) (and_left (nat_le (length c.automations) 1_024 && all_distinct (names c.automations)) (list_all is_sound_automation c.automations) (own c h))

-- LAW: one of those that are sound is
pub sound-each : (all : List Automation) (a : ℕ) (x : Automation) → list_all is_sound_automation all ≡ true → slice_get all a ≡ Some x → is_sound_automation x ≡ true
sound-each [] a x h e = absurd (let bad : ◌≡◌ {A = Option Automation} None (Some x) = e in cc)
sound-each (y ∷ ys) zero x h e = (let own : y ≡ x = cc in ap is_sound_automation (sym own) ∙ and_left (is_sound_automation y) (list_all is_sound_automation ys) h)
sound-each (y ∷ ys) (suc a) x h e = sound-each ys a x (and_right (is_sound_automation y) (list_all is_sound_automation ys) h) e

-- LAW: each automation is sound
pub all-sound : (c : Config) → IsSound c → list_all is_sound_automation c.automations ≡ true
all-sound c h = and_right (nat_le (length c.automations) 1_024 && all_distinct (names c.automations)) (list_all is_sound_automation c.automations) (own c h)

pub sound-at : (c : Config) → IsSound c → (a : ℕ) (x : Automation) → slice_get c.automations a ≡ Some x → is_sound_automation x ≡ true
sound-at c h a x e = sound-each c.automations a x (and_right (nat_le (length c.automations) 1_024 && all_distinct (names c.automations)) (list_all is_sound_automation c.automations) (own c h)) e

-- LAW: an automation's triggers are sound, and its name is one
pub sound-triggers : (x : Automation) → is_sound_automation x ≡ true → are_sound_triggers x.triggers ≡ true
sound-triggers x h =
    and_right (is_name x.name && nat_le 1 x.max && nat_le x.max 1_000) (are_sound_triggers x.triggers)
    (and_left (is_name x.name && nat_le 1 x.max && nat_le x.max 1_000 && are_sound_triggers x.triggers) (are_sound_conditions x.tests)
    (and_left (is_name x.name && nat_le 1 x.max && nat_le x.max 1_000 && are_sound_triggers x.triggers && are_sound_conditions x.tests) (are_sound_actions x.actions) h))

pub sound-name : (x : Automation) → is_sound_automation x ≡ true → is_name x.name ≡ true
sound-name x h =
    and_left (is_name x.name) (nat_le 1 x.max) (and_left (is_name x.name && nat_le 1 x.max) (nat_le x.max 1_000)
    (and_left (is_name x.name && nat_le 1 x.max && nat_le x.max 1_000) (are_sound_triggers x.triggers)
    (and_left (is_name x.name && nat_le 1 x.max && nat_le x.max 1_000 && are_sound_triggers x.triggers) (are_sound_conditions x.tests)
    (and_left (is_name x.name && nat_le 1 x.max && nat_le x.max 1_000 && are_sound_triggers x.triggers && are_sound_conditions x.tests) (are_sound_actions x.actions) h))))

-- ---- by name

another : (name : Text) (all : List Automation) (b : ℕ) (y : Automation) → list_any (same name) (names all) ≡ false → slice_get all b ≡ Some y → same name y.name ≡ false
another name [] b y h e = absurd (let bad : ◌≡◌ {A = Option Automation} None (Some y) = e in cc)
another name (x ∷ xs) zero y h e = (let own : x ≡ y = cc in ap (λ (z : Automation). same name z.name) (sym own) ∙ or-left (same name x.name) (list_any (same name) (names xs)) h)
another name (x ∷ xs) (suc b) y h e = another name xs b y (or-right (same name x.name) (list_any (same name) (names xs)) h) e

abbrev named_from : ℕ → List Automation → Text → Option ℕ
named_from n all name = option_map {T = ℕ × Automation} {U = ℕ} (λ p. p.0) (find (λ p. same p.1.name name) (enumerate_from n all))

named-from : (n i : ℕ) (all : List Automation) (x : Automation) → all_distinct (names all) ≡ true → slice_get all i ≡ Some x → named_from n all x.name ≡ Some (n + i)
named-from n i [] x h e = absurd (let bad : ◌≡◌ {A = Option Automation} None (Some x) = e in cc)
named-from n zero (y ∷ ys) x h e =
    (let own : y ≡ x = cc in
    let here : same y.name x.name ≡ true = (λ i. same y.name (sym own i).name) ∙ same-self y.name in
    (λ i. option_map {T = ℕ × Automation} {U = ℕ} (λ p. p.0) (if here i then Some (n, y) else find (λ p. same p.1.name x.name) (enumerate_from (n + 1) ys)))
    ∙ (let at : n ≡ n + 0 = omega arith in ap (λ m. Some m) at))
named-from n (suc i) (y ∷ ys) x h e =
    (let off : same y.name x.name ≡ false = another y.name ys i x (not-true (list_any (same y.name) (names ys)) (and_left (not (list_any (same y.name) (names ys))) (all_distinct (names ys)) h)) e in
    (λ k. option_map {T = ℕ × Automation} {U = ℕ} (λ p. p.0) (if off k then Some (n, y) else find (λ p. same p.1.name x.name) (enumerate_from (n + 1) ys)))
    ∙ named-from (n + 1) i ys x (and_right (not (list_any (same y.name) (names ys))) (all_distinct (names ys)) h) e
    ∙ (let at : n + 1 + i ≡ n + suc i = omega arith in ap (λ m. Some m) at))

-- LAW: an automation is the one of its name
pub named-own : (all : List Automation) (a : ℕ) (x : Automation) → all_distinct (names all) ≡ true → slice_get all a ≡ Some x → automation_named all x.name ≡ Some a
named-own all a x h e = named-from 0 a all x h e ∙ (let at : 0 + a ≡ a = omega arith in ap (λ m. Some m) at)

-- what is found by a name
pub record IsNamed (n m : ℕ) (all : List Automation) (t : Text) : Type 0 where
  pub place : ℕ
  pub automation : Automation
  pub at : m ≡ n + place
  pub here : slice_get all place ≡ Some automation
  pub name_is : same automation.name t ≡ true

named-at : (n m : ℕ) (all : List Automation) (t : Text) → named_from n all t ≡ Some m → IsNamed n m all t
named-at n m [] t e = absurd (let bad : ◌≡◌ {A = Option ℕ} None (Some m) = e in cc)
named-at n m (y ∷ ys) t e = by (same y.name t) refl e (named-at (n + 1) m ys t)
  where
    by : (b : Bool) → same y.name t ≡ b → option_map {T = ℕ × Automation} {U = ℕ} (λ p. p.0) (if b then Some (n, y) else find (λ p. same p.1.name t) (enumerate_from (n + 1) ys)) ≡ Some m
        → (named_from (n + 1) ys t ≡ Some m → IsNamed (n + 1) m ys t) → IsNamed n m (y ∷ ys) t
    by true is e rec = (let own : n ≡ m = cc in record { place = 0; automation = y; at = omega (arith, own); here = refl; name_is = is })
    by false is e rec = (let later = rec e in record { place = suc later.place; automation = later.automation; at = omega (arith, later.at); here = later.here; name_is = later.name_is })

-- LAW: the one of a name has it
pub record IsOf (all : List Automation) (t : Text) (a : ℕ) : Type 0 where
  pub automation : Automation
  pub here : slice_get all a ≡ Some automation
  pub name_is : automation.name ≡ t

pub found-named : (all : List Automation) (t : Text) (a : ℕ) → automation_named all t ≡ Some a → IsOf all t a
found-named all t a e =
    let found = named-at 0 a all t e in
    record { automation = found.automation; here = (let at : a ≡ found.place = omega (arith, found.at) in ap (slice_get all) at) ∙ found.here; name_is = same-sound found.automation.name t found.name_is }

name-at : (all : List Automation) (a : ℕ) (x : Automation) → slice_get all a ≡ Some x → name_of all a ≡ x.name
name-at all a x e = ap (λ o. option_map_or (λ (z : Automation). z.name) o []) e

named-some : (t : Text) → is_name t ≡ true → same t [] ≡ false
named-some [] h = absurd (let bad : ◌≡◌ {A = Bool} false true = h in cc)
named-some (c ∷ cs) h = refl

-- LAW: only the automation's own number has its name
pub name-apart : (c : Config) → IsSound c → (a b : ℕ) (x : Automation) → slice_get c.automations a ≡ Some x → same x.name (name_of c.automations b) ≡ nat_eq a b
name-apart c sound a b x e = by (slice_get c.automations b) refl
  where
    distinct : all_distinct (names c.automations) ≡ true
    distinct = sound-distinct c sound

    one : (y : Automation) → slice_get c.automations b ≡ Some y → (d : Bool) → same x.name y.name ≡ d → d ≡ nat_eq a b
    one y f true is =
        (let own : Some a ≡ Some b = sym (named-own c.automations a x distinct e) ∙ ap (automation_named c.automations) (same-sound x.name y.name is) ∙ named-own c.automations b y distinct f in
        let at : a ≡ b = cc in sym ((λ i. nat_eq a (sym at i)) ∙ eq-self a))
    one y f false is = sym (apart-of a b (λ at. absurd (let own : Some x ≡ Some y = sym e ∙ ap (slice_get c.automations) at ∙ f in let self : x ≡ y = cc in let bad : ◌≡◌ {A = Bool} true false = sym (same-self x.name) ∙ ap (λ (z : Automation). same x.name z.name) self ∙ is in cc)))

    by : (o : Option Automation) → slice_get c.automations b ≡ o → same x.name (name_of c.automations b) ≡ nat_eq a b
    by None f =
        (λ i. same x.name (option_map_or (λ (z : Automation). z.name) (f i) []))
        ∙ named-some x.name (sound-name x (sound-at c sound a x e))
        ∙ sym (apart-of a b (λ at. absurd (let bad : ◌≡◌ {A = Option Automation} (Some x) None = sym e ∙ ap (slice_get c.automations) at ∙ f in cc)))
    by (Some y) f = ap (same x.name) (name-at c.automations b y f) ∙ one y f (same x.name y.name) refl

-- what an index reads
pub read-here : {X : Type 0} (xs : List X) (i : ℕ) (d y : X) → i < length xs → y ≡ get_or xs i d → slice_get xs i ≡ Some y
read-here [] i d y lt e = absurd (omega (arith, lt))
read-here (x ∷ xs) zero d y lt e = ap (λ z. Some z) (sym e)
read-here (x ∷ xs) (suc i) d y lt e = read-here xs i d y (omega (arith, lt)) e
