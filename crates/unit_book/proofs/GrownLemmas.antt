-- The units that come into force with a configuration, and their names.
use Rattle.std.proofs.Common.{◌≡◌, ℕ, zero, suc, ◌+◌, ◌<◌, ◌≤◌, List, [], ◌∷◌, ◌++◌, length, map, take, Bool, true, false, refl, sym, ap, subst, ◌∙◌, rules, arith, Option}
use Rattle.std.specs.Prelude.{Some, None, IfSome, nat_lt, slice_get, option_and_then, ◌||◌, if◌then◌else◌}
use Rattle.std.specs.List.{list_any}
use Rattle.ha_config.specs.declared.config.Automation.{Automation}
use Rattle.ha_config.specs.declared.config.Config.{Config}
use Rattle.ha_config.specs.declared.config.Script.{Script}
use Rattle.ha_config.specs.Equality.{same_automation, same_script}
use Rattle.ha_config.specs.Names.{names_of, unit_of}
use Rattle.ha_config.specs.Numbered.{fresh, kept_number, numbered}
use Rattle.ha_config.specs.Sound.{IsSoundConfig}
use Rattle.ha_config.specs.Units.{as_unit, units_of}
use Rattle.ha_config.specs.Words.{Text, same}
use Rattle.ha_config.proofs.EqualLemmas.{same-refl}
use Rattle.ha_config.proofs.NumberedLemmas.{fresh-kept, fresh-new, kept-there, map-itself, number-below, numbered-are, numbered-kept, numbered-new}
use Rattle.ha_journal.specs.declared.entry.Entry.{Entry}
use Rattle.ha_journal.specs.Force.{Force, force, new_rules, new_scripts, reloaded}
use Rattle.ha_journal.specs.Journal.{Journal, units}
use Rattle.ha_journal.proofs.ForceLaws.{in-force-units, scripts-units}
use Rattle.unit_book.specs.Book.{AreAt, brought, config_at, first_from, firsts_of, numbers_in, unit_at}

is-less : (a b : ℕ) → a < b → nat_lt a b ≡ true
is-less a b lt = search rules

not-less : (a b : ℕ) → b ≤ a → nat_lt a b ≡ false
not-less a b le = search (rules, le)

-- ---- units whose numbers nobody had

abbrev pub new_units : ℕ → List ℕ → List Automation → List Automation
new_units free [] us = []
new_units free (n ∷ ns) [] = []
new_units free (n ∷ ns) (u ∷ us) = if nat_lt n free then new_units free ns us else u ∷ new_units free ns us

-- LAW: they stand where the entry brings them
pub brought-at : (es : List Entry) (place free at : ℕ) (c : Config) → config_at es place ≡ Some c → IsSoundConfig c → (ns : List ℕ) (us : List Automation) → length ns ≡ length us
    → ((i : ℕ) (u : Automation) → slice_get us i ≡ Some u → unit_of (units_of c) (at + i) ≡ Some u) → AreAt es (brought place free at ns) (new_units free ns us)
brought-at es place free at c is sound [] us len h = tt
brought-at es place free at c is sound (n ∷ ns) [] len h = absurd (omega (arith, len))
brought-at es place free at c is sound (n ∷ ns) (u ∷ us) len h =
    let here : unit_at es (place, at) ≡ Some u
    = ap (option_and_then (λ d. unit_of (units_of d) at)) is ∙ (let first : at + 0 ≡ at = omega arith in subst (λ m. unit_of (units_of c) m ≡ Some u) first (h zero u refl)) in
    by (nat_lt n free) here
    (brought-at es place free (suc at) c is sound ns us (omega (arith, len))
    (λ i v e. (let next : at + suc i ≡ suc at + i = omega arith in subst (λ m. unit_of (units_of c) m ≡ Some v) next (h (suc i) v e))))
  where
    by : (b : Bool) → unit_at es (place, at) ≡ Some u → AreAt es (brought place free (suc at) ns) (new_units free ns us)
        → AreAt es (if b then brought place free (suc at) ns else (place, at) ∷ brought place free (suc at) ns) (if b then new_units free ns us else u ∷ new_units free ns us)
    by true here rest = rest
    by false here rest = (here, subst (λ k. IfSome k IsSoundConfig) (sym is) sound, rest)

pub new-append : (free : ℕ) (ns ms : List ℕ) (us vs : List Automation) → length ns ≡ length us → new_units free (ns ++ ms) (us ++ vs) ≡ new_units free ns us ++ new_units free ms vs
new-append free [] ms [] vs len = refl
new-append free [] ms (u ∷ us) vs len = absurd (omega (arith, len))
new-append free (n ∷ ns) ms [] vs len = absurd (omega (arith, len))
new-append free (n ∷ ns) ms (u ∷ us) vs len = by (nat_lt n free) (new-append free ns ms us vs (omega (arith, len)))
  where
    by : (b : Bool) → new_units free (ns ++ ms) (us ++ vs) ≡ new_units free ns us ++ new_units free ms vs
        → (if b then new_units free (ns ++ ms) (us ++ vs) else u ∷ new_units free (ns ++ ms) (us ++ vs)) ≡ (if b then new_units free ns us else u ∷ new_units free ns us) ++ new_units free ms vs
    by true e = e
    by false e = ap (λ l. u ∷ l) e

pub new-first : (ns : List ℕ) (us : List Automation) → length ns ≡ length us → new_units 0 ns us ≡ us
new-first [] [] len = refl
new-first [] (u ∷ us) len = absurd (omega (arith, len))
new-first (n ∷ ns) [] len = absurd (omega (arith, len))
new-first (n ∷ ns) (u ∷ us) len = (let above : nat_lt n 0 ≡ false = not-less n 0 (omega arith) in λ i. if above i then new_units 0 ns us else u ∷ new_units 0 ns us) ∙ ap (λ l. u ∷ l) (new-first ns us (omega (arith, len)))

abbrev numbers : {A : Type 0} → List (ℕ × A) → List ℕ
numbers {A} ps = map {A = ℕ × A} {B = ℕ} (λ p. p.0) ps

module _ {A : Type 0} (equal : A → A → Bool) (unit : A → Automation) (old : List (ℕ × A)) (free : ℕ) (below : (y : A) (m : ℕ) → kept_number equal old y ≡ Some m → m < free) where
  -- LAW: those are new that are not kept
  pub new-numbered : (next : ℕ) (ys : List A) → free ≤ next → new_units free (numbers (numbered equal old next ys)) (map {A = A} {B = Automation} unit ys) ≡ map {A = A} {B = Automation} unit (fresh equal old ys)
  new-numbered next [] le = refl
  new-numbered next (y ∷ ys) le = by (kept_number equal old y) refl (new-numbered next ys le) (new-numbered (suc next) ys (omega (arith, le)))
    where
      by : (o : Option ℕ) → kept_number equal old y ≡ o
          → new_units free (numbers (numbered equal old next ys)) (map {A = A} {B = Automation} unit ys) ≡ map {A = A} {B = Automation} unit (fresh equal old ys)
          → new_units free (numbers (numbered equal old (suc next) ys)) (map {A = A} {B = Automation} unit ys) ≡ map {A = A} {B = Automation} unit (fresh equal old ys)
          → new_units free (numbers (numbered equal old next (y ∷ ys))) (map {A = A} {B = Automation} unit (y ∷ ys)) ≡ map {A = A} {B = Automation} unit (fresh equal old (y ∷ ys))
      by (Some m) e rest later =
          let less : nat_lt m free ≡ true = is-less m free (below y m e) in
          (λ i. new_units free (numbers (numbered-kept equal old next y ys m e i)) (map {A = A} {B = Automation} unit (y ∷ ys)))
          ∙ (λ i. if less i then new_units free (numbers (numbered equal old next ys)) (map {A = A} {B = Automation} unit ys)
          else unit y ∷ new_units free (numbers (numbered equal old next ys)) (map {A = A} {B = Automation} unit ys))
          ∙ rest ∙ (λ i. map {A = A} {B = Automation} unit (sym (fresh-kept equal old y ys m e) i))
      by None e rest later =
          let above : nat_lt next free ≡ false = not-less next free le in
          (λ i. new_units free (numbers (numbered-new equal old next y ys e i)) (map {A = A} {B = Automation} unit (y ∷ ys)))
          ∙ (λ i. if above i then new_units free (numbers (numbered equal old (suc next) ys)) (map {A = A} {B = Automation} unit ys)
          else unit y ∷ new_units free (numbers (numbered equal old (suc next) ys)) (map {A = A} {B = Automation} unit ys))
          ∙ ap (λ l. unit y ∷ l) later ∙ (λ i. map {A = A} {B = Automation} unit (sym (fresh-new equal old y ys e) i))

  pub numbers-length : (next : ℕ) (ys : List A) → length (numbers (numbered equal old next ys)) ≡ length ys
  numbers-length next ys = same-length (numbered equal old next ys) ∙ ap length (numbered-are equal old next ys)
    where
      same-length : (ps : List (ℕ × A)) → length (numbers ps) ≡ length (map {A = ℕ × A} {B = A} (λ p. p.1) ps)
      same-length [] = refl
      same-length (p ∷ ps) = ap suc (same-length ps)

mapped-length : {A B : Type 0} (f : A → B) (xs : List A) → length (map f xs) ≡ length xs
mapped-length f [] = refl
mapped-length f (x ∷ xs) = ap suc (mapped-length f xs)

module _ (s : Journal) (c : Config) where
  abbrev f : Force
  f = force s

  rule-below : (y : Automation) (m : ℕ) → kept_number same_automation f.rules y ≡ Some m → m < length f.units
  rule-below y m e = number-below (λ (x : Automation). x) f.units f.rules m (in-force-units s) (kept-there same_automation f.rules y m e)

  script-below : (y : Script) (m : ℕ) → kept_number same_script f.scripts y ≡ Some m → m < length f.units
  script-below y m e = number-below as_unit f.units f.scripts m (scripts-units s) (kept-there same_script f.scripts y m e)

  -- LAW: behind a Reload the units whose numbers nobody had are those that it brings
  pub new-reloaded : new_units (length f.units) (numbers_in (reloaded f c)) (units_of c) ≡ new_rules f c ++ map as_unit (new_scripts f c)
  new-reloaded =
      let next : ℕ = length f.units + length (new_rules f c) in
      let rules = numbers (numbered same_automation f.rules (length f.units) c.automations) in
      let own : new_units (length f.units) rules c.automations ≡ new_rules f c
      = (λ i. new_units (length f.units) rules (sym (map-itself c.automations) i))
      ∙ new-numbered same_automation (λ (x : Automation). x) f.rules (length f.units) rule-below (length f.units) c.automations (omega arith) ∙ map-itself (new_rules f c) in
      new-append (length f.units) rules (numbers (numbered same_script f.scripts next c.scripts)) c.automations (map as_unit c.scripts)
      (numbers-length same_automation (λ (x : Automation). x) f.rules (length f.units) rule-below (length f.units) c.automations)
      ∙ (λ i. own i ++ new-numbered same_script as_unit f.scripts (length f.units) script-below next c.scripts (omega arith) i)

  pub numbers-many : length (numbers_in (reloaded f c)) ≡ length (units_of c)
  numbers-many =
      let next : ℕ = length f.units + length (new_rules f c) in
      let rules = numbers (numbered same_automation f.rules (length f.units) c.automations) in
      let scripts = numbers (numbered same_script f.scripts next c.scripts) in
      let one = numbers-length same_automation (λ (x : Automation). x) f.rules (length f.units) rule-below (length f.units) c.automations in
      let two = numbers-length same_script as_unit f.scripts (length f.units) script-below next c.scripts in
      let three = mapped-length as_unit c.scripts in
      joined rules scripts ∙ (let sum : length rules + length scripts ≡ length c.automations + length (map as_unit c.scripts) = omega (arith, one, two, three) in sum) ∙ sym (joined c.automations (map as_unit c.scripts))
    where
      joined : {X : Type 0} (xs ys : List X) → length (xs ++ ys) ≡ length xs + length ys
      joined [] ys = omega arith
      joined (x ∷ xs) ys = omega (arith, joined xs ys)

-- ---- the first of a name

any-append : (test : Text → Bool) (xs ys : List Text) → list_any test ys ≡ true → list_any test (xs ++ ys) ≡ true
any-append test [] ys e = e
any-append test (x ∷ xs) ys e = by (test x) (any-append test xs ys e)
  where
    by : (b : Bool) → list_any test (xs ++ ys) ≡ true → (b || list_any test (xs ++ ys)) ≡ true
    by true h = refl
    by false h = h

first-front : (n : ℕ) (name : Text) (xs ys : List Text) → list_any (λ x. same x name) xs ≡ true → first_from n name (xs ++ ys) ≡ first_from n name xs
first-front n name [] ys e = absurd (let bad : ◌≡◌ {A = Bool} false true = e in cc)
first-front n name (x ∷ xs) ys e = by (same x name) e (first-front (suc n) name xs ys)
  where
    by : (b : Bool) → (b || list_any (λ x. same x name) xs) ≡ true → (list_any (λ x. same x name) xs ≡ true → first_from (suc n) name (xs ++ ys) ≡ first_from (suc n) name xs)
        → (if b then n else first_from (suc n) name (xs ++ ys)) ≡ (if b then n else first_from (suc n) name xs)
    by true e rest = refl
    by false e rest = rest e

snoc-more : (xs : List Text) (x : Text) (ys : List Text) → (xs ++ (x ∷ [])) ++ ys ≡ xs ++ (x ∷ ys)
snoc-more [] x ys = refl
snoc-more (z ∷ zs) x ys = ap (λ l. z ∷ l) (snoc-more zs x ys)

each-alike : (all : List Text) (g h : Text → ℕ) → ((x : Text) → list_any (λ z. same z x) all ≡ true → g x ≡ h x) → (pre xs : List Text) → all ≡ pre ++ xs → map g xs ≡ map h xs
each-alike all g h alike pre [] is = refl
each-alike all g h alike pre (x ∷ xs) is =
    let found : list_any (λ z. same z x) (x ∷ xs) ≡ true = (λ i. same-refl x i || list_any (λ z. same z x) xs) in
    (λ i. alike x (ap (list_any (λ z. same z x)) is ∙ any-append (λ z. same z x) pre (x ∷ xs) found) i ∷ each-alike all g h alike (pre ++ (x ∷ [])) xs (is ∙ sym (snoc-more pre x xs)) i)

take-front : {X : Type 0} (xs ys : List X) (n : ℕ) → n ≡ length xs → take n (xs ++ ys) ≡ xs
take-front {X} xs ys n e = (λ i. take (e i) (xs ++ ys)) ∙ whole xs
  where
    whole : (zs : List X) → take (length zs) (zs ++ ys) ≡ zs
    whole [] = refl
    whole (z ∷ zs) = ap (λ l. z ∷ l) (whole zs)

map-append : {X Y : Type 0} (f : X → Y) (xs ys : List X) → map f (xs ++ ys) ≡ map f xs ++ map f ys
map-append f [] ys = refl
map-append f (x ∷ xs) ys = ap (λ l. f x ∷ l) (map-append f xs ys)

-- LAW: with more names the firsts of those that were there are the same
pub firsts-front : (xs ys : List Text) (known : List ℕ) → known ≡ firsts_of xs → known ≡ take (length known) (firsts_of (xs ++ ys))
firsts-front xs ys known is =
    let g : Text → ℕ = λ name. first_from 0 name (xs ++ ys) in
    let same-firsts : map g xs ≡ firsts_of xs = each-alike xs g (λ name. first_from 0 name xs) (λ x found. first-front 0 x xs ys found) [] xs refl in
    let whole : map g xs ≡ known = same-firsts ∙ sym is in
    sym ((λ i. take (length known) (map-append g xs ys i)) ∙ (λ i. take (length known) (whole i ++ map g ys)) ∙ take-front known (map g ys) (length known) refl)

pub names-append : (us vs : List Automation) → names_of (us ++ vs) ≡ names_of us ++ names_of vs
names-append us vs = map-append {X = Automation} {Y = Text} (λ x. x.name) us vs
