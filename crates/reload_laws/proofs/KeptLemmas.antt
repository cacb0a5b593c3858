-- Which units of those in force a Reload keeps: those of which the new configuration has an equal one.
use Rattle.std.proofs.Common.{◌≡◌, ℕ, ◌<◌, ◌⊎◌, inl, inr, Bool, true, false, List, [], ◌∷◌, length, map, refl, sym, ap, ◌∙◌, rules, Option}
use Rattle.std.specs.Prelude.{Some, None, not, nat_eq, nat_le, find, option_map, ◌&&◌, ◌||◌, if◌then◌else◌}
use Rattle.std.specs.List.{list_all, list_any}
use Rattle.std.specs.Option.{option_map_or}
use Rattle.ha_config.specs.declared.config.Automation.{Automation}
use Rattle.ha_config.specs.declared.config.Config.{Config}
use Rattle.ha_config.specs.declared.config.Script.{Script}
use Rattle.ha_config.specs.Equality.{same_automation, same_script}
use Rattle.ha_config.specs.Numbered.{has_number, keeps_number, kept_number}
use Rattle.ha_config.specs.Sound.{IsSoundConfig, is_sound_automation, is_sound_script}
use Rattle.ha_config.specs.ValueFacts.{all_distinct}
use Rattle.ha_config.specs.Words.{Text, same}
use Rattle.ha_config.proofs.EqualityLemmas.{rule-sound, script-sound}
use Rattle.ha_config.proofs.EqualLemmas.{and_left, and_right, same-refl}
use Rattle.ha_config.proofs.ListLemmas.{none-some, some-same, true-false}
use Rattle.ha_journal.specs.declared.entry.Entry.{Entry}
use Rattle.ha_journal.specs.Entries.{reload_in}
use Rattle.ha_journal.specs.Force.{Force, force, has_unit}
use Rattle.ha_journal.specs.Journal.{HasEntry, Journal, configured, in_force, more, units}
use Rattle.ha_journal.proofs.AlikeLaws.{sound-rules, sound-scripts}
use Rattle.ha_journal.proofs.ForceLaws.{force-reloaded, in-force-are, in-force-below, kept-in-force, scripts-are}
use Rattle.reload_laws.specs.Kept.{is_kept, stands_again}

-- ---- truth values and members

or-true : (b : Bool) → (b || true) ≡ true
or-true true = refl
or-true false = refl

or-either : (a b : Bool) → (a || b) ≡ true → (a ≡ true) ⊎ (b ≡ true)
or-either true b h = inl refl
or-either false b h = inr h

pub or-left : (a b : Bool) → a ≡ true → (a || b) ≡ true
or-left a b h = (λ i. h i || b)

pub or-right : (a b : Bool) → b ≡ true → (a || b) ≡ true
or-right a b h = (λ i. a || h i) ∙ or-true a

and-both : (a b : Bool) → a ≡ true → b ≡ true → (a && b) ≡ true
and-both a b h g = (λ i. h i && g i)

not-true : (b : Bool) → not b ≡ true → b ≡ true → ⊥
not-true true h g = true-false (sym h)
not-true false h g = true-false (sym g)

pub same-truth : (a b : Bool) → (a ≡ true → b ≡ true) → (b ≡ true → a ≡ true) → a ≡ b
same-truth true true f g = refl
same-truth true false f g = sym (f refl)
same-truth false true f g = g refl
same-truth false false f g = refl

equal-numbers : (n : ℕ) → nat_eq n n ≡ true
equal-numbers n = search rules

module _ {X : Type 0} where
  -- x is one of these
  abbrev pub IsAmong : X → List X → Type 0
  IsAmong x [] = ⊥
  IsAmong x (y ∷ ys) = (y ≡ x) ⊎ IsAmong x ys

  any-among : (test : X → Bool) (x : X) (xs : List X) → IsAmong x xs → test x ≡ true → list_any test xs ≡ true
  any-among test x [] h t = absurd h
  any-among test x (y ∷ ys) (inl e) t = or-left (test y) (list_any test ys) (ap test e ∙ t)
  any-among test x (y ∷ ys) (inr h) t = or-right (test y) (list_any test ys) (any-among test x ys h t)

  among-any : (test : X → Bool) (xs : List X) → list_any test xs ≡ true → (x : X) × IsAmong x xs × (test x ≡ true)
  among-any test [] h = absurd (true-false (sym h))
  among-any test (y ∷ ys) h = by (or-either (test y) (list_any test ys) h) (among-any test ys)
    where
      by : (test y ≡ true) ⊎ (list_any test ys ≡ true) → (list_any test ys ≡ true → (x : X) × IsAmong x ys × (test x ≡ true)) → (x : X) × IsAmong x (y ∷ ys) × (test x ≡ true)
      by (inl t) later = (y, inl refl, t)
      by (inr t) later = (let one = later t in (one.0, inr one.1, one.2))

-- ---- numbers that are kept

module _ {A : Type 0} (equal : A → A → Bool) (name : A → Text) (sound : (x y : A) → equal x y ≡ true → x ≡ y) where
  abbrev pub names_in : List (ℕ × A) → List Text
  names_in ps = map {A = ℕ × A} {B = Text} (λ p. name p.1) ps

  pub names-of : (ps : List (ℕ × A)) (xs : List A) → map {A = ℕ × A} {B = A} (λ p. p.1) ps ≡ xs → names_in ps ≡ map {A = A} {B = Text} name xs
  names-of ps xs e = split ps ∙ ap (map {A = A} {B = Text} name) e
    where
      split : (ps : List (ℕ × A)) → names_in ps ≡ map {A = A} {B = Text} name (map {A = ℕ × A} {B = A} (λ p. p.1) ps)
      split [] = refl
      split (p ∷ ps) = ap (λ l. name p.1 ∷ l) (split ps)

  among-names : (p : ℕ × A) (ps : List (ℕ × A)) → IsAmong p ps → list_any (same (name p.1)) (names_in ps) ≡ true
  among-names p [] h = absurd h
  among-names p (q ∷ qs) (inl e) = or-left (same (name p.1) (name q.1)) (list_any (same (name p.1)) (names_in qs)) ((λ i. same (name p.1) (name (e i).1)) ∙ same-refl (name p.1))
  among-names p (q ∷ qs) (inr h) = or-right (same (name p.1) (name q.1)) (list_any (same (name p.1)) (names_in qs)) (among-names p qs h)

  first-found : (q : ℕ × A) (old : List (ℕ × A)) (y : A) (b : Bool) → equal q.1 y ≡ b → kept_number equal (q ∷ old) y ≡ option_map {T = ℕ × A} (λ r. r.0) (if b then Some q else find (λ r. equal r.1 y) old)
  first-found q old y b s = (λ i. option_map {T = ℕ × A} (λ r. r.0) (if s i then Some q else find (λ r. equal r.1 y) old))

  -- where names are distinct, what is equal to one of these keeps its number
  pub own-kept : (p : ℕ × A) (old : List (ℕ × A)) (y : A) → all_distinct (names_in old) ≡ true → IsAmong p old → equal p.1 y ≡ true → kept_number equal old y ≡ Some p.0
  own-kept p [] y apart h s = absurd h
  own-kept p (q ∷ old) y apart (inl e) s = first-found q old y true ((λ i. equal (e i).1 y) ∙ s) ∙ ap (λ r. Some r.0) e
  own-kept p (q ∷ old) y apart (inr h) s = by (equal q.1 y) refl (own-kept p old y (and_right (not (list_any (same (name q.1)) (names_in old))) (all_distinct (names_in old)) apart) h s)
    where
      by : (b : Bool) → equal q.1 y ≡ b → kept_number equal old y ≡ Some p.0 → kept_number equal (q ∷ old) y ≡ Some p.0
      by true t later =
          let one : q.1 ≡ p.1 = sound q.1 y t ∙ sym (sound p.1 y s) in
          let there : list_any (same (name q.1)) (names_in old) ≡ true = (λ i. list_any (same (name (one i))) (names_in old)) ∙ among-names p old h in
          absurd (not-true (list_any (same (name q.1)) (names_in old)) (and_left (not (list_any (same (name q.1)) (names_in old))) (all_distinct (names_in old)) apart) there)
      by false t later = first-found q old y false t ∙ later

  -- a number that is kept is that of an equal one
  kept-own : (old : List (ℕ × A)) (y : A) (n : ℕ) → kept_number equal old y ≡ Some n → (p : ℕ × A) × IsAmong p old × (p.0 ≡ n) × (equal p.1 y ≡ true)
  kept-own [] y n e = absurd (none-some n e)
  kept-own (q ∷ old) y n e = by (equal q.1 y) refl (kept-own old y n)
    where
      by : (b : Bool) → equal q.1 y ≡ b → (kept_number equal old y ≡ Some n → (p : ℕ × A) × IsAmong p old × (p.0 ≡ n) × (equal p.1 y ≡ true))
          → (p : ℕ × A) × IsAmong p (q ∷ old) × (p.0 ≡ n) × (equal p.1 y ≡ true)
      by true t later = (q, inl refl, some-same q.0 n (sym (first-found q old y true t) ∙ e), t)
      by false t later = (let one = later (sym (first-found q old y false t) ∙ e) in (one.0, inr one.1, one.2, one.3))

  pub keeps-stands : (old : List (ℕ × A)) (ys : List A) (a : ℕ) → keeps_number equal old ys a ≡ true → stands_again equal old ys a ≡ true
  keeps-stands old ys a h = (let one = among-any (λ y. option_map_or (λ m. nat_eq m a) (kept_number equal old y) false) ys h in by one.0 one.1 (kept_number equal old one.0) refl one.2)
    where
      by : (y : A) → IsAmong y ys → (o : Option ℕ) → kept_number equal old y ≡ o → option_map_or (λ m. nat_eq m a) o false ≡ true → stands_again equal old ys a ≡ true
      by y among None e t = absurd (true-false (sym t))
      by y among (Some n) e t =
          let own = kept-own old y n e in
          any-among (λ p. nat_eq p.0 a && list_any (equal p.1) ys) own.0 old own.1
          (and-both (nat_eq own.0.0 a) (list_any (equal own.0.1) ys) (ap (λ m. nat_eq m a) own.2 ∙ t) (any-among (equal own.0.1) y ys among own.3))

  pub stands-keeps : (old : List (ℕ × A)) (ys : List A) (a : ℕ) → all_distinct (names_in old) ≡ true → stands_again equal old ys a ≡ true → keeps_number equal old ys a ≡ true
  stands-keeps old ys a apart h =
      let one = among-any (λ p. nat_eq p.0 a && list_any (equal p.1) ys) old h in
      let own : nat_eq one.0.0 a ≡ true = and_left (nat_eq one.0.0 a) (list_any (equal one.0.1) ys) one.2 in
      let two = among-any (equal one.0.1) ys (and_right (nat_eq one.0.0 a) (list_any (equal one.0.1) ys) one.2) in
      any-among (λ y. option_map_or (λ m. nat_eq m a) (kept_number equal old y) false) two.0 ys two.1
      (ap (λ o. option_map_or (λ m. nat_eq m a) o false) (own-kept one.0 old two.0 apart one.1 two.2) ∙ own)

  -- what stands again is there
  pub stands-there : (old : List (ℕ × A)) (ys : List A) (a : ℕ) → stands_again equal old ys a ≡ true → has_number old a ≡ true
  stands-there old ys a h =
      let one = among-any (λ p. nat_eq p.0 a && list_any (equal p.1) ys) old h in
      any-among (λ p. nat_eq p.0 a) one.0 old one.1 (and_left (nat_eq one.0.0 a) (list_any (equal one.0.1) ys) one.2)

-- ---- of what is in force

pub apart-rules : (f : Force) → map {A = ℕ × Automation} {B = Automation} (λ p. p.1) f.rules ≡ f.config.automations → IsSoundConfig f.config
    → all_distinct (names_in same_automation (λ (x : Automation). x.name) rule-sound f.rules) ≡ true
apart-rules f are sound =
    ap all_distinct (names-of same_automation (λ (x : Automation). x.name) rule-sound f.rules f.config.automations are)
    ∙ and_right (nat_le (length f.config.automations) 1_024) (all_distinct (map {A = Automation} {B = Text} (λ x. x.name) f.config.automations))
    (and_left (nat_le (length f.config.automations) 1_024 && all_distinct (map {A = Automation} {B = Text} (λ x. x.name) f.config.automations)) (list_all is_sound_automation f.config.automations) (sound-rules f.config sound))

pub apart-scripts : (f : Force) → map {A = ℕ × Script} {B = Script} (λ p. p.1) f.scripts ≡ f.config.scripts → IsSoundConfig f.config
    → all_distinct (names_in same_script (λ (x : Script). x.name) script-sound f.scripts) ≡ true
apart-scripts f are sound =
    ap all_distinct (names-of same_script (λ (x : Script). x.name) script-sound f.scripts f.config.scripts are)
    ∙ and_right (nat_le (length f.config.scripts) 1_024) (all_distinct (map {A = Script} {B = Text} (λ x. x.name) f.config.scripts))
    (and_left (nat_le (length f.config.scripts) 1_024 && all_distinct (map {A = Script} {B = Text} (λ x. x.name) f.config.scripts)) (list_all is_sound_script f.config.scripts) (sound-scripts f.config sound))

-- what is kept was in force
pub kept-was : (f : Force) (c : Config) (a : ℕ) → is_kept f c a ≡ true → has_unit f a ≡ true
kept-was f c a h = by (or-either (stands_again same_automation f.rules c.automations a) (stands_again same_script f.scripts c.scripts a) h)
  where
    by : (stands_again same_automation f.rules c.automations a ≡ true) ⊎ (stands_again same_script f.scripts c.scripts a ≡ true) → has_unit f a ≡ true
    by (inl s) = or-left (has_number f.rules a) (has_number f.scripts a) (stands-there same_automation (λ (x : Automation). x.name) rule-sound f.rules c.automations a s)
    by (inr s) = or-right (has_number f.rules a) (has_number f.scripts a) (stands-there same_script (λ (x : Script). x.name) script-sound f.scripts c.scripts a s)

module _ (j : Journal) (x : Entry) (c : Config) (some : HasEntry j) (reloads : reload_in x ≡ Some c) where
  now-has : (a : ℕ) → a < length (units j) → has_unit (force (more j x)) a ≡ (keeps_number same_automation (in_force j) c.automations a || keeps_number same_script (force j).scripts c.scripts a)
  now-has a lt = (λ i. has_unit (force-reloaded j x c some reloads i) a) ∙ kept-in-force (force j) c a lt

  -- LAW: of the units that there were those are in force behind a Reload that are kept
  pub has-kept : (a : ℕ) → a < length (units j) → has_unit (force (more j x)) a ≡ true → is_kept (force j) c a ≡ true
  has-kept a lt h = by (or-either (keeps_number same_automation (in_force j) c.automations a) (keeps_number same_script (force j).scripts c.scripts a) (sym (now-has a lt) ∙ h))
    where
      by : (keeps_number same_automation (in_force j) c.automations a ≡ true) ⊎ (keeps_number same_script (force j).scripts c.scripts a ≡ true) → is_kept (force j) c a ≡ true
      by (inl s) =
          or-left (stands_again same_automation (in_force j) c.automations a) (stands_again same_script (force j).scripts c.scripts a)
          (keeps-stands same_automation (λ (y : Automation). y.name) rule-sound (in_force j) c.automations a s)
      by (inr s) =
          or-right (stands_again same_automation (in_force j) c.automations a) (stands_again same_script (force j).scripts c.scripts a)
          (keeps-stands same_script (λ (y : Script). y.name) script-sound (force j).scripts c.scripts a s)

  -- LAW: all that are kept are so, where the configuration in force is sound
  pub kept-has : (a : ℕ) → IsSoundConfig (configured j) → is_kept (force j) c a ≡ true → has_unit (force (more j x)) a ≡ true
  kept-has a sound h =
      now-has a (in-force-below j a (kept-was (force j) c a h))
      ∙ by (or-either (stands_again same_automation (in_force j) c.automations a) (stands_again same_script (force j).scripts c.scripts a) h)
    where
      by : (stands_again same_automation (in_force j) c.automations a ≡ true) ⊎ (stands_again same_script (force j).scripts c.scripts a ≡ true)
          → (keeps_number same_automation (in_force j) c.automations a || keeps_number same_script (force j).scripts c.scripts a) ≡ true
      by (inl s) =
          or-left (keeps_number same_automation (in_force j) c.automations a) (keeps_number same_script (force j).scripts c.scripts a)
          (stands-keeps same_automation (λ (y : Automation). y.name) rule-sound (in_force j) c.automations a (apart-rules (force j) (in-force-are j) sound) s)
      by (inr s) =
          or-right (keeps_number same_automation (in_force j) c.automations a) (keeps_number same_script (force j).scripts c.scripts a)
          (stands-keeps same_script (λ (y : Script). y.name) script-sound (force j).scripts c.scripts a (apart-scripts (force j) (scripts-are j) sound) s)

  pub kept-here : (a : ℕ) → IsSoundConfig (configured j) → a < length (units j) → has_unit (force (more j x)) a ≡ is_kept (force j) c a
  kept-here a sound lt = same-truth (has_unit (force (more j x)) a) (is_kept (force j) c a) (has-kept a lt) (kept-has a sound)
