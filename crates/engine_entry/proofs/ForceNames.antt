-- The automations in force, by their names and their numbers.
use Rattle.std.proofs.Common.{◌≡◌, ℕ, List, [], ◌∷◌, map, Bool, true, false, refl, sym, ap, ◌∙◌}
use Rattle.std.specs.Prelude.{Some, nat_eq, ◌||◌}
use Rattle.std.specs.List.{list_all}
use Rattle.std.specs.Option.{option_map_or}
use Rattle.ha_config.specs.declared.config.Automation.{Automation}
use Rattle.ha_config.specs.Names.{named_among, unit_of}
use Rattle.ha_config.specs.Numbered.{AreUnits, has_number}
use Rattle.ha_config.specs.Sound.{is_sound_automation}
use Rattle.ha_config.specs.ValueFacts.{all_distinct}
use Rattle.ha_config.specs.Words.{Text}
use Rattle.ha_config.proofs.EqualLemmas.{and_left, and_right}
use Rattle.ha_config.proofs.NumberedLemmas.{named-there, named-unit}
use Rattle.ha_journal.specs.Journal.{Journal, configured, in_force, units}
use Rattle.ha_journal.proofs.ForceLaws.{in-force-are, in-force-units}
use Rattle.cond_eval.proofs.NameLemmas.{EachIn, each-named}
use Rattle.engine_parts.specs.Kept.{AreSound}
use Rattle.engine_entry.proofs.NamedLemmas.{all-sound, sound-distinct}
use Rattle.engine_entry.proofs.PlaceLemmas.{eq-of}

abbrev Rules : Type 0
Rules = List (ℕ × Automation)

names-twice : (ps : Rules) → map {A = ℕ × Automation} {B = Text} (λ p. p.1.name) ps ≡ map {A = Automation} {B = Text} (λ a. a.name) (map {A = ℕ × Automation} {B = Automation} (λ p. p.1) ps)
names-twice [] = refl
names-twice (p ∷ ps) = (λ i. p.1.name ∷ names-twice ps i)

-- LAW: their names differ
pub names-differ : (j : Journal) → AreSound j → all_distinct (map {A = ℕ × Automation} {B = Text} (λ p. p.1.name) (in_force j)) ≡ true
names-differ j sound = ap all_distinct (names-twice (in_force j) ∙ (λ i. map {A = Automation} {B = Text} (λ a. a.name) (in-force-are j i))) ∙ sound-distinct (configured j) sound

found-own : (us : List Automation) (whole ps : Rules) (a : ℕ) (y : Automation) → AreUnits (λ (x : Automation). x) us ps → EachIn (λ k z. named_among whole z.name ≡ Some k) ps → has_number ps a ≡ true → unit_of us a ≡ Some y → named_among whole y.name ≡ Some a
found-own us whole [] a y h each there here = absurd (let bad : ◌≡◌ {A = Bool} false true = there in cc)
found-own us whole (p ∷ ps) a y h each there here = by (nat_eq p.0 a) refl there (found-own us whole ps a y h.1 each.1)
  where
    by : (b : Bool) → nat_eq p.0 a ≡ b → (b || has_number ps a) ≡ true → (has_number ps a ≡ true → unit_of us a ≡ Some y → named_among whole y.name ≡ Some a) → named_among whole y.name ≡ Some a
    by true is f rec =
        (let at : p.0 ≡ a = eq-of p.0 a is in
        let own : Some y ≡ Some p.1 = sym here ∙ ap (unit_of us) (sym at) ∙ h.0 in
        let same : y ≡ p.1 = cc in
        ap (λ (z : Automation). named_among whole z.name) same ∙ each.0 ∙ ap (λ n. Some n) at)
    by false is f rec = rec f here

-- LAW: one in force is the one of its name
pub own-name : (j : Journal) → AreSound j → (a : ℕ) (y : Automation) → has_number (in_force j) a ≡ true → unit_of (units j) a ≡ Some y → named_among (in_force j) y.name ≡ Some a
own-name j sound a y there here = found-own (units j) (in_force j) (in_force j) a y (in-force-units j) (each-named (in_force j) (names-differ j sound)) there here

-- LAW: the one of a name has it, and is in force
pub record IsFound (j : Journal) (name : Text) (a : ℕ) : Type 0 where
  pub automation : Automation
  pub known : has_number (in_force j) a ≡ true
  pub here : unit_of (units j) a ≡ Some automation
  pub name_is : automation.name ≡ name

unit-there : (us : List Automation) (ps : Rules) (a : ℕ) → AreUnits (λ (x : Automation). x) us ps → has_number ps a ≡ true → (y : Automation) × (unit_of us a ≡ Some y)
unit-there us [] a h there = absurd (let bad : ◌≡◌ {A = Bool} false true = there in cc)
unit-there us (p ∷ ps) a h there = by (nat_eq p.0 a) refl there (unit-there us ps a h.1)
  where
    by : (b : Bool) → nat_eq p.0 a ≡ b → (b || has_number ps a) ≡ true → (has_number ps a ≡ true → (y : Automation) × (unit_of us a ≡ Some y)) → (y : Automation) × (unit_of us a ≡ Some y)
    by true is f rec = (p.1, ap (unit_of us) (sym (eq-of p.0 a is)) ∙ h.0)
    by false is f rec = rec f

pub force-unit : (j : Journal) (a : ℕ) → has_number (in_force j) a ≡ true → (y : Automation) × (unit_of (units j) a ≡ Some y)
force-unit j a there = unit-there (units j) (in_force j) a (in-force-units j) there

pub found-name : (j : Journal) (name : Text) (a : ℕ) → named_among (in_force j) name ≡ Some a → IsFound j name a
found-name j name a e =
    let known = named-there (in_force j) name a e in
    let unit = force-unit j a known in
    record {
      automation = unit.0;
      known = known;
      here = unit.1;
      name_is = sym (λ i. option_map_or {T = Automation} {U = Text} (λ (x : Automation). x.name) (unit.1 i) []) ∙ named-unit (units j) (in_force j) name a (in-force-units j) e;
    }

each-sound : (us : List Automation) (ps : Rules) (a : ℕ) (y : Automation) → AreUnits (λ (x : Automation). x) us ps → list_all is_sound_automation (map {A = ℕ × Automation} {B = Automation} (λ p. p.1) ps) ≡ true
    → has_number ps a ≡ true → unit_of us a ≡ Some y → is_sound_automation y ≡ true
each-sound us [] a y h sound there here = absurd (let bad : ◌≡◌ {A = Bool} false true = there in cc)
each-sound us (p ∷ ps) a y h sound there here =
    by (nat_eq p.0 a) refl there (each-sound us ps a y h.1 (and_right (is_sound_automation p.1) (list_all is_sound_automation (map {A = ℕ × Automation} {B = Automation} (λ q. q.1) ps)) sound))
  where
    by : (b : Bool) → nat_eq p.0 a ≡ b → (b || has_number ps a) ≡ true → (has_number ps a ≡ true → unit_of us a ≡ Some y → is_sound_automation y ≡ true) → is_sound_automation y ≡ true
    by true is f rec =
        (let own : Some y ≡ Some p.1 = sym here ∙ ap (unit_of us) (sym (eq-of p.0 a is)) ∙ h.0 in
        let same : y ≡ p.1 = cc in
        ap is_sound_automation same ∙ and_left (is_sound_automation p.1) (list_all is_sound_automation (map {A = ℕ × Automation} {B = Automation} (λ q. q.1) ps)) sound)
    by false is f rec = rec f here

-- LAW: one in force is sound
pub force-sound : (j : Journal) → AreSound j → (a : ℕ) (y : Automation) → has_number (in_force j) a ≡ true → unit_of (units j) a ≡ Some y → is_sound_automation y ≡ true
force-sound j sound a y there here =
    each-sound (units j) (in_force j) a y (in-force-units j) ((λ i. list_all is_sound_automation (in-force-are j i)) ∙ all-sound (configured j) sound) there here
