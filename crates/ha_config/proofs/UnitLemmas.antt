-- The units of a sound configuration have distinct names: an object id has no point, and the name of a script's runs has one.
use Rattle.std.proofs.Common.{◌≡◌, ◌≤◌, ◌<◌, ◌-◌, ◌∙◌, ap, refl, sym, ℕ, zero, suc, Bool, true, false, List, [], ◌∷◌, ◌++◌, ◌||◌, length, drop, arith, length-append, true≢false}
use Rattle.std.specs.Prelude.{codes, map, not, nat_le, Some, None, option_map, slice_get, ◌&&◌}
use Rattle.std.specs.Option.{option_map_or}
use Rattle.std.specs.List.{list_any, list_all}
use Rattle.std.proofs.lemmas.Bool.Decides.{nat_tests}
use Rattle.std.proofs.lemmas.List.{length-map}
use Rattle.std.proofs.lemmas.Option.{slice_get-map}
use Rattle.ha_value.specs.Ids.{is_name}
use Rattle.ha_config.specs.declared.config.Automation.{Automation}
use Rattle.ha_config.specs.declared.config.Config.{Config}
use Rattle.ha_config.specs.declared.config.Script.{Script}
use Rattle.ha_config.specs.Names.{name_of}
use Rattle.ha_config.specs.Sound.{are_sound_automations, are_sound_helpers, are_sound_scripts, is_sound_automation, is_sound_config}
use Rattle.ha_config.specs.Units.{as_unit, units_of}
use Rattle.ha_config.specs.ValueFacts.{all_distinct}
use Rattle.ha_config.specs.Words.{Text, same}
use Rattle.ha_config.proofs.EqualLemmas.{and_left, and_right, same-refl, same-sound}
use Rattle.ha_config.proofs.ListLemmas.{none-some}

abbrev names : List Automation → List Text
names all = map {A = Automation} {B = Text} (λ a. a.name) all

abbrev script_names : List Script → List Text
script_names all = map {A = Script} {B = Text} (λ s. s.name) all

-- the name of a script's runs
abbrev run : Text → Text
run name = codes "script." ++ name

either : (a b : Bool) → (a || b) ≡ false → (a ≡ false) × (b ≡ false)
either true b h = absurd (true≢false h)
either false b h = (refl, h)

parts : (a b : Bool) → (not a && b) ≡ true → (a ≡ false) × (b ≡ true)
parts true b h = absurd (true≢false (sym h))
parts false b h = (refl, h)

-- no object id is such a name
not-run : (name other : Text) → is_name name ≡ true → same name (run other) ≡ false
not-run name other h = by (same name (run other)) refl
  where
    by : (b : Bool) → same name (run other) ≡ b → same name (run other) ≡ false
    by true e = absurd (true≢false (sym h ∙ (λ i. is_name (same-sound name (run other) e i))))
    by false e = e

-- scripts of other names have runs of other names
runs-apart : (name other : Text) → same name other ≡ false → same (run name) (run other) ≡ false
runs-apart name other h = by (same (run name) (run other)) refl
  where
    by : (b : Bool) → same (run name) (run other) ≡ b → same (run name) (run other) ≡ false
    by true e =
        let alike : name ≡ other = ap (λ (t : Text). drop 7 t) (same-sound (run name) (run other) e) in
        absurd (true≢false (sym (same-refl name) ∙ (λ i. same name (alike i)) ∙ h))
    by false e = e

none-runs : (name : Text) (ss : List Script) → is_name name ≡ true → list_any (same name) (names (map as_unit ss)) ≡ false
none-runs name [] h = refl
none-runs name (s ∷ ss) h = (λ i. not-run name s.name h i || none-runs name ss h i)

none-other : (name : Text) (ss : List Script) → list_any (same name) (script_names ss) ≡ false → list_any (same (run name)) (names (map as_unit ss)) ≡ false
none-other name [] h = refl
none-other name (s ∷ ss) h =
    let two = either (same name s.name) (list_any (same name) (script_names ss)) h in
    λ i. runs-apart name s.name two.0 i || none-other name ss two.1 i

scripts-apart : (ss : List Script) → all_distinct (script_names ss) ≡ true → all_distinct (names (map as_unit ss)) ≡ true
scripts-apart [] h = refl
scripts-apart (s ∷ ss) h =
    let two = parts (list_any (same s.name) (script_names ss)) (all_distinct (script_names ss)) h in
    λ i. not (none-other s.name ss two.0 i) && scripts-apart ss two.1 i

none-behind : (name : Text) (all : List Automation) (ss : List Script) → is_name name ≡ true → list_any (same name) (names all) ≡ false
    → list_any (same name) (names (all ++ map as_unit ss)) ≡ false
none-behind name [] ss named h = none-runs name ss named
none-behind name (a ∷ all) ss named h =
    let two = either (same name a.name) (list_any (same name) (names all)) h in
    λ i. two.0 i || none-behind name all ss named two.1 i

named : (a : Automation) → is_sound_automation a ≡ true → is_name a.name ≡ true
named a h = and_left _ _ (and_left _ _ (and_left _ _ (and_left _ _ (and_left _ _ h))))

all-apart : (all : List Automation) (ss : List Script) → all_distinct (names all) ≡ true → list_all is_sound_automation all ≡ true
    → all_distinct (script_names ss) ≡ true → all_distinct (names (all ++ map as_unit ss)) ≡ true
all-apart [] ss d sound e = scripts-apart ss e
all-apart (a ∷ all) ss d sound e =
    let two = parts (list_any (same a.name) (names all)) (all_distinct (names all)) d in
    let here = and_left (is_sound_automation a) (list_all is_sound_automation all) sound in
    let rest = and_right (is_sound_automation a) (list_all is_sound_automation all) sound in
    λ i. not (none-behind a.name all ss (named a here) two.0 i) && all-apart all ss two.1 rest e i

-- LAW: the names of the units differ
pub units-apart : (c : Config) → is_sound_config c ≡ true → all_distinct (names (units_of c)) ≡ true
units-apart c h =
    let rules = and_left (are_sound_automations c.automations) (are_sound_scripts c.scripts && are_sound_helpers c.helpers) h in
    let behind = and_right (are_sound_automations c.automations) (are_sound_scripts c.scripts && are_sound_helpers c.helpers) h in
    let scripts = and_left (are_sound_scripts c.scripts) (are_sound_helpers c.helpers) behind in
    all-apart c.automations c.scripts (and_right _ _ (and_left _ _ rules)) (and_right _ _ rules) (and_right _ _ (and_left _ _ scripts))

few : (n : ℕ) → nat_le n 1_024 ≡ true → n ≤ 1_024
few n h = grind (arith, nat_tests)

-- LAW: there are at most 2,048
pub units-few : (c : Config) → is_sound_config c ≡ true → length (units_of c) ≤ 2_048
units-few c h =
    let rules = and_left (are_sound_automations c.automations) (are_sound_scripts c.scripts && are_sound_helpers c.helpers) h in
    let behind = and_right (are_sound_automations c.automations) (are_sound_scripts c.scripts && are_sound_helpers c.helpers) h in
    let scripts = and_left (are_sound_scripts c.scripts) (are_sound_helpers c.helpers) behind in
    let one = few (length c.automations) (and_left _ _ (and_left _ _ rules)) in
    let two = few (length c.scripts) (and_left _ _ (and_left _ _ scripts)) in
    let both = length-append c.automations (map as_unit c.scripts) in
    let made = length-map c.scripts as_unit in
    omega (arith, one, two, both, made)

none-at : (all : List Automation) (n : ℕ) → length all ≤ n → slice_get all n ≡ None
none-at [] n le = refl
none-at (x ∷ all) zero le = absurd (omega (arith, le))
none-at (x ∷ all) (suc n) le = none-at all n (omega (arith, le))

-- LAW: a number behind all units names none
pub past-units : (c : Config) (unit : ℕ) → length c.automations ≤ unit → length c.scripts ≤ unit - length c.automations → name_of (units_of c) unit ≡ []
past-units c unit low high =
    let both = length-append c.automations (map as_unit c.scripts) in
    let made = length-map c.scripts as_unit in
    λ i. option_map_or (λ (x : Automation). x.name) (none-at (units_of c) unit (omega (arith, low, high, both, made)) i) []

-- LAW: one among the scripts names a unit
pub script-unit : (c : Config) (unit : ℕ) → length c.automations ≤ unit → unit - length c.automations < length c.scripts → unit < length (units_of c)
script-unit c unit low within =
    let both = length-append c.automations (map as_unit c.scripts) in
    let made = length-map c.scripts as_unit in
    omega (arith, low, within, both, made)

there-first : (all more : List Automation) (n : ℕ) (x : Automation) → slice_get all n ≡ Some x → slice_get (all ++ more) n ≡ Some x
there-first [] more n x e = absurd (none-some x e)
there-first (a ∷ all) more zero x e = e
there-first (a ∷ all) more (suc n) x e = there-first all more n x e

there-behind : (all : List Automation) (ss : List Script) (n : ℕ) → length all ≤ n
    → slice_get (all ++ map {A = Script} {B = Automation} as_unit ss) n ≡ option_map {T = Script} {U = Automation} as_unit (slice_get ss (n - length all))
there-behind [] ss n le =
    let all_of : n ≡ n - 0 = omega arith in
    slice_get-map as_unit ss n ∙ ap (λ (m : ℕ). option_map {T = Script} {U = Automation} as_unit (slice_get ss m)) all_of
there-behind (a ∷ all) ss zero le = absurd (omega (arith, le))
there-behind (a ∷ all) ss (suc n) le =
    let one_less : n - length all ≡ suc n - suc (length all) = omega arith in
    there-behind all ss n (omega (arith, le)) ∙ ap (λ (m : ℕ). option_map {T = Script} {U = Automation} as_unit (slice_get ss m)) one_less

-- LAW: an automation is the unit of its number
pub unit-there : (c : Config) (n : ℕ) (x : Automation) → slice_get c.automations n ≡ Some x → slice_get (units_of c) n ≡ Some x
unit-there c n x found = there-first c.automations (map {A = Script} {B = Automation} as_unit c.scripts) n x found

-- LAW: behind all automations stand the scripts
pub unit-behind : (c : Config) (n : ℕ) → length c.automations ≤ n
    → slice_get (units_of c) n ≡ option_map {T = Script} {U = Automation} as_unit (slice_get c.scripts (n - length c.automations))
unit-behind c n past = there-behind c.automations c.scripts n past
