-- What the parts see of a journal, whose configuration is sound.
use Rattle.std.proofs.Common.{◌≡◌, ℕ, zero, suc, ◌+◌, ◌≤◌, List, [], ◌∷◌, ◌++◌, drop, length, map, take, Bool, true, false, refl, sym, ap, subst, ◌∙◌, rules, arith, length-append}
use Rattle.std.specs.Prelude.{IsTrue, codes, nat_le, ◌&&◌, zip}
use Rattle.std.specs.List.{list_all}
use Rattle.std.proofs.lemmas.List.{length-map}
use Rattle.ha_config.specs.declared.config.Automation.{Automation}
use Rattle.ha_config.specs.declared.config.Config.{Config}
use Rattle.ha_config.specs.declared.config.Script.{Script}
use Rattle.ha_config.specs.ValueFacts.{all_distinct}
use Rattle.ha_config.specs.declared.helper.Helper.{Helper}
use Rattle.ha_config.specs.declared.helper.HelperKind.{HelperKind}
use Rattle.ha_config.specs.Words.{Text, same}
use Rattle.ha_config.proofs.EqualLemmas.{and_left, and_right, same-sound}
use Rattle.ha_value.specs.Ids.{entity_text, is_entity}
use Rattle.ha_journal.specs.Force.{IsAlike, force}
use Rattle.ha_journal.specs.Journal.{Journal, HasEntry, automations, configured, in_force, now, scripts_in}
use Rattle.ha_config.specs.Sound.{are_sound_automations, are_sound_helpers, are_sound_scripts, is_sound_automation, is_sound_config, is_sound_helper, is_sound_kind}
use Rattle.ha_journal.proofs.ForceLaws.{helpers-are, in-force-are, scripts-are}
use Rattle.state_table.specs.declared.table.StateTable.{StateTable}
use Rattle.state_laws.specs.Stands.{IsViewOf}
use Rattle.state_laws.proofs.SeenLemmas.{scripts_see}
use Rattle.ha_journal.specs.Moves.{sight}
use Rattle.helper_set.specs.declared.set.Helpers.{Helpers}
use Rattle.helper_set.specs.Kept as helpers
use Rattle.helper_set.proofs.SightLemmas.{seen-stands}
use Rattle.script_calls.specs.With.{sight_with}
use Rattle.cond_eval.specs.Seen.{rules_in}
use Rattle.script_calls.specs.Numbered.{scripts_seen, scripts_with}
use Rattle.engine_parts.specs.Kept.{AreSound, Looks}
use Rattle.engine_parts.specs.Numbers.{numbers_in, rule_numbers}
use Rattle.engine_parts.proofs.RuleLemmas.{Rules}

pub true-of : (b : Bool) → IsTrue b → b ≡ true
true-of b h = search (rules, h)

pub both : (a b : Bool) → (a && b) ≡ true → (a ≡ true) × (b ≡ true)
both true b h = (refl, h)
both false b h = absurd (let bad : ◌≡◌ {A = Bool} false true = h in cc)

-- the automations and the scripts of a sound configuration
pub sound-automations : (c : Config) → IsTrue (is_sound_config c) → are_sound_automations c.automations ≡ true
sound-automations c h = (both (are_sound_automations c.automations) (are_sound_scripts c.scripts && are_sound_helpers c.helpers) (true-of (is_sound_config c) h)).0

pub sound-scripts : (c : Config) → IsTrue (is_sound_config c) → are_sound_scripts c.scripts ≡ true
sound-scripts c h =
    (both (are_sound_scripts c.scripts) (are_sound_helpers c.helpers)
    (both (are_sound_automations c.automations) (are_sound_scripts c.scripts && are_sound_helpers c.helpers) (true-of (is_sound_config c) h)).1).0

-- what a sound configuration says of its automations
sound-parts : (j : Journal) → AreSound j
    → ((nat_le (length (automations j)) 1_024 && all_distinct (map (λ (a : Automation). a.name) (automations j))) ≡ true) × (list_all is_sound_automation (automations j) ≡ true)
sound-parts j h = both (nat_le (length (automations j)) 1_024 && all_distinct (map (λ (a : Automation). a.name) (automations j))) (list_all is_sound_automation (automations j)) (sound-automations (configured j) h)

-- ---- the numbers of those in force

-- with the numbers in front those that they were taken from
zip-front : {A : Type 0} (ps : List (ℕ × A)) (ns : List ℕ) → zip (map {A = ℕ × A} {B = ℕ} (λ p. p.0) ps ++ ns) (map {A = ℕ × A} {B = A} (λ p. p.1) ps) ≡ ps
zip-front [] [] = refl
zip-front [] (n ∷ ns) = refl
zip-front (p ∷ ps) ns = (λ i. p ∷ zip-front ps ns i)

pub zip-all : {A : Type 0} (ps : List (ℕ × A)) → zip (map {A = ℕ × A} {B = ℕ} (λ p. p.0) ps) (map {A = ℕ × A} {B = A} (λ p. p.1) ps) ≡ ps
zip-all [] = refl
zip-all (p ∷ ps) = (λ i. p ∷ zip-all ps i)

pub drop-front : (ps : Rules) (ns : List ℕ) → drop (length (map {A = ℕ × Automation} {B = Automation} (λ p. p.1) ps)) (map {A = ℕ × Automation} {B = ℕ} (λ p. p.0) ps ++ ns) ≡ ns
drop-front [] ns = refl
drop-front (p ∷ ps) ns = drop-front ps ns

pub take-front : (ps : Rules) (ns : List ℕ) → take (length (map {A = ℕ × Automation} {B = Automation} (λ p. p.1) ps)) (map {A = ℕ × Automation} {B = ℕ} (λ p. p.0) ps ++ ns) ≡ map {A = ℕ × Automation} {B = ℕ} (λ p. p.0) ps
take-front [] ns = refl
take-front (p ∷ ps) ns = (λ i. p.0 ∷ take-front ps ns i)

-- LAW: with its numbers the automations of the configuration are those in force
pub rules-are : (k : Journal) (numbers : List ℕ) (config : Config) → numbers ≡ numbers_in k → config.automations ≡ automations k → rules_in numbers config ≡ in_force k
rules-are k numbers config named is =
    (λ i. zip (named i) ((is ∙ sym (in-force-are k)) i)) ∙ zip-front (in_force k) (map {A = ℕ × Script} {B = ℕ} (λ p. p.0) (force k).scripts)

-- LAW: and so are the scripts
pub scripts-seen : (k : Journal) (numbers : List ℕ) (config : Config) → numbers ≡ numbers_in k → IsAlike config (configured k) → scripts_seen numbers config ≡ scripts_in k
scripts-seen k numbers config named is =
    let rules : config.automations ≡ map {A = ℕ × Automation} {B = Automation} (λ p. p.1) (in_force k) = ap (λ (c : Config). c.automations) is ∙ sym (in-force-are k) in
    let scripts : config.scripts ≡ map {A = ℕ × Script} {B = Script} (λ p. p.1) (force k).scripts = ap (λ (c : Config). c.scripts) is ∙ sym (scripts-are k) in
    (λ i. scripts_with (drop (length (rules i)) (named i)) (scripts i))
    ∙ (λ i. scripts_with (drop-front (in_force k) (map {A = ℕ × Script} {B = ℕ} (λ p. p.0) (force k).scripts) i) (map {A = ℕ × Script} {B = Script} (λ p. p.1) (force k).scripts))
    ∙ (λ i. map {A = ℕ × Script} {B = Text × ℕ} (λ p. (p.1.name, p.0)) (zip-all (force k).scripts i))

-- LAW: the first numbers are those of the automations
pub rules-first : (k : Journal) (numbers : List ℕ) → numbers ≡ numbers_in k → take (length (automations k)) numbers ≡ rule_numbers k
rules-first k numbers named =
    (λ i. take (length (sym (in-force-are k) i)) (named i)) ∙ take-front (in_force k) (map {A = ℕ × Script} {B = ℕ} (λ p. p.0) (force k).scripts)

-- LAW: each unit has its number
pub units-numbered : (k : Journal) (numbers : List ℕ) (config : Config) → numbers ≡ numbers_in k → IsAlike config (configured k) → length config.automations + length config.scripts ≤ length numbers
units-numbered k numbers config named is =
    let all : length numbers ≡ length (numbers_in k) = ap length named in
    let sum = length-append (rule_numbers k) (map {A = ℕ × Script} {B = ℕ} (λ p. p.0) (force k).scripts) in
    let rules : length (rule_numbers k) ≡ length (in_force k) = length-map (in_force k) (λ p. p.0) in
    let scripts : length (map {A = ℕ × Script} {B = ℕ} (λ p. p.0) (force k).scripts) ≡ length (force k).scripts = length-map (force k).scripts (λ p. p.0) in
    let first : length config.automations ≡ length (in_force k)
    = ap (λ (c : Config). length c.automations) is ∙ ap length (sym (in-force-are k)) ∙ length-map (in_force k) (λ p. p.1) in
    let second : length config.scripts ≡ length (force k).scripts
    = ap (λ (c : Config). length c.scripts) is ∙ ap length (sym (scripts-are k)) ∙ length-map (force k).scripts (λ p. p.1) in
    omega (arith, all, sum, rules, scripts, first, second)

-- LAW: so have the automations alone
pub rules-numbered : (k : Journal) (numbers : List ℕ) → numbers ≡ numbers_in k → length (automations k) ≤ length numbers
rules-numbered k numbers named = (let all = units-numbered k numbers (configured k) named refl in omega (arith, all))

-- ---- the view

-- the names of those in force are those of the configuration
names-in : (k : Journal) → map {A = ℕ × Automation} {B = Text} (λ p. p.1.name) (in_force k) ≡ map {A = Automation} {B = Text} (λ a. a.name) (automations k)
names-in k = twice (in_force k) ∙ (λ i. map {A = Automation} {B = Text} (λ a. a.name) (in-force-are k i))
  where
    twice : (ps : Rules) → map {A = ℕ × Automation} {B = Text} (λ p. p.1.name) ps ≡ map {A = Automation} {B = Text} (λ a. a.name) (map {A = ℕ × Automation} {B = Automation} (λ p. p.1) ps)
    twice [] = refl
    twice (p ∷ ps) = (λ i. p.1.name ∷ twice ps i)

pub view-of : (k : Journal) (table : StateTable) (numbers : List ℕ) (config : Config) (zone : Text) (at : ℕ) → Looks k table numbers zone at → AreSound k → config.automations ≡ automations k → IsViewOf table numbers config zone at k
view-of k table numbers config zone at looks sound is = record {
  states_are = looks.states_stand;
  rules_are = rules-are k numbers config looks.numbers_are is;
  names_differ = ap all_distinct (names-in k) ∙ (both (nat_le (length (automations k)) 1_024) (all_distinct (map (λ (a : Automation). a.name) (automations k))) (sound-parts k sound).0).1;
  zone_is = looks.zone_is;
  now_is = looks.now_is;
}

-- ---- helpers

outside-kind : (domain : Text) (kind : HelperKind) → is_sound_kind domain kind ≡ true → same domain (codes "automation") ≡ false
outside-kind domain (HelperKind.Flag initial) h = ap (λ d. same d (codes "automation")) (same-sound domain (codes "input_boolean") h)
outside-kind domain (HelperKind.Counter initial step least greatest) h =
    ap (λ d. same d (codes "automation"))
    (same-sound domain (codes "counter") (and_left _ _ (and_left _ _ (and_left _ _ (and_left _ _ (and_left _ _ (and_left _ _ (and_left _ _ h))))))))
outside-kind domain (HelperKind.Timer span) h = ap (λ d. same d (codes "automation")) (same-sound domain (codes "timer") h)

outside-all : (hs : List Helper) → list_all is_sound_helper hs ≡ true → helpers.AreOutside hs
outside-all [] h n = tt
outside-all (a ∷ hs) h zero = outside-kind a.entity.domain a.kind (and_right (is_entity a.entity) (is_sound_kind a.entity.domain a.kind) (and_left (is_sound_helper a) (list_all is_sound_helper hs) h))
outside-all (a ∷ hs) h (suc n) = outside-all hs (and_right (is_sound_helper a) (list_all is_sound_helper hs) h) n

-- LAW: no helper of a sound configuration has the domain of automations
pub sound-outside : (c : Config) → IsTrue (is_sound_config c) → helpers.AreOutside c.helpers
sound-outside c h =
    let behind = and_right (are_sound_automations c.automations) (are_sound_scripts c.scripts && are_sound_helpers c.helpers) (true-of (is_sound_config c) h) in
    let all = and_right (are_sound_scripts c.scripts) (are_sound_helpers c.helpers) behind in
    outside-all c.helpers (and_right (nat_le (length c.helpers) 1_024 && all_distinct (map (λ (a : Helper). entity_text a.entity) c.helpers)) (list_all is_sound_helper c.helpers) all)

module _ (k : Journal) (table : StateTable) (numbers : List ℕ) (config : Config) (zone : Text) (at : ℕ) (hs : Helpers) (looks : Looks k table numbers zone at) (sound : AreSound k) (some : HasEntry k) (stands : helpers.StandsFor hs k)
    (is : IsAlike config (configured k)) where
  kept-seen : helpers.AreSeen (helpers.kept_in hs) (sight k (length k)) (now k)
  kept-seen = seen-stands k some (helpers.kept_in hs) hs.timers stands (subst helpers.AreOutside (helpers-are k) (sound-outside (configured k) sound))

  -- LAW: with the scripts in force and the helpers, what the parts see is what the next entry sees
  pub place-seen : sight_with table numbers config zone at hs ≡ sight k (length k)
  place-seen =
      scripts_see table numbers config zone at k (scripts_seen numbers config) (helpers.known_of hs) (view-of k table numbers config zone at looks sound (ap (λ (c : Config). c.automations) is)) (scripts-seen k numbers config looks.numbers_are is) (sym kept-seen.helpers)

  -- LAW: and of the helpers it sees what is kept of them
  pub helpers-shown : helpers.AreSeen (helpers.kept_in hs) (sight_with table numbers config zone at hs) at
  helpers-shown =
      subst (λ n. helpers.AreSeen (helpers.kept_in hs) (sight_with table numbers config zone at hs) n) (sym looks.now_is)
      (subst (λ s. helpers.AreSeen (helpers.kept_in hs) s (now k)) (sym place-seen) kept-seen)
