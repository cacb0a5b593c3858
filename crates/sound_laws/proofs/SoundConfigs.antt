-- The configuration that is read of a sound tree is sound.
use Rattle.std.proofs.Common.{◌≡◌, sym, subst, refl, ℕ, ◌+◌, ◌≤◌, ◌<◌, ◌^◌, Bool, true, false, cond, List, [], ◌∷◌, length, map, Option, Some, None, Ok, Err, arith, length-append, inl, inr}
use Rattle.std.specs.Prelude.{◌&&◌, if◌then◌else◌, nat_le, unwrap_or, option_map, slice_get}
use Rattle.std.specs.List.{list_all}
use Rattle.std.proofs.lemmas.Bool.{and_parts, le-leb}
use Rattle.std.proofs.lemmas.Option.{slice_get_cases}
use Rattle.ha_value.specs.Ids.{is_name}
use Rattle.ha_config.specs.declared.config.Action.{Action}
use Rattle.ha_config.specs.declared.config.ActionKind.TheVariants as does
use Rattle.ha_config.specs.declared.config.Automation.{Automation}
use Rattle.ha_config.specs.declared.config.Condition.{Condition}
use Rattle.ha_config.specs.declared.config.Config.{Config}
use Rattle.ha_config.specs.declared.config.Script.{Script}
use Rattle.ha_config.specs.declared.config.Trigger.{Trigger}
use Rattle.ha_config.specs.ValueFacts.{all_distinct}
use Rattle.ha_config.specs.Sound.{IsSoundConfig, are_sound_automations, are_sound_helpers, are_sound_scripts, is_sound_config, are_sound_actions, are_sound_conditions, are_sound_triggers, is_sound_automation}
use Rattle.yaml_scan.specs.declared.fault.Code.TheVariants as code
use Rattle.yaml_tree.specs.declared.node.Node.{Node}
use Rattle.yaml_tree.specs.declared.node.NodeKind.TheOpen.{NodeKind-F}
use Rattle.yaml_tree.specs.Readers.{Shape, line_of, shape_of, is_null_word}
use Rattle.conf_field.specs.declared.key.Key.TheVariants as key
use Rattle.conf_field.specs.Holds.{Holds, Each, IfThere}
use Rattle.conf_field.specs.Readings.{Read, bad, fault, unless}
use Rattle.conf_field.specs.Fields.{Pair, field, get, keys, need, needed, optional}
use Rattle.conf_field.specs.Kinds.{flag, text}
use Rattle.conf_field.specs.Sizes.{IsSoundTree}
use Rattle.conf_laws.proofs.Joined.{one_more, pair}
use Rattle.conf_laws.proofs.Down.{AreSoundPairs, IsSoundShape, most, sound_inside}
use Rattle.conf_laws.proofs.Parts.{Passes, Reads, either_way, field_sound, finish, known, made_of, of_get, of_need, of_optional, of_wanted, unknown, weaker, with}
use Rattle.conf_laws.proofs.Triggers.{triggers_sound}
use Rattle.conf_laws.proofs.Conditions.{conditions_sound}
use Rattle.conf_laws.proofs.Distinct.{text_distinct}
use Rattle.conf_auto.specs.Automations.{Settings, action_row, actions_in, asked_name, automation, automation_by, automation_map, build, condition_row, conditions_in, made_automation, mode, most_runs, or_empty, rows, script_of, trigger_row, triggers_in}
use Rattle.conf_auto.specs.Names.{add, free_name, free_number, is_taken, joined, renamed, with_number}
use Rattle.conf_auto.specs.Read.{IsReadOf}
use Rattle.conf_auto.specs.Config.{at_most, automations, automations_by, automations_from, config_with, listed, made_list, made_root, of_root, root_by, root_rows}
use Rattle.conf_auto.specs.HelperMaps.{helpers_in}
use Rattle.ha_config.specs.declared.helper.Helper.{Helper}
use Rattle.conf_auto.specs.Scripts.{scripts}
use Rattle.sound_laws.proofs.SoundParts.{default_runs, in_most, reads_runs, reads_script, script_sound}
use Rattle.sound_laws.proofs.SoundHelpers.{SoundHelpers, helpers_sound}
use Rattle.sound_laws.proofs.SoundScripts.{SoundScripts, reads_scripts}
use Rattle.sound_laws.proofs.SlugNames.{numbered_name, slug_name}
use Rattle.sound_laws.proofs.FreeNames.{distinct_more, name_free, number_small}

-- ---- an automation's parts

asked_is_name : (alias id : Option (List ℕ)) → is_name (asked_name alias id) ≡ true
asked_is_name (Some a) id = slug_name a
asked_is_name None (Some i) = slug_name i
asked_is_name None None = refl

abbrev SoundTests : List Condition → Type 0
SoundTests cs = are_sound_conditions cs ≡ true

tests_sound : (o : Option (List Condition)) → IfThere SoundTests o → are_sound_conditions (or_empty o) ≡ true
tests_sound (Some cs) h = h
tests_sound None h = refl

built_sound : (name : List ℕ) (triggers : List Trigger) (tests : List Condition) (actions : List Action) (settings : Settings)
    → is_name name ≡ true → are_sound_triggers triggers ≡ true → are_sound_conditions tests ≡ true → are_sound_actions actions ≡ true → in_most (unwrap_or settings.1.0 10) ≡ true
    → is_sound_automation (build name triggers tests actions settings) ≡ true
built_sound name triggers tests actions settings n t c a m =
    let max = unwrap_or settings.1.0 10 in
    let two = and_parts (nat_le 1 max) (nat_le max 1_000) m in
    pair (is_name name && nat_le 1 max && nat_le max 1_000 && are_sound_triggers triggers && are_sound_conditions tests) (are_sound_actions actions)
    (pair (is_name name && nat_le 1 max && nat_le max 1_000 && are_sound_triggers triggers) (are_sound_conditions tests)
    (pair (is_name name && nat_le 1 max && nat_le max 1_000) (are_sound_triggers triggers)
    (pair (is_name name && nat_le 1 max) (nat_le max 1_000) (pair (is_name name) (nat_le 1 max) n two.0) two.1) t) c) a

reads_triggers : Reads (λ ts. are_sound_triggers ts ≡ true) triggers_in
reads_triggers line n s = triggers_sound n s

reads_tests : Reads SoundTests conditions_in
reads_tests line n s = conditions_sound n s

map_sound : (line : ℕ) (ps : List Pair) → AreSoundPairs ps → Holds (Passes is_sound_automation) (automation_map line ps)
map_sound line ps s =
    finish
    (with (unknown (keys rows ps))
    (with (unknown (get key.Alias ps text))
    (with (unknown (get key.Id ps text))
    (with (known (λ ts. are_sound_triggers ts ≡ true) (needed triggers_in line (field trigger_row ps)) (of_wanted _ _ triggers_in reads_triggers line (field trigger_row ps) (field_sound trigger_row ps s)))
    (with (known (IfThere SoundTests) (optional conditions_in (field condition_row ps)) (of_optional SoundTests conditions_in reads_tests (field condition_row ps) (field_sound condition_row ps s)))
    (with (known (λ xs. are_sound_actions xs ≡ true) (needed actions_in line (field action_row ps)) (of_wanted _ _ actions_in reads_script line (field action_row ps) (field_sound action_row ps s)))
    (with (unknown (get key.Mode ps mode))
    (with (known (IfThere (Passes in_most)) (get key.Max ps most_runs) (of_get (Passes in_most) most_runs reads_runs key.Max ps s)) (unknown (get key.InitialState ps flag))))))))))
    (Passes is_sound_automation) made_automation
    (λ x h. built_sound (asked_name x.1.0 x.1.1.0) x.1.1.1.0 (or_empty x.1.1.1.1.0) (script_of x.1.1.1.1.1.0) x.1.1.1.1.1.1
    (asked_is_name x.1.0 x.1.1.0) h.1.1.1.0 (tests_sound x.1.1.1.1.0 h.1.1.1.1.0) (script_sound x.1.1.1.1.1.0 h.1.1.1.1.1.0) (default_runs x.1.1.1.1.1.1.1.0 h.1.1.1.1.1.1.1.0))

by_shape : (line : ℕ) (shape : Shape) → IsSoundShape shape → Holds (Passes is_sound_automation) (automation_by line shape)
by_shape line (NodeKind-F.Scalar t plain) s = tt
by_shape line (NodeKind-F.List items) s = tt
by_shape line (NodeKind-F.Map pairs) s = map_sound line pairs s

automation_sound : (n : Node) → IsSoundTree n → Holds (Passes is_sound_automation) (automation n)
automation_sound n s = by_shape (line_of n) (shape_of n) (sound_inside n s)

-- ---- automations by free names

record AreSound (count : ℕ) (all : List Automation) : Type 0 where
  each : list_all is_sound_automation all ≡ true
  distinct : all_distinct (map (λ a. a.name) all) ≡ true
  few : length all ≤ count

free_is_name : (all : List Automation) (name : List ℕ) → length all + 4 < 2 ^ 64 → is_name name ≡ true → is_name (free_name all name) ≡ true
free_is_name all name small h = by (is_taken all name)
  where
    by : (b : Bool) → is_name (cond b (with_number all name) name) ≡ true
    by true = numbered_name name (unwrap_or (free_number all name) 2) h (omega (arith, number_small all name))
    by false = h

renamed_sound : (name : List ℕ) (a : Automation) → is_name name ≡ true → is_sound_automation a ≡ true → is_sound_automation (renamed name a) ≡ true
renamed_sound name a n h =
    let p5 = and_parts (is_name a.name && nat_le 1 a.max && nat_le a.max 1_000 && are_sound_triggers a.triggers && are_sound_conditions a.tests) (are_sound_actions a.actions) h in
    let p4 = and_parts (is_name a.name && nat_le 1 a.max && nat_le a.max 1_000 && are_sound_triggers a.triggers) (are_sound_conditions a.tests) p5.0 in
    let p3 = and_parts (is_name a.name && nat_le 1 a.max && nat_le a.max 1_000) (are_sound_triggers a.triggers) p4.0 in
    let p2 = and_parts (is_name a.name && nat_le 1 a.max) (nat_le a.max 1_000) p3.0 in
    let p1 = and_parts (is_name a.name) (nat_le 1 a.max) p2.0 in
    pair (is_name name && nat_le 1 a.max && nat_le a.max 1_000 && are_sound_triggers a.triggers && are_sound_conditions a.tests) (are_sound_actions a.actions)
    (pair (is_name name && nat_le 1 a.max && nat_le a.max 1_000 && are_sound_triggers a.triggers) (are_sound_conditions a.tests)
    (pair (is_name name && nat_le 1 a.max && nat_le a.max 1_000) (are_sound_triggers a.triggers)
    (pair (is_name name && nat_le 1 a.max) (nat_le a.max 1_000) (pair (is_name name) (nat_le 1 a.max) n p1.1) p2.1) p3.1) p4.1) p5.1

has_name : (a : Automation) → is_sound_automation a ≡ true → is_name a.name ≡ true
has_name a h =
    let p5 = and_parts (is_name a.name && nat_le 1 a.max && nat_le a.max 1_000 && are_sound_triggers a.triggers && are_sound_conditions a.tests) (are_sound_actions a.actions) h in
    let p4 = and_parts (is_name a.name && nat_le 1 a.max && nat_le a.max 1_000 && are_sound_triggers a.triggers) (are_sound_conditions a.tests) p5.0 in
    let p3 = and_parts (is_name a.name && nat_le 1 a.max && nat_le a.max 1_000) (are_sound_triggers a.triggers) p4.0 in
    let p2 = and_parts (is_name a.name && nat_le 1 a.max) (nat_le a.max 1_000) p3.0 in
    (and_parts (is_name a.name) (nat_le 1 a.max) p2.0).0

one_sound : (count : ℕ) (all : List Automation) (a : Automation) → count < most → AreSound count all → is_sound_automation a ≡ true → AreSound (count + 1) (add all a)
one_sound count all a lt s h =
    let new = renamed (free_name all a.name) a in
    let few = s.few in
    record {
      each = one_more is_sound_automation all new s.each (renamed_sound (free_name all a.name) a (free_is_name all a.name (omega arith) (has_name a h)) h);
      distinct = distinct_more all new s.distinct (name_free all a.name (omega arith));
      few = omega (arith, length-append all (new ∷ []), few);
    }

join_sound : (count : ℕ) (before : Read (List Automation)) (r : Read Automation) → count < most → Holds (AreSound count) before → Holds (Passes is_sound_automation) r → Holds (AreSound (count + 1)) (joined before r)
join_sound count (Ok all) (Ok a) lt p q = one_sound count all a lt p q
join_sound count (Ok all) (Err g) lt p q = tt
join_sound count (Err f) (Ok a) lt p q = tt
join_sound count (Err f) (Err g) lt p q = tt

from_sound : (count : ℕ) (before : Read (List Automation)) (ns : List Node) → count + length ns < most → Holds (AreSound count) before → Each IsSoundTree ns → Holds (AreSound (count + length ns)) (automations_from before ns)
unfolding automations_from
from_sound count before [] lt h s =
    weaker (AreSound count) (AreSound (count + 0)) before (λ all k. let few = k.few in record { each = k.each; distinct = k.distinct; few = omega arith }) h
from_sound count before (n ∷ ns) lt h s =
    weaker (AreSound (count + 1 + length ns)) (AreSound (count + length (n ∷ ns))) (automations_from (joined before (automation n)) ns)
    (λ all k. let few = k.few in record { each = k.each; distinct = k.distinct; few = omega arith })
    (from_sound (count + 1) (joined before (automation n)) ns (omega arith) (join_sound count before (automation n) (omega arith) h (automation_sound n s.0)) s.1)

-- ---- the whole

limit_holds : (ns : List Node) → Holds (λ u. length ns ≤ 1_024) (unless (at_most 1_024 ns))
limit_holds ns = elim (slice_get_cases ns 1_024).1 [ inl found ↦ over found.0 found.2 | inr past ↦ within_it past.0 past.1 ]
  where
    over : (n : Node) → slice_get ns 1_024 ≡ Some n → Holds (λ (u : Unit {0}). length ns ≤ 1_024) (unless (at_most 1_024 ns))
    over n e = subst (λ (o : Option Node). Holds (λ (u : Unit {0}). length ns ≤ 1_024) (unless (option_map (λ (x : Node). fault (line_of x) code.Limit) o))) (sym e) tt

    within_it : length ns ≤ 1_024 → slice_get ns 1_024 ≡ None → Holds (λ (u : Unit {0}). length ns ≤ 1_024) (unless (at_most 1_024 ns))
    within_it le e = subst (λ (o : Option Node). Holds (λ (u : Unit {0}). length ns ≤ 1_024) (unless (option_map (λ (x : Node). fault (line_of x) code.Limit) o))) (sym e) le

abbrev SoundAll : List Automation → Type 0
SoundAll = AreSound 1_024

list_sound : (ns : List Node) → length ns < most → Each IsSoundTree ns → Holds SoundAll (listed ns)
list_sound ns lt s =
    finish
    (with (known (λ u. length ns ≤ 1_024) (unless (at_most 1_024 ns)) (limit_holds ns))
    (known (AreSound (0 + length ns)) (automations_from (Ok []) ns) (from_sound 0 (Ok []) ns (omega arith) (record { each = refl; distinct = refl; few = omega arith }) s)))
    SoundAll made_list (λ x h. let few = h.1.few in record { each = h.1.each; distinct = h.1.distinct; few = omega (arith, h.0) })

none_sound : SoundAll []
none_sound = record { each = refl; distinct = refl; few = omega arith }

value_sound : (line : ℕ) (n : Node) (shape : Shape) → IsSoundTree n → IsSoundShape shape → Holds SoundAll (automations_by line n shape)
value_sound line n (NodeKind-F.Scalar t plain) s k = either_way SoundAll (plain && is_null_word t) (Ok []) (bad line code.Kind) none_sound tt
value_sound line n (NodeKind-F.List items) s k = list_sound items k.few k.each
value_sound line n (NodeKind-F.Map pairs) s k = list_sound (n ∷ []) (omega arith) (s, tt)

reads_value : Reads SoundAll automations
reads_value line n s = value_sound line n (shape_of n) s (sound_inside n s)

autos_sound : (all : List Automation) → SoundAll all → are_sound_automations all ≡ true
autos_sound all s =
    pair (nat_le (length all) 1_024 && all_distinct (map (λ (a : Automation). a.name) all)) (list_all is_sound_automation all)
    (pair (nat_le (length all) 1_024) (all_distinct (map (λ (a : Automation). a.name) all)) (le-leb (length all) 1_024 s.few) s.distinct) s.each

config_sound : (all : List Automation) → SoundAll all → IsSoundConfig (config_with all)
config_sound all s = pair (are_sound_automations all) (are_sound_scripts [] && are_sound_helpers []) (autos_sound all s) refl

-- with scripts, if the key is there, and helpers
given_sound : (all : List Automation) (o : Option (List Script)) (hs : List Helper) → SoundAll all → IfThere SoundScripts o → SoundHelpers hs
    → is_sound_config (record { automations = all; scripts = or_empty o; helpers = hs }) ≡ true
given_sound all (Some ss) hs s h k = pair (are_sound_automations all) (are_sound_scripts ss && are_sound_helpers hs) (autos_sound all s) (pair (are_sound_scripts ss) (are_sound_helpers hs) h k)
given_sound all None hs s h k = pair (are_sound_automations all) (are_sound_scripts [] && are_sound_helpers hs) (autos_sound all s) (pair (are_sound_scripts []) (are_sound_helpers hs) refl k)

root_sound : (line : ℕ) (shape : Shape) → IsSoundShape shape → Holds IsSoundConfig (root_by line shape)
root_sound line (NodeKind-F.Scalar t plain) s =
    made_of SoundAll IsSoundConfig config_with (if plain && is_null_word t then Ok [] else bad line code.Kind) config_sound
    (either_way SoundAll (plain && is_null_word t) (Ok []) (bad line code.Kind) none_sound tt)
root_sound line (NodeKind-F.List items) s = made_of SoundAll IsSoundConfig config_with (listed items) config_sound (list_sound items s.few s.each)
root_sound line (NodeKind-F.Map pairs) s =
    finish
    (with (unknown (keys root_rows pairs))
    (with (known SoundAll (need key.Automation line pairs automations) (of_need SoundAll automations reads_value key.Automation line pairs s))
    (with (known (IfThere SoundScripts) (get key.Script pairs scripts) (of_get SoundScripts scripts reads_scripts key.Script pairs s))
    (known SoundHelpers (helpers_in pairs) (helpers_sound pairs s)))))
    IsSoundConfig made_root (λ x h. given_sound x.1.0 x.1.1.0 x.1.1.1 h.1.0 h.1.1.0 h.1.1.1)

of_tree : (root : Node) → IsSoundTree root → Holds IsSoundConfig (of_root (Ok root))
of_tree root s = root_sound (line_of root) (shape_of root) (sound_inside root s)

-- LAW: what is read of a text is sound
pub read_sound : (text : List ℕ) (config : Config) → IsReadOf text config → IsSoundConfig config
read_sound text config r =
    subst (Holds IsSoundConfig) r.config_is (of_tree r.root (record { distinct = text_distinct text r.root r.spelled; small = r.small }))
