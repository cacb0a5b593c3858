-- What the tree of a rehearsal's configuration is read as: each part without a fault.
use Rattle.std.proofs.Common.{◌≡◌, ap, refl, ℕ, true, false, List, [], ◌∷◌, Some, codes, pos}
use Rattle.std.specs.Prelude.{Ok}
use Rattle.ha_value.specs.declared.value.Num.{Num}
use Rattle.ha_value.specs.Ids.{read_entity}
use Rattle.ha_value.specs.Numbers.{read_number}
use Rattle.ha_clock.specs.SpanText.{number_from, number_of, span_of, span_seconds}
use Rattle.ha_config.specs.declared.config.ActionKind.TheVariants as does
use Rattle.ha_config.specs.declared.config.Mode.{Mode}
use Rattle.ha_config.specs.declared.config.RepeatKind.{RepeatKind}
use Rattle.yaml_scan.specs.declared.fault.Code.TheVariants as code
use Rattle.yaml_scan.specs.Words.{text_end, without_blanks}
use Rattle.yaml_tree.specs.Entities.{split_from}
use Rattle.conf_field.specs.declared.key.Key.TheVariants as key
use Rattle.conf_field.specs.Readings.{both, unless}
use Rattle.conf_field.specs.Fields.{Pair, field, first_named, get, keys, keys_fault, need, needed, one_of, optional, place, row}
use Rattle.conf_field.specs.Kinds.{entities, flag, holds_template, number, text}
use Rattle.conf_field.specs.Spans.{span}
use Rattle.conf_trigger.specs.declared.kind.TriggerKind.{TriggerKind}
use Rattle.conf_trigger.specs.Triggers as trig
use Rattle.conf_trigger.specs.Triggers.{later_of}
use Rattle.conf_script.specs.declared.name.ActionName.{ActionName}
use Rattle.conf_script.specs.Actions as a
use Rattle.conf_script.specs.Calls as calls
use Rattle.conf_script.specs.Forms as form
use Rattle.conf_script.proofs.Opened as opened
use Rattle.conf_auto.specs.Automations as auto
use Rattle.conf_auto.specs.Config as conf
use Rattle.conf_auto.specs.HelperMaps as maps
use Rattle.conf_auto.specs.Names.{add, joined}
use Rattle.conf_auto.specs.Scripts.{scripts}
use Rattle.ha_rehearse.proofs.ConfigTree.{node0, node1, node2, node3, node5, node6, node7, node9, node11, node13, node14, node15, node17, node18, node20, node21, node23, node24, node26, node27, node29, node31, node32, node34, node35, node36, node38, node40, node41, node42, node43, node45, node46, node47, node49, node50, node52, node54}
use Rattle.ha_rehearse.proofs.ReadLemmas.{IsRead, list_shape, map_shape, read_absent, read_action, read_actions, read_as, read_both, read_digits, read_entities, read_fields, read_form, read_given, read_keys, read_made, read_needed, read_scalar, read_service, read_span, read_target, read_targets, read_trigger, read_triggers, read_unless, scalar_read}
use Rattle.ha_rehearse.proofs.ShownLemmas.{shown, state_shown}

abbrev pairs6 : List Pair
pairs6 = (codes "trigger", 4, node7) ∷ (codes "entity_id", 5, node9) ∷ (codes "above", 6, node11) ∷ []

abbrev pairs17 : List Pair
pairs17 = (codes "entity_id", 10, node18) ∷ []

abbrev pairs14 : List Pair
pairs14 = (codes "action", 8, node15) ∷ (codes "target", 9, node17) ∷ []

abbrev pairs20 : List Pair
pairs20 = (codes "delay", 11, node21) ∷ []

abbrev pairs26 : List Pair
pairs26 = (codes "entity_id", 14, node27) ∷ []

abbrev pairs23 : List Pair
pairs23 = (codes "action", 12, node24) ∷ (codes "target", 13, node26) ∷ []

abbrev pairs2 : List Pair
pairs2 = (codes "alias", 2, node3) ∷ (codes "triggers", 3, node5) ∷ (codes "actions", 7, node13) ∷ (codes "mode", 15, node29) ∷ []

abbrev pairs35 : List Pair
pairs35 = (codes "trigger", 18, node36) ∷ (codes "entity_id", 19, node38) ∷ []

abbrev pairs49 : List Pair
pairs49 = (codes "value", 26, node50) ∷ []

abbrev pairs46 : List Pair
pairs46 = (codes "action", 24, node47) ∷ (codes "data", 25, node49) ∷ []

abbrev pairs42 : List Pair
pairs42 = (codes "count", 22, node43) ∷ (codes "sequence", 23, node45) ∷ []

abbrev pairs41 : List Pair
pairs41 = (codes "repeat", 21, node42) ∷ []

abbrev pairs31 : List Pair
pairs31 = (codes "alias", 16, node32) ∷ (codes "triggers", 17, node34) ∷ (codes "actions", 20, node40) ∷ (codes "mode", 27, node52) ∷ (codes "max", 28, node54) ∷ []

abbrev pairs0 : List Pair
pairs0 = (codes "automation", 1, node1) ∷ []

kind6 : trig.kind 4 pairs6 ≡ Ok TriggerKind.Numeric
kind6 = scalar_read 4 (codes "numeric_state") true refl code.UnknownKind trig.kind_named TriggerKind.Numeric refl (place (codes "trigger", 4, node7))

trigger6 : IsRead (trig.trigger 0 node6)
unfolding keys_fault holds_template split_from text_end without_blanks read_entity read_number
trigger6 =
    let five = both (get key.Below pairs6 number) (trig.hold pairs6) in
    let four = both (get key.Above pairs6 number) five in
    let three = both (get key.Attribute pairs6 text) four in
    let two = both (need key.EntityId 4 pairs6 entities) three in
    let one = unless (one_of 4 (row key.Above ∷ row key.Below ∷ []) pairs6) in
    read_trigger TriggerKind.Numeric 0 4 pairs6 kind6 refl refl refl
    (read_made trig.made_numeric (both one two) (read_both one two (read_unless (one_of 4 (row key.Above ∷ row key.Below ∷ []) pairs6) refl)
    (read_both (need key.EntityId 4 pairs6 entities) three (read_needed entities 4 (field (row key.EntityId) pairs6) (codes "entity_id", 5, node9) refl (read_entities 5 (codes "sensor.s0") true refl (record { domain = codes "sensor"; object = codes "s0" } ∷ []) refl))
    (read_both (get key.Attribute pairs6 text) four (read_absent text (field (row key.Attribute) pairs6) refl)
    (read_both (get key.Above pairs6 number) five (read_given number (field (row key.Above) pairs6) (codes "above", 6, node11) refl (read_scalar 6 (codes "50") true refl code.Number read_number (Num.Whole (pos 50)) refl))
    (read_both (get key.Below pairs6 number) (trig.hold pairs6) (read_absent number (field (row key.Below) pairs6) refl)
    (read_made trig.some_span (get key.For pairs6 span) (read_absent span (field (row key.For) pairs6) refl))))))))

triggers5 : IsRead (trig.triggers node5)
triggers5 = read_triggers 4 node6 trigger6

kind35 : trig.kind 18 pairs35 ≡ Ok TriggerKind.State
kind35 = scalar_read 18 (codes "state") true refl code.UnknownKind trig.kind_named TriggerKind.State refl (place (codes "trigger", 18, node36))

trigger35 : IsRead (trig.trigger 0 node35)
unfolding keys_fault later_of split_from text_end without_blanks read_entity
trigger35 =
    let from = trig.side (row key.From) (row key.NotFrom) pairs35 in
    let to = trig.side (row key.To) (row key.NotTo) pairs35 in
    let four = both to (trig.hold pairs35) in
    let three = both from four in
    let two = both (get key.Attribute pairs35 text) three in
    let one = need key.EntityId 18 pairs35 entities in
    read_trigger TriggerKind.State 0 18 pairs35 kind35 refl refl refl
    (read_made trig.made_state (both one two) (read_both one two (read_needed entities 18 (field (row key.EntityId) pairs35) (codes "entity_id", 19, node38) refl (read_entities 19 (codes "sensor.s1") true refl (record { domain = codes "sensor"; object = codes "s1" } ∷ []) refl))
    (read_both (get key.Attribute pairs35 text) three (read_absent text (field (row key.Attribute) pairs35) refl)
    (read_both from four (read_made trig.made_side (both (unless (trig.excluded (row key.From) (row key.NotFrom) pairs35)) (both (optional trig.texts_or_any (field (row key.From) pairs35)) (optional trig.none_of_texts (field (row key.NotFrom) pairs35))))
    (read_both (unless (trig.excluded (row key.From) (row key.NotFrom) pairs35)) (both (optional trig.texts_or_any (field (row key.From) pairs35)) (optional trig.none_of_texts (field (row key.NotFrom) pairs35))) (read_unless (trig.excluded (row key.From) (row key.NotFrom) pairs35) refl)
    (read_both (optional trig.texts_or_any (field (row key.From) pairs35)) (optional trig.none_of_texts (field (row key.NotFrom) pairs35)) (read_absent trig.texts_or_any (field (row key.From) pairs35) refl) (read_absent trig.none_of_texts (field (row key.NotFrom) pairs35) refl))))
    (read_both to (trig.hold pairs35) (read_made trig.made_side (both (unless (trig.excluded (row key.To) (row key.NotTo) pairs35)) (both (optional trig.texts_or_any (field (row key.To) pairs35)) (optional trig.none_of_texts (field (row key.NotTo) pairs35))))
    (read_both (unless (trig.excluded (row key.To) (row key.NotTo) pairs35)) (both (optional trig.texts_or_any (field (row key.To) pairs35)) (optional trig.none_of_texts (field (row key.NotTo) pairs35))) (read_unless (trig.excluded (row key.To) (row key.NotTo) pairs35) refl)
    (read_both (optional trig.texts_or_any (field (row key.To) pairs35)) (optional trig.none_of_texts (field (row key.NotTo) pairs35)) (read_absent trig.texts_or_any (field (row key.To) pairs35) refl) (read_absent trig.none_of_texts (field (row key.NotTo) pairs35) refl))))
    (read_made trig.some_span (get key.For pairs35 span) (read_absent span (field (row key.For) pairs35) refl)))))))

triggers34 : IsRead (trig.triggers node34)
triggers34 = read_triggers 18 node35 trigger35

action14 : IsRead (a.one_action node14)
unfolding keys_fault first_named holds_template read_entity text_end without_blanks calls.ids_from
action14 = read_action ActionName.OfCall 8 pairs14 refl refl refl refl refl
    (read_made a.made_call (both (needed calls.service 8 (field (a.row_of ActionName.OfCall) pairs14)) (both (get key.Target pairs14 calls.target) (both (get key.EntityId pairs14 calls.targets) (get key.Data pairs14 form.fields))))
    (read_both (needed calls.service 8 (field (a.row_of ActionName.OfCall) pairs14)) (both (get key.Target pairs14 calls.target) (both (get key.EntityId pairs14 calls.targets) (get key.Data pairs14 form.fields))) (read_needed calls.service 8 (field (a.row_of ActionName.OfCall) pairs14) (codes "action", 8, node15) refl (read_service 8 (codes "fan.turn_on") true refl refl refl))
    (read_both (get key.Target pairs14 calls.target) (both (get key.EntityId pairs14 calls.targets) (get key.Data pairs14 form.fields)) (read_given calls.target (field (row key.Target) pairs14) (codes "target", 9, node17) refl (read_target 10 pairs17 refl
    (read_given calls.targets (field (row key.EntityId) pairs17) (codes "entity_id", 10, node18) refl (read_targets 10 (codes "fan.f0") true refl refl (form.literal (codes "fan.f0") ∷ []) (λ l. refl)))))
    (read_both (get key.EntityId pairs14 calls.targets) (get key.Data pairs14 form.fields) (read_absent calls.targets (field (row key.EntityId) pairs14) refl) (read_absent form.fields (field (row key.Data) pairs14) refl)))))

action20 : IsRead (a.one_action node20)
unfolding keys_fault first_named holds_template span_of span_seconds number_of number_from
action20 = read_action ActionName.OfDelay 11 pairs20 refl refl refl refl refl
    (read_made does.Delay (need key.Delay 11 pairs20 form.span_form) (read_needed form.span_form 11 (field (row key.Delay) pairs20) (codes "delay", 11, node21) refl (read_span 11 (codes "60") true refl refl 60_000 refl)))

action23 : IsRead (a.one_action node23)
unfolding keys_fault first_named holds_template read_entity text_end without_blanks calls.ids_from
action23 = read_action ActionName.OfCall 12 pairs23 refl refl refl refl refl
    (read_made a.made_call (both (needed calls.service 12 (field (a.row_of ActionName.OfCall) pairs23)) (both (get key.Target pairs23 calls.target) (both (get key.EntityId pairs23 calls.targets) (get key.Data pairs23 form.fields))))
    (read_both (needed calls.service 12 (field (a.row_of ActionName.OfCall) pairs23)) (both (get key.Target pairs23 calls.target) (both (get key.EntityId pairs23 calls.targets) (get key.Data pairs23 form.fields))) (read_needed calls.service 12 (field (a.row_of ActionName.OfCall) pairs23) (codes "action", 12, node24) refl (read_service 12 (codes "fan.turn_off") true refl refl refl))
    (read_both (get key.Target pairs23 calls.target) (both (get key.EntityId pairs23 calls.targets) (get key.Data pairs23 form.fields)) (read_given calls.target (field (row key.Target) pairs23) (codes "target", 13, node26) refl (read_target 14 pairs26 refl
    (read_given calls.targets (field (row key.EntityId) pairs26) (codes "entity_id", 14, node27) refl (read_targets 14 (codes "fan.f0") true refl refl (form.literal (codes "fan.f0") ∷ []) (λ l. refl)))))
    (read_both (get key.EntityId pairs23 calls.targets) (get key.Data pairs23 form.fields) (read_absent calls.targets (field (row key.EntityId) pairs23) refl) (read_absent form.fields (field (row key.Data) pairs23) refl)))))

actions13 : IsRead (a.actions node13)
actions13 = read_actions 8 (node14 ∷ node20 ∷ node23 ∷ []) (action14, (action20, (action23, tt)))

action46 : IsRead (a.one_action node46)
unfolding keys_fault first_named holds_template read_entity text_end without_blanks calls.ids_from
action46 = read_action ActionName.OfCall 24 pairs46 refl refl refl refl refl
    (read_made a.made_call (both (needed calls.service 24 (field (a.row_of ActionName.OfCall) pairs46)) (both (get key.Target pairs46 calls.target) (both (get key.EntityId pairs46 calls.targets) (get key.Data pairs46 form.fields))))
    (read_both (needed calls.service 24 (field (a.row_of ActionName.OfCall) pairs46)) (both (get key.Target pairs46 calls.target) (both (get key.EntityId pairs46 calls.targets) (get key.Data pairs46 form.fields))) (read_needed calls.service 24 (field (a.row_of ActionName.OfCall) pairs46) (codes "action", 24, node47) refl (read_service 24 (codes "notify.log") true refl refl refl))
    (read_both (get key.Target pairs46 calls.target) (both (get key.EntityId pairs46 calls.targets) (get key.Data pairs46 form.fields)) (read_absent calls.target (field (row key.Target) pairs46) refl)
    (read_both (get key.EntityId pairs46 calls.targets) (get key.Data pairs46 form.fields) (read_absent calls.targets (field (row key.EntityId) pairs46) refl) (read_given form.fields (field (row key.Data) pairs46) (codes "data", 25, node49) refl (read_fields 26 (codes "value", 26, node50) (read_form 26 (codes "{{ trigger.to_state.state }}") false refl refl state_shown shown refl)))))))

actions45 : IsRead (a.actions node45)
actions45 = read_actions 24 (node46 ∷ []) (action46, tt)

turns42 : (l : ℕ) → IsRead ((a.means node42).turns l)
unfolding keys_fault first_named holds_template
turns42 l =
    let counted = need key.Count 22 pairs42 form.digits in
    let kind = a.repeat_by 22 pairs42 (a.repeat_name pairs42) in
    let body = a.need_in a.all_of 22 (a.inside pairs42 (row key.Sequence)) in
    let known = keys (a.repeat_rows (a.repeat_name pairs42)) pairs42 in
    read_as (opened.turns_map node42 l pairs42 pairs42 refl refl)
    (read_made a.made_turns (both known (both kind body)) (read_both known (both kind body) (read_keys (a.repeat_rows (a.repeat_name pairs42)) pairs42 refl)
    (read_both kind body (read_made RepeatKind.Count counted (read_needed form.digits 22 (field (row key.Count) pairs42) (codes "count", 22, node43) refl (read_digits 22 (codes "2") true refl refl (form.literal (codes "2")) (λ at. refl)))) actions45)))

action41 : IsRead (a.one_action node41)
unfolding keys_fault first_named
action41 = read_action ActionName.OfRepeat 21 pairs41 refl refl refl refl refl
    (read_made a.made_repeat (a.need_in a.turns_of 21 (a.inside pairs41 (row key.Repeat))) (turns42 (place (codes "repeat", 21, node42))))

actions40 : IsRead (a.actions node40)
actions40 = read_actions 21 (node41 ∷ []) (action41, tt)

automation2 : IsRead (auto.automation node2)
unfolding keys_fault number_of number_from
automation2 =
    let part8 = get key.InitialState pairs2 flag in
    let part7 = both (get key.Max pairs2 auto.most_runs) part8 in
    let part6 = both (get key.Mode pairs2 auto.mode) part7 in
    let part5 = both (needed auto.actions_in 2 (field auto.action_row pairs2)) part6 in
    let part4 = both (optional auto.conditions_in (field auto.condition_row pairs2)) part5 in
    let part3 = both (needed auto.triggers_in 2 (field auto.trigger_row pairs2)) part4 in
    let part2 = both (get key.Id pairs2 text) part3 in
    let part1 = both (get key.Alias pairs2 text) part2 in
    let part0 = both (keys auto.rows pairs2) part1 in
    read_as (ap (auto.automation_by 2) (map_shape 2 pairs2)) (read_made auto.made_automation part0 (read_both (keys auto.rows pairs2) part1 (read_keys auto.rows pairs2 refl)
    (read_both (get key.Alias pairs2 text) part2 (read_given text (field (row key.Alias) pairs2) (codes "alias", 2, node3) refl (read_scalar 2 (codes "Even") true refl code.Kind Some (codes "Even") refl))
    (read_both (get key.Id pairs2 text) part3 (read_absent text (field (row key.Id) pairs2) refl)
    (read_both (needed auto.triggers_in 2 (field auto.trigger_row pairs2)) part4 (read_needed auto.triggers_in 2 (field auto.trigger_row pairs2) (codes "triggers", 3, node5) refl (λ l. triggers5))
    (read_both (optional auto.conditions_in (field auto.condition_row pairs2)) part5 (read_absent auto.conditions_in (field auto.condition_row pairs2) refl)
    (read_both (needed auto.actions_in 2 (field auto.action_row pairs2)) part6 (read_needed auto.actions_in 2 (field auto.action_row pairs2) (codes "actions", 7, node13) refl (λ l. actions13))
    (read_both (get key.Mode pairs2 auto.mode) part7 (read_given auto.mode (field (row key.Mode) pairs2) (codes "mode", 15, node29) refl (read_scalar 15 (codes "restart") true refl code.UnknownKind auto.mode_named Mode.Restart refl))
    (read_both (get key.Max pairs2 auto.most_runs) part8 (read_absent auto.most_runs (field (row key.Max) pairs2) refl)
    (read_absent flag (field (row key.InitialState) pairs2) refl))))))))))

automation31 : IsRead (auto.automation node31)
unfolding keys_fault number_of number_from
automation31 =
    let part8 = get key.InitialState pairs31 flag in
    let part7 = both (get key.Max pairs31 auto.most_runs) part8 in
    let part6 = both (get key.Mode pairs31 auto.mode) part7 in
    let part5 = both (needed auto.actions_in 16 (field auto.action_row pairs31)) part6 in
    let part4 = both (optional auto.conditions_in (field auto.condition_row pairs31)) part5 in
    let part3 = both (needed auto.triggers_in 16 (field auto.trigger_row pairs31)) part4 in
    let part2 = both (get key.Id pairs31 text) part3 in
    let part1 = both (get key.Alias pairs31 text) part2 in
    let part0 = both (keys auto.rows pairs31) part1 in
    read_as (ap (auto.automation_by 16) (map_shape 16 pairs31)) (read_made auto.made_automation part0 (read_both (keys auto.rows pairs31) part1 (read_keys auto.rows pairs31 refl)
    (read_both (get key.Alias pairs31 text) part2 (read_given text (field (row key.Alias) pairs31) (codes "alias", 16, node32) refl (read_scalar 16 (codes "Odd") true refl code.Kind Some (codes "Odd") refl))
    (read_both (get key.Id pairs31 text) part3 (read_absent text (field (row key.Id) pairs31) refl)
    (read_both (needed auto.triggers_in 16 (field auto.trigger_row pairs31)) part4 (read_needed auto.triggers_in 16 (field auto.trigger_row pairs31) (codes "triggers", 17, node34) refl (λ l. triggers34))
    (read_both (optional auto.conditions_in (field auto.condition_row pairs31)) part5 (read_absent auto.conditions_in (field auto.condition_row pairs31) refl)
    (read_both (needed auto.actions_in 16 (field auto.action_row pairs31)) part6 (read_needed auto.actions_in 16 (field auto.action_row pairs31) (codes "actions", 20, node40) refl (λ l. actions40))
    (read_both (get key.Mode pairs31 auto.mode) part7 (read_given auto.mode (field (row key.Mode) pairs31) (codes "mode", 27, node52) refl (read_scalar 27 (codes "queued") true refl code.UnknownKind auto.mode_named Mode.Queued refl))
    (read_both (get key.Max pairs31 auto.most_runs) part8 (read_given auto.most_runs (field (row key.Max) pairs31) (codes "max", 28, node54) refl (read_scalar 28 (codes "3") true refl code.Number auto.most_of 3 refl))
    (read_absent flag (field (row key.InitialState) pairs31) refl))))))))))

-- the automations of the tree
automations : IsRead (conf.automations_from (Ok []) (node2 ∷ node31 ∷ []))
unfolding conf.automations_from
automations =
    let first = both (Ok []) (auto.automation node2) in
    let all = both (joined (Ok []) (auto.automation node2)) (auto.automation node31) in
    read_made (λ p. add p.0 p.1) all (read_both (joined (Ok []) (auto.automation node2)) (auto.automation node31) (read_made (λ p. add p.0 p.1) first (read_both (Ok []) (auto.automation node2) ([], refl) automation2)) automation31)

all_listed : (l : ℕ) → IsRead (conf.automations l node1)
all_listed l =
    let many = unless (conf.at_most 1_024 (node2 ∷ node31 ∷ [])) in
    let all = conf.automations_from (Ok []) (node2 ∷ node31 ∷ []) in
    read_as (ap (conf.automations_by l node1) (list_shape 2 (node2 ∷ node31 ∷ [])))
    (read_made conf.made_list (both many all) (read_both many all (read_unless (conf.at_most 1_024 (node2 ∷ node31 ∷ [])) refl) automations))

-- no helper stands in the tree
helpers_read : IsRead (maps.helpers_in pairs0)
helpers_read =
    let few = unless (maps.too_many pairs0) in
    let flags = get key.InputBoolean pairs0 maps.flags in
    let counters = get key.Counter pairs0 maps.counters in
    let timers = get key.Timer pairs0 maps.timers in
    read_made maps.in_order (both few (both flags (both counters timers)))
    (read_both few (both flags (both counters timers)) (read_unless (maps.too_many pairs0) refl)
    (read_both flags (both counters timers) (read_absent maps.flags (field (row key.InputBoolean) pairs0) refl)
    (read_both counters timers (read_absent maps.counters (field (row key.Counter) pairs0) refl) (read_absent maps.timers (field (row key.Timer) pairs0) refl))))

pub root_read : IsRead (conf.of_node node0)
unfolding keys_fault
root_read =
    let known = keys conf.root_rows pairs0 in
    let all = need key.Automation 1 pairs0 conf.automations in
    let named = get key.Script pairs0 scripts in
    let others = both named (maps.helpers_in pairs0) in
    read_as (ap (conf.root_by 1) (map_shape 1 pairs0))
    (read_made conf.made_root (both known (both all others))
    (read_both known (both all others) (read_keys conf.root_rows pairs0 refl)
    (read_both all others (read_needed conf.automations 1 (field (row key.Automation) pairs0) (codes "automation", 1, node1) refl all_listed)
    (read_both named (maps.helpers_in pairs0) (read_absent scripts (field (row key.Script) pairs0) refl) helpers_read))))
