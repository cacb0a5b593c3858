-- State triggers, on an entity's old and new state.
use Rattle.std.specs.Prelude.{Bool, false, Option, None, Some, is_none, option_and_then}
use Rattle.std.specs.Option.{option_map_or}
use Rattle.ha_value.specs.declared.value.Value.{Value}
use Rattle.ha_config.specs.declared.config.TriggerRule.{TriggerRule}
use Rattle.ha_sight.specs.declared.state.StateObject.{StateObject}
use Rattle.ha_config.specs.Words.{Text, same, first_pair}
use Rattle.ha_sight.specs.Rules.{same_optional, state_moves}

-- the rule holds on the two states
abbrev pub rule_moves : TriggerRule → Bool → Option StateObject → Option StateObject → Bool
rule_moves (TriggerRule.State entities attribute from to) held old new = state_moves attribute from to held old new
rule_moves (TriggerRule.Numeric entities attribute above below) held old new = false
rule_moves (TriggerRule.Event kinds pairs) held old new = false
rule_moves (TriggerRule.Time seconds) held old new = false
rule_moves (TriggerRule.Pattern hours minutes seconds) held old new = false
rule_moves (TriggerRule.Template t) held old new = false
rule_moves TriggerRule.Start held old new = false

-- the attribute of a state, where both are there
abbrev pub attribute_in : Text → Option StateObject → Option Value
attribute_in name o = option_and_then (λ s. first_pair name s.attributes) o

abbrev pub text_stays : Option StateObject → Option StateObject → Bool
text_stays old new = option_map_or (λ s. option_map_or (λ o. same o.text s.text) old false) new (is_none old)

-- what a hold watches is the same in both
abbrev pub rule_stays : TriggerRule → Option StateObject → Option StateObject → Bool
rule_stays (TriggerRule.State entities (Some name) from to) old new = same_optional (attribute_in name old) (attribute_in name new)
rule_stays (TriggerRule.State entities None from to) old new = text_stays old new
rule_stays (TriggerRule.Numeric entities attribute above below) old new = false
rule_stays (TriggerRule.Event kinds pairs) old new = false
rule_stays (TriggerRule.Time seconds) old new = false
rule_stays (TriggerRule.Pattern hours minutes seconds) old new = false
rule_stays (TriggerRule.Template t) old new = false
rule_stays TriggerRule.Start old new = false
