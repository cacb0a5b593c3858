-- Numeric triggers: the number that a state gives, in the bounds of a rule.
use Rattle.std.specs.Prelude.{Bool, Option, None, option_map, option_and_then}
use Rattle.ha_config.specs.declared.config.TriggerRule.{TriggerRule}
use Rattle.ha_sight.specs.declared.state.StateObject.{StateObject}
use Rattle.ha_config.specs.Numbers.{in_bounds}
use Rattle.ha_sight.specs.Conditions.{watched_number}

-- whether the number of a state is in the bounds, where there is a number
abbrev pub rule_in : TriggerRule → Option StateObject → Option Bool
rule_in (TriggerRule.Numeric entities attribute above below) state =
    option_map (in_bounds above below) (option_and_then (watched_number attribute) state)
rule_in (TriggerRule.State entities attribute from to) state = None
rule_in (TriggerRule.Event kinds pairs) state = None
rule_in (TriggerRule.Time seconds) state = None
rule_in (TriggerRule.Pattern hours minutes seconds) state = None
rule_in (TriggerRule.Template t) state = None
rule_in TriggerRule.Start state = None
