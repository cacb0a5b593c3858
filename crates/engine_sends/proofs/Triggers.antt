-- Triggers and conditions may move between threads.
use denote.Param.Send.{IsSend, sendable}
use Rattle.ha_config.specs.contracts.config.TriggerRule as TriggerRule
use Rattle.ha_config.specs.contracts.config.Trigger as Trigger
use Rattle.ha_config.specs.contracts.config.Condition as Condition
use Rattle.ha_config.proofs.config.Match.TheSendSync as side
use Rattle.ha_config.proofs.config.Unit.TheSendSync as unit
use Rattle.ha_config.proofs.config.Condition.TheLaws.TheKnot as condition
use Rattle.engine_sends.proofs.Templates.{templates}

pub rule_field : IsSend TriggerRule.the_field.row
rule_field = search (side.the_field_send, unit.the_field_send, templates) depth 60 fits 20000

pub trigger_field : IsSend Trigger.the_field.row
trigger_field = search (rule_field, templates) depth 60 fits 20000

pub trigger_send : IsSend Trigger.the_row
trigger_send = search (trigger_field, sendable) depth 60 fits 20000

pub condition_field : IsSend Condition.the_field.row
condition_field = search (condition.send-Condition, templates) depth 60 fits 20000

pub condition_send : IsSend Condition.the_row
condition_send = search (condition_field, sendable) depth 60 fits 20000

pub ruleset triggers = (trigger_field, trigger_send, condition_field, condition_send, templates)
