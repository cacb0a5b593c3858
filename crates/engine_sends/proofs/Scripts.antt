-- Scripts and configurations may move between threads.
use denote.Param.Send.{IsSend, sendable}
use Rattle.ha_config.specs.contracts.config.Form as Form
use Rattle.ha_config.specs.contracts.config.SpanForm as SpanForm
use Rattle.ha_config.specs.contracts.config.RepeatKind as RepeatKind
use Rattle.ha_config.specs.contracts.config.Action as Action
use Rattle.ha_config.specs.contracts.config.Automation as Automation
use Rattle.ha_config.specs.contracts.config.Script as Script
use Rattle.ha_config.specs.contracts.config.Config as Config
use Rattle.ha_config.specs.contracts.helper.HelperKind as HelperKind
use Rattle.ha_config.specs.contracts.helper.Helper as Helper
use Rattle.ha_config.proofs.config.Mode.TheSendSync as mode
use Rattle.ha_config.proofs.config.Form.TheLaws.TheKnot as form
use Rattle.ha_config.proofs.config.ActionKind.TheLaws.TheKnot as action
use Rattle.engine_sends.proofs.Triggers.{triggers}

pub form_field : IsSend Form.the_field.row
form_field = search (form.send-Form, triggers) depth 60 fits 20000

pub form_send : IsSend Form.the_row
form_send = search (form_field, sendable) depth 60 fits 20000

pub span_field : IsSend SpanForm.the_field.row
span_field = search triggers depth 60 fits 20000

pub span_send : IsSend SpanForm.the_row
span_send = search (span_field, sendable) depth 60 fits 20000

pub repeat_field : IsSend RepeatKind.the_field.row
repeat_field = search (form_send, triggers) depth 60 fits 20000

pub action_field : IsSend Action.the_field.row
action_field = search (action.send-Action, form_send, span_field, span_send, repeat_field, triggers) depth 60 fits 20000

pub action_send : IsSend Action.the_row
action_send = search (action_field, sendable) depth 60 fits 20000

pub automation_field : IsSend Automation.the_field.row
automation_field = search (action_send, mode.the_field_send, triggers) depth 60 fits 20000

pub automation_send : IsSend Automation.the_row
automation_send = search (automation_field, sendable) depth 60 fits 20000

pub script_field : IsSend Script.the_field.row
script_field = search (action_send, mode.the_field_send, triggers) depth 60 fits 20000

pub script_send : IsSend Script.the_row
script_send = search (script_field, sendable) depth 60 fits 20000

helper_kind_field : IsSend HelperKind.the_field.row
helper_kind_field = search triggers depth 60 fits 20000

pub helper_send : IsSend Helper.the_row
helper_send = search (helper_kind_field, triggers) depth 60 fits 20000

pub config_field : IsSend Config.the_field.row
config_field = search (automation_send, script_send, helper_send, triggers) depth 60 fits 20000

pub ruleset scripts = (action_send, helper_send, config_field, triggers)
