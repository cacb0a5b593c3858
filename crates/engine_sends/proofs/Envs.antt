-- States and the variables of a run may move between threads. A run, its record and its frames share what its trigger is made of (std's
-- `Arc`), so two threads may look at that at a time: of it, and of all that it holds, `NAME_sync` is to be shown too.
use denote.Param.Send.{IsSend, IsSync, sendable}
use Rattle.std.proofs.Crossing.{crosses}
use Rattle.ha_clock.proofs.moment.Moment.TheSendSync as moment
use Rattle.ha_value.specs.contracts.value.Value as Value
use Rattle.ha_value.proofs.many.Many.TheSendSync as many
use Rattle.ha_value.proofs.word.Word.TheSendSync as word
use Rattle.ha_value.proofs.value.Num.TheSendSync as number
use Rattle.ha_value.proofs.value.EntityId.TheSendSync as entity
use Rattle.ha_value.proofs.value.Value.TheLaws.TheKnot as knot
use Rattle.ha_sight.specs.contracts.state.StateObject as StateObject
use Rattle.ha_sight.specs.contracts.trigger_data.Kind as Kind
use Rattle.ha_sight.specs.contracts.trigger_data.TriggerData as TriggerData
use Rattle.ha_sight.specs.contracts.env.Env as Env
use Rattle.ha_sight.proofs.shared.Shared.TheSendSync as shared
use Rattle.engine_sends.proofs.Values.{values}

pub ruleset simple_sync = (many.the_sync, word.the_sync, entity.the_sync, number.the_field_sync, number.the_sync, moment.the_sync, sendable)

value_sync_field : IsSync Value.the_field.row
value_sync_field = search (knot.sync-Value, simple_sync) depth 60 fits 20000

value_sync : IsSync Value.the_row
value_sync = search (value_sync_field, simple_sync) depth 60 fits 20000

pub state_field : IsSend StateObject.the_field.row
state_field = search values depth 60 fits 20000

pub state_send : IsSend StateObject.the_row
state_send = search (state_field, sendable) depth 60 fits 20000

kind_field : IsSend Kind.the_field.row
kind_field = search values depth 60 fits 20000

kind_send : IsSend Kind.the_row
kind_send = search (kind_field, sendable) depth 60 fits 20000

kind_sync_field : IsSync Kind.the_field.row
kind_sync_field = search (value_sync_field, value_sync, simple_sync) depth 60 fits 20000

kind_sync : IsSync Kind.the_row
kind_sync = search (kind_sync_field, sendable) depth 60 fits 20000

pub trigger_send : IsSend TriggerData.the_row
trigger_send = search (shared.the_send, kind_send, kind_sync, crosses, sendable) depth 60 fits 20000

pub env_send : IsSend Env.the_row
env_send = search (trigger_send, values, crosses) depth 60 fits 20000

pub ruleset variables = (state_send, trigger_send, env_send)
