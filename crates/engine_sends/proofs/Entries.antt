-- Entries of the journal, records of runs and waits may move between threads.
use mathlib.Core.List.{[], ◌∷◌}
use denote.Builtin.{u64}
use denote.Struct.Tuple.{Tuple}
use denote.Param.Send.{IsSend, sendable}
use Rattle.std.specs.contracts.option.Option as Option
use Rattle.ha_config.specs.contracts.command.Cmd as Cmd
use Rattle.ha_sight.specs.contracts.helped.HelperChange as HelperChange
use Rattle.ha_sight.specs.contracts.item.Item as Item
use Rattle.ha_journal.specs.contracts.carry.Carry as Carry
use Rattle.ha_journal.specs.contracts.entry.Entry as Entry
use Rattle.ha_journal.specs.contracts.event.BusEvent as BusEvent
use Rattle.ha_model.specs.contracts.record.EndCause as EndCause
use Rattle.ha_model.specs.contracts.record.Record as Record
use Rattle.ha_sight.specs.contracts.waiting.WaitAsk as WaitAsk
use Rattle.ha_sight.specs.contracts.waiting.WaitEnd as WaitEnd
use Rattle.ha_model.proofs.record.EndCause.TheSendSync as cause
use Rattle.engine_sends.proofs.Envs.{variables}
use Rattle.engine_sends.proofs.Scripts.{scripts}

pub command_field : IsSend Cmd.the_field.row
command_field = search scripts depth 60 fits 20000

pub change_send : IsSend HelperChange.the_row
change_send = search scripts depth 60 fits 20000

pub item_field : IsSend Item.the_field.row
item_field = search (change_send, scripts) depth 60 fits 20000

pub carry_field : IsSend Carry.the_field.row
carry_field = search scripts depth 60 fits 20000

pub entry_field : IsSend Entry.the_field.row
entry_field = search (carry_field, command_field, item_field, scripts) depth 60 fits 20000

pub entry_send : IsSend Entry.the_row
entry_send = search (entry_field, sendable) depth 60 fits 20000

pub event_send : IsSend BusEvent.the_row
event_send = search scripts depth 60 fits 20000

pub ended_field : IsSend (Option.the_field (Tuple (u64 ∷ EndCause.the_row ∷ []))).row
ended_field = search (cause.the_send, scripts) depth 60 fits 20000

pub record_field : IsSend Record.the_field.row
record_field = search (ended_field, variables, scripts) depth 60 fits 20000

pub record_send : IsSend Record.the_row
record_send = search (record_field, sendable) depth 60 fits 20000

pub ask_field : IsSend WaitAsk.the_field.row
ask_field = search (variables, scripts) depth 60 fits 20000

pub end_field : IsSend WaitEnd.the_field.row
end_field = search scripts depth 60 fits 20000

pub end_send : IsSend WaitEnd.the_row
end_send = search (end_field, sendable) depth 60 fits 20000

pub ruleset entries = (entry_send, change_send, event_send, record_send, ask_field, end_send, variables, scripts)
