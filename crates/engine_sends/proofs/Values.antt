-- Values may move between threads.
-- `NAME_field` is the fact of a type as a field of another, `NAME_send` that of the type itself.
use mathlib.Core.List.{[], ◌∷◌}
use denote.Struct.Tuple.{Tuple}
use denote.Param.Send.{IsSend, sendable}
use Rattle.sqlite_items.proofs.boxed.Boxed.TheSendSync as boxed
use Rattle.ha_clock.proofs.moment.Moment.TheSendSync as moment
use Rattle.ha_clock.proofs.span.Span.TheSendSync as span
use Rattle.ha_value.specs.contracts.many.Many as Many
use Rattle.ha_value.specs.contracts.word.Word as Word
use Rattle.ha_value.specs.contracts.value.Value as Value
use Rattle.ha_value.proofs.many.Many.TheSendSync as many
use Rattle.ha_value.proofs.word.Word.TheSendSync as word
use Rattle.ha_value.proofs.value.Num.TheSendSync as number
use Rattle.ha_value.proofs.value.EntityId.TheSendSync as entity
use Rattle.ha_value.proofs.value.Value.TheLaws.TheKnot as knot

-- what is no value yet, and the lists and boxes of what may move
pub ruleset numbers = (number.the_field_send, number.the_send, moment.the_send, span.the_send)

pub ruleset simple = (boxed.the_send, many.the_send, word.the_send, entity.the_send, numbers, sendable)

pub value_field : IsSend Value.the_field.row
value_field = search (knot.send-Value, simple) depth 60 fits 20000

pub value_send : IsSend Value.the_row
value_send = search (value_field, sendable) depth 60 fits 20000

-- named values, as a state and a command have them
pub pairs_send : IsSend (Many.the_field (Tuple (Word.the_row ∷ Value.the_row ∷ []))).row
pairs_send = search (value_send, simple) depth 60 fits 20000

pub ruleset values = (value_field, value_send, pairs_send, simple)
