use Rattle.trig_set.proofs.BeginLemmas.{none-given}
use Rattle.trig_set.proofs.numbers.gives_none.Goals as goal

pub returns-then-is_empty : goal.returns-then-is_empty
returns-then-is_empty c h =
    none-given c.args.text.now c.bytes.result.now c.args.attributes.now c.begins_as_number.result
    (c.is_empty.ensures.0 c.if-is_empty.true) c.bytes.ensures.value c.begins_as_number.ensures h
