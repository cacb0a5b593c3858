use Rattle.std.proofs.Common.{◌∙◌}
use Rattle.std.specs.Prelude.{not, ◌&&◌}
use Rattle.event_bus.specs.Subjects.{by_read, knows}
use Rattle.wait_set.proofs.readers.unlist.Goals as goal

pub returns-clause-own : goal.returns-clause-own
returns-clause-own c s = c.take_read.ensures.own s ∙ (λ i. not (by_read (c.as_ref.ensures.value i) s) && knows c.args.index.now s c.args.owner)
