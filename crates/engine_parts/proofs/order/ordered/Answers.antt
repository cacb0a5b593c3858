use Rattle.std.proofs.Common.{length, subst, sym, take}
use Rattle.ha_journal.specs.Journal.{automations}
use Rattle.engine_parts.specs.Sorted.{AreSorted}
use Rattle.engine_parts.proofs.SortedLemmas.{none-ordered}
use Rattle.engine_parts.proofs.order.ordered.Goals as goal

pub as_configured-requires : goal.as_configured-requires
as_configured-requires c = subst (AreSorted 0) (sym c.as_slice.ensures) c.requires.sorted

pub returns-then-is_empty : goal.returns-then-is_empty
returns-then-is_empty c = none-ordered c.args.ascending (take (length (automations c.args.journal.now)) c.args.numbers.now) c.args.fired (c.is_empty.ensures.0 c.if-is_empty.true)
