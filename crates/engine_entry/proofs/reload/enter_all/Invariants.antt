use Rattle.std.proofs.Common.{take}
use Rattle.ha_value.specs.declared.value.EntityId.{EntityId}
use Rattle.ha_journal.specs.Journal.{Journal}
use Rattle.engine_entry.specs.Reloaded.{Entering, Halfway, HaveEntered, IsSettled}
use Rattle.engine_entry.proofs.reload.enter_all.Given as goal

abbrev pub invariant-rules : goal.invariant-rules
invariant-rules l = (j k : Journal) → Entering j k l.old l.had l.was l.rules l.numbers l.switches l.now → Halfway j k l.initial.states l.initial.before
    → Halfway j k l.states l.before × HaveEntered j k l.before (take l.at l.rules) × ((e : EntityId) → IsSettled j k l.initial.before e → IsSettled j k l.before e)
