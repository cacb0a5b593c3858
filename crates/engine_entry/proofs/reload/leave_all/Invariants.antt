use Rattle.std.proofs.Common.{take}
use Rattle.ha_journal.specs.Journal.{Journal}
use Rattle.engine_entry.specs.Reloaded.{Halfway, HaveLeft, Leaving}
use Rattle.engine_entry.proofs.reload.leave_all.Given as goal

abbrev pub invariant-rules : goal.invariant-rules
invariant-rules l = (j k : Journal) → Leaving j k l.new l.initial.states l.initial.before → Halfway j k l.states l.before × HaveLeft j k l.new l.before (take l.at l.rules)
