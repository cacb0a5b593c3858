use Rattle.std.proofs.Common.{◌≡◌, ◌-◌, ℕ, false, length}
use Rattle.ha_journal.specs.declared.entry.Entry.{Entry}
use Rattle.ha_whole.specs.Whole.{Running}
use Rattle.ha_rehearse.specs.Puts.{On}
use Rattle.ha_rehearse.proofs.puts.settle.Given as goal

abbrev pub invariant-steps : goal.invariant-steps
invariant-steps g l = record {
  usable : g.C.Core.is_spent l.core ≡ false;
  running : Running (g.C.Core.entries l.core) (g.C.Core.runs l.core);
  on : (boot : Entry) (n : ℕ) → On boot n (g.C.Core.entries l.initial.core) (g.C.Core.runs l.initial.core) → On boot n (g.C.Core.entries l.core) (g.C.Core.runs l.core);
}

abbrev pub decreases-steps : goal.decreases-steps
decreases-steps g l = 4_194_305 - length (g.C.Core.entries l.core)
