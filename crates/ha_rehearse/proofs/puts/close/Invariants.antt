use Rattle.std.proofs.Common.{◌≡◌, ◌-◌, ℕ, false, length}
use Rattle.ha_journal.specs.declared.entry.Entry.{Entry}
use Rattle.ha_whole.specs.Whole.{Lawful}
use Rattle.ha_rehearse.specs.Puts.{Closing}
use Rattle.ha_rehearse.proofs.puts.close.Given as goal

abbrev pub invariant-steps : goal.invariant-steps
invariant-steps g l = record {
  usable : g.C.Core.is_spent l.core ≡ false;
  lawful : Lawful (g.C.Core.entries l.core) (g.C.Core.runs l.core);
  closing : (boot : Entry) (n : ℕ) → Closing boot n (g.C.Core.entries l.initial.core) (g.C.Core.runs l.initial.core) → Closing boot n (g.C.Core.entries l.core) (g.C.Core.runs l.core);
}

abbrev pub decreases-steps : goal.decreases-steps
decreases-steps g l = 4_194_305 - length (g.C.Core.entries l.core)
