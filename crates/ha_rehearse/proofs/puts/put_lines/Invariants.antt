use Rattle.std.proofs.Common.{◌≡◌, true, false}
use Rattle.ha_journal.specs.declared.entry.Entry.{Entry}
use Rattle.ha_whole.specs.Whole.{is_rested}
use Rattle.rehearsal.specs.Generated.{x_at}
use Rattle.ha_rehearse.specs.Puts.{On}
use Rattle.ha_rehearse.proofs.puts.put_lines.Given as goal

abbrev pub invariant-lines : goal.invariant-lines
invariant-lines g l = record {
  usable : g.C.Core.is_spent l.core ≡ false;
  rested : is_rested (g.C.Core.runs l.core) 0 (g.C.Core.entries l.core) ≡ true;
  x_is : l.x ≡ x_at l.i;
  on : (boot : Entry) → On boot 0 (g.C.Core.entries l.initial.core) (g.C.Core.runs l.initial.core) → On boot l.i (g.C.Core.entries l.core) (g.C.Core.runs l.core);
}
