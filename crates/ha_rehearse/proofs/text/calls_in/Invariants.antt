use Rattle.std.proofs.Common.{◌≡◌, ◌≤◌, count_by, take}
use Rattle.ha_rehearse.specs.Counts.{calls}
use Rattle.ha_rehearse.proofs.text.calls_in.Given as goal

abbrev pub invariant-entries : goal.invariant-entries
invariant-entries l = record {
  counted : l.count ≡ count_by calls (take l.entry-index l.journal);
  few : l.count ≤ l.entry-index;
}
