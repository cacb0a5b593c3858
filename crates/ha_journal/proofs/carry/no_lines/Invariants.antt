use Rattle.std.proofs.Common.{◌≡◌, replicate}
use Rattle.ha_journal.proofs.carry.no_lines.Given as goal

abbrev pub invariant-sources : goal.invariant-sources
invariant-sources l = l.lines ≡ replicate l._at 0
