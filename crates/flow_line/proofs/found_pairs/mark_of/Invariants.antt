use Rattle.std.proofs.Common.{◌≡◌, drop}
use Rattle.flow_line.specs.Marks.{mark_from, mark_of}
use Rattle.flow_line.proofs.found_pairs.mark_of.Given as goal

abbrev pub invariant-bytes : goal.invariant-bytes
invariant-bytes l = mark_from l.mark (drop l.b-index l.key) ≡ mark_of l.key
