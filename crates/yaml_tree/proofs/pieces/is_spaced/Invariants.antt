use Rattle.std.proofs.Common.{◌≡◌, true, drop}
use Rattle.yaml_tree.specs.Pieces.{is_spaced}
use Rattle.yaml_tree.proofs.pieces.is_spaced.Given as goal

abbrev pub invariant-bytes : goal.invariant-bytes
invariant-bytes l = is_spaced l.spaced (drop l.b-index l.bytes) ≡ is_spaced true l.bytes
