use Rattle.std.proofs.Common.{◌≡◌, drop}
use Rattle.yaml_scan.specs.Words.{nothing_left}
use Rattle.yaml_scan.proofs.words.nothing_left.Given as goal

abbrev pub invariant-bytes : goal.invariant-bytes
invariant-bytes l = nothing_left l.spaced (drop l.b-index l.bytes) ≡ nothing_left l.before l.bytes
