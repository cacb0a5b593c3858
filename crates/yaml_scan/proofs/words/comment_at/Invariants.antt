use Rattle.std.proofs.Common.{◌≡◌, drop, false}
use Rattle.yaml_scan.specs.Words.{comment_at}
use Rattle.yaml_scan.proofs.words.comment_at.Given as goal

abbrev pub invariant-bytes : goal.invariant-bytes
invariant-bytes l = record { at_is : l.at ≡ l.b-index; so_far : comment_at l.spaced l.at (drop l.b-index l.bytes) ≡ comment_at false 0 l.bytes }
