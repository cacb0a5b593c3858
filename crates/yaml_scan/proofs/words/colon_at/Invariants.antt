use Rattle.std.proofs.Common.{◌≡◌, drop, false}
use Rattle.yaml_scan.specs.Words.{colon_at}
use Rattle.yaml_scan.proofs.words.colon_at.Given as goal

abbrev pub invariant-bytes : goal.invariant-bytes
invariant-bytes l = record { at_is : l.at ≡ l.b-index; so_far : colon_at l.spaced l.at (drop l.b-index l.bytes) ≡ colon_at false 0 l.bytes }
