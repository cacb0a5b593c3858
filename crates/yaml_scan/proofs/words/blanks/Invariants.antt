use Rattle.std.proofs.Common.{◌≡◌, drop}
use Rattle.yaml_scan.specs.Words.{without_blanks}
use Rattle.yaml_scan.proofs.words.blanks.Given as goal

abbrev pub invariant-bytes : goal.invariant-bytes
invariant-bytes l = record { at_is : l.at ≡ l.b-index; so_far : without_blanks (drop l.b-index l.bytes) ≡ without_blanks l.bytes }
