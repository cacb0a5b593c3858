use Rattle.std.proofs.Common.{◌≡◌, drop}
use Rattle.yaml_scan.specs.Words.{only_blanks}
use Rattle.yaml_scan.proofs.words.only_blanks.Given as goal

abbrev pub invariant-bytes : goal.invariant-bytes
invariant-bytes l = only_blanks (drop l.b-index l.bytes) ≡ only_blanks l.bytes
