use Rattle.std.proofs.Common.{◌≡◌, ◌≤◌, drop}
use Rattle.yaml_scan.specs.Words.{text_end}
use Rattle.yaml_scan.proofs.words.text_end.Given as goal

abbrev pub invariant-bytes : goal.invariant-bytes
invariant-bytes l = record { at_is : l.at ≡ l.b-index; within : l.last ≤ l.at; so_far : text_end l.last l.at (drop l.b-index l.bytes) ≡ text_end 0 0 l.bytes }
