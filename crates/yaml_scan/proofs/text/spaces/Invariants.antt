use Rattle.std.proofs.Common.{◌≡◌, ◌+◌, drop}
use Rattle.yaml_scan.specs.Lines.{spaces}
use Rattle.yaml_scan.proofs.text.spaces.Given as goal

abbrev pub invariant-raw : goal.invariant-raw
invariant-raw l = record { count_is : l.count ≡ l.b-index; so_far : l.count + spaces (drop l.b-index l.raw) ≡ spaces l.raw }
