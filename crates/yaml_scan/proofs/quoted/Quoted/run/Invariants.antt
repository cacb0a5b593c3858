use Rattle.std.proofs.Common.{◌≡◌, drop}
use Rattle.yaml_scan.specs.Quoted.{run}
use Rattle.yaml_scan.proofs.quoted.Quoted.run.Given as goal

abbrev pub invariant-bytes : goal.invariant-bytes
invariant-bytes l = record { at_is : l.at ≡ l.b-index; so_far : run l.self (drop l.b-index l.bytes) ≡ run l.fn.self l.bytes }
