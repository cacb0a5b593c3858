use Rattle.std.proofs.Common.{◌≡◌, take, map}
use Rattle.yaml_scan.specs.Lines.{seen}
use Rattle.yaml_scan.proofs.text.scan.Given as goal

abbrev pub invariant-lines : goal.invariant-lines
invariant-lines l = l.found ≡ map seen (take l.line-index l.line-items)
