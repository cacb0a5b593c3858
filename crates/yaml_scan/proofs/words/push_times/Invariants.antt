use Rattle.std.proofs.Common.{◌≡◌, ◌++◌}
use Rattle.yaml_scan.specs.Words.{times}
use Rattle.yaml_scan.proofs.words.push_times.Given as goal

abbrev pub invariant-count : goal.invariant-count
invariant-count l = l.text.items ≡ l.fn.text.items ++ times l.i l.b
