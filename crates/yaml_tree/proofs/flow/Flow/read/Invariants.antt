use Rattle.std.proofs.Common.{suc, length}
use Rattle.yaml_tree.specs.Flow.{run}
use Rattle.yaml_tree.proofs.FlowRuns.{Continues}
use Rattle.yaml_tree.proofs.flow.Flow.read.Given as goal

abbrev pub invariant-tokens : goal.invariant-tokens
invariant-tokens l = Continues l.self (run (suc (length l.fn.self.rest)) l.fn.self)

abbrev pub decreases-tokens : goal.decreases-tokens
decreases-tokens l = length l.self.rest
