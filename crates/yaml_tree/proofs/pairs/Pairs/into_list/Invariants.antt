use Rattle.std.proofs.Common.{◌≡◌, ◌++◌, length}
use Rattle.std.specs.Prelude.{map}
use Rattle.yaml_tree.specs.Nodes.{worded}
use Rattle.yaml_tree.proofs.pairs.Pairs.into_list.Given as goal

abbrev pub invariant-pairs : goal.invariant-pairs
invariant-pairs l = l.list ++ map worded l.rest.items ≡ map worded l.fn.self

abbrev pub decreases-pairs : goal.decreases-pairs
decreases-pairs l = length l.rest.items
