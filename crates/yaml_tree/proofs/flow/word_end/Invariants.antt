use Rattle.std.proofs.Common.{◌≡◌, drop, false}
use Rattle.yaml_tree.specs.Flow.{word_end}
use Rattle.yaml_tree.proofs.flow.word_end.Given as goal

abbrev pub invariant-bytes : goal.invariant-bytes
invariant-bytes l = record { at_is : l.at ≡ l.b-index; so_far : word_end l.spaced l.at (drop l.b-index l.bytes) ≡ word_end false 0 l.bytes }
