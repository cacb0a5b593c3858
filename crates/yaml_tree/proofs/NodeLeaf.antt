-- A node that is a leaf.
use Rattle.std.proofs.Common.{◌≡◌, ℕ, zero, suc, ◌<◌, List, refl, arith}
use Rattle.yaml_tree.specs.declared.layout.Begins.TheVariants as begins
use Rattle.yaml_tree.specs.declared.layout.Head.{Head}
use Rattle.yaml_tree.specs.declared.piece.Piece.{Piece}
use Rattle.yaml_tree.specs.Layout.{node, head, front, leaf}

pub node_leaf : (depth line floor : ℕ) (ps : List Piece) (h : Head) → 0 < depth → h ≡ head line floor (front ps) → h.begins ≡ begins.Leaf → node depth line floor ps ≡ leaf depth ps
unfolding node
node_leaf zero line floor ps h lt e b = absurd (omega arith)
node_leaf (suc depth) line floor ps h lt e b = rw (← e, b) refl
