-- Pieces whose flow has 64 nodes in one another at most.
use Rattle.std.proofs.Common.{ℕ, zero, suc, ◌≤◌, List, [], ◌∷◌, arith}
use Rattle.yaml_tree.specs.declared.node.Node.{Node}
use Rattle.yaml_tree.specs.declared.piece.Piece.{Piece}
use Rattle.yaml_tree.specs.declared.piece.What.{What}
use Rattle.yaml_tree.specs.declared.piece.What.TheVariants.{Dash, Key, Leaf}
use Rattle.yaml_tree.specs.Nodes.{Pair}
use Rattle.yaml_tree.proofs.Low.{Low}
use Rattle.yaml_laws.specs.Indents as i
use Rattle.yaml_tree.specs.Grammar.{Nodes}
use Rattle.yaml_rules.specs.Notation.{AreLow, no_piece, low_dash, low_key, low_leaf}

pub low_from : {ps : List Piece} → AreLow ps → Low ps
low_from no_piece = tt
low_from (low_dash l) = (tt, low_from l)
low_from (low_key l) = (tt, low_from l)
low_from (low_leaf le l) = (le, low_from l)

pub low_to : (ps : List Piece) → Low ps → AreLow ps
low_to [] l = no_piece
low_to (p ∷ ps) l = by p.what l (low_to ps l.1)
  where
    by : (w : What) → Low (record { line = p.line; column = p.column; what = w } ∷ ps) → AreLow ps → AreLow (record { line = p.line; column = p.column; what = w } ∷ ps)
    by Dash l more = low_dash more
    by (Key k) l more = low_key more
    by (Leaf x height out) l more = low_leaf l.0 more

-- ---- blocks of the grammar

module _ (N : Nodes) (low : (line floor : ℕ) (ps : List Piece) (x : Node) (rest : List Piece) → N line floor ps x rest → Low rest → Low ps) where
  items_low : {c : ℕ} {ps rest : List Piece} {xs : List Node} → i.IsItems N c ps xs rest → Low rest → Low ps
  items_low (i.no_item o) l = l
  items_low (i.item h r) l = (tt, low _ _ _ _ _ h (items_low r l))

  value_low : {c line : ℕ} {ps rest : List Piece} {x : Node} → i.IsValue N c line ps x rest → Low rest → Low ps
  value_low (i.own_list h) l = low _ _ _ _ _ h l
  value_low (i.deeper d h) l = low _ _ _ _ _ h l

  pairs_low : {c : ℕ} {ps rest : List Piece} {xs : List Pair} → i.IsPairs N c ps xs rest → Low rest → Low ps
  pairs_low (i.no_pair o) l = l
  pairs_low (i.pair v r) l = (tt, value_low v (pairs_low r l))

  over_low : {depth line floor : ℕ} {ps rest : List Piece} {x : Node} → depth ≤ 64 → i.IsBlockOver depth N line floor ps x rest → Low rest → Low ps
  over_low le (i.absent a) l = l
  over_low le (i.one_leaf lf h) l = (omega (arith, le, h), l)
  over_low le (i.list lf r) l = items_low r l
  over_low le (i.map lf r d) l = pairs_low r l

pub block_low : (depth : ℕ) → depth ≤ 64 → (line floor : ℕ) (ps : List Piece) (x : Node) (rest : List Piece) → i.IsBlock depth line floor ps x rest → Low rest → Low ps
unfolding i.IsBlock
block_low zero le line floor ps x rest h l = absurd h
block_low (suc depth) le line floor ps x rest h l = over_low (i.IsBlock depth) (block_low depth (omega (arith, le))) le h l
