-- What is in the grammar is in the notation.
use Rattle.std.proofs.Common.{ℕ, zero, suc, ◌≤◌, List, [], arith}
use Rattle.yaml_tree.specs.declared.node.Node.{Node}
use Rattle.yaml_tree.specs.declared.piece.Piece.{Piece}
use Rattle.yaml_tree.specs.Grammar.{Nodes}
use Rattle.yaml_tree.specs.Nodes.{Pair}
use Rattle.yaml_tree.specs.Spelling.{IsText}
use Rattle.yaml_laws.specs.Indents as i
use Rattle.yaml_laws.proofs.Indented.{same_texts}
use Rattle.yaml_rules.specs.Notation as n
use Rattle.yaml_codes.proofs.Lows.{low_to, block_low}

module _ (N : Nodes) (to : (line floor : ℕ) (ps : List Piece) (x : Node) (rest : List Piece) → N line floor ps x rest → n.IsNode line floor ps x rest) where
  items_to : {c : ℕ} {ps rest : List Piece} {xs : List Node} → i.IsItems N c ps xs rest → n.IsItems c ps xs rest
  items_to (i.no_item o) = n.no_item o
  items_to (i.item h r) = n.item (to _ _ _ _ _ h) (items_to r)

  value_to : {c line : ℕ} {ps rest : List Piece} {x : Node} → i.IsValue N c line ps x rest → n.IsValue c line ps x rest
  value_to (i.own_list h) = n.own_list (to _ _ _ _ _ h)
  value_to (i.deeper d h) = n.deeper d (to _ _ _ _ _ h)

  pairs_to : {c : ℕ} {ps rest : List Piece} {xs : List Pair} → i.IsPairs N c ps xs rest → n.IsPairs c ps xs rest
  pairs_to (i.no_pair o) = n.no_pair o
  pairs_to (i.pair v r) = n.pair (value_to v) (pairs_to r)

  over_to : {depth line floor : ℕ} {ps rest : List Piece} {x : Node} → depth ≤ 64 → i.IsBlockOver depth N line floor ps x rest → n.IsNode line floor ps x rest
  over_to low (i.absent a) = n.absent a
  over_to low (i.one_leaf le h) = n.one_leaf le
  over_to low (i.list le r) = n.list le (items_to r)
  over_to low (i.map le r d) = n.map le (pairs_to r)

block_to : (depth : ℕ) → depth ≤ 64 → (line floor : ℕ) (ps : List Piece) (x : Node) (rest : List Piece) → i.IsBlock depth line floor ps x rest → n.IsNode line floor ps x rest
unfolding i.IsBlock
block_to zero low line floor ps x rest h = absurd h
block_to (suc depth) low line floor ps x rest h = over_to (i.IsBlock depth) (block_to depth (omega (arith, low))) low h

by_indent : (text : List ℕ) (root : Node) → i.IsTextByIndent text root → n.IsNotationText text root
by_indent text root (i.text {ps = ps} l c p t) = n.in_notation (n.spelled l c p (low_to ps (block_low 64 (omega arith) 1 0 ps root [] t tt))) (block_to 64 (omega arith) 1 0 ps root [] t)

pub grammar_in : (text : List ℕ) (root : Node) → IsText text root → n.IsNotationText text root
grammar_in text root t = by_indent text root ((same_texts text root).0 t)
