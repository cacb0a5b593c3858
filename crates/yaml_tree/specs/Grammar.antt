-- The grammar of blocks, on pieces. `P ps x rest`: the pieces are a spelling of x, and then the rest.
use Rattle.std.specs.Prelude.{◌≡◌, ◌≤◌, ◌<◌, ◌+◌, ℕ, zero, suc, Bool, false, List, [], ◌∷◌, ◌++◌}
use Rattle.yaml_tree.specs.declared.node.Node.{Node}
use Rattle.yaml_tree.specs.declared.piece.Piece.{Piece}
use Rattle.yaml_tree.specs.declared.piece.What.TheVariants.{Dash, Key, Leaf}
use Rattle.yaml_tree.specs.Nodes.{Pair, null, listed, mapped, has_key}
use Rattle.yaml_tree.specs.Layout.{front, is_dash, value_floor}

-- the line of the holder, and the column that a node stands at or right of
abbrev pub Nodes : Type 1
Nodes = ℕ → ℕ → List Piece → Node → List Piece → Type 0

-- a block has no more pieces: none comes, or one left of it
pub data IsLeft (column : ℕ) : List Piece → Type 0 where
  none : IsLeft column []
  before : {p : Piece} {ps : List Piece} → p.column < column → IsLeft column (p ∷ ps)

-- A list ends too where no dash stands at its column.
pub data ListEnds (column : ℕ) : List Piece → Type 0 where
  left : {ps : List Piece} → IsLeft column ps → ListEnds column ps
  other : {p : Piece} {ps : List Piece} → p.column ≡ column → is_dash p.what ≡ false → ListEnds column (p ∷ ps)

-- items, as long as the block goes on
pub data IsRows {A : Type 0} (Ends : List Piece → Type 0) (Item : List A → List Piece → A → List Piece → Type 0) : List A
    → List Piece → List A → List Piece → Type 0 where
  ends : {found : List A} {ps : List Piece} → Ends ps → IsRows Ends Item found ps found ps
  more : {found all : List A} {x : A} {ps behind rest : List Piece} → Item found ps x behind
      → IsRows Ends Item (found ++ x ∷ []) behind all rest → IsRows Ends Item found ps all rest

-- a dash, and a node right of it
pub data IsItem (Node' : Nodes) (column : ℕ) : List Node → List Piece → Node → List Piece → Type 0 where
  item : {found : List Node} {p : Piece} {ps rest : List Piece} {x : Node} → p.column ≡ column
      → p.what ≡ Dash → Node' p.line (p.column + 1) ps x rest → IsItem Node' column found (p ∷ ps) x rest

-- a key that is not among those that were found, and a node right of it, or a list at its own column
pub data IsPair (Node' : Nodes) (column : ℕ) : List Pair → List Piece → Pair → List Piece → Type 0 where
  pair : {found : List Pair} {p : Piece} {k : List ℕ} {ps rest : List Piece} {x : Node}
      → p.column ≡ column → p.what ≡ Key k → has_key found k ≡ false
      → Node' p.line (value_floor p.column (front ps)) ps x rest → IsPair Node' column found (p ∷ ps) (k, p.line, x) rest

-- a node whose inner nodes are of a kind, and in which at most so many stand in one another
pub data IsNodeOver (depth : ℕ) (Inner : Nodes) (line floor : ℕ) : List Piece → Node → List Piece → Type 0 where
  absent : {ps : List Piece} → IsLeft floor ps → IsNodeOver depth Inner line floor ps (null line) ps
  leaf : {p : Piece} {ps : List Piece} {x : Node} {height : ℕ} {out : Bool} → floor ≤ p.column
      → p.what ≡ Leaf x height out → height ≤ depth → IsNodeOver depth Inner line floor (p ∷ ps) x ps
  list : {p : Piece} {ps rest : List Piece} {items : List Node}
      → floor ≤ p.column → p.what ≡ Dash → IsRows (ListEnds p.column) (IsItem Inner p.column) [] (p ∷ ps) items rest
      → IsNodeOver depth Inner line floor (p ∷ ps) (listed p.line items) rest
  map : {p : Piece} {k : List ℕ} {ps rest : List Piece} {pairs : List Pair}
      → floor ≤ p.column → p.what ≡ Key k → IsRows (IsLeft p.column) (IsPair Inner p.column) [] (p ∷ ps) pairs rest
      → IsNodeOver depth Inner line floor (p ∷ ps) (mapped p.line pairs) rest

unfoldable pub IsNode : ℕ → Nodes
IsNode zero = λ line floor ps x rest. ⊥
IsNode (suc depth) = IsNodeOver (suc depth) (IsNode depth)

-- all pieces are the tree: 64 nodes in one another at most, the root at any column, null on line 1 where there is nothing
abbrev pub IsTree : List Piece → Node → Type 0
IsTree ps root = IsNode 64 1 0 ps root []
