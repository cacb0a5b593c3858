-- The grammar of blocks once more, as the profile says it: by the indent of what holds a node, which is the column of the dash or key
-- before it. `P ps x rest`: the pieces are a spelling of x, and then the rest. The keys of a map are distinct.
use Rattle.std.specs.Prelude.{◌≡◌, ◌≢◌, ◌≤◌, ◌<◌, ◌+◌, ℕ, zero, suc, Bool, false, List, [], ◌∷◌}
use Rattle.yaml_tree.specs.declared.node.Node.{Node}
use Rattle.yaml_tree.specs.declared.piece.Piece.{Piece}
use Rattle.yaml_tree.specs.declared.piece.What.TheVariants.{Dash}
use Rattle.yaml_tree.specs.Nodes.{Pair, null, listed, mapped}
use Rattle.yaml_tree.specs.Pieces.{dash, key, leaf}
use Rattle.yaml_tree.specs.Grammar.{Nodes}
use Rattle.yaml_tree.specs.Spelling.{IsLines, AreClean, IsPieces}
use Rattle.yaml_scan.specs.Lines.{without_mark, without_start}
use Rattle.yaml_scan.specs.declared.line.RawLine.{RawLine}

-- nothing stands here that is deeper than the indent, or at it
pub data IsLeft (indent : ℕ) : List Piece → Type 0 where
  no_piece : IsLeft indent []
  lower : {p : Piece} {ps : List Piece} → p.column < indent → IsLeft indent (p ∷ ps)

-- what follows is no dash at the indent
pub data IsNoDash (indent : ℕ) : List Piece → Type 0 where
  nothing : IsNoDash indent []
  elsewhere : {p : Piece} {ps : List Piece} → p.column ≢ indent → IsNoDash indent (p ∷ ps)
  other : {p : Piece} {ps : List Piece} → p.what ≢ Dash → IsNoDash indent (p ∷ ps)

-- what follows is no part of a list at the indent: it stands left of it, or at it with no dash
pub data IsOver (indent : ℕ) : List Piece → Type 0 where
  nothing : IsOver indent []
  lower : {p : Piece} {ps : List Piece} → p.column < indent → IsOver indent (p ∷ ps)
  other : {p : Piece} {ps : List Piece} → p.column ≡ indent → p.what ≢ Dash → IsOver indent (p ∷ ps)

-- dashes at the indent, each with a node deeper than it
pub data IsItems (Inner : Nodes) (indent : ℕ) : List Piece → List Node → List Piece → Type 0 where
  no_item : {ps : List Piece} → IsOver indent ps → IsItems Inner indent ps [] ps
  item : {n : ℕ} {ps behind rest : List Piece} {x : Node} {xs : List Node} → Inner n (indent + 1) ps x behind
      → IsItems Inner indent behind xs rest → IsItems Inner indent (dash n indent ∷ ps) (x ∷ xs) rest

-- the value of a key on the line n: a list at the key's own indent, or a node deeper than it
pub data IsValue (Inner : Nodes) (indent n : ℕ) : List Piece → Node → List Piece → Type 0 where
  own_list : {m : ℕ} {ps rest : List Piece} {x : Node} → Inner n indent (dash m indent ∷ ps) x rest → IsValue Inner indent n (dash m indent ∷ ps) x rest
  deeper : {ps rest : List Piece} {x : Node} → IsNoDash indent ps → Inner n (indent + 1) ps x rest → IsValue Inner indent n ps x rest

-- keys at the indent, each with its value
pub data IsPairs (Inner : Nodes) (indent : ℕ) : List Piece → List Pair → List Piece → Type 0 where
  no_pair : {ps : List Piece} → IsLeft indent ps → IsPairs Inner indent ps [] ps
  pair : {n : ℕ} {k : List ℕ} {ps behind rest : List Piece} {x : Node} {xs : List Pair} → IsValue Inner indent n ps x behind
      → IsPairs Inner indent behind xs rest → IsPairs Inner indent (key n indent k ∷ ps) ((k, n, x) ∷ xs) rest

-- no pair has this key
abbrev pub IsNew : List ℕ → List Pair → Type 0
IsNew k [] = Unit {0}
IsNew k (p ∷ ps) = (p.0 ≢ k) × IsNew k ps

abbrev pub AreDistinct : List Pair → Type 0
AreDistinct [] = Unit {0}
AreDistinct (p ∷ ps) = IsNew p.0 ps × AreDistinct ps

-- A node at this indent or deeper, whose inner nodes are of a kind, and in which at most so many stand in one another. Where none is,
-- it is null, on the line of what holds it.
pub data IsBlockOver (depth : ℕ) (Inner : Nodes) (line floor : ℕ) : List Piece → Node → List Piece → Type 0 where
  absent : {ps : List Piece} → IsLeft floor ps → IsBlockOver depth Inner line floor ps (null line) ps
  one_leaf : {n indent height : ℕ} {out : Bool} {ps : List Piece} {x : Node} → floor ≤ indent → height ≤ depth
      → IsBlockOver depth Inner line floor (leaf n indent x height out ∷ ps) x ps
  list : {n indent : ℕ} {ps rest : List Piece} {xs : List Node} → floor ≤ indent → IsItems Inner indent (dash n indent ∷ ps) xs rest
      → IsBlockOver depth Inner line floor (dash n indent ∷ ps) (listed n xs) rest
  map : {n indent : ℕ} {k : List ℕ} {ps rest : List Piece} {xs : List Pair} → floor ≤ indent
      → IsPairs Inner indent (key n indent k ∷ ps) xs rest → AreDistinct xs
      → IsBlockOver depth Inner line floor (key n indent k ∷ ps) (mapped n xs) rest

unfoldable pub IsBlock : ℕ → Nodes
IsBlock zero = λ line floor ps x rest. ⊥
IsBlock (suc depth) = IsBlockOver (suc depth) (IsBlock depth)

-- all pieces are the tree: 64 nodes in one another at most, null on line 1 where there is nothing
abbrev pub IsRoot : List Piece → Node → Type 0
IsRoot ps root = IsBlock 64 1 0 ps root []

-- The whole text, as `Spelling.IsText` has it: its lines, all of them clean, the pieces of those behind a `---` at the front, and
-- their tree by this grammar.
pub data IsTextByIndent (text : List ℕ) (root : Node) : Type 0 where
  text : {ls : List RawLine} {ps : List Piece} → IsLines 1 (without_mark text) ls
      → AreClean false ls → IsPieces [] (without_start ls) ps → IsRoot ps root → IsTextByIndent text root
