-- The notation of blocks: their grammar by indents (`yaml_laws`' `Indents`), where the keys of a map may stand again, and nodes may
-- stand in one another as deep as they like. `P ps x rest`: the pieces are a spelling of x, and then the rest.
use Rattle.std.specs.Prelude.{◌≡◌, ◌≤◌, ◌+◌, ◌⊎◌, ℕ, suc, Bool, false, List, [], ◌∷◌, ◌++◌, take}
use Rattle.yaml_scan.specs.declared.fault.Code.{Code}
use Rattle.yaml_scan.specs.declared.fault.Code.TheVariants.{RepeatedKey, Limit}
use Rattle.yaml_scan.specs.declared.line.RawLine.{RawLine}
use Rattle.yaml_scan.specs.Lines.{lines, without_mark, without_start}
use Rattle.yaml_tree.specs.declared.node.Node.{Node}
use Rattle.yaml_tree.specs.declared.node.NodeKind.{NodeKind}
use Rattle.yaml_tree.specs.declared.piece.Piece.{Piece}
use Rattle.yaml_tree.specs.Nodes.{Pair, null, listed, mapped}
use Rattle.yaml_tree.specs.Pieces.{dash, key, leaf}
use Rattle.yaml_tree.specs.Spelling.{IsLines, AreClean, IsPieces}
use Rattle.yaml_laws.specs.Indents.{IsLeft, IsNoDash, IsOver}
use Rattle.yaml_laws.specs.Refused.{SameLines, OpensQuote}
use Rattle.yaml_rules.specs.LooseText.{AreOrderly, IsLoosePieces}

mutual
  -- A node at this indent or deeper. Where none is, it is null, on the line of what holds it.
  pub data IsNode : ℕ → ℕ → List Piece → Node → List Piece → Type 0 where
    absent : {line floor : ℕ} {ps : List Piece} → IsLeft floor ps → IsNode line floor ps (null line) ps
    one_leaf : {line floor n indent height : ℕ} {out : Bool} {ps : List Piece} {x : Node} → floor ≤ indent
        → IsNode line floor (leaf n indent x height out ∷ ps) x ps
    list : {line floor n indent : ℕ} {ps rest : List Piece} {xs : List Node} → floor ≤ indent → IsItems indent (dash n indent ∷ ps) xs rest
        → IsNode line floor (dash n indent ∷ ps) (listed n xs) rest
    map : {line floor n indent : ℕ} {k : List ℕ} {ps rest : List Piece} {xs : List Pair} → floor ≤ indent
        → IsPairs indent (key n indent k ∷ ps) xs rest → IsNode line floor (key n indent k ∷ ps) (mapped n xs) rest

  -- dashes at the indent, each with a node deeper than it
  pub data IsItems : ℕ → List Piece → List Node → List Piece → Type 0 where
    no_item : {indent : ℕ} {ps : List Piece} → IsOver indent ps → IsItems indent ps [] ps
    item : {indent n : ℕ} {ps behind rest : List Piece} {x : Node} {xs : List Node} → IsNode n (indent + 1) ps x behind
        → IsItems indent behind xs rest → IsItems indent (dash n indent ∷ ps) (x ∷ xs) rest

  -- the value of a key on the line n: a list at the key's own indent, or a node deeper than it
  pub data IsValue : ℕ → ℕ → List Piece → Node → List Piece → Type 0 where
    own_list : {indent n m : ℕ} {ps rest : List Piece} {x : Node} → IsNode n indent (dash m indent ∷ ps) x rest
        → IsValue indent n (dash m indent ∷ ps) x rest
    deeper : {indent n : ℕ} {ps rest : List Piece} {x : Node} → IsNoDash indent ps → IsNode n (indent + 1) ps x rest
        → IsValue indent n ps x rest

  -- keys at the indent, each with its value
  pub data IsPairs : ℕ → List Piece → List Pair → List Piece → Type 0 where
    no_pair : {indent : ℕ} {ps : List Piece} → IsLeft indent ps → IsPairs indent ps [] ps
    pair : {indent n : ℕ} {k : List ℕ} {ps behind rest : List Piece} {x : Node} {xs : List Pair} → IsValue indent n ps x behind
        → IsPairs indent behind xs rest → IsPairs indent (key n indent k ∷ ps) ((k, n, x) ∷ xs) rest

-- all pieces are the tree, null on line 1 where there is nothing
abbrev pub IsNotation : List Piece → Node → Type 0
IsNotation ps root = IsNode 1 0 ps root []

-- no flow has more than 64 nodes in one another
pub data AreLow : List Piece → Type 0 where
  no_piece : AreLow []
  low_dash : {n indent : ℕ} {ps : List Piece} → AreLow ps → AreLow (dash n indent ∷ ps)
  low_key : {n indent : ℕ} {k : List ℕ} {ps : List Piece} → AreLow ps → AreLow (key n indent k ∷ ps)
  low_leaf : {n indent height : ℕ} {x : Node} {out : Bool} {ps : List Piece} → height ≤ 64 → AreLow ps
      → AreLow (leaf n indent x height out ∷ ps)

-- The pieces of a whole text, as `Spelling.IsText` has them: those of its lines, all of them clean, behind a `---` at the front.
pub data IsSpelled (text : List ℕ) (ps : List Piece) : Type 0 where
  spelled : {ls : List RawLine} → IsLines 1 (without_mark text) ls → AreClean false ls
      → IsPieces [] (without_start ls) ps → AreLow ps → IsSpelled text ps

-- what the text's pieces are in the notation, with flow as in the grammar
pub data IsNotationText (text : List ℕ) (root : Node) : Type 0 where
  in_notation : {ps : List Piece} → IsSpelled text ps → IsNotation ps root → IsNotationText text root

-- what they are with flow in which keys may stand again, as high as it likes, and whether or not they are UTF-8
pub data IsLooseText (text : List ℕ) (root : Node) : Type 0 where
  loosely : {ls : List RawLine} {ps : List Piece} → IsLines 1 (without_mark text) ls → AreOrderly false ls
      → IsLoosePieces [] (without_start ls) ps → IsNotation ps root → IsLooseText text root

-- ---- what a tree has

-- this holds of the node, or of one that stands in it
pub data Has (P : Node → Type 0) : Node → Type 0 where
  itself : {x : Node} → P x → Has P x
  in_list : {n : ℕ} (xs ys : List Node) {x : Node} → Has P x → Has P (listed n (xs ++ x ∷ ys))
  in_map : {n : ℕ} (ps qs : List Pair) (k : List ℕ) (m : ℕ) {x : Node} → Has P x → Has P (mapped n (ps ++ (k, m, x) ∷ qs))

-- a map in which a key on this line stands already before it
pub data Repeats (n : ℕ) : Node → Type 0 where
  again : {m : ℕ} (ps qs rs : List Pair) (k : List ℕ) (first : ℕ) (x y : Node)
      → Repeats n (mapped m ((ps ++ (k, first, x) ∷ qs) ++ (k, n, y) ∷ rs))

-- a node on this line that stands in so many others
pub data IsWithin (n : ℕ) : ℕ → Node → Type 0 where
  here : {kind : NodeKind} → IsWithin n 0 (record { line = n; kind = kind })
  in_list : {m depth : ℕ} (xs ys : List Node) {x : Node} → IsWithin n depth x → IsWithin n (suc depth) (listed m (xs ++ x ∷ ys))
  in_map : {m depth : ℕ} (ps qs : List Pair) (k : List ℕ) (o : ℕ) {x : Node}
      → IsWithin n depth x → IsWithin n (suc depth) (mapped m (ps ++ (k, o, x) ∷ qs))

-- ---- what the codes C4 and C12 say

-- some text that has the first n lines is in the loose notation, with such a tree
abbrev pub HasNotation : ℕ → List ℕ → (Node → Type 0) → Type 0
HasNotation n text P = (other : List ℕ) × (root : Node) × SameLines n text other × IsLooseText other root × P root

-- no text that has them is in the notation
abbrev pub IsUnspelled : ℕ → List ℕ → Type 0
IsUnspelled n text = (other : List ℕ) (root : Node) → SameLines n text other → IsNotationText other root → ⊥

-- none is in the loose notation either
abbrev pub IsNoText : ℕ → List ℕ → Type 0
IsNoText n text = (other : List ℕ) (root : Node) → SameLines n text other → IsLooseText other root → ⊥

-- a key on the line stands already in its map, or a node on it stands in 64 others
pub data Breaks (n : ℕ) : Code → Node → Type 0 where
  repeats : {root : Node} → Has (Repeats n) root → Breaks n RepeatedKey root
  too_deep : {root : Node} → IsWithin n 64 root → Breaks n Limit root

-- the last of the pieces is a leaf of the line n
abbrev pub EndsOn : ℕ → List Piece → Type 0
EndsOn n ps = (before : List Piece) × (column : ℕ) × (x : Node) × (ps ≡ before ++ leaf n column x 1 false ∷ [])

-- The first n lines end inside a quoted scalar, which begins on the last of them and is not closed on it: with one more line, which holds
-- the closing quote alone, they are in the notation, and the last of their pieces is a leaf of the line n.
pub record EndsQuoted (n : ℕ) (text : List ℕ) : Type 0 where
  pub closed : List ℕ
  pub close : RawLine
  pub pieces : List Piece
  pub lines_are : lines closed ≡ take n (lines text) ++ close ∷ []
  pub quote : (close.content ≡ 34 ∷ []) ⊎ (close.content ≡ 39 ∷ [])
  pub root : Node
  pub is_spelled : IsSpelled closed pieces
  pub in_notation : IsNotation pieces root
  pub last : EndsOn n pieces
  pub opens : OpensQuote n text
