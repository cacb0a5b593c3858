-- The grammar of lines and of the pieces on them (`yaml_tree`'s `Spelling`), with flow as in `LooseFlow`, and whether or not a line is
-- UTF-8. What a piece says of the height of its flow does not matter.
use Rattle.std.specs.Prelude.{◌≡◌, ℕ, ◌+◌, Bool, true, false, not, ◌||◌, ◌&&◌, List, [], ◌∷◌, ◌++◌}
use Rattle.yaml_scan.specs.declared.line.RawLine.{RawLine}
use Rattle.yaml_scan.specs.Lines.{is_blank_line, is_mark, is_directive}
use Rattle.yaml_scan.specs.Words.{sees, nothing_left}
use Rattle.yaml_tree.specs.declared.node.Node.{Node}
use Rattle.yaml_tree.specs.declared.piece.Piece.{Piece}
use Rattle.yaml_tree.specs.declared.starts.Start.TheVariants as starts
use Rattle.yaml_tree.specs.Starts.{start}
use Rattle.yaml_tree.specs.Keys.{IsKey}
use Rattle.yaml_tree.specs.Pieces.{dash as dash_piece, key as key_piece, leaf as leaf_piece, floor}
use Rattle.yaml_tree.specs.Spelling.{IsAt, is_dash, IsLeaf}
use Rattle.yaml_rules.specs.LooseFlow.{IsFlow}

-- No line has a tab among its leading blanks or is a directive. Behind the first one that is not blank none is a mark.
pub data AreOrderly : Bool → List RawLine → Type 0 where
  none : {begun : Bool} → AreOrderly begun []
  line : {begun : Bool} {l : RawLine} {ls : List RawLine} → sees 9 l.content ≡ false → is_directive l ≡ false
      → (begun && is_mark l) ≡ false → AreOrderly (begun || not (is_blank_line l)) ls → AreOrderly begun (l ∷ ls)

-- a scalar or flow of the line n that begins here, and the lines behind it
pub data IsLooseLeaf (right n : ℕ) : List ℕ → List RawLine → Node → List RawLine → Type 0 where
  of_grammar : {height : ℕ} {bytes : List ℕ} {x : Node} {ls ls' : List RawLine} → IsLeaf right n bytes ls x height ls' → IsLooseLeaf right n bytes ls x ls'
  in_brackets : {b height : ℕ} {bytes rest : List ℕ} {x : Node} {ls : List RawLine} → start b bytes ≡ starts.InBrackets
      → IsFlow n (b ∷ bytes) x height rest → nothing_left false rest ≡ true → IsLooseLeaf right n (b ∷ bytes) ls x ls

-- the pieces of what is left of the line n from this column on, and the lines behind them
pub data IsLooseHeads (n : ℕ) : ℕ → Bool → ℕ → List ℕ → List RawLine → List Piece → List RawLine → Type 0 where
  nothing : {right column : ℕ} {spaced : Bool} {bytes : List ℕ} {ls : List RawLine}
      → nothing_left spaced bytes ≡ true → IsLooseHeads n right spaced column bytes ls [] ls
  dash : {right column at b : ℕ} {spaced : Bool} {bytes rest : List ℕ} {ls ls' : List RawLine} {ps : List Piece}
      → IsAt column bytes at (b ∷ rest) → is_dash (b ∷ rest) ≡ true
      → IsLooseHeads n (at + 1) false (at + 1) rest ls ps ls' → IsLooseHeads n right spaced column bytes ls (dash_piece n at ∷ ps) ls'
  leaf : {right column at height : ℕ} {spaced : Bool} {bytes rest : List ℕ} {x : Node} {ls ls' : List RawLine}
      → IsAt column bytes at rest → is_dash rest ≡ false → IsLooseLeaf right n rest ls x ls'
      → IsLooseHeads n right spaced column bytes ls (leaf_piece n at x height false ∷ []) ls'
  key : {right column at behind : ℕ} {spaced : Bool} {bytes rest k after : List ℕ} {ls : List RawLine}
      → IsAt column bytes at rest → is_dash rest ≡ false → IsKey at rest k behind after
      → nothing_left false after ≡ true → IsLooseHeads n right spaced column bytes ls (key_piece n at k ∷ []) ls
  key_value : {right column at behind value height : ℕ} {spaced : Bool} {bytes rest k after bytes' : List ℕ}
      {x : Node} {ls ls' : List RawLine}
      → IsAt column bytes at rest → is_dash rest ≡ false → IsKey at rest k behind after
      → IsAt behind after value bytes' → IsLooseLeaf (at + 1) n bytes' ls x ls'
      → IsLooseHeads n right spaced column bytes ls (key_piece n at k ∷ leaf_piece n value x height false ∷ []) ls'

-- all lines and their pieces, behind those that were found
pub data IsLoosePieces : List Piece → List RawLine → List Piece → Type 0 where
  none : {found : List Piece} → IsLoosePieces found [] found
  line : {found ps all : List Piece} {l : RawLine} {ls ls' : List RawLine}
      → IsLooseHeads l.line (floor found) true l.indent l.content ls ps ls' → IsLoosePieces (found ++ ps) ls' all → IsLoosePieces found (l ∷ ls) all
