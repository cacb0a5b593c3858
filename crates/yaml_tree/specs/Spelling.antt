-- The grammar of lines, and of the pieces that stand on them. In each rule a text, or what is left of one, is a spelling of
-- something, and then a rest follows. `Plains`, `Quotes` and `Blocks` have scalars, `Keys` has keys, and `Brackets` flow.
use Rattle.std.specs.Prelude.{◌≡◌, ℕ, ◌+◌, Bool, true, false, not, ◌||◌, ◌&&◌, ◌==◌, List, [], ◌∷◌, ◌++◌, Result, Ok, Err}
use Rattle.std.specs.Str.{is_utf8}
use Rattle.yaml_scan.specs.declared.line.RawLine.{RawLine}
use Rattle.yaml_scan.specs.declared.fault.YamlFault.{YamlFault}
use Rattle.yaml_scan.specs.declared.fault.YamlFault.TheVariants as faults
use Rattle.yaml_scan.specs.Lines.{line_of, without_cr, without_mark, without_start, is_blank_line, is_mark, is_directive}
use Rattle.yaml_scan.specs.Words.{sees, is_blank, nothing_left, breaks}
use Rattle.yaml_tree.specs.declared.node.Node.{Node}
use Rattle.yaml_tree.specs.declared.piece.Piece.{Piece}
use Rattle.yaml_tree.specs.declared.starts.Start.TheVariants as starts
use Rattle.yaml_tree.specs.Nodes.{scalar_node}
use Rattle.yaml_tree.specs.Starts.{start}
use Rattle.yaml_tree.specs.Blocks.{IsBlock}
use Rattle.yaml_tree.specs.Brackets.{IsFlow}
use Rattle.yaml_tree.specs.Keys.{IsKey}
use Rattle.yaml_tree.specs.Plains.{IsPlain}
use Rattle.yaml_tree.specs.Quotes.{IsQuoted}
use Rattle.yaml_tree.specs.Pieces.{dash as dash_piece, key as key_piece, leaf as leaf_piece, floor}
use Rattle.yaml_tree.specs.Grammar.{IsTree}

-- ---- lines

-- no line ends within these bytes
pub data IsUnbroken : List ℕ → Type 0 where
  none : IsUnbroken []
  byte : {b : ℕ} {bytes : List ℕ} → (b == 10) ≡ false → IsUnbroken bytes → IsUnbroken (b ∷ bytes)

-- The text's lines from this number on. Each ends by an LF, perhaps with a CR before it; the last one may end with the text.
pub data IsLines : ℕ → List ℕ → List RawLine → Type 0 where
  none : {n : ℕ} → IsLines n [] []
  last : {n b : ℕ} {bytes : List ℕ} → IsUnbroken (b ∷ bytes) → IsLines n (b ∷ bytes) (line_of n (b ∷ bytes) ∷ [])
  line : {n : ℕ} {bytes rest : List ℕ} {ls : List RawLine} → IsUnbroken bytes
      → IsLines (n + 1) rest ls → IsLines n (bytes ++ 10 ∷ rest) (line_of n (without_cr bytes) ∷ ls)

-- Each line is UTF-8, has no tab among its leading blanks and is no directive. Behind the first one that is not blank none is a mark.
pub data AreClean : Bool → List RawLine → Type 0 where
  none : {begun : Bool} → AreClean begun []
  line : {begun : Bool} {l : RawLine} {ls : List RawLine}
      → sees 9 l.content ≡ false → is_directive l ≡ false → (begun && is_mark l) ≡ false → is_utf8 l.content ≡ true
      → AreClean (begun || not (is_blank_line l)) ls → AreClean begun (l ∷ ls)

-- ---- what stands on a line

-- blanks, and then something else, whose column it is
pub data IsAt : ℕ → List ℕ → ℕ → List ℕ → Type 0 where
  here : {column b : ℕ} {bytes : List ℕ} → is_blank b ≡ false → IsAt column (b ∷ bytes) column (b ∷ bytes)
  blank : {column at b : ℕ} {bytes rest : List ℕ} → is_blank b ≡ true → IsAt (column + 1) bytes at rest → IsAt column (b ∷ bytes) at rest

-- A dash is followed by a space, or by nothing.
abbrev pub is_dash : List ℕ → Bool
is_dash [] = false
is_dash (b ∷ bytes) = b == 45 && breaks bytes

-- A scalar or flow of the line n that begins here, how many nodes stand in one another in it, and the lines behind it. Further
-- lines of a scalar stand at the column right or beyond.
pub data IsLeaf (right n : ℕ) : List ℕ → List RawLine → Node → ℕ → List RawLine → Type 0 where
  in_quotes : {b : ℕ} {bytes s : List ℕ} {ls ls' : List RawLine} → start b bytes ≡ starts.InQuotes
      → IsQuoted right b bytes ls s ls' → IsLeaf right n (b ∷ bytes) ls (scalar_node n s false) 1 ls'
  in_lines : {b : ℕ} {bytes s : List ℕ} {ls ls' : List RawLine} → start b bytes ≡ starts.InLines
      → IsBlock right (b == 62) bytes ls s ls' → IsLeaf right n (b ∷ bytes) ls (scalar_node n s false) 1 ls'
  is_plain : {b : ℕ} {bytes s : List ℕ} {ls ls' : List RawLine} → start b bytes ≡ starts.Plain
      → IsPlain right (b ∷ bytes) ls s ls' → IsLeaf right n (b ∷ bytes) ls (scalar_node n s true) 1 ls'
  in_brackets : {b height : ℕ} {bytes rest : List ℕ} {x : Node} {ls : List RawLine}
      → start b bytes ≡ starts.InBrackets → IsFlow n (b ∷ bytes) x height rest
      → nothing_left false rest ≡ true → IsLeaf right n (b ∷ bytes) ls x height ls

-- The pieces of what is left of the line n from this column on, and the lines behind them: dashes, and then perhaps a key or a
-- leaf, or both. Whether a space stands before; further lines of a leaf stand right of the last piece.
pub data IsHeads (n : ℕ) : ℕ → Bool → ℕ → List ℕ → List RawLine → List Piece → List RawLine → Type 0 where
  nothing : {right column : ℕ} {spaced : Bool} {bytes : List ℕ} {ls : List RawLine}
      → nothing_left spaced bytes ≡ true → IsHeads n right spaced column bytes ls [] ls
  dash : {right column at b : ℕ} {spaced : Bool} {bytes rest : List ℕ} {ls ls' : List RawLine} {ps : List Piece}
      → IsAt column bytes at (b ∷ rest) → is_dash (b ∷ rest) ≡ true
      → IsHeads n (at + 1) false (at + 1) rest ls ps ls' → IsHeads n right spaced column bytes ls (dash_piece n at ∷ ps) ls'
  leaf : {right column at height : ℕ} {spaced : Bool} {bytes rest : List ℕ} {x : Node} {ls ls' : List RawLine}
      → IsAt column bytes at rest → is_dash rest ≡ false → IsLeaf right n rest ls x height ls'
      → IsHeads n right spaced column bytes ls (leaf_piece n at x height false ∷ []) ls'
  key : {right column at behind : ℕ} {spaced : Bool} {bytes rest k after : List ℕ} {ls : List RawLine}
      → IsAt column bytes at rest → is_dash rest ≡ false → IsKey at rest k behind after
      → nothing_left false after ≡ true → IsHeads n right spaced column bytes ls (key_piece n at k ∷ []) ls
  key_value : {right column at behind value height : ℕ} {spaced : Bool} {bytes rest k after bytes' : List ℕ}
      {x : Node} {ls ls' : List RawLine}
      → IsAt column bytes at rest → is_dash rest ≡ false → IsKey at rest k behind after
      → IsAt behind after value bytes' → IsLeaf (at + 1) n bytes' ls x height ls'
      → IsHeads n right spaced column bytes ls (key_piece n at k ∷ leaf_piece n value x height false ∷ []) ls'

-- all lines and their pieces, behind those that were found
pub data IsPieces : List Piece → List RawLine → List Piece → Type 0 where
  none : {found : List Piece} → IsPieces found [] found
  line : {found ps all : List Piece} {l : RawLine} {ls ls' : List RawLine}
      → IsHeads l.line (floor found) true l.indent l.content ls ps ls' → IsPieces (found ++ ps) ls' all → IsPieces found (l ∷ ls) all

-- ---- the whole text

-- The lines behind a byte order mark, all of them clean, the pieces of those behind a `---` at the front, and their tree.
pub data IsText (text : List ℕ) (root : Node) : Type 0 where
  text : {ls : List RawLine} {ps : List Piece} → IsLines 1 (without_mark text) ls
      → AreClean false ls → IsPieces [] (without_start ls) ps → IsTree ps root → IsText text root

-- this tree is the answer, unless memory ran out
abbrev pub IsRead : Result Node YamlFault → Node → Type 0
IsRead (Ok x) root = x ≡ root
IsRead (Err (faults.Bad n code)) root = ⊥
IsRead (Err faults.Memory) root = Unit {0}
