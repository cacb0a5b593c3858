-- Texts that begin with some lines and are in the loose notation: any, or one with a line behind them that closes a quote.
use Rattle.std.specs.Prelude.{◌≡◌, ◌⊎◌, ℕ, true, false, List, [], ◌∷◌, ◌++◌, take}
use Rattle.std.specs.Str.{is_utf8}
use Rattle.yaml_scan.specs.declared.line.RawLine.{RawLine}
use Rattle.yaml_scan.specs.Lines.{lines, without_mark, without_start}
use Rattle.yaml_tree.specs.declared.node.Node.{Node}
use Rattle.yaml_tree.specs.declared.piece.Piece.{Piece}
use Rattle.yaml_tree.specs.Spelling.{IsLines}
use Rattle.yaml_laws.specs.Refused.{SameLines, IsLineOf, OpensQuote}
use Rattle.yaml_rules.specs.LooseText.{AreOrderly, IsLoosePieces}
use Rattle.yaml_rules.specs.Notation.{IsNotation, IsLooseText, EndsOn}

-- some text that has the first n lines is in the loose notation
abbrev pub GoesOnLoosely : ℕ → List ℕ → Type 0
GoesOnLoosely n text = (other : List ℕ) × (root : Node) × SameLines n text other × IsLooseText other root

-- the line of the text with this number is UTF-8
abbrev pub IsUtf8At : ℕ → List ℕ → Type 0
IsUtf8At n text = (l : RawLine) → IsLineOf text l → l.line ≡ n → is_utf8 l.content ≡ true

-- the pieces of a whole text, as `Notation.IsLooseText` has them
pub data IsLooselySpelled (text : List ℕ) (ps : List Piece) : Type 0 where
  loosely_spelled : {ls : List RawLine} → IsLines 1 (without_mark text) ls → AreOrderly false ls
      → IsLoosePieces [] (without_start ls) ps → IsLooselySpelled text ps

-- The first n lines end inside a quoted scalar, as `Notation.EndsQuoted` has it, and with one more line they are in the loose notation.
pub record EndsLoosely (n : ℕ) (text : List ℕ) : Type 0 where
  pub closed : List ℕ
  pub close : RawLine
  pub pieces : List Piece
  pub lines_are : lines closed ≡ take n (lines text) ++ close ∷ []
  pub quote : (close.content ≡ 34 ∷ []) ⊎ (close.content ≡ 39 ∷ [])
  pub root : Node
  pub is_spelled : IsLooselySpelled closed pieces
  pub in_notation : IsNotation pieces root
  pub last : EndsOn n pieces
  pub opens : OpensQuote n text
