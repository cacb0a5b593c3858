-- What a text is in terms of another that begins with its lines, and the order of faults.
use Rattle.std.specs.Prelude.{◌≡◌, ◌≤◌, ◌<◌, ◌⊎◌, ℕ, ◌+◌, List, [], ◌∷◌, ◌++◌, take, None, Err, true, false}
use Rattle.yaml_scan.specs.declared.line.RawLine.{RawLine}
use Rattle.yaml_scan.specs.declared.fault.Fault.{Fault}
use Rattle.yaml_scan.specs.declared.fault.Code.{Code}
use Rattle.yaml_scan.specs.declared.fault.Code.TheVariants.{Tab, Structure, Limit, NotUtf8}
use Rattle.yaml_scan.specs.Codes.{number_of}
use Rattle.yaml_scan.specs.Lines.{lines}
use Rattle.yaml_scan.specs.Quoted.{opened, run}
use Rattle.yaml_scan.specs.Words.{sees, is_blank}
use Rattle.std.specs.Str.{is_utf8}
use Rattle.yaml_tree.specs.declared.node.Node.{Node}
use Rattle.yaml_tree.specs.Keys.{IsKey}
use Rattle.yaml_tree.specs.Spelling.{IsText, IsAt, is_dash}
use Rattle.yaml_tree.specs.Tree.{tree}

-- f stands on a line before g, or on its line, and then its code is not greater
abbrev pub NoLater : Fault → Fault → Type 0
NoLater f g = (f.line < g.line) ⊎ ((f.line ≡ g.line) × (number_of f.code ≤ number_of g.code))

-- the lines of the other text are those of the text, and some behind them
abbrev pub GoesOn : List ℕ → List ℕ → Type 0
GoesOn text other = (more : List RawLine) × (lines other ≡ lines text ++ more)

-- the first so many lines of both texts are the same
abbrev pub SameLines : ℕ → List ℕ → List ℕ → Type 0
SameLines n text other = take n (lines text) ≡ take n (lines other)

-- a code that may go, or stand elsewhere, when lines follow: a quote that is open at the end may be closed by them, and where a null
-- at the end is one node too deep they may hold the node
abbrev pub MayMove : Code → Type 0
MayMove code = (code ≡ Structure) ⊎ (code ≡ Limit)

-- ---- what goes on from the first lines

-- some text that has these first n lines is in the grammar
abbrev pub HasTree : ℕ → List ℕ → Type 0
HasTree n text = (other : List ℕ) × (root : Node) × SameLines n text other × IsText other root

-- none is
abbrev pub IsLost : ℕ → List ℕ → Type 0
IsLost n text = (other : List ℕ) (root : Node) → SameLines n text other → IsText other root → ⊥

-- the line behind the first n is the first one with which no text of the grammar goes on
pub record IsFirstLine (text : List ℕ) (n : ℕ) : Type 0 where
  pub goes_on : HasTree n text
  pub no_more : IsLost (n + 1) text

-- on the first n lines a node is too deep: some text that has them is refused for one of these lines, with the code of a limit
abbrev pub IsTooDeep : ℕ → List ℕ → Type 0
IsTooDeep n text = (other : List ℕ) × (f : Fault) × SameLines n text other × (tree other ≡ Err f) × (f.code ≡ Limit) × (f.line ≤ n)

-- ---- lines alone

-- one of these lines
abbrev pub IsOneOf : List RawLine → RawLine → Type 0
IsOneOf [] l = ⊥
IsOneOf (x ∷ ls) l = (x ≡ l) ⊎ IsOneOf ls l

-- a line of the text
abbrev pub IsLineOf : List ℕ → RawLine → Type 0
IsLineOf text l = IsOneOf (lines text) l

-- What a line holds that is refused for itself: a tab among its leading blanks, which is the first byte behind its leading spaces, or
-- bytes that are not UTF-8.
abbrev pub IsBad : Code → RawLine → Type 0
IsBad code l = ((code ≡ Tab) × (sees 9 l.content ≡ true)) ⊎ ((code ≡ NotUtf8) × (is_utf8 l.content ≡ false))

-- ---- a quote that is open at the end of its line

-- here a quoted scalar begins that is not closed on the line n
abbrev pub IsOpen : ℕ → List ℕ → Type 0
IsOpen n [] = ⊥
IsOpen n (b ∷ bytes) = ((b ≡ 34) ⊎ (b ≡ 39)) × ((run (opened b n) bytes).1 ≡ None)

-- In these bytes of the line n such a scalar begins: behind blanks and dashes, or there as the value of a key.
pub data Opens (n : ℕ) : List ℕ → Type 0 where
  here : {bytes : List ℕ} → IsOpen n bytes → Opens n bytes
  blank : {b : ℕ} {bytes : List ℕ} → is_blank b ≡ true → Opens n bytes → Opens n (b ∷ bytes)
  dash : {b : ℕ} {bytes : List ℕ} → is_dash (b ∷ bytes) ≡ true → Opens n bytes → Opens n (b ∷ bytes)
  value : {column behind at : ℕ} {bytes k after rest : List ℕ} → IsKey column bytes k behind after → IsAt behind after at rest
      → IsOpen n rest → Opens n bytes

-- the line of the text with this number has one
abbrev pub OpensQuote : ℕ → List ℕ → Type 0
OpensQuote n text = (l : RawLine) × IsLineOf text l × (l.line ≡ n) × Opens n l.content

-- ---- texts that end within quotes

-- The first n lines end inside a quoted scalar, which begins on the last of them: with one more line, which holds the closing quote alone,
-- they are a text of the grammar.
pub record EndsInQuotes (n : ℕ) (text : List ℕ) : Type 0 where
  pub closed : List ℕ
  pub close : RawLine
  pub root : Node
  pub lines_are : lines closed ≡ take n (lines text) ++ close ∷ []
  pub quote : (close.content ≡ 34 ∷ []) ⊎ (close.content ≡ 39 ∷ [])
  pub in_grammar : IsText closed root
  pub opens : OpensQuote n text
