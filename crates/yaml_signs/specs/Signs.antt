-- What C3 stands for: a sign of what the profile leaves out, where a node or a key begins on the refused line.
use Rattle.std.specs.Prelude.{◌≡◌, ◌==◌, ℕ, Bool, true, false, List, [], ◌∷◌, ◌++◌, Ok}
use Rattle.yaml_scan.specs.declared.line.RawLine.{RawLine}
use Rattle.yaml_scan.specs.Lines.{lines, is_blank_line, is_directive, is_mark}
use Rattle.yaml_scan.specs.Words.{is_blank, trimmed, without_blanks}
use Rattle.yaml_tree.specs.declared.starts.Start.TheVariants as starts
use Rattle.yaml_tree.specs.Blocks.{IsHead}
use Rattle.yaml_tree.specs.Brackets.{IsWord}
use Rattle.yaml_tree.specs.Flow.{Machine, Ended, on, step, flow, wants_key, start as flow_start}
use Rattle.yaml_tree.specs.Keys.{IsKeyText, IsKey}
use Rattle.yaml_tree.specs.Leaves.{colon_behind}
use Rattle.yaml_tree.specs.Spelling.{IsAt, is_dash}
use Rattle.yaml_tree.specs.Starts.{start, left_out, is_merge}
use Rattle.yaml_laws.specs.Refused.{IsOneOf}

-- The second bytes are what is left of the first where a node begins, or a key too: behind blanks and dashes, or as the value of a key.
pub data Begins : Bool → List ℕ → List ℕ → Type 0 where
  here : {b : ℕ} {bytes : List ℕ} → is_blank b ≡ false → is_dash (b ∷ bytes) ≡ false → Begins true (b ∷ bytes) (b ∷ bytes)
  blank : {key : Bool} {b : ℕ} {bytes rest : List ℕ} → is_blank b ≡ true → Begins key bytes rest → Begins key (b ∷ bytes) rest
  dash : {key : Bool} {b : ℕ} {bytes rest : List ℕ} → is_dash (b ∷ bytes) ≡ true → Begins key bytes rest → Begins key (b ∷ bytes) rest
  value : {column behind at : ℕ} {bytes k after rest : List ℕ} → IsKey column bytes k behind after → IsAt behind after at rest
      → Begins false bytes rest

-- ---- flow, token by token

-- with some tokens more the first is the second
pub data Reaches : Machine → Machine → Type 0 where
  itself : {m : Machine} → Reaches m m
  token : {m next last : Machine} → step m ≡ on next → Reaches next last → Reaches m last

-- The line ends before the flow does, or a comment begins in it, or a node or key in it that is left out.
pub data IsSignInFlow (m : Machine) : Type 0 where
  not_closed : m.rest ≡ [] → IsSignInFlow m
  comment : {rest : List ℕ} → m.rest ≡ 35 ∷ rest → m.spaced ≡ true → IsSignInFlow m
  sign : {b : ℕ} {rest : List ℕ} → m.rest ≡ b ∷ rest → m.after ≡ false → left_out b rest ≡ true → IsSignInFlow m
  merge : {w rest : List ℕ} → m.after ≡ false → wants_key m.frame ≡ true → IsWord false m.rest w rest → is_merge (trimmed w) ≡ true
      → IsSignInFlow m

-- ---- nodes and keys

-- What is left out of the line n where a node begins, or a key too: an anchor, an alias, a tag, a key with `?`, or `%`, `@` or a backquote;
-- the key `<<`; more behind `|` or `>` than a `-` and a comment; flow as a key, or with such a sign in it.
pub data IsSign (n : ℕ) : Bool → List ℕ → Type 0 where
  sign : {key : Bool} {b : ℕ} {bytes : List ℕ} → left_out b bytes ≡ true → IsSign n key (b ∷ bytes)
  merge : {column behind : ℕ} {bytes k after : List ℕ} → IsKeyText column bytes k behind after → is_merge k ≡ true → IsSign n true bytes
  head : {key : Bool} {b : ℕ} {bytes : List ℕ} → start b bytes ≡ starts.InLines → ((strip : Bool) → IsHead bytes strip → ⊥)
      → IsSign n key (b ∷ bytes)
  flow_key : {b : ℕ} {bytes : List ℕ} {e : Ended} → start b bytes ≡ starts.InBrackets → flow n (b == 123) bytes ≡ Ok e
      → colon_behind (without_blanks e.rest) ≡ true → IsSign n true (b ∷ bytes)
  in_flow : {key : Bool} {b : ℕ} {bytes : List ℕ} {m : Machine} → start b bytes ≡ starts.InBrackets
      → Reaches (flow_start n (b == 123) bytes) m → IsSignInFlow m → IsSign n key (b ∷ bytes)

-- ---- lines

-- A line behind these is a directive, or a mark where one of them is not blank, or has a sign where a node begins.
pub data HasSign (before : List RawLine) (l : RawLine) : Type 0 where
  directive : is_directive l ≡ true → HasSign before l
  mark : (x : RawLine) → is_mark l ≡ true → IsOneOf before x → is_blank_line x ≡ false → HasSign before l
  node : {key : Bool} {bytes : List ℕ} → Begins key l.content bytes → IsSign l.line key bytes → HasSign before l

-- the line of the text with this number has such a sign
pub record IsLeftOut (text : List ℕ) (n : ℕ) : Type 0 where
  pub before : List RawLine
  pub l : RawLine
  pub behind : List RawLine
  pub lines_are : lines text ≡ before ++ l ∷ behind
  pub number : l.line ≡ n
  pub has_sign : HasSign before l
