-- The grammar of plain scalars, which may go on over lines.
use Rattle.std.specs.Prelude.{◌≡◌, ◌≤◌, ◌<◌, ◌+◌, ℕ, Bool, true, false, List, [], ◌∷◌, ◌++◌}
use Rattle.yaml_scan.specs.declared.line.RawLine.{RawLine}
use Rattle.yaml_scan.specs.Words.{sees, is_empty, nothing_left, only_blanks, folded}
use Rattle.yaml_tree.specs.Leaves.{colon_behind}

-- The text of a line from here on, and whether a comment is behind it. Blanks at the end and before a comment are dropped; no
-- colon with a space or nothing behind it stands in it.
pub data IsLine : List ℕ → List ℕ → Bool → Type 0 where
  ends : {bytes : List ℕ} → only_blanks bytes ≡ true → IsLine bytes [] false
  comment : {bytes : List ℕ} → only_blanks bytes ≡ false → nothing_left false bytes ≡ true → IsLine bytes [] true
  byte : {b : ℕ} {bytes s : List ℕ} {commented : Bool} → nothing_left false (b ∷ bytes) ≡ false
      → colon_behind (b ∷ bytes) ≡ false → IsLine bytes s commented → IsLine (b ∷ bytes) (b ∷ s) commented

-- So many blank lines, and then one that goes on: it stands at this column or right of it, and is no comment. Its bytes, and the
-- lines behind it.
pub data IsNext (floor : ℕ) : List RawLine → ℕ → List ℕ → List RawLine → Type 0 where
  blank : {l : RawLine} {ls rest : List RawLine} {k : ℕ} {bytes : List ℕ}
      → is_empty l.content ≡ true → IsNext floor ls k bytes rest → IsNext floor (l ∷ ls) (k + 1) bytes rest
  here : {l : RawLine} {ls : List RawLine} → is_empty l.content ≡ false
      → sees 35 l.content ≡ false → floor ≤ l.indent → IsNext floor (l ∷ ls) 0 l.content ls

-- blank lines, and then no line, a comment, or a line left of this column, from which on the lines are not the scalar's
pub data IsOver (floor : ℕ) : List RawLine → List RawLine → Type 0 where
  none : IsOver floor [] []
  blank : {l : RawLine} {ls rest : List RawLine} → is_empty l.content ≡ true → IsOver floor ls rest → IsOver floor (l ∷ ls) rest
  comment : {l : RawLine} {ls : List RawLine} → sees 35 l.content ≡ true → IsOver floor (l ∷ ls) (l ∷ ls)
  left : {l : RawLine} {ls : List RawLine} → is_empty l.content ≡ false → l.indent < floor → IsOver floor (l ∷ ls) (l ∷ ls)

-- The scalar whose line goes on with these bytes, and the lines behind it. A comment ends it, and so do lines that are not its
-- own. A break is a space, or with blank lines in it as many line feeds.
pub data IsPlain (floor : ℕ) : List ℕ → List RawLine → List ℕ → List RawLine → Type 0 where
  commented : {bytes s : List ℕ} {ls : List RawLine} → IsLine bytes s true → IsPlain floor bytes ls s ls
  last : {bytes s : List ℕ} {ls ls' : List RawLine} → IsLine bytes s false → IsOver floor ls ls' → IsPlain floor bytes ls s ls'
  broken : {bytes s next t : List ℕ} {ls behind ls' : List RawLine} {k : ℕ} → IsLine bytes s false
      → IsNext floor ls k next behind → IsPlain floor next behind t ls' → IsPlain floor bytes ls (s ++ (folded k ++ t)) ls'
