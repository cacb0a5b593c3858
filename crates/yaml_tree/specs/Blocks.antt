-- The grammar of block scalars.
use Rattle.std.specs.Prelude.{◌≡◌, ◌≤◌, ◌<◌, ◌+◌, ◌-◌, ◌&&◌, ℕ, Bool, true, false, not, if◌then◌else◌, List, [], ◌∷◌, ◌++◌}
use Rattle.yaml_scan.specs.declared.line.RawLine.{RawLine}
use Rattle.yaml_scan.specs.Words.{sees, is_empty, nothing_left, times, folded}

-- what stands behind `|` or `>` on its line: perhaps a `-`, which leaves no line feed at the end, and perhaps a comment
pub data IsHead : List ℕ → Bool → Type 0 where
  clipped : {bytes : List ℕ} → nothing_left false bytes ≡ true → IsHead bytes false
  stripped : {bytes : List ℕ} → nothing_left false bytes ≡ true → IsHead (45 ∷ bytes) true

-- blank lines, and then no line, or one left of this column: there is no content
pub data IsAbsent (floor : ℕ) : List RawLine → List RawLine → Type 0 where
  none : IsAbsent floor [] []
  blank : {l : RawLine} {ls rest : List RawLine} → is_empty l.content ≡ true → IsAbsent floor ls rest → IsAbsent floor (l ∷ ls) rest
  left : {l : RawLine} {ls : List RawLine} → is_empty l.content ≡ false → l.indent < floor → IsAbsent floor (l ∷ ls) (l ∷ ls)

-- so many blank lines, and then the first line of the content, at this column or right of it, and the lines behind it
pub data IsFirst (floor : ℕ) : List RawLine → ℕ → RawLine → List RawLine → Type 0 where
  blank : {l first : RawLine} {ls rest : List RawLine} {k : ℕ} → is_empty l.content ≡ true
      → IsFirst floor ls k first rest → IsFirst floor (l ∷ ls) (k + 1) first rest
  here : {l : RawLine} {ls : List RawLine} → is_empty l.content ≡ false → floor ≤ l.indent → IsFirst floor (l ∷ ls) 0 l ls

-- The content's further lines without its indent, up to a line left of that. A line of spaces is content too, and may be empty.
pub data IsContent (indent : ℕ) : List RawLine → List (List ℕ) → List RawLine → Type 0 where
  none : IsContent indent [] [] []
  left : {l : RawLine} {ls : List RawLine} → is_empty l.content ≡ false → l.indent < indent → IsContent indent (l ∷ ls) [] (l ∷ ls)
  spaces : {l : RawLine} {ls rest : List RawLine} {xs : List (List ℕ)} → is_empty l.content ≡ true
      → IsContent indent ls xs rest → IsContent indent (l ∷ ls) (times (l.indent - indent) 32 ∷ xs) rest
  line : {l : RawLine} {ls rest : List RawLine} {xs : List (List ℕ)} → is_empty l.content ≡ false → indent ≤ l.indent
      → IsContent indent ls xs rest → IsContent indent (l ∷ ls) ((times (l.indent - indent) 32 ++ l.content) ∷ xs) rest

-- only empty lines
pub data AreEmpty : List (List ℕ) → Type 0 where
  none : AreEmpty []
  empty : {xs : List (List ℕ)} → AreEmpty xs → AreEmpty ([] ∷ xs)

-- so many empty lines, and then one that is not, and those behind it
pub data IsNext : List (List ℕ) → ℕ → List ℕ → List (List ℕ) → Type 0 where
  empty : {xs rest : List (List ℕ)} {k : ℕ} {x : List ℕ} → IsNext xs k x rest → IsNext ([] ∷ xs) (k + 1) x rest
  here : {x : List ℕ} {xs : List (List ℕ)} → is_empty x ≡ false → IsNext (x ∷ xs) 0 x xs

-- What stands between two lines with so many empty ones between them: `>` folds the break, unless one of the two begins with a
-- space.
abbrev pub between : Bool → List ℕ → List ℕ → ℕ → List ℕ
between fold x y k = if fold && not (sees 32 x) && not (sees 32 y) then folded k else times (k + 1) 10

-- The text of a line and of those behind it; empty ones at the end give nothing.
pub data IsJoined (fold : Bool) : List ℕ → List (List ℕ) → List ℕ → Type 0 where
  last : {x : List ℕ} {xs : List (List ℕ)} → AreEmpty xs → IsJoined fold x xs x
  next : {x y text : List ℕ} {xs rest : List (List ℕ)} {k : ℕ} → IsNext xs k y rest
      → IsJoined fold y rest text → IsJoined fold x xs (x ++ (between fold x y k ++ text))

abbrev pub at_end : Bool → List ℕ
at_end strip = if strip then [] else 10 ∷ []

-- The scalar behind `|`, or behind `>`, which folds, and the lines behind it. Blank lines before the content give line feeds.
pub data IsBlock (floor : ℕ) (fold : Bool) : List ℕ → List RawLine → List ℕ → List RawLine → Type 0 where
  absent : {bytes : List ℕ} {ls rest : List RawLine} {strip : Bool}
      → IsHead bytes strip → IsAbsent floor ls rest → IsBlock floor fold bytes ls [] rest
  content : {bytes text : List ℕ} {ls behind rest : List RawLine} {strip : Bool} {k : ℕ} {l : RawLine} {xs : List (List ℕ)}
      → IsHead bytes strip → IsFirst floor ls k l behind → IsContent l.indent behind xs rest
      → IsJoined fold l.content xs text → IsBlock floor fold bytes ls ((times k 10 ++ text) ++ at_end strip) rest
