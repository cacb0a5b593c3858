-- The lines of a stream. A line ends by LF, and one CR before it is dropped; what follows the last LF is a line too. A line of
-- only spaces and tabs is no line. Of a longer line 65,537 bytes are kept.
use Rattle.std.specs.Prelude.{◌≡◌, ℕ, Bool, false, not, ◌==◌, if◌then◌else◌, List, [], ◌∷◌}
use Rattle.std.specs.Prelude.{◌++◌, take, drop, length, ◌≤◌, ◌<◌, Option, Some, None}
use Rattle.std.specs.Global.{Vec}
use Rattle.std.specs.List.{list_all}
pub use Rattle.ha_value.specs.Lists.{without_cr}
pub use Rattle.ha_value.specs.Truth.{is_blank}

-- how many bytes of a line are kept: one more than a line may have
unfoldable pub longest : ℕ
longest = 65_537

-- what is kept of a line, where it is one
unfoldable pub counted : List ℕ → List (List ℕ)
counted line = if list_all is_blank line then [] else take longest line ∷ []

-- a line that may be missing
abbrev pub kept_of : Option (Vec ℕ) → List (List ℕ)
kept_of None = []
kept_of (Some line) = line.items ∷ []

-- the lines that an LF ends, of a text behind the front of its first line
unfoldable pub whole_from : List ℕ → List ℕ → List (List ℕ)
whole_from line [] = []
whole_from line (b ∷ text) = if b == 10 then counted (without_cr line) ++ whole_from [] text else whole_from (line ++ b ∷ []) text

abbrev pub whole_lines : List ℕ → List (List ℕ)
whole_lines text = whole_from [] text

-- all lines
unfoldable pub lines_from : List ℕ → List ℕ → List (List ℕ)
lines_from line [] = counted line
lines_from line (b ∷ text) = if b == 10 then counted (without_cr line) ++ lines_from [] text else lines_from (line ++ b ∷ []) text

abbrev pub lines_of : List ℕ → List (List ℕ)
lines_of text = lines_from [] text

-- the two have the same lines, whatever follows
abbrev pub SameLines : List ℕ → List ℕ → Type 0
SameLines a b = (more : List ℕ) → lines_of (a ++ more) ≡ lines_of (b ++ more)

-- a line was taken: it is the first one, whatever follows, and the first of those that an LF ends
pub record IsTaken (old : List ℕ) (line : List ℕ) (new : List ℕ) : Type 0 where
  pub first : (more : List ℕ) → lines_of (old ++ more) ≡ line ∷ lines_of (new ++ more)
  pub whole : whole_lines old ≡ line ∷ whole_lines new

-- there was no whole line, and what is left has the same lines
pub record IsNone (old new : List ℕ) : Type 0 where
  pub none : whole_lines old ≡ []
  pub still : whole_lines new ≡ []
  pub same : SameLines new old

-- no LF is in it
abbrev pub NoBreak : List ℕ → Type 0
NoBreak [] = Unit {0}
NoBreak (b ∷ line) = ((b == 10) ≡ false) × NoBreak line

-- the same as a test
abbrev pub is_open : List ℕ → Bool
is_open line = list_all (λ b. not (b == 10)) line

-- a text begins with so many bytes that an LF ends, and this is kept of them
pub record IsFront (text : List ℕ) (kept : List (List ℕ)) (long : ℕ) : Type 0 where
  pub within : long ≤ length text
  pub some : 0 < long
  pub lines : (more : List ℕ) → lines_of (text ++ more) ≡ kept ++ lines_of (drop long text ++ more)
  pub whole : whole_lines text ≡ kept ++ whole_lines (drop long text)
