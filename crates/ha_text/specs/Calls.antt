-- Calls of a `LineCut`, in any order, on a stream that comes in pieces.
use Rattle.std.specs.Prelude.{◌≡◌, ℕ, List, [], ◌∷◌, ◌++◌}
use Rattle.ha_text.specs.Lines.{IsTaken, IsNone, SameLines, lines_of, whole_lines}

-- The bytes that are held, the pieces that are still to come, and the lines that are given from there on: each call is a push of the
-- next piece, a take that gives a line or none, or at the end the finish.
pub data Gives : List ℕ → List (List ℕ) → List (List ℕ) → Type 0 where
  push : {old new piece : List ℕ} {pieces lines : List (List ℕ)}
      → SameLines new (old ++ piece) → Gives new pieces lines → Gives old (piece ∷ pieces) lines
  take : {old new line : List ℕ} {pieces lines : List (List ℕ)}
      → IsTaken old line new → Gives new pieces lines → Gives old pieces (line ∷ lines)
  none : {old new : List ℕ} {pieces lines : List (List ℕ)} → IsNone old new → Gives new pieces lines → Gives old pieces lines
  finish : {old : List ℕ} {lines : List (List ℕ)} → whole_lines old ≡ [] → lines_of old ≡ lines → Gives old [] lines
