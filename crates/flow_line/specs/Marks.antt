-- A number by which keys are told apart.
use Rattle.std.specs.Prelude.{ℕ, ◌+◌, ◌*◌, ◌%◌, ◌^◌, List, [], ◌∷◌}

-- the mark of a key with one byte more
unfoldable pub next : ℕ → ℕ → ℕ
next mark b = (mark * 1_099_511_628_211 % 2 ^ 64 + b) % 2 ^ 64

-- the mark of a key, behind that of its front
unfoldable pub mark_from : ℕ → List ℕ → ℕ
mark_from mark [] = mark
mark_from mark (b ∷ key) = mark_from (next mark b) key

abbrev pub mark_of : List ℕ → ℕ
mark_of key = mark_from 0 key
