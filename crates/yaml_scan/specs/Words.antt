-- What stands on one line.
use Rattle.std.specs.Prelude.{ℕ, zero, suc, ◌+◌, Bool, true, false, ◌||◌, ◌&&◌, ◌==◌, nat_lt}
use Rattle.std.specs.Prelude.{if◌then◌else◌, List, [], ◌∷◌, length, take, Option, Some, None}
pub use Rattle.ha_value.specs.Truth.{is_blank}

-- the first byte is this one
abbrev pub sees : ℕ → List ℕ → Bool
sees b [] = false
sees b (first ∷ rest) = first == b

abbrev pub is_empty : List ℕ → Bool
is_empty [] = true
is_empty (b ∷ rest) = false

abbrev pub is_some : {A : Type 0} → Option A → Bool
is_some None = false
is_some (Some x) = true

-- Only blanks follow, or blanks and a comment, which begins behind a space. Whether a space was read last.
unfoldable pub nothing_left : Bool → List ℕ → Bool
nothing_left spaced [] = true
nothing_left spaced (b ∷ rest) = if is_blank b then nothing_left (b == 32) rest else (b == 35 && spaced)

-- what a dash or a colon is followed by: a space, or nothing
abbrev pub breaks : List ℕ → Bool
breaks rest = sees 32 rest || nothing_left false rest

-- where a comment begins, or the end
unfoldable pub comment_at : Bool → ℕ → List ℕ → ℕ
comment_at spaced at [] = at
comment_at spaced at (b ∷ rest) = if b == 35 && spaced then at else comment_at (b == 32) (at + 1) rest

-- where the blanks at the end begin; the last byte before here that is no blank ends at `last`
unfoldable pub text_end : ℕ → ℕ → List ℕ → ℕ
text_end last at [] = last
text_end last at (b ∷ rest) = if is_blank b then text_end last (at + 1) rest else text_end (at + 1) (at + 1) rest

-- without blanks at the end
abbrev pub trimmed : List ℕ → List ℕ
trimmed bytes = take (text_end 0 0 bytes) bytes

-- the first colon before a comment that a space or nothing follows
unfoldable pub colon_at : Bool → ℕ → List ℕ → Option ℕ
colon_at spaced at [] = None
colon_at spaced at (b ∷ rest) =
    if b == 35 && spaced then None else (if b == 58 && breaks rest then Some at else colon_at (b == 32) (at + 1) rest)

-- whether there is a key with its colon
abbrev pub has_colon : List ℕ → Bool
has_colon bytes = is_some (colon_at false 0 bytes)

abbrev pub has_comment : List ℕ → Bool
has_comment bytes = nat_lt (comment_at false 0 bytes) (length bytes)

-- so many times this byte
unfoldable pub times : ℕ → ℕ → List ℕ
times zero b = []
times (suc n) b = b ∷ times n b

-- the bytes behind the blanks at the front
unfoldable pub without_blanks : List ℕ → List ℕ
without_blanks [] = []
without_blanks (b ∷ rest) = if is_blank b then without_blanks rest else b ∷ rest

unfoldable pub only_blanks : List ℕ → Bool
only_blanks [] = true
only_blanks (b ∷ rest) = is_blank b && only_blanks rest

-- what a double-quoted line break or a plain one gives, with so many blank lines in it: a space, or as many line feeds
abbrev pub folded : ℕ → List ℕ
folded zero = 32 ∷ []
folded (suc n) = times (suc n) 10
