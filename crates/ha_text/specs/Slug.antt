-- The slug of a text: its runs of ASCII letters and digits, in lower case, with `_` between them.
use Rattle.std.specs.Prelude.{ℕ, ◌+◌, Bool, ◌||◌, ◌&&◌, nat_le, if◌then◌else◌, List, [], ◌∷◌, ◌++◌, codes}

abbrev pub is_upper : ℕ → Bool
is_upper b = nat_le 65 b && nat_le b 90

abbrev pub stays : ℕ → Bool
stays b = (nat_le 48 b && nat_le b 57) || is_upper b || (nat_le 97 b && nat_le b 122)

abbrev pub lower : ℕ → ℕ
lower b = if is_upper b then b + 32 else b

abbrev pub closed : List ℕ → List (List ℕ)
closed [] = []
closed (b ∷ run) = (b ∷ run) ∷ []

-- the runs of letters and digits, in lower case, of a text behind the front of its first run
unfoldable pub runs : List ℕ → List ℕ → List (List ℕ)
runs run [] = closed run
runs run (b ∷ text) = if stays b then runs (run ++ lower b ∷ []) text else closed run ++ runs [] text

unfoldable pub joined : List (List ℕ) → List ℕ
joined [] = []
joined (run ∷ []) = run
joined (run ∷ next ∷ more) = run ++ 95 ∷ joined (next ∷ more)

abbrev pub named : List ℕ → List ℕ
named [] = codes "unnamed"
named (b ∷ text) = b ∷ text

abbrev pub slug : List ℕ → List ℕ
slug text = named (joined (runs [] text))
