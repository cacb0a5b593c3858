-- Numbers in a list, each once.
use Rattle.std.specs.Prelude.{ℕ, Bool, nat_eq, List, [], ◌∷◌, ◌++◌, Option, Some, None, if◌then◌else◌}
use Rattle.std.specs.List.{list_any}

-- each number at its first place
abbrev pub without_number : ℕ → List ℕ → List ℕ
without_number n [] = []
without_number n (x ∷ xs) = if nat_eq n x then without_number n xs else x ∷ without_number n xs

abbrev pub each_number_once : List ℕ → List ℕ
each_number_once [] = []
each_number_once (n ∷ ns) = n ∷ without_number n (each_number_once ns)

-- a number is in a list
abbrev pub has_number : ℕ → List ℕ → Bool
has_number n = list_any (nat_eq n)

-- a list with a number behind, where it is not in it
abbrev pub with_number : Option ℕ → List ℕ → List ℕ
with_number None found = found
with_number (Some n) found = if has_number n found then found else found ++ (n ∷ [])
