-- Words on lists of bytes that the other definitions share.
use Rattle.std.specs.Prelude.{ℕ, Bool, false, List, [], ◌∷◌, Option, Some, None, nat_eq, if◌then◌else◌}
use Rattle.std.specs.List.{list_all}

-- there is a member, and each one passes
abbrev pub some_all : (ℕ → Bool) → List ℕ → Bool
some_all test [] = false
some_all test (x ∷ xs) = list_all test (x ∷ xs)

-- what follows the longest front of members that pass
abbrev pub after_front : (ℕ → Bool) → List ℕ → List ℕ
after_front test [] = []
after_front test (x ∷ xs) = if test x then after_front test xs else x ∷ xs

-- what stands before the longest end of members that pass
abbrev pub before_end : (ℕ → Bool) → List ℕ → List ℕ
before_end test [] = []
before_end test (x ∷ xs) = if list_all test (x ∷ xs) then [] else x ∷ before_end test xs

-- a list without the members at its two ends that pass
abbrev pub trimmed : (ℕ → Bool) → List ℕ → List ℕ
trimmed test xs = before_end test (after_front test xs)

-- a line without a CR at its end
unfoldable pub without_cr : List ℕ → List ℕ
without_cr [] = []
without_cr (b ∷ []) = if nat_eq b 13 then [] else b ∷ []
without_cr (b ∷ c ∷ line) = b ∷ without_cr (c ∷ line)

-- what stands before the first c (the whole list, where there is none), and what follows that c
abbrev pub before_first : ℕ → List ℕ → List ℕ
before_first c [] = []
before_first c (x ∷ xs) = if nat_eq x c then [] else x ∷ before_first c xs

abbrev pub after_first : ℕ → List ℕ → Option (List ℕ)
after_first c [] = None
after_first c (x ∷ xs) = if nat_eq x c then Some xs else after_first c xs
