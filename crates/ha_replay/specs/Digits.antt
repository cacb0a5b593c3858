-- The number of a worker, in digits.
use Rattle.std.specs.Prelude.{ℕ, ◌+◌, ◌-◌, nat_eq, nat_le, ◌&&◌, List, [], ◌∷◌, Option, None, Some, option_map, if◌then◌else◌}

abbrev pub digit_of : ℕ → Option ℕ
digit_of b = if nat_le 48 b && nat_le b 57 then Some (b - 48) else None

-- the number under 20 that stands before a comma
abbrev pub number_before_comma : List ℕ → Option ℕ
number_before_comma [] = None
number_before_comma (a ∷ []) = None
number_before_comma (a ∷ b ∷ rest) = if nat_eq b 44 then digit_of a else teen a b rest
  where
    teen : ℕ → ℕ → List ℕ → Option ℕ
    teen a b [] = None
    teen a b (c ∷ rest) = if nat_eq a 49 && nat_eq c 44 then option_map (λ n. 10 + n) (digit_of b) else None
