-- Where the pairs of a run stand among the others.
use Rattle.std.specs.Prelude.{ℕ, suc, ◌+◌, ◌≤◌, Bool, false, not, ◌&&◌, ◌||◌, nat_eq, nat_lt, List, [], ◌∷◌, slice_get, if◌then◌else◌}
use Rattle.std.specs.Option.{option_map_or}
use Rattle.ha_config.specs.Words.{comes_before}
use Rattle.ha_sight.specs.Scripts.{Branch}

-- how many pairs stand at the front that are of earlier runs
abbrev pub lower : ℕ → List (ℕ × Branch) → ℕ
lower s [] = 0
lower s (x ∷ xs) = if nat_lt x.0 s then suc (lower s xs) else 0

-- the pairs stand by their runs, from run n on
abbrev pub Ascends : ℕ → List (ℕ × Branch) → Type 0
Ascends n [] = Unit {0}
Ascends n (x ∷ xs) = (n ≤ x.0) × Ascends x.0 xs

-- a pair of this run stands at that place
abbrev pub stands_at : ℕ → ℕ → List (ℕ × Branch) → Bool
stands_at s at xs = option_map_or (λ x. nat_eq x.0 s) (slice_get xs at) false

-- a pair of this run stands at that place, and none at the next one
abbrev pub has_one : ℕ → ℕ → List (ℕ × Branch) → Bool
has_one s at xs = stands_at s at xs && not (stands_at s (at + 1) xs)

-- a pair is of this run, in an earlier branch
abbrev pub is_earlier : ℕ → Branch → ℕ × Branch → Bool
is_earlier s b x = nat_eq x.0 s && comes_before x.1 b

-- such a pair stands at that place
abbrev pub earlier_at : ℕ → Branch → ℕ → List (ℕ × Branch) → Bool
earlier_at s b at xs = option_map_or (is_earlier s b) (slice_get xs at) false

-- a pair among others, behind those of earlier runs and of its run's earlier branches
abbrev pub put_in : ℕ → Branch → List (ℕ × Branch) → List (ℕ × Branch)
put_in s b [] = (s, b) ∷ []
put_in s b (x ∷ xs) = if nat_lt x.0 s || is_earlier s b x then x ∷ put_in s b xs else (s, b) ∷ x ∷ xs
