-- Firings in the order of their owners.
use Rattle.std.specs.Prelude.{ℕ, suc, ◌≤◌, nat_lt, List, [], ◌∷◌, if◌then◌else◌}
use Rattle.ha_journal.specs.declared.firing.Firing.{Firing}

-- they stand by their owners, from owner n on
abbrev pub AreSorted : ℕ → List Firing → Type 0
AreSorted n [] = Unit {0}
AreSorted n (f ∷ fs) = (n ≤ f.owner) × AreSorted f.owner fs

-- how many stand at the front that are of lesser owners
abbrev pub first_of : ℕ → List Firing → ℕ
first_of n [] = 0
first_of n (f ∷ fs) = if nat_lt f.owner n then suc (first_of n fs) else 0
