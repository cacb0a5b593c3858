-- The places of owners that are kept.
use Rattle.std.specs.Prelude.{◌≡◌, ℕ, Bool, [], ◌∷◌, Option, Some, None, if◌then◌else◌}
use Rattle.std.specs.BTreeMap.{is_at}
use Rattle.std.specs.BTreeSet.{BTreeSet}
use Rattle.std.specs.Ordering.{nat_cmp}
use Rattle.event_bus.specs.Lists.{has}

-- the one that is alone, or several
abbrev pub places_of : Option ℕ → BTreeSet ℕ → BTreeSet ℕ
places_of (Some n) several = record { keys = n ∷ [] }
places_of None several = several

-- of the second set this place is one or not, as said, and the others are as in the first
abbrev pub Turns : BTreeSet ℕ → BTreeSet ℕ → ℕ → Bool → Type 0
Turns old new p b = (n : ℕ) → has new n ≡ (if is_at (nat_cmp p) n then b else has old n)
