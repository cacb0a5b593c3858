-- Waits that are pending, and owners that are not theirs.
use Rattle.std.specs.Prelude.{◌≡◌, ℕ, ◌≤◌, false, nat_eq, List, [], ◌∷◌, None}
use Rattle.std.specs.List.{list_any}
use Rattle.wait_set.specs.declared.asked.Asked.{Asked}
use Rattle.engine_parts.specs.Runs.{first_wait}

-- no wait that has not ended has one of these owners
abbrev pub AreOthers : List ℕ → List Asked → Type 0
AreOthers owners [] = Unit {0}
AreOthers owners (a ∷ asks) = (a.end ≡ None → list_any (nat_eq a.owner) owners ≡ false) × AreOthers owners asks

-- they are owners of waits, and no automations
abbrev pub AreWaits : List ℕ → Type 0
AreWaits [] = Unit {0}
AreWaits (o ∷ os) = (first_wait ≤ o) × AreWaits os
