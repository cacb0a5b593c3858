-- Places in a list.
use Rattle.std.specs.Prelude.{◌<◌, ℕ, List, [], ◌∷◌}

-- each is one of so many places
abbrev pub ArePlaces : ℕ → List ℕ → Type 0
ArePlaces n [] = Unit {0}
ArePlaces n (a ∷ as') = (a < n) × ArePlaces n as'
