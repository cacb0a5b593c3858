-- The owners that are left where some have gone.
use Rattle.std.specs.Prelude.{ℕ, List, [], ◌∷◌}
use Rattle.ha_past.specs.Firings.{Owner, without_owner}

abbrev pub without_owners : List ℕ → List Owner → List Owner
without_owners [] os = os
without_owners (n ∷ ns) os = without_owners ns (without_owner n os)
