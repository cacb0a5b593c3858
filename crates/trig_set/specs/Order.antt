-- The order of owners.
use Rattle.std.specs.Prelude.{Bool, true, ◌&&◌, nat_lt, List, [], ◌∷◌}
use Rattle.std.specs.List.{list_all}
use Rattle.ha_past.specs.Firings.{Owner}
use Rattle.trig_set.specs.declared.owners.Attached.{Attached}

abbrev pub owner_of : Attached → Owner
owner_of a = record { owner = a.owner; triggers = a.triggers; since = a.since }

-- each owner has a lesser number than all behind it
abbrev pub ascend : List Owner → Bool
ascend [] = true
ascend (x ∷ xs) = list_all (λ y. nat_lt x.owner y.owner) xs && ascend xs
