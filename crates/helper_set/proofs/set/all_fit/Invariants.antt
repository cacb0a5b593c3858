use Rattle.std.proofs.Common.{◌≡◌, ℕ, drop}
use Rattle.std.specs.List.{list_all}
use Rattle.ha_sight.specs.Services.{fits_at}
use Rattle.ha_sight.specs.Sight.{Sight}
use Rattle.helper_set.specs.Kept.{AreSeen}
use Rattle.helper_set.proofs.set.all_fit.Given as goal

abbrev pub invariant-loop-i : goal.invariant-loop-i
invariant-loop-i l = (sight : Sight) (at : ℕ) → AreSeen l.kept sight at → list_all (fits_at sight l.wanted) l.places ≡ list_all (fits_at sight l.wanted) (drop l.i l.places)
