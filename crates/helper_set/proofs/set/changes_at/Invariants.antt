use Rattle.std.proofs.Common.{◌≡◌, take}
use Rattle.std.specs.Prelude.{filter_map}
use Rattle.ha_sight.specs.Services.{change_at}
use Rattle.ha_sight.specs.Sight.{Sight}
use Rattle.helper_set.specs.Kept.{AreSeen}
use Rattle.helper_set.proofs.set.changes_at.Given as goal

abbrev pub invariant-loop-i : goal.invariant-loop-i
invariant-loop-i l = (sight : Sight) → AreSeen l.kept sight l.now → l.changes ≡ filter_map (change_at sight l.service l.wanted) (take l.i l.places)
