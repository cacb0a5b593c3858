use Rattle.std.proofs.Common.{◌≡◌, map, take}
use Rattle.ha_sight.specs.Services.{places_meant}
use Rattle.helper_set.specs.Kept.{shown}
use Rattle.helper_set.proofs.meant.places_meant.Given as goal

abbrev pub invariant-loop-i : goal.invariant-loop-i
invariant-loop-i l = l.found.items ≡ places_meant (map shown l.kept.items) l.service (take l.i l.targets)
