use Rattle.std.proofs.Common.{◌≡◌, ◌++◌, take, drop, map}
use Rattle.std.specs.Prelude.{filter_map}
use Rattle.trig_set.specs.Kept.{firing_in, cleared}
use Rattle.trig_set.proofs.attached.collect_own_of.Given as goal

abbrev pub invariant-loop-place : goal.invariant-loop-place
invariant-loop-place l = record {
  fired : l.fired ≡ l.initial.fired ++ filter_map (firing_in l.owner) (take l.place l.initial.spots);
  spots : l.spots ≡ map cleared (take l.place l.initial.spots) ++ drop l.place l.initial.spots;
}
