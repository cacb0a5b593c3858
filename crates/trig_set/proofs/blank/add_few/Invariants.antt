use Rattle.std.proofs.Common.{◌≡◌, ◌++◌, map, take, true}
use Rattle.ha_sight.specs.Rules.{each_once}
use Rattle.trig_set.specs.Blank.{are_blank, entity_places}
use Rattle.trig_set.specs.Kept.{place_of}
use Rattle.trig_set.proofs.blank.add_few.Given as goal

abbrev pub invariant-loop-place : goal.invariant-loop-place
invariant-loop-place l = record {
  places : map place_of l.spots.items ≡ map place_of l.initial.spots.items ++ entity_places l.trigger (each_once (take l.place l.entities));
  blank : are_blank l.initial.spots.items ≡ true → are_blank l.spots.items ≡ true;
}
