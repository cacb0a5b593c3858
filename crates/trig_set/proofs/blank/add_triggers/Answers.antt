use Rattle.std.proofs.Common.{◌∙◌, ◌++◌, [], map, take}
use Rattle.ha_sight.specs.Rules.{entities_of}
use Rattle.trig_set.specs.Kept.{place_of, places_of}
use Rattle.trig_set.proofs.BlankLemmas.{places-more}
use Rattle.trig_set.proofs.blank.add_triggers.Goals as goal

pub loop-place-preserved : goal.loop-place-preserved
loop-place-preserved c = record {
  places =
      c.in_ok-add_trigger.ensures.places
      ∙ (λ i. c.loop-place.invariant.places i ++ map (λ e. (c.loop-place.place, e)) (entities_of c.index-triggers-place.result.rule))
      ∙ (λ i. (map place_of c.args.spots.now.items ++ places_of [] (take c.loop-place.place c.args.triggers.now)) ++ map (λ e. (c.loop-place.place, e)) (entities_of (c.index-triggers-place.is i).rule))
      ∙ places-more (map place_of c.args.spots.now.items) c.args.triggers.now c.loop-place.place c.index-triggers-place.result c.loop-place-test.true;
  blank = λ h. c.in_ok-add_trigger.ensures.blank (c.loop-place.invariant.blank h);
}
