use Rattle.std.proofs.Common.{◌∙◌}
use Rattle.std.specs.Prelude.{Some, not, ◌&&◌}
use Rattle.event_bus.specs.Subjects.{concerns, knows}
use Rattle.event_bus.proofs.AnyLemmas.{any-taken}
use Rattle.trig_set.proofs.listed.unlist_entities.Goals as goal

pub loop-place-preserved : goal.loop-place-preserved
loop-place-preserved c = record {
  own = λ s. any-taken (λ e. concerns c.args.rule.now (Some e) s) c.args.entities.now c.loop-place.place c.index-entities-place.result c.loop-place-test.true _ _ _
      (c.take.ensures.own s ∙ (λ i. not (concerns c.args.rule.now (Some (c.index-entities-place.is i)) s) && knows c.loop-place.index s c.args.owner)) (c.loop-place.invariant.own s);
  others = λ s n apart. c.take.ensures.others s n apart ∙ c.loop-place.invariant.others s n apart;
}
