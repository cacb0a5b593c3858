use Rattle.std.proofs.Common.{◌∙◌, sym}
use Rattle.std.specs.Prelude.{Some, ◌||◌}
use Rattle.event_bus.specs.Subjects.{concerns, knows}
use Rattle.event_bus.proofs.AnyLemmas.{any-part, any-put}
use Rattle.trig_set.proofs.listed.list_entities.Goals as goal

pub loop-place-preserved : goal.loop-place-preserved
loop-place-preserved c = record {
  own = λ s. any-put (λ e. concerns c.args.rule.now (Some e) s) c.args.entities.now c.loop-place.place c.index-entities-place.result c.loop-place-test.true _ _ _
      (c.in_ok-put.ensures.own s ∙ (λ i. concerns c.args.rule.now (Some (c.index-entities-place.is i)) s || knows c.loop-place.index s c.args.owner)) (c.loop-place.invariant.own s);
  others = λ s n apart. c.in_ok-put.ensures.others s n apart ∙ c.loop-place.invariant.others s n apart;
}

pub returns-in_err-put-clause-part : goal.returns-in_err-put-clause-part
returns-in_err-put-clause-part c s h =
    any-part (λ e. concerns c.args.rule.now (Some e) s) c.args.entities.now c.loop-place.place c.index-entities-place.result c.loop-place-test.true _ _
    ((λ i. concerns c.args.rule.now (Some (sym c.index-entities-place.is i)) s || knows c.loop-place.index s c.args.owner) ∙ c.put.ensures.part s h) (c.loop-place.invariant.own s)
