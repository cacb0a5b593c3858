use Rattle.std.proofs.Common.{◌∙◌}
use Rattle.std.specs.Prelude.{not, ◌&&◌}
use Rattle.ha_config.specs.Words.{same_entity}
use Rattle.event_bus.specs.Lists.{has_for}
use Rattle.event_bus.proofs.AnyLemmas.{any-taken}
use Rattle.event_bus.proofs.lists.take_each.Goals as goal

pub loop-at-preserved : goal.loop-at-preserved
loop-at-preserved c = record {
  own = λ e. any-taken (λ f. same_entity f e) c.args.entities.now c.loop-at.at c.index-entities-at.result c.loop-at-test.true _ _ _
      (c.take_for.ensures.own e ∙ (λ i. not (same_entity (c.index-entities-at.is i) e) && has_for c.loop-at.lists e c.args.number)) (c.loop-at.invariant.own e);
  others = λ e n apart. c.take_for.ensures.others e n apart ∙ c.loop-at.invariant.others e n apart;
}
