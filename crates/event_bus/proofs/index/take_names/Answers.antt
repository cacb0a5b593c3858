use Rattle.std.proofs.Common.{◌∙◌}
use Rattle.std.specs.Prelude.{◌&&◌, not}
use Rattle.ha_config.specs.Words.{same}
use Rattle.event_bus.specs.Lists.{has_at}
use Rattle.event_bus.proofs.IndexLemmas.{names-less}
use Rattle.event_bus.proofs.index.take_names.Goals as goal

pub loop-at-preserved : goal.loop-at-preserved
loop-at-preserved c = record {
  own = λ q. names-less q c.args.names.now c.loop-at.at c.index-names-at.result c.loop-at-test.true _ _ _
      (c.take_at.ensures.own q ∙ (λ i. not (same ((c.as_str.ensures.value ∙ c.index-names-at.is) i) q) && has_at c.loop-at.lists q c.args.number)) (c.loop-at.invariant.own q);
  others = λ q n apart. c.take_at.ensures.others q n apart ∙ c.loop-at.invariant.others q n apart;
}
