use Rattle.std.proofs.Common.{take, ◌∙◌}
use Rattle.std.specs.Prelude.{◌||◌}
use Rattle.ha_config.specs.Words.{one_of, same}
use Rattle.event_bus.specs.Lists.{has_at}
use Rattle.event_bus.proofs.IndexLemmas.{names-kept, names-more, names-part}
use Rattle.event_bus.proofs.index.put_names.Goals as goal

pub loop-at-preserved : goal.loop-at-preserved
loop-at-preserved c = record {
  own = λ q. names-more q c.args.names.now c.loop-at.at c.index-names-at.result c.loop-at-test.true _ _ _
      (c.in_ok-put_at.ensures.own q ∙ (λ i. same ((c.as_str.ensures.value ∙ c.index-names-at.is) i) q || has_at c.loop-at.lists q c.args.number)) (c.loop-at.invariant.own q);
  others = λ q n apart. c.in_ok-put_at.ensures.others q n apart ∙ c.loop-at.invariant.others q n apart;
}

pub returns-in_err-put_at-clause-part : goal.returns-in_err-put_at-clause-part
returns-in_err-put_at-clause-part c q =
    names-part q c.args.names.now c.loop-at.at (has_at c.args.lists.now q c.args.number) (has_at c.loop-at.lists q c.args.number) (has_at c.put_at.new.lists q c.args.number) (c.in_err-put_at.ensures.err q c.args.number) (c.loop-at.invariant.own q)

pub returns-in_err-put_at-clause-kept : goal.returns-in_err-put_at-clause-kept
returns-in_err-put_at-clause-kept c q =
    names-kept (one_of q (take c.loop-at.at c.args.names.now)) (has_at c.args.lists.now q c.args.number) (has_at c.put_at.new.lists q c.args.number) (c.in_err-put_at.ensures.err q c.args.number ∙ c.loop-at.invariant.own q)
