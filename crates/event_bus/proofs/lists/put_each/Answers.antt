use Rattle.std.proofs.Common.{get_or, take, ap, sym, ◌∙◌}
use Rattle.std.specs.Prelude.{◌||◌}
use Rattle.std.specs.List.{list_any}
use Rattle.ha_config.specs.Words.{same_entity}
use Rattle.event_bus.specs.Lists.{has_for}
use Rattle.event_bus.proofs.AnyLemmas.{any-kept, any-part, any-put, or-true}
use Rattle.event_bus.proofs.lists.put_each.Goals as goal

pub loop-at-preserved : goal.loop-at-preserved
loop-at-preserved c = record {
  own = λ e. any-put (λ f. same_entity f e) c.args.entities.now c.loop-at.at c.index-entities-at.result c.loop-at-test.true _ _ _
      (c.in_ok-put_for.ensures.own e ∙ (λ i. same_entity (c.index-entities-at.is i) e || has_for c.loop-at.lists e c.args.number)) (c.loop-at.invariant.own e);
  others = λ e n apart. c.in_ok-put_for.ensures.others e n apart ∙ c.loop-at.invariant.others e n apart;
}

pub returns-in_err-put_for-clause-part : goal.returns-in_err-put_for-clause-part
returns-in_err-put_for-clause-part c e h =
    any-part (λ f. same_entity f e) c.args.entities.now c.loop-at.at c.index-entities-at.result c.loop-at-test.true (has_for c.args.lists.now e c.args.number) (has_for c.loop-at.lists e c.args.number)
    (ap (λ b. same_entity (get_or c.args.entities.now c.loop-at.at c.index-entities-at.result) e || b) (sym (c.in_err-put_for.ensures.err e c.args.number) ∙ h) ∙ or-true (same_entity (get_or c.args.entities.now c.loop-at.at c.index-entities-at.result) e)) (c.loop-at.invariant.own e)

pub returns-in_err-put_for-clause-kept : goal.returns-in_err-put_for-clause-kept
returns-in_err-put_for-clause-kept c e =
    any-kept (list_any (λ f. same_entity f e) (take c.loop-at.at c.args.entities.now)) (has_for c.args.lists.now e c.args.number) (has_for c.put_for.new.lists e c.args.number) (c.in_err-put_for.ensures.err e c.args.number ∙ c.loop-at.invariant.own e)
