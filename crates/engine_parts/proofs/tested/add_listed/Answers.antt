use Rattle.std.proofs.Common.{◌+◌, ap, arith, false, sym, take}
use Rattle.std.specs.Prelude.{◌||◌}
use Rattle.std.proofs.lemmas.List.{take_all}
use Rattle.ha_value.specs.declared.value.EntityId.{EntityId}
use Rattle.ha_config.specs.Words.{same_entity}
use Rattle.trig_set.specs.Next.{Listed, lists}
use Rattle.wait_set.specs.Concern.{has}
use Rattle.engine_parts.proofs.TestedLemmas.{lists-more, lists-none, spared-as}
use Rattle.engine_parts.proofs.tested.add_listed.Goals as goal

pub loop-at-init : goal.loop-at-init
loop-at-init c from all = spared-as from (λ (e : EntityId). false) (lists (take 0 c.args.before.now)) (has c.args.tested.now) c.args.waits.now.asks (lists-none c.args.before.now) all

pub entity_at-requires : goal.entity_at-requires
entity_at-requires c = omega (arith, c.loop-at-test.true, c.len-at-end.ensures)

pub loop-at-preserved : goal.loop-at-preserved
loop-at-preserved c from all =
    let before = c.args.before.now in
    let at = c.loop-at.at in
    let y = c.entity_at.result.now in
    spared-as from (λ (e : EntityId). same_entity y e || lists (take at before) e) (lists (take (at + 1) before)) (has c.add_readers.new.tested) c.args.waits.now.asks
    (lists-more before at y (omega (arith, c.loop-at-test.true, c.len-at-end.ensures)) c.entity_at.ensures)
    (c.in_ok-add_readers.ensures from (lists (take at before)) (c.loop-at.invariant from all))

pub returns : goal.returns
returns c from all =
    let before = c.args.before.now in
    let whole = take_all c.loop-at.at before (omega (arith, c.loop-at-test.false, c.len-at-end.ensures)) in
    spared-as from (lists (take c.loop-at.at before)) (lists before) (has c.loop-at.tested) c.args.waits.now.asks (λ e. ap (λ (l : Listed). lists l e) (sym whole)) (c.loop-at.invariant from all)
