use Rattle.std.proofs.Common.{◌+◌, ◌-◌, ◌/◌, ◌<◌, ◌≤◌, length, sym, subst, ◌∙◌, arith}
use Rattle.ha_journal.specs.declared.firing.Firing.{Firing}
use Rattle.engine_parts.proofs.SortedLemmas.{first-within, late, less, passed-first, reached-first}
use Rattle.engine_parts.proofs.order.first_of.Goals as goal

pub halves-init : goal.halves-init
halves-init c = record { between = omega arith; within = omega arith; found = λ h. (omega arith, first-within c.args.owner c.args.fired.now) }

pub halves-preserved-then-is_before : goal.halves-preserved-then-is_before
halves-preserved-then-is_before c =
    let inv = c.halves.invariant in
    let in_reach : c.halves.low + (c.halves.high - c.halves.low) / 2 < length c.args.fired.now = omega (arith, c.halves-test.true, inv.between, inv.within) in
    let early = subst (λ (f : Firing). f.owner < c.args.owner) c.index-fired-at.is (less c.index-fired-at.result.owner c.args.owner (sym c.is_before.ensures ∙ c.if-is_before.true)) in
    record {
      between = omega (arith, c.halves-test.true, inv.between);
      within = inv.within;
      found = λ h. (passed-first c.args.owner 0 _ c.args.fired.now c.index-fired-at.result h in_reach early, (inv.found h).1);
    }

pub halves-preserved : goal.halves-preserved
halves-preserved c =
    let inv = c.halves.invariant in
    let in_reach : c.halves.low + (c.halves.high - c.halves.low) / 2 < length c.args.fired.now = omega (arith, c.halves-test.true, inv.between, inv.within) in
    let later = subst (λ (f : Firing). c.args.owner ≤ f.owner) c.index-fired-at.is (late c.index-fired-at.result.owner c.args.owner (sym c.is_before.ensures ∙ c.if-is_before.false)) in
    record {
      between = omega (arith, c.halves-test.true, inv.between);
      within = omega (arith, c.halves-test.true, inv.between, inv.within);
      found = λ h. ((inv.found h).0, reached-first c.args.owner _ c.args.fired.now c.index-fired-at.result in_reach later);
    }
