use Rattle.std.proofs.Common.{ℕ, ◌+◌, ◌-◌, ◌/◌, ◌<◌, ◌≤◌, length, sym, subst, ◌∙◌, arith}
use Rattle.ha_sight.specs.Scripts.{Branch}
use Rattle.engine_parts.proofs.LowerLemmas.{lower-within, passed-lower, reached-lower, less, late}
use Rattle.engine_parts.proofs.ready.lower.Goals as goal

pub halves-init : goal.halves-init
halves-init c = record { between = omega arith; within = omega arith; found = λ h. (omega arith, lower-within c.args.serial c.args.pairs.now) }

pub halves-preserved-then-is_before : goal.halves-preserved-then-is_before
halves-preserved-then-is_before c =
    let inv = c.halves.invariant in
    let in_reach : c.halves.low + (c.halves.high - c.halves.low) / 2 < length c.args.pairs.now = omega (arith, c.halves-test.true, inv.between, inv.within) in
    let early = subst (λ (x : ℕ × Branch). x.0 < c.args.serial) c.index-pairs-at.is (less c.index-pairs-at.result.0 c.args.serial (sym c.is_before.ensures ∙ c.if-is_before.true)) in
    record {
      between = omega (arith, c.halves-test.true, inv.between);
      within = inv.within;
      found = λ h. (passed-lower c.args.serial 0 _ c.args.pairs.now c.index-pairs-at.result h in_reach early, (inv.found h).1);
    }

pub halves-preserved : goal.halves-preserved
halves-preserved c =
    let inv = c.halves.invariant in
    let in_reach : c.halves.low + (c.halves.high - c.halves.low) / 2 < length c.args.pairs.now = omega (arith, c.halves-test.true, inv.between, inv.within) in
    let later = subst (λ (x : ℕ × Branch). c.args.serial ≤ x.0) c.index-pairs-at.is (late c.index-pairs-at.result.0 c.args.serial (sym c.is_before.ensures ∙ c.if-is_before.false)) in
    record {
      between = omega (arith, c.halves-test.true, inv.between);
      within = omega (arith, c.halves-test.true, inv.between, inv.within);
      found = λ h. ((inv.found h).0, reached-lower c.args.serial _ c.args.pairs.now c.index-pairs-at.result in_reach later);
    }
