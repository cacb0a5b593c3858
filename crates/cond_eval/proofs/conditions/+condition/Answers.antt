use Rattle.std.proofs.Common.{◌∙◌, ap, refl, sym}
use Rattle.std.specs.Prelude.{not}
use Rattle.cond_eval.specs.Seen.{seen}
use Rattle.cond_eval.proofs.CaseLemmas.{holds-and, holds-numeric, holds-not, holds-or, holds-state, holds-trigger}
use Rattle.cond_eval.proofs.conditions.+condition.Goals as goal

pub test-returns-in-And : goal.test-returns-in-And
test-returns-in-And t c = rw (holds-and (seen c.args.view.now) c.args.env.now c.args.condition.now c.in-And.inside c.as_slice.result.now c.in-And.is c.as_slice.ensures) c.all_hold.ensures

pub test-returns-in-Or : goal.test-returns-in-Or
test-returns-in-Or t c = rw (holds-or (seen c.args.view.now) c.args.env.now c.args.condition.now c.in-Or.inside c.as_slice-in-Or.result.now c.in-Or.is c.as_slice-in-Or.ensures) c.one_holds.ensures

pub test-returns-in_ok-one_holds-in-Not : goal.test-returns-in_ok-one_holds-in-Not
test-returns-in_ok-one_holds-in-Not t c =
    ap not c.in_ok-one_holds-in-Not.ensures
    ∙ sym (holds-not (seen c.args.view.now) c.args.env.now c.args.condition.now c.in-Not.inside c.as_slice-in-Not.result.now c.in-Not.is c.as_slice-in-Not.ensures)

pub test-returns-in-State : goal.test-returns-in-State
test-returns-in-State t c =
    rw (holds-state (seen c.args.view.now) c.args.env.now c.args.condition.now c.in-State.entities c.as_slice-in-State.result.now c.in-State.attribute _ c.in-State.texts c.as_slice-in-State-2.result.now c.in-State.hold c.in-State.is c.as_slice-in-State.ensures c.as_ref.ensures.value c.as_slice-in-State-2.ensures)
    c.texts_hold.ensures

pub test-returns-in-Numeric : goal.test-returns-in-Numeric
test-returns-in-Numeric t c =
    rw (holds-numeric (seen c.args.view.now) c.args.env.now c.args.condition.now c.in-Numeric.entities c.as_slice-in-Numeric.result.now c.in-Numeric.attribute _ c.in-Numeric.above c.in-Numeric.below c.in-Numeric.is c.as_slice-in-Numeric.ensures c.as_ref-in-Numeric.ensures.value)
    c.numbers_hold.ensures

pub test-returns-in-Trigger : goal.test-returns-in-Trigger
test-returns-in-Trigger t c =
    c.is_own_id.ensures (seen c.args.view.now)
    ∙ sym (holds-trigger (seen c.args.view.now) c.args.env.now c.args.condition.now c.in-Trigger.ids c.as_slice-in-Trigger.result.now c.args.env.now c.in-Trigger.is c.as_slice-in-Trigger.ensures refl)
