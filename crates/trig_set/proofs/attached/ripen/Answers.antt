use Rattle.std.proofs.Common.{◌∙◌, ap, sym, subst, map, refl}
use Rattle.std.specs.Prelude.{IsNone}
use Rattle.trig_set.specs.Kept.{AreTimed, ripened, taken_at}
use Rattle.trig_set.proofs.RipeLemmas.{ripe-step, ripe-end, none-first}
use Rattle.trig_set.proofs.attached.ripen.Goals as goal

pub loop-place-preserved : goal.loop-place-preserved
loop-place-preserved c timed =
    let before = c.loop-place.invariant timed in
    let step = ripe-step c.args.to c.in-Some.place c.loop-place.timers c.loop-place.spots (sym c.pop_due.ensures.first ∙ c.in-Some.is) before.1 in (
      ap (map (ripened c.args.to)) c.take_at.ensures ∙ step.0 ∙ before.0,
      subst (λ l. AreTimed c.pop_due.new.self l) (sym c.take_at.ensures) (subst (λ t. AreTimed t (taken_at c.in-Some.place c.loop-place.spots)) (sym c.pop_due.ensures.rest) step.1),
    )

pub returns : goal.returns
returns c timed =
    let before = c.loop-place.invariant timed in
    let none : IsNone c.pop_due.result = subst IsNone (sym c.in_default.is) refl in (
      sym (ripe-end c.args.to c.loop-place.timers c.loop-place.spots (c.pop_due.ensures.none.0 none) before.1) ∙ before.0,
      subst (λ t. AreTimed t c.loop-place.spots) (sym (c.pop_due.ensures.rest ∙ none-first c.args.to c.loop-place.timers (sym c.pop_due.ensures.first ∙ c.in_default.is))) before.1,
    )
