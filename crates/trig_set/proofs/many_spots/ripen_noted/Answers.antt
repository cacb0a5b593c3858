use Rattle.std.proofs.Common.{◌∙◌, ap, sym, subst, map, refl}
use Rattle.std.specs.Prelude.{IsNone, slice_get}
use Rattle.trig_set.specs.Kept.{AreTimed, ripened, taken_at}
use Rattle.trig_set.proofs.LeftLemmas.{put-apart, put-kept}
use Rattle.trig_set.proofs.ManyLemmas.{taken-else}
use Rattle.trig_set.proofs.RipeLemmas.{ripe-step, ripe-end, none-first}
use Rattle.trig_set.proofs.many_spots.ripen_noted.Goals as goal

pub dues-preserved : goal.dues-preserved
dues-preserved c =
    let p = c.in-Some.place in
    let put = c.in_ok-insert.ensures.updates in
    record {
      ripe = λ timed.
          let before = c.dues.invariant.ripe timed in
          let step = ripe-step c.args.to p c.dues.timers c.dues.spots (sym c.pop_due.ensures.first ∙ c.in-Some.is) before.1 in (
            ap (map (ripened c.args.to)) c.take_at.ensures ∙ step.0 ∙ before.0,
            subst (λ l. AreTimed c.pop_due.new.self l) (sym c.take_at.ensures) (subst (λ t. AreTimed t (taken_at p c.dues.spots)) (sym c.pop_due.ensures.rest) step.1),
          );
      elsewhere = λ n none.
          let before = c.dues.invariant.elsewhere n (put-kept c.dues.gone c.insert.new.self p put n none) in
          (before.0, ap (λ l. slice_get l n) c.take_at.ensures ∙ taken-else p n c.dues.spots (put-apart c.dues.gone c.insert.new.self p put n none) ∙ before.1);
    }

pub returns-clause-ripe : goal.returns-clause-ripe
returns-clause-ripe c timed =
    let before = c.dues.invariant.ripe timed in
    let none : IsNone c.pop_due.result = subst IsNone (sym c.in_default.is) refl in (
      sym (ripe-end c.args.to c.dues.timers c.dues.spots (c.pop_due.ensures.none.0 none) before.1) ∙ before.0,
      subst (λ t. AreTimed t c.dues.spots) (sym (c.pop_due.ensures.rest ∙ none-first c.args.to c.dues.timers (sym c.pop_due.ensures.first ∙ c.in_default.is))) before.1,
    )
