use Rattle.std.proofs.Common.{[], ◌∷◌, ◌∙◌, ap, length, subst, sym}
use Rattle.trig_set.specs.Kept.{SpotsStand}
use Rattle.trig_set.proofs.OnLemmas.{on-then}
use Rattle.trig_set.proofs.OwnersLemmas.{written}
use Rattle.trig_set.proofs.opening.open_owner.Goals as goal

pub returns-clause-stands : goal.returns-clause-stands
returns-clause-stands g c =
    let a = c.args.attached.now in
    let v = c.as_mut_slice.ensures.value in
    on-then _ _ c.open_listed.result
    (λ f x boot sees stands. record {
      well = stands.well;
      spots = subst (λ l. SpotsStand (x ∷ []) a.triggers a.since l a.timers) (sym (written a.spots.len c.open_listed.new.spots a.spots.items (a.spots.ok.0 ∙ ap length (sym v) ∙ sym c.open_listed.auto.spots)))
          (f x a.since a.timers boot sees stands.well (subst (λ l. SpotsStand [] a.triggers a.since l a.timers) (sym v) stands.spots));
      listed = stands.listed;
      reads = stands.reads;
    })
    c.open_listed.ensures.stands
