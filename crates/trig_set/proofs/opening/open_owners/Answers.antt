use Rattle.std.proofs.Common.{[], ◌∷◌, ◌∙◌, ◌++◌, ap, length, map, subst, sym}
use Rattle.trig_set.specs.Order.{owner_of}
use Rattle.trig_set.specs.Queued.{HasDue}
use Rattle.ha_past.specs.Firings.{firings}
use Rattle.trig_set.specs.Stands.{AllOwners, OwnerStands}
use Rattle.trig_set.proofs.OnLemmas.{on-then}
use Rattle.trig_set.proofs.OwnersLemmas.{owners-fire, written}
use Rattle.trig_set.proofs.opening.open_owners.Goals as goal

pub returns-clause-stands : goal.returns-clause-stands
returns-clause-stands g c =
    let v = c.as_mut_slice.ensures.value in
    on-then _ _ c.open_each.result
    (λ f x boot sees all.
    subst (λ l. AllOwners l (OwnerStands (x ∷ []))) (sym (written c.args.owners.now.len c.open_each.new.owners c.args.owners.now.items (c.args.owners.now.ok.0 ∙ ap length (sym v) ∙ sym c.open_each.auto.owners)))
    (f x boot sees (subst (λ l. AllOwners l (OwnerStands [])) (sym v) all)))
    c.open_each.ensures.stands

pub returns-clause-fired : goal.returns-clause-fired
returns-clause-fired g c =
    let v = c.as_mut_slice.ensures.value in
    on-then _ _ c.open_each.result
    (λ f x boot sees all.
    f x boot sees (subst (λ l. AllOwners l (OwnerStands [])) (sym v) all)
    ∙ (λ i. c.args.fired.now ++ owners-fire [] x c.as_mut_slice.result.now i)
    ∙ (λ i. c.args.fired.now ++ firings (x ∷ []) 0 (map owner_of (v i))))
    c.open_each.ensures.fired

pub returns-clause-queued : goal.returns-clause-queued
returns-clause-queued g c =
    let v = c.as_mut_slice.ensures.value in
    on-then _ _ c.open_each.result
    (λ f queue queued.
    subst (λ l. AllOwners l (HasDue queue)) (sym (written c.args.owners.now.len c.open_each.new.owners c.args.owners.now.items (c.args.owners.now.ok.0 ∙ ap length (sym v) ∙ sym c.open_each.auto.owners)))
    (f queue (subst (λ l. AllOwners l (HasDue queue)) (sym v) queued)))
    c.open_each.ensures.queued
