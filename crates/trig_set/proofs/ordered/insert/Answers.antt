use Rattle.std.proofs.Common.{◌∙◌, ap, sym, subst, map}
use Rattle.std.specs.Prelude.{IsNone, insert}
use Rattle.ha_past.specs.Firings.{owner_named, placed}
use Rattle.trig_set.specs.Order.{ascend, owner_of}
use Rattle.trig_set.specs.Queued.{HasDue}
use Rattle.trig_set.specs.Stands.{AllOwners, OwnerStands}
use Rattle.trig_set.proofs.OrderLemmas.{placed-ascend}
use Rattle.trig_set.proofs.PlaceLemmas.{all-insert, behind-placed, map-insert}
use Rattle.trig_set.proofs.ordered.insert.Goals as goal

pub returns-in-Ok-clause-ok : goal.returns-in-Ok-clause-ok
returns-in-Ok-clause-ok c =
    let v = c.as_slice.ensures.value in
    let o = owner_of c.args.attached in
    ap (map owner_of) c.in-Ok.ensures.items ∙ map-insert owner_of c.args.owners.now.items c.place_of-place.result c.args.attached
    ∙ (λ i. insert (map owner_of (sym v i)) c.place_of-place.result o)
    ∙ behind-placed c.as_slice.result.now c.place_of-place.result o c.place_of-place.ensures.within (c.place_of-place.ensures.behind (ap (λ l. ascend (map owner_of l)) v ∙ c.requires.order))
    (subst (λ l. IsNone (owner_named c.args.attached.owner (map owner_of l))) (sym v) c.requires.fresh)
    ∙ (λ i. placed o (map owner_of (v i)))

pub returns-in-Ok-clause-stands : goal.returns-in-Ok-clause-stands
returns-in-Ok-clause-stands c j all here =
    subst (λ l. AllOwners l (OwnerStands j)) (sym c.in-Ok.ensures.items) (all-insert (OwnerStands j) c.args.owners.now.items c.place_of-place.result c.args.attached all here)

pub returns-in-Ok-clause-queued : goal.returns-in-Ok-clause-queued
returns-in-Ok-clause-queued c queue all here =
    subst (λ l. AllOwners l (HasDue queue)) (sym c.in-Ok.ensures.items) (all-insert (HasDue queue) c.args.owners.now.items c.place_of-place.result c.args.attached all here)

pub returns-in-Ok-clause-order : goal.returns-in-Ok-clause-order
returns-in-Ok-clause-order c = ap ascend (returns-in-Ok-clause-ok c) ∙ placed-ascend (owner_of c.args.attached) (map owner_of c.args.owners.now.items) c.requires.fresh c.requires.order
