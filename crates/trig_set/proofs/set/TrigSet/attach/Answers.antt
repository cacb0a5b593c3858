use Rattle.std.proofs.Common.{◌∙◌, ap, refl, sym, subst, length, map}
use Rattle.std.specs.Prelude.{IsNone, not, ◌&&◌, ◌||◌}
use Rattle.ha_past.specs.Firings.{Owner, owner_named, placed}
use Rattle.event_bus.specs.Subjects.{knows}
use Rattle.trig_set.specs.declared.owners.Attached.{Attached}
use Rattle.trig_set.specs.Known.{AreKnown, heed}
use Rattle.trig_set.specs.Noted.{AreNoted}
use Rattle.trig_set.specs.Queued.{HasDue}
use Rattle.trig_set.specs.Order.{owner_of}
use Rattle.trig_set.specs.Reads.{AreRead}
use Rattle.trig_set.specs.Stands.{AllOwners, OwnerStands, attached}
use Rattle.trig_set.proofs.ListedLemmas.{known-along, known-none, known-placed, none-left, put-taken}
use Rattle.trig_set.proofs.OnLemmas.{on-any-err}
use Rattle.trig_set.proofs.set.TrigSet.attach.Goals as goal

pub returns-in_err-put-clause-err : goal.returns-in_err-put-clause-err
returns-in_err-put-clause-err c =
    on-any-err _ c.from_residual-in_err-put.result (
      refl,
      λ j stands. record {
        owners = stands.owners;
        known = stands.known;
        noted = c.put.ensures.same (length j) (attached c.args.self.now) stands.noted;
        queued = stands.queued;
        at = stands.at;
        zone = stands.zone;
        numbers = stands.numbers;
      },
    )

pub list-requires : goal.list-requires
list-requires c =
    subst (λ l. AreRead l c.in_ok-attached.attached.reads) (ap (λ (o : Owner). o.triggers) c.in_ok-attached.ensures.owner ∙ sym c.as_slice-slice.ensures) c.in_ok-attached.ensures.reads

pub returns-in_err-list-clause-err : goal.returns-in_err-list-clause-err
returns-in_err-list-clause-err c =
    let old = c.args.self.now.index in
    let new = c.list.new.index in
    let owners = attached c.args.self.now in
    on-any-err _ c.from_residual-in_err-list.result (
      refl,
      λ j stands. record {
        owners = stands.owners;
        known = known-along old new owners stands.known
            (none-left old new c.args.owner (known-none old owners stands.known c.args.owner c.requires.fresh) c.in_err-list.ensures.err c.list.ensures.others);
        noted = c.put.ensures.same (length j) owners stands.noted;
        queued = stands.queued;
        at = stands.at;
        zone = stands.zone;
        numbers = stands.numbers;
      },
    )

pub put_in-requires : goal.put_in-requires
put_in-requires c = subst (λ n. IsNone (owner_named n (attached c.args.self.now))) (sym (ap (λ o. o.owner) c.in_ok-attached.ensures.owner)) c.requires.fresh

pub returns-in-Ok-clause-stands : goal.returns-in-Ok-clause-stands
returns-in-Ok-clause-stands c j stands le =
    let old = c.args.self.now.index in
    let new = c.list.new.index in
    let owners = attached c.args.self.now in
    let o : Owner = record { owner = c.args.owner; triggers = c.args.triggers.now; since = c.args.place } in
    record {
      owners = c.in-Ok.ensures.stands j stands.owners (c.in_ok-attached.ensures.stands j le);
      known = subst (AreKnown new) (sym (c.in-Ok.ensures.ok ∙ ap (λ p. placed p owners) c.in_ok-attached.ensures.owner))
          (known-placed old new owners stands.known o c.requires.fresh
          (λ s. c.in_ok-list.ensures.own s ∙ (λ i. heed (c.as_slice-slice.ensures i) s || knows old s c.args.owner)) c.list.ensures.others);
      noted = subst (AreNoted c.put.new.self (length j)) (sym (c.in-Ok.ensures.ok ∙ ap (λ p. placed p owners) c.in_ok-attached.ensures.owner))
          (c.in_ok-put.ensures.ok (length j) owners c.args.triggers.now stands.noted);
      queued = c.in-Ok.ensures.queued c.args.self.now.queue stands.queued (c.in_ok-attached.ensures.due c.args.self.now.queue);
      at = stands.at;
      zone = stands.zone;
      numbers = stands.numbers;
    }

pub returns-in-Err-clause-err : goal.returns-in-Err-clause-err
returns-in-Err-clause-err c =
    let old = c.args.self.now.index in
    let mid = c.list.new.index in
    let new = c.unlist_attached.new.index in
    let owners = attached c.args.self.now in
    let same = c.in-Err.ensures.err in
    let back = c.in-Err.ensures.back in
    let are = subst (λ (a : Attached). AreRead a.triggers a.reads) (sym back) c.in_ok-attached.ensures.reads in
    let triggers = ap (λ (a : Attached). a.triggers) back ∙ ap (λ (o : Owner). o.triggers) c.in_ok-attached.ensures.owner ∙ sym c.as_slice-slice.ensures in (
      ap (map owner_of) same,
      λ j stands. record {
        owners = subst (λ l. AllOwners l (OwnerStands j)) (sym same) stands.owners;
        known = subst (λ l. AreKnown new (map owner_of l)) (sym same)
            (known-along old new owners stands.known
            (none-left old new c.args.owner (known-none old owners stands.known c.args.owner c.requires.fresh)
            (λ s. put-taken (heed c.as_slice-slice.result.now s) (knows old s c.args.owner) (knows mid s c.args.owner) (knows new s c.args.owner) (c.in_ok-list.ensures.own s)
            (c.unlist_attached.ensures.own are s ∙ (λ i. not (heed (triggers i) s) && knows mid s c.args.owner)))
            (λ s n apart. c.unlist_attached.ensures.others s n apart ∙ c.list.ensures.others s n apart)));
        noted = subst (λ l. AreNoted c.put.new.self (length j) (map owner_of l)) (sym same) (c.put.ensures.same (length j) owners stands.noted);
        queued = subst (λ l. AllOwners l (HasDue c.args.self.now.queue)) (sym same) stands.queued;
        at = stands.at;
        zone = stands.zone;
        numbers = stands.numbers;
      },
    )
