use Rattle.std.proofs.Common.{◌≡◌, ◌∙◌, ◌<◌, ℕ, ap, arith, filter, length, map, sym, subst, false}
use Rattle.std.specs.Prelude.{Some, MatchOption, nat_eq}
use Rattle.std.proofs.lemmas.Bool.Decides.{nat_tests}
use Rattle.trig_set.specs.Order.{ascend, owner_of}
use Rattle.timer_queue.specs.Timers.{removed}
use Rattle.trig_set.specs.Queued.{HasDue}
use Rattle.trig_set.specs.Stands.{AllOwners, AtOwner, OwnerStands}
use Rattle.trig_set.proofs.OrderLemmas.{without-ascend}
use Rattle.trig_set.proofs.OwnersLemmas.{at-beyond}
use Rattle.trig_set.proofs.PlaceLemmas.{all-left, is_other, left-absent, map-left, taken-out}
use Rattle.trig_set.proofs.QueueLemmas.{left-queued}
use Rattle.trig_set.proofs.SpotLemmas.{get-at}
use Rattle.trig_set.proofs.ordered.remove.Goals.{else-place-len-via-then-place-len+else-index-owner, else-place-len-via-else-place-len}
use Rattle.trig_set.proofs.ordered.remove.Goals as goal

pub returns-then-index-owner-clause-rest : goal.returns-then-index-owner-clause-rest
returns-then-index-owner-clause-rest c = ap (map owner_of) (taken-out c.args.owners.now.items c.as_slice.result.now c.remove.new.self.items c.place_of-place.result c.args.owner c.index.result.now c.as_slice.ensures.value
    c.place_of-place.ensures.there c.requires (omega (arith, c.if-place-len.true, c.len.ensures)) c.index.ensures c.if-index-owner.true c.remove.ensures.items) ∙ map-left c.args.owner c.args.owners.now.items

pub returns-then-index-owner-clause-stands : goal.returns-then-index-owner-clause-stands
returns-then-index-owner-clause-stands c j all = subst (λ l. AllOwners l (OwnerStands j)) (sym (taken-out c.args.owners.now.items c.as_slice.result.now c.remove.new.self.items c.place_of-place.result c.args.owner c.index.result.now c.as_slice.ensures.value
    c.place_of-place.ensures.there c.requires (omega (arith, c.if-place-len.true, c.len.ensures)) c.index.ensures c.if-index-owner.true c.remove.ensures.items)) (all-left (OwnerStands j) c.args.owner c.args.owners.now.items all)

pub returns-then-index-owner-clause-order : goal.returns-then-index-owner-clause-order
returns-then-index-owner-clause-order c = ap ascend (returns-then-index-owner-clause-rest c) ∙ without-ascend c.args.owner (map owner_of c.args.owners.now.items) c.requires

pub returns-then-index-owner-clause-queued : goal.returns-then-index-owner-clause-queued
returns-then-index-owner-clause-queued c queue all =
    subst (λ l. AllOwners l (HasDue (removed c.args.owner queue))) (sym (taken-out c.args.owners.now.items c.as_slice.result.now c.remove.new.self.items c.place_of-place.result c.args.owner c.index.result.now c.as_slice.ensures.value
    c.place_of-place.ensures.there c.requires (omega (arith, c.if-place-len.true, c.len.ensures)) c.index.ensures c.if-index-owner.true c.remove.ensures.items)) (left-queued c.args.owner queue c.args.owners.now.items all)

stay : (c : goal.Joined-else-place-len) → c.args.owners.now.items ≡ filter (is_other c.args.owner) c.args.owners.now.items
stay c =
    let xs = c.args.owners.now.items in
    let v = c.as_slice.ensures.value in
    let place = c.place_of-place.result in
    left-absent xs place c.args.owner
    (subst (λ l. (n : ℕ) → AtOwner l n (λ a. a.owner ≡ c.args.owner → place ≡ n)) v (c.place_of-place.ensures.there (ap (λ l. ascend (map owner_of l)) v ∙ c.requires)))
    (elim c.else-place-len.branch [
      | else-place-len-via-then-place-len+else-index-owner w ↦
          (let other = w.if-index-owner.false in
          let lt : place < length xs = omega (arith, w.if-place-len.true, c.len.ensures) in
          subst (λ o. MatchOption o (Unit {0}) (λ a. nat_eq a.owner c.args.owner ≡ false)) (sym (get-at xs place w.index.result.now lt ∙ ap Some (sym w.index.ensures))) (grind (arith, nat_tests, other)))
      | else-place-len-via-else-place-len w ↦ at-beyond (λ a. nat_eq a.owner c.args.owner ≡ false) xs place (omega (arith, w.if-place-len.false, c.len.ensures))
    ])

pub returns-else-place-len-clause-rest : goal.returns-else-place-len-clause-rest
returns-else-place-len-clause-rest c = ap (map owner_of) (stay c) ∙ map-left c.args.owner c.args.owners.now.items

pub returns-else-place-len-clause-stands : goal.returns-else-place-len-clause-stands
returns-else-place-len-clause-stands c j all = all

pub returns-else-place-len-clause-queued : goal.returns-else-place-len-clause-queued
returns-else-place-len-clause-queued c queue all =
    subst (λ l. AllOwners l (HasDue (removed c.args.owner queue))) (sym (stay c)) (left-queued c.args.owner queue c.args.owners.now.items all)
