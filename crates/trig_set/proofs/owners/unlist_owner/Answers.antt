use Rattle.std.proofs.Common.{◌≡◌, ◌∙◌, ap, arith, false, get_or, map, subst, sym}
use Rattle.std.specs.Prelude.{MatchOption, Option, Some, nat_eq, option_map, slice_get}
use Rattle.std.proofs.lemmas.Bool.Decides.{nat_tests}
use Rattle.event_bus.specs.Subjects.{knows}
use Rattle.trig_set.specs.declared.owners.Attached.{Attached}
use Rattle.trig_set.specs.Known.{AreKnown, heed}
use Rattle.trig_set.specs.Order.{owner_of}
use Rattle.trig_set.specs.Reads.{AreRead}
use Rattle.trig_set.proofs.ConcernLemmas.{get-map}
use Rattle.trig_set.proofs.ListedLemmas.{all-taken, known-at, known-without}
use Rattle.trig_set.proofs.OwnersLemmas.{at-beyond}
use Rattle.trig_set.proofs.PlaceLemmas.{left-absent, map-left}
use Rattle.trig_set.proofs.SpotLemmas.{get-at}
use Rattle.trig_set.proofs.owners.unlist_owner.Goals.{else-place-owners-via-then-place-owners+else-owners-place, else-place-owners-via-else-place-owners}
use Rattle.trig_set.proofs.owners.unlist_owner.Goals as goal

pub returns-then-owners-place : goal.returns-then-owners-place
returns-then-owners-place c reads known =
    let xs = c.args.owners.now in
    let place = c.place_of-place.result in
    let n = c.args.owner in
    let old = c.args.index.now in
    let new = c.unlist_attached.new.index in
    let seen = get_or xs place c.index-owners-place.result in
    let a = c.index-owners-place-then-owners-place.result in
    let stands : ◌≡◌ {A = Option Attached} (slice_get xs place) (Some a)
    = get-at xs place c.index-owners-place-then-owners-place.result c.if-place-owners.true ∙ (λ i. Some (sym c.index-owners-place-then-owners-place.is i)) in
    let both : ◌≡◌ {A = Option Attached} (Some seen) (Some a) = sym (get-at xs place c.index-owners-place.result c.if-place-owners.true) ∙ stands in
    let same : seen ≡ a = cc in
    let number : a.owner ≡ n = (λ i. (sym same i).owner) ∙ c.if-owners-place.true in
    let are : AreRead a.triggers a.reads = subst (λ o. MatchOption o (Unit {0}) (λ a. AreRead a.triggers a.reads)) stands (reads place) in
    let at = get-map owner_of xs place ∙ ap (option_map owner_of) stands in
    known-without old new (map owner_of xs) known n
    (λ s. all-taken (heed a.triggers s) (knows old s n) (knows new s n)
    (subst (λ m. knows old s m ≡ heed a.triggers s) number (known-at old (map owner_of xs) known place (owner_of a) at s))
    (c.unlist_attached.ensures.own are s))
    c.unlist_attached.ensures.others

pub returns-else-place-owners : goal.returns-else-place-owners
returns-else-place-owners c reads known =
    let xs = c.args.owners.now in
    let place = c.place_of-place.result in
    let n = c.args.owner in
    subst (AreKnown c.args.index.now)
    (ap (map owner_of) (left-absent xs place n (c.place_of-place.ensures.there known.ascend)
    (elim c.else-place-owners.branch [
      | else-place-owners-via-then-place-owners+else-owners-place w ↦
          (let other = w.if-owners-place.false in
          subst (λ o. MatchOption o (Unit {0}) (λ a. nat_eq a.owner n ≡ false)) (sym (get-at xs place w.index-owners-place.result w.if-place-owners.true)) (grind (arith, nat_tests, other)))
      | else-place-owners-via-else-place-owners w ↦ at-beyond (λ a. nat_eq a.owner n ≡ false) xs place (omega (arith, w.if-place-owners.false))
    ]))
    ∙ map-left n xs)
    known
