use Rattle.std.proofs.Common.{◌≡◌, ◌∙◌, ◌+◌, ◌++◌, zero, refl, sym, ap, subst, arith, append_assoc, append-nil, inl, inr, length, false}
use Rattle.std.specs.Prelude.{flat_map}
use Rattle.std.proofs.lemmas.Bool.Decides.{eqb_tells, leb_tells}
use Rattle.event_bus.specs.Lists.{has}
use Rattle.ha_config.specs.Words.{up_to}
use Rattle.ha_journal.specs.Journal.{more}
use Rattle.trig_set.specs.Order.{ascend}
use Rattle.trig_set.specs.Queued.{HasDue}
use Rattle.trig_set.specs.Scenes.{Shows}
use Rattle.trig_set.specs.Stands.{AtOwner, OwnerStands, firings_at}
use Rattle.trig_set.proofs.CalmLemmas.{never}
use Rattle.trig_set.proofs.LeftLemmas.{flat-skip, left-before, left-else, left-from, left-here, none-left}
use Rattle.trig_set.proofs.OwnersLemmas.{apart, at-along, fired-along, fires-beyond, flat-up}
use Rattle.trig_set.proofs.noted.note_some.Goals as goal

pub places-init : goal.places-init
places-init g c = record {
  stands = λ j shows sees all calm n none. calm n none;
  same = λ n there. refl;
  queued = λ asc calm n none. calm n none;
  owners = refl;
  next = zero;
  ahead = λ n there. omega arith;
  behind = λ n from. refl;
  fired = λ j shows sees all calm. sym (append-nil c.args.fired.now);
}

pub places-preserved : goal.places-preserved
places-preserved g c =
    let x = c.args.scene.now.entry.now in
    let init = c.args.owners.now in
    let now = c.places.owners in
    let new = c.note_there.new.owners in
    let old = c.places.left in
    let rest = c.pop_first.new.self in
    let p = c.in-Some.place in
    let updates = c.in-Some.ensures.updates in
    let least = c.in-Some.ensures.least in
    let inv = c.places.invariant in
    let here = inv.same p c.in-Some.ensures.member in
    let from = inv.ahead p c.in-Some.ensures.member in
    record {
      stands = λ j shows sees all calm n none. elim (eqb_tells p n) [
        | inl same ↦ subst (λ m. AtOwner new m (OwnerStands (more j x))) same.1
            (c.in_ok-note_there.ensures.stands j (at-along (λ a. Shows c.args.scene.now j a.since) now init p here (shows p)) sees (at-along (OwnerStands j) now init p here (all p)))
        | inr other ↦ at-along (OwnerStands (more j x)) new now n (c.in_ok-note_there.ensures.elsewhere n other.0) (inv.stands j shows sees all calm n (sym (left-else old rest p updates least n other.0) ∙ none))
      ];
      same = λ n there. elim (eqb_tells p n) [
        | inl same ↦ absurd (never (has rest n) there (subst (λ m. has rest m ≡ false) same.1 (left-here old rest p updates least)))
        | inr other ↦ c.in_ok-note_there.ensures.elsewhere n other.0 ∙ inv.same n (sym (left-else old rest p updates least n other.0) ∙ there)
      ];
      queued = λ asc calm n none. elim (eqb_tells p n) [
        | inl same ↦ subst (λ m. AtOwner new m (HasDue c.enqueue.new.queue)) same.1 c.in_ok-enqueue.ensures.here
        | inr other ↦
            c.in_ok-enqueue.ensures.elsewhere (ap ascend (c.note_there.ensures.owners ∙ inv.owners) ∙ asc) n other.0
            (at-along (HasDue c.places.queue) new now n (c.in_ok-note_there.ensures.elsewhere n other.0) (inv.queued asc calm n (sym (left-else old rest p updates least n other.0) ∙ none)))
      ];
      owners = c.note_there.ensures.owners ∙ inv.owners;
      next = p + 1;
      ahead = λ n there. left-from old rest p updates least n there;
      behind = λ n le. left-else old rest p updates least n (apart p n le) ∙ inv.behind n (omega (arith, from, le));
      fired = λ j shows sees all calm.
          let f = firings_at j x init in
          c.in_ok-note_there.ensures.fired j (at-along (λ a. Shows c.args.scene.now j a.since) now init p here (shows p)) sees (at-along (OwnerStands j) now init p here (all p))
          ∙ (λ i. inv.fired j shows sees all calm i ++ fired-along j x now init p here i)
          ∙ append_assoc c.args.fired.now (flat_map f (up_to inv.next)) (f p)
          ∙ (λ i. c.args.fired.now ++ (sym (flat-skip f inv.next p from (λ n le lt. calm n (sym (inv.behind n le) ∙ left-before old rest p updates least n lt))) i ++ f p))
          ∙ (λ i. c.args.fired.now ++ sym (flat-up f p) i);
    }

pub places-smaller : goal.places-smaller
places-smaller g c = (let e = ap length c.in-Some.ensures.removal in omega (arith, e))

pub returns-clause-owners : goal.returns-clause-owners
returns-clause-owners g c = c.places.invariant.owners

pub returns-clause-queued : goal.returns-clause-queued
returns-clause-queued g c asc calm n = c.places.invariant.queued asc calm n (none-left c.places.left (c.in_default.ensures.variant) n)

pub returns-clause-stands : goal.returns-clause-stands
returns-clause-stands g c j shows sees all calm n = c.places.invariant.stands j shows sees all calm n (none-left c.places.left (c.in_default.ensures.variant) n)

pub returns-clause-fired : goal.returns-clause-fired
returns-clause-fired g c j shows sees all calm =
    let x = c.args.scene.now.entry.now in
    let init = c.args.owners.now in
    let f = firings_at j x init in
    let inv = c.places.invariant in
    let whole : flat_map f (up_to inv.next) ≡ flat_map f (up_to (length init)) =
    elim (leb_tells (length init) inv.next) [
      | inl over ↦ flat-skip f (length init) inv.next over.1 (λ n le lt. fires-beyond j x init n le)
      | inr under ↦ (let below = under.1 in sym (flat-skip f inv.next (length init) (omega (arith, below)) (λ n le lt. calm n (sym (inv.behind n le) ∙ none-left c.places.left (c.in_default.ensures.variant) n))))
    ] in
    inv.fired j shows sees all calm ∙ (λ i. c.args.fired.now ++ whole i)

pub returns-in_err-note_there-clause-owners : goal.returns-in_err-note_there-clause-owners
returns-in_err-note_there-clause-owners g c = c.note_there.ensures.owners ∙ c.places.invariant.owners

pub returns-in_err-enqueue-clause-owners : goal.returns-in_err-enqueue-clause-owners
returns-in_err-enqueue-clause-owners g c = c.note_there.ensures.owners ∙ c.places.invariant.owners
