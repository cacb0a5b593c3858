use Rattle.std.proofs.Common.{◌∙◌, ◌+◌, ◌++◌, zero, ap, append-nil, arith, length, refl, sym}
use Rattle.ha_past.specs.Firings.{Owner}
use Rattle.trig_set.specs.Kept.{cleared}
use Rattle.trig_set.specs.Timed.{firings_in}
use Rattle.trig_set.proofs.LeftLemmas.{left-before, left-else, left-from, none-left}
use Rattle.trig_set.proofs.ManyLemmas.{goes-on, goes-set, skip-found, skip-set, unfired-none, unfired-same, whole-found, whole-set}
use Rattle.trig_set.proofs.OwnersLemmas.{apart}
use Rattle.trig_set.proofs.many_spots.collect_some.Goals as goal

pub places-init : goal.places-init
places-init c = record {
  next = zero;
  ahead = λ n there. omega arith;
  behind = λ n from. refl;
  spots = λ unfired. refl;
  fired = λ unfired. sym (append-nil c.args.fired.now);
}

pub places-preserved : goal.places-preserved
places-preserved c =
    let o : Owner = record { owner = c.args.owner; triggers = c.args.triggers.now; since = c.args.since } in
    let place = c.args.scene.now.place in
    let events = c.args.scene.now.events.now in
    let init = c.args.spots.now in
    let old = c.places.left in
    let rest = c.pop_first.new.self in
    let p = c.in-Some.place in
    let updates = c.in-Some.ensures.updates in
    let least = c.in-Some.ensures.least in
    let inv = c.places.invariant in
    let from = inv.ahead p c.in-Some.ensures.member in
    record {
      next = p + 1;
      ahead = λ n there. left-from old rest p updates least n there;
      behind = λ n le. left-else old rest p updates least n (apart p n le) ∙ inv.behind n (omega (arith, from, le));
      spots = λ unfired.
          goes-set cleared init c.places.spots c.collect_there.new.spots p
          (inv.spots unfired ∙ sym (skip-set cleared init inv.next p from (λ n le lt. unfired-same o place events init n (unfired n (sym (inv.behind n le) ∙ left-before old rest p updates least n lt)))))
          c.in_ok-collect_there.ensures.cleared;
      fired = λ unfired.
          goes-on (firings_in o place events) cleared init c.places.spots p c.args.fired.now c.places.fired c.collect_there.new.fired
          (inv.spots unfired ∙ sym (skip-set cleared init inv.next p from (λ n le lt. unfired-same o place events init n (unfired n (sym (inv.behind n le) ∙ left-before old rest p updates least n lt)))))
          (inv.fired unfired ∙ (λ i. c.args.fired.now ++ sym (skip-found (firings_in o place events) cleared init inv.next p from (λ n le lt. unfired-none o place events init n (unfired n (sym (inv.behind n le) ∙ left-before old rest p updates least n lt)))) i))
          c.in_ok-collect_there.ensures.fired;
    }

pub places-smaller : goal.places-smaller
places-smaller c = (let e = ap length c.in-Some.ensures.removal in omega (arith, e))

pub returns-clause-fired : goal.returns-clause-fired
returns-clause-fired c unfired =
    let o : Owner = record { owner = c.args.owner; triggers = c.args.triggers.now; since = c.args.since } in
    let place = c.args.scene.now.place in
    let events = c.args.scene.now.events.now in
    let init = c.args.spots.now in
    let inv = c.places.invariant in
    inv.fired unfired
    ∙ (λ i. c.args.fired.now ++ whole-found (firings_in o place events) cleared init inv.next
    (λ n from. unfired-none o place events init n (unfired n (sym (inv.behind n from) ∙ none-left c.places.left (c.in_default.ensures.variant) n))) i)

pub returns-clause-cleared : goal.returns-clause-cleared
returns-clause-cleared c unfired =
    let o : Owner = record { owner = c.args.owner; triggers = c.args.triggers.now; since = c.args.since } in
    let place = c.args.scene.now.place in
    let events = c.args.scene.now.events.now in
    let init = c.args.spots.now in
    let inv = c.places.invariant in
    inv.spots unfired
    ∙ whole-set cleared init inv.next
    (λ n from. unfired-same o place events init n (unfired n (sym (inv.behind n from) ∙ none-left c.places.left (c.in_default.ensures.variant) n)))
