use Rattle.std.proofs.Common.{◌≡◌, ◌∙◌, ap, arith, false, inl, inr, length, refl, subst, sym}
use Rattle.std.proofs.lemmas.Bool.Decides.{eqb_tells}
use Rattle.event_bus.specs.Lists.{has}
use Rattle.trig_set.specs.Kept.{At, KeepsAt, MovedAt}
use Rattle.trig_set.proofs.CalmLemmas.{never}
use Rattle.trig_set.proofs.LeftLemmas.{left-else, left-here, none-left, put-apart, put-kept}
use Rattle.trig_set.proofs.ManyLemmas.{at-same}
use Rattle.trig_set.proofs.many_spots.step_some.Goals as goal

pub places-init : goal.places-init
places-init g c = record {
  moved = λ j shows sees well keeps calm n none. calm n none;
  same = λ n there. refl;
  places = refl;
  timed = λ t. t;
  aside = λ n none out. out;
  elsewhere = λ n none. (none, refl);
}

pub places-preserved : goal.places-preserved
places-preserved g c =
    let x = c.args.scene.now.entry.now in
    let init = c.args.spots.now in
    let now = c.places.spots in
    let new = c.step_there.new.spots in
    let old = c.places.left in
    let rest = c.pop_first.new.self in
    let p = c.in-Some.place in
    let updates = c.in-Some.ensures.updates in
    let least = c.in-Some.ensures.least in
    let put = c.in_ok-insert.ensures.updates in
    let inv = c.places.invariant in
    let here = inv.same p c.in-Some.ensures.member in
    record {
      moved = λ j shows sees well keeps calm n none. elim (eqb_tells p n) [
        | inl same ↦ subst (λ m. At new m (MovedAt j x c.args.triggers.now c.args.since)) same.1
            (c.in_ok-step_there.ensures.moved j shows sees well (at-same (KeepsAt j c.args.triggers.now c.args.since) now init p here (keeps p)))
        | inr other ↦ at-same (MovedAt j x c.args.triggers.now c.args.since) new now n (c.in_ok-step_there.ensures.elsewhere n other.0)
            (inv.moved j shows sees well keeps calm n (sym (left-else old rest p updates least n other.0) ∙ none))
      ];
      same = λ n there. elim (eqb_tells p n) [
        | inl same ↦ absurd (never (has rest n) there (subst (λ m. has rest m ≡ false) same.1 (left-here old rest p updates least)))
        | inr other ↦ c.in_ok-step_there.ensures.elsewhere n other.0 ∙ inv.same n (sym (left-else old rest p updates least n other.0) ∙ there)
      ];
      places = c.in_ok-step_there.ensures.places ∙ inv.places;
      timed = λ t. c.in_ok-step_there.ensures.timed (inv.timed t);
      aside = λ n none out.
          inv.aside n (put-kept c.places.gone c.insert.new.self p put n none) (sym (left-else old rest p updates least n (put-apart c.places.gone c.insert.new.self p put n none)) ∙ out);
      elsewhere = λ n none.
          let before = inv.elsewhere n (put-kept c.places.gone c.insert.new.self p put n none) in
          (before.0, c.in_ok-step_there.ensures.elsewhere n (put-apart c.places.gone c.insert.new.self p put n none) ∙ before.1);
    }

pub places-smaller : goal.places-smaller
places-smaller g c = (let e = ap length c.in-Some.ensures.removal in omega (arith, e))

pub returns-clause-moved : goal.returns-clause-moved
returns-clause-moved g c j shows sees well keeps calm n = c.places.invariant.moved j shows sees well keeps calm n (none-left c.places.left (c.in_default.ensures.variant) n)

pub returns-clause-aside : goal.returns-clause-aside
returns-clause-aside g c n none = c.places.invariant.aside n none (none-left c.places.left (c.in_default.ensures.variant) n)
