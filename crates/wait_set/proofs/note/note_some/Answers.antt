use Rattle.std.proofs.Common.{◌∙◌, ◌+◌, ◌++◌, zero, false, refl, sym, ap, subst, arith, length, take, drop, get_or, append-nil}
use Rattle.wait_set.specs.Asked.{noted, owners_ended}
use Rattle.wait_set.specs.Concern.{IsStill}
use Rattle.wait_set.proofs.ConcernLemmas.{apart, left-before, left-from, none-left, updates-else}
use Rattle.wait_set.proofs.NotedLemmas.{Still, behind-noted, ended-done, ended-next, ended-skip, length-noted, noted-done, noted-next, noted-skip}
use Rattle.wait_set.proofs.note.note_some.Goals as goal

pub places-init : goal.places-init
places-init g c = record {
  next = zero;
  ahead = λ n there. omega arith;
  still = λ n d from lt none. c.requires n d lt none;
  rest = refl;
  fresh = refl;
  kept = λ ordered kept. kept;
}

pub places-preserved : goal.places-preserved
places-preserved g c =
    let q = c.args.place in
    let s = g.A.Answers.sight c.args.answers.now in
    let fired = c.args.fired.now in
    let at = c.in-Some.at in
    let asks = c.places.asks.items in
    let ok = c.in_ok-note_at.ensures.ok in
    let old = c.places.left in
    let rest = c.pop_first.new.self in
    let updates = c.in-Some.ensures.updates in
    let least = c.in-Some.ensures.least in
    let inv = c.places.invariant in
    let from = inv.ahead at c.in-Some.ensures.member in
    let skip : Still q s fired asks inv.next at = λ n d le lt within. inv.still n d le within (left-before old rest at updates least n lt) in
    record {
      next = at + 1;
      ahead = λ n there. left-from old rest at updates least n there;
      still = λ n d le lt none.
          subst (λ a. IsStill q s fired a) (sym ((λ k. get_or (ok k) n d) ∙ behind-noted q s fired at n d asks (omega (arith, le))))
          (inv.still n d (omega (arith, from, le)) (omega (arith, lt, ap length ok, length-noted q s fired at asks)) (sym (updates-else old rest at false updates n (apart at n le)) ∙ none));
      rest = (λ k. take (at + 1) (ok k) ++ noted q s fired (drop (at + 1) (ok k))) ∙ noted-next q s fired at asks ∙ noted-skip q s fired asks inv.next at from skip ∙ inv.rest;
      fresh =
          (λ k. c.note_at.new.fresh.items ++ owners_ended q s fired (drop (at + 1) (ok k)))
          ∙ ended-next q s fired at asks c.places.fresh.items c.note_at.new.fresh.items c.in_ok-note_at.ensures.fresh
          ∙ (λ k. c.places.fresh.items ++ ended-skip q s fired asks inv.next at from skip k)
          ∙ inv.fresh;
      kept = λ ordered kept. c.note_at.ensures.kept ordered (inv.kept ordered kept);
    }

pub places-smaller : goal.places-smaller
places-smaller g c = (let e = ap length c.in-Some.ensures.removal in omega (arith, e))

pub returns-clause-ok : goal.returns-clause-ok
returns-clause-ok g c =
    let q = c.args.place in
    let s = g.A.Answers.sight c.args.answers.now in
    let fired = c.args.fired.now in
    let inv = c.places.invariant in
    noted-done q s fired c.places.asks.items inv.next (λ n d le lt within. inv.still n d le within (none-left c.places.left (c.in_default.ensures.variant) n)) ∙ inv.rest

pub returns-clause-fresh : goal.returns-clause-fresh
returns-clause-fresh g c =
    let q = c.args.place in
    let s = g.A.Answers.sight c.args.answers.now in
    let fired = c.args.fired.now in
    let inv = c.places.invariant in
    let done = ended-done q s fired c.places.asks.items inv.next (λ n d le lt within. inv.still n d le within (none-left c.places.left (c.in_default.ensures.variant) n)) in
    sym ((λ k. c.places.fresh.items ++ done k) ∙ append-nil c.places.fresh.items) ∙ inv.fresh

pub returns-clause-kept : goal.returns-clause-kept
returns-clause-kept g c ordered kept = c.places.invariant.kept ordered kept

pub returns-in_err-note_at-clause-kept : goal.returns-in_err-note_at-clause-kept
returns-in_err-note_at-clause-kept g c ordered kept = c.note_at.ensures.kept ordered (c.places.invariant.kept ordered kept)
