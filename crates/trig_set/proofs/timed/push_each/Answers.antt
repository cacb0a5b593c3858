use Rattle.std.proofs.Common.{◌≡◌, ◌<◌, ◌≤◌, ◌∙◌, ◌++◌, ◌+◌, List, [], append_assoc, arith, get_or, length, subst, suc, sym, take}
use Rattle.std.proofs.lemmas.List.{take_all}
use Rattle.std.specs.Prelude.{filter_map}
use Rattle.std.specs.List.{cons_option}
use Rattle.ha_journal.specs.declared.event.BusEvent.{BusEvent}
use Rattle.trig_set.specs.Timed.{timed_for}
use Rattle.trig_set.proofs.CollectLemmas.{found-next}
use Rattle.trig_set.proofs.TimedLemmas.{filter-mapped}
use Rattle.trig_set.proofs.timed.push_each.Goals as goal

pub loop-at-preserved : goal.loop-at-preserved
loop-at-preserved c =
    let n = c.loop-at.at in
    let events = c.args.events.now in
    let is = c.as_slice-list.ensures in
    let d = c.index-list-at.result in
    let test : n < length c.as_slice-list.result.now = c.loop-at-test.true in
    let lt : n < length events = subst (λ (l : List BusEvent). n < length l) is test in
    let f = λ (v : BusEvent). timed_for c.args.owner c.args.index c.args.trigger.now events v.entity in
    c.in_ok-push_for.ensures
    ∙ (λ i. c.loop-at.fired ++ cons_option (f (get_or (is i) n d)) [])
    ∙ (λ i. c.loop-at.invariant i ++ cons_option (f (get_or events n d)) [])
    ∙ append_assoc c.args.fired.now (filter_map f (take n events)) (cons_option (f (get_or events n d)) [])
    ∙ (λ i. c.args.fired.now ++ sym (found-next f d events n lt) i)
    ∙ (let q : suc n ≡ n + 1 = omega arith in λ i. c.args.fired.now ++ filter_map f (take (q i) events))

pub returns : goal.returns
returns c =
    let events = c.args.events.now in
    let is = c.as_slice-list.ensures in
    let test : length c.as_slice-list.result.now ≤ c.loop-at.at = omega arith in
    let f = λ (v : BusEvent). timed_for c.args.owner c.args.index c.args.trigger.now events v.entity in
    c.loop-at.invariant
    ∙ (λ i. c.args.fired.now ++ filter_map f (take_all c.loop-at.at events (subst (λ (l : List BusEvent). length l ≤ c.loop-at.at) is test) i))
    ∙ (λ i. c.args.fired.now ++ filter-mapped (timed_for c.args.owner c.args.index c.args.trigger.now events) (λ (v : BusEvent). v.entity) events i)
