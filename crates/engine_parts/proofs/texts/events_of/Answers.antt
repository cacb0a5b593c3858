use Rattle.std.proofs.Common.{◌≡◌, ◌<◌, ◌∙◌, ◌++◌, ◌+◌, [], ap, arith, length, suc, sym, take}
use Rattle.std.proofs.lemmas.List.{take_all}
use Rattle.std.specs.Prelude.{filter_map}
use Rattle.std.specs.List.{cons_option}
use Rattle.ha_journal.specs.Helpers.{event_of_change}
use Rattle.trig_set.proofs.CollectLemmas.{found-next}
use Rattle.engine_parts.proofs.texts.events_of.Goals as goal

pub loop-place-preserved : goal.loop-place-preserved
loop-place-preserved c =
    let n = c.loop-place.place in
    let all = c.args.changes.now in
    let d = c.index-changes-place.result in
    let lt : n < length all = omega arith in
    c.in_ok-push_event.ensures
    ∙ (λ i. c.loop-place.invariant i ++ cons_option (event_of_change (c.index-changes-place.is i)) [])
    ∙ sym (found-next event_of_change d all n lt)
    ∙ (let q : suc n ≡ n + 1 = omega arith in λ i. filter_map event_of_change (take (q i) all))

pub returns : goal.returns
returns c = c.loop-place.invariant ∙ ap (filter_map event_of_change) (take_all c.loop-place.place c.args.changes.now (omega arith))
