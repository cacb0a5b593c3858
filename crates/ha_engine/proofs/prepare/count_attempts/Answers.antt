use Rattle.std.proofs.Common.{ℕ, List, length, take, ap, ◌∙◌, arith}
use Rattle.std.proofs.lemmas.List.{take_all}
use Rattle.ha_journal.specs.declared.firing.Firing.{Firing}
use Rattle.engine_parts.specs.Owners.{attempts_by}
use Rattle.ha_engine.proofs.PrepareLemmas.{take-at, attempts-weigh, weight-small}
use Rattle.ha_engine.proofs.prepare.count_attempts.Goals as goal

pub firings-preserved : goal.firings-preserved
firings-preserved c =
    let i : ℕ = c.firings.firing-index in
    let fs : List Firing = c.args.fired.now in
    let f : Firing = c.firing-item.result in
    let more = take-at fs i f c.firings-test.true c.firing-item.is in
    record {
      counted = omega (arith, c.weight-count.ensures, c.firings.invariant.counted, ap (λ (l : List Firing). length (attempts_by l)) more, attempts-weigh (take i fs) f);
      small = omega (arith, c.weight-count.ensures, c.firings.invariant.small, weight-small f);
    }

pub overflow_add-count : goal.overflow_add-count
overflow_add-count c = omega (arith, c.weight-count.ensures, c.firings.invariant.small, weight-small c.firing-item.result, c.firings-test.true)

pub returns : goal.returns
returns c = c.firings.invariant.counted ∙ ap (λ (l : List Firing). length (attempts_by l)) (take_all c.firings.firing-index c.args.fired.now c.firings-test.false)
