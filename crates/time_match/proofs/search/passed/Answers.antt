use Rattle.std.proofs.Common.{◌≡◌, ◌∙◌, ◌*◌, ◌/◌, ◌↔◌, IsTrue, ap, sym, subst, ℕ}
use Rattle.ha_clock.specs.Local.{second_of_day}
use Rattle.ha_clock.specs.Passed.{holds_in, passed_count}
use Rattle.ha_sight.specs.Rules.{second_fits}
use Rattle.time_match.specs.Times.{HasTimeBack}
use Rattle.time_match.proofs.SearchLemmas.{no_times, searched}
use Rattle.time_match.proofs.SteadyLemmas.{steady-passes}
use Rattle.time_match.proofs.search.passed.Goals as goal

pub returns-then-not-has_times : goal.returns-then-not-has_times
returns-then-not-has_times c = sym (no_times c.args.rule.now c.args.zone.now c.args.from c.args.to (sym c.has_times.ensures ∙ c.if-not-has_times.true))

pub returns-then-is_steady : goal.returns-then-is_steady
returns-then-is_steady c =
    let rule = c.args.rule.now in
    let zone = c.args.zone.now in
    let last : c.second_of_day.result ≡ second_of_day zone (c.args.to / 1000 * 1000) = c.second_of_day.ensures.value ∙ ap (λ t. second_of_day zone (t / 1000 * 1000)) c.millis-last.ensures.same in
    let counted : IsTrue c.has_time_back.result ↔ HasTimeBack rule c.second_of_day.result (passed_count c.args.from c.args.to) =
    subst (λ (n : ℕ). IsTrue c.has_time_back.result ↔ HasTimeBack rule c.second_of_day.result n) c.passed_count-count.ensures c.has_time_back.ensures in
    steady-passes rule zone c.args.from c.args.to c.has_time_back.result (sym c.is_steady.ensures ∙ c.if-is_steady.true)
    (subst (λ (s : ℕ). IsTrue c.has_time_back.result ↔ HasTimeBack rule s (passed_count c.args.from c.args.to)) last counted)

pub returns-else-is_steady : goal.returns-else-is_steady
returns-else-is_steady c =
    let test = second_fits c.args.rule.now in
    let zone = c.args.zone.now in
    c.any_second.ensures
    ∙ (λ i. holds_in zone test (c.millis-last.ensures.same i / 1000) (c.passed_count-count.ensures i))
    ∙ sym (searched c.args.rule.now zone c.args.from c.args.to)
