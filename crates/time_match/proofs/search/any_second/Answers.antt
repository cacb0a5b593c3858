use Rattle.std.proofs.Common.{◌≡◌, ◌∙◌, ap, sym, arith, ◌<◌, ◌-◌}
use Rattle.ha_clock.specs.Passed.{holds_in}
use Rattle.ha_sight.specs.Rules.{second_fits}
use Rattle.time_match.proofs.SearchLemmas.{behind, found, none_left}
use Rattle.time_match.proofs.search.any_second.Goals as goal

pub returns-then-is_time_of : goal.returns-then-is_time_of
returns-then-is_time_of c =
    let test = second_fits c.args.rule.now in
    let some : 0 < c.loop-left.left = omega arith in
    let holds = ap test (sym c.second_of_day.ensures.value) ∙ sym c.is_time_of.ensures ∙ c.if-is_time_of.true in
    sym (found test c.args.zone.now c.loop-left.left c.loop-left.second some holds) ∙ c.loop-left.invariant.rest_decides

pub loop-left-preserved : goal.loop-left-preserved
loop-left-preserved c =
    let test = second_fits c.args.rule.now in
    let some : 0 < c.loop-left.left = omega arith in
    let next : c.saturating_sub-second.result ≡ c.loop-left.second - 1 = omega arith in
    record {
      in_range = omega arith;
      rest_decides = ap (λ s. holds_in c.args.zone.now test s (c.loop-left.left - 1)) next
          ∙ behind test c.args.zone.now c.loop-left.left c.loop-left.second some (ap test (sym c.second_of_day.ensures.value) ∙ sym c.is_time_of.ensures ∙ c.if-is_time_of.false)
          ∙ c.loop-left.invariant.rest_decides;
    }

pub returns : goal.returns
returns c =
    sym (none_left (second_fits c.args.rule.now) c.args.zone.now c.loop-left.left c.loop-left.second (omega arith)) ∙ c.loop-left.invariant.rest_decides
