use Rattle.std.proofs.Common.{◌≡◌, ◌≤◌, ◌*◌}
use Rattle.ha_clock.specs.Local.{last_moment}
use Rattle.ha_clock.specs.Passed.{holds_in}
use Rattle.ha_sight.specs.Rules.{second_fits}
use Rattle.time_match.proofs.search.any_second.Given as goal

abbrev pub invariant-loop-left : goal.invariant-loop-left
invariant-loop-left l = record {
  in_range : l.second * 1000 ≤ last_moment;
  rest_decides : holds_in l.zone (second_fits l.rule) l.second l.left ≡ holds_in l.zone (second_fits l.rule) l.fn.last l.fn.count;
}

abbrev pub decreases-loop-left : goal.decreases-loop-left
decreases-loop-left l = l.left
