use Rattle.std.proofs.Common.{◌-◌, ◌≤◌, length}
use Rattle.wait_set.specs.Runs.{HasNone}
use Rattle.wait_set.proofs.runs.walk.Given as goal

abbrev pub invariant-asks : goal.invariant-asks
invariant-asks l = record {
  from : l.from ≤ l.at;
  fits : l.at ≤ length l.asks;
  skipped : HasNone l.asks l.serial l.from l.at;
}

abbrev pub decreases-asks : goal.decreases-asks
decreases-asks l = length l.asks - l.at
