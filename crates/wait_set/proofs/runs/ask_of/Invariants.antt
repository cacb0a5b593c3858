use Rattle.std.proofs.Common.{◌≡◌, ◌-◌, ◌≤◌, length, drop}
use Rattle.wait_set.specs.Asked.{wait_of}
use Rattle.wait_set.proofs.runs.ask_of.Given as goal

abbrev pub invariant-asks : goal.invariant-asks
invariant-asks l = record {
  rest : wait_of l.serial l.branch (drop l.place l.asks) ≡ wait_of l.serial l.branch l.asks;
  fits : l.place ≤ length l.asks;
}

abbrev pub decreases-asks : goal.decreases-asks
decreases-asks l = length l.asks - l.place
