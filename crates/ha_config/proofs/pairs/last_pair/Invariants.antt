use Rattle.std.proofs.Common.{◌≡◌, ◌≤◌, length, take}
use Rattle.ha_config.specs.Words.{last_pair}
use Rattle.ha_config.proofs.pairs.last_pair.Given as goal

-- the name is not behind this place
abbrev pub invariant-loop-left : goal.invariant-loop-left
invariant-loop-left l = record {
  within : l.left ≤ length l.pairs;
  before : last_pair l.name l.pairs ≡ last_pair l.name (take l.left l.pairs);
}

abbrev pub decreases-loop-left : goal.decreases-loop-left
decreases-loop-left l = l.left
