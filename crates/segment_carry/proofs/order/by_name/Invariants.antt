use Rattle.std.proofs.Common.{◌≡◌, ◌≤◌, ◌-◌, length}
use Rattle.ha_config.specs.Words.{numbers_from}
use Rattle.segment_carry.specs.ByName.{sorted}
use Rattle.segment_carry.proofs.order.by_name.Given as goal

abbrev pub invariant-all : goal.invariant-all
invariant-all l = record {
  within : l.left ≤ length l.names;
  order_is : l.order ≡ sorted l.names (numbers_from l.left (length l.names - l.left));
}

abbrev pub decreases-all : goal.decreases-all
decreases-all l = l.left
