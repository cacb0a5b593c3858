use Rattle.std.proofs.Common.{◌≡◌, ◌-◌, drop}
use Rattle.ha_config.specs.Sound.{are_in_name_order}
use Rattle.ha_replay.proofs.stored.are_in_order.Given as goal

abbrev pub invariant-loop-i : goal.invariant-loop-i
invariant-loop-i g l = are_in_name_order l.pairs ≡ are_in_name_order (drop (l.i - 1) l.pairs)
