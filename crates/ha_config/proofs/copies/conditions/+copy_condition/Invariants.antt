use Rattle.std.proofs.Common.{◌≡◌, take}
use Rattle.ha_config.proofs.copies.conditions.+copy_condition.Given as goal

abbrev pub invariant-copy_conditions-loop-i : goal.invariant-copy_conditions-loop-i
invariant-copy_conditions-loop-i l = l.all ≡ take l.i l.conditions
