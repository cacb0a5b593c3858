use Rattle.std.proofs.Common.{◌≡◌, take}
use Rattle.ha_sight.specs.Calls.{flag_named}
use Rattle.script_step.proofs.own.flag_named.Given as goal

abbrev pub invariant-loop-i : goal.invariant-loop-i
invariant-loop-i l = l.flag ≡ flag_named l.name (take l.i l.pairs)
