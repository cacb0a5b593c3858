use Rattle.std.proofs.Common.{◌≡◌, ◌-◌, drop, take}
use Rattle.ha_config.specs.Words.{has_name}
use Rattle.script_step.proofs.scopes.has_name.Given as goal

abbrev pub invariant-loop-i : goal.invariant-loop-i
invariant-loop-i l = has_name l.name (take (l.to - l.from) (drop l.from l.pairs)) ≡ has_name l.name (take (l.to - l.i) (drop l.i l.pairs))
