use Rattle.std.proofs.Common.{◌≡◌, drop}
use Rattle.conf_script.specs.Actions.{repeat_name}
use Rattle.conf_script.proofs.name.repeat_name.Given as goal

abbrev pub invariant-pairs : goal.invariant-pairs
invariant-pairs l = repeat_name l.pairs ≡ repeat_name (drop l.i l.pairs)
