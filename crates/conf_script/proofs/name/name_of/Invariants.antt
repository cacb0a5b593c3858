use Rattle.std.proofs.Common.{◌≡◌, drop}
use Rattle.conf_script.specs.Actions.{name_of}
use Rattle.conf_script.proofs.name.name_of.Given as goal

abbrev pub invariant-pairs : goal.invariant-pairs
invariant-pairs l = name_of l.pairs ≡ name_of (drop l.i l.pairs)
