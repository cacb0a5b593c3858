use Rattle.std.proofs.Common.{◌≡◌, drop}
use Rattle.conf_cond.specs.Conditions.{kind_key}
use Rattle.conf_cond.proofs.kind.kind_key.Given as goal

abbrev pub invariant-pairs : goal.invariant-pairs
invariant-pairs l = kind_key l.pairs ≡ kind_key (drop l.i l.pairs)
