use Rattle.std.proofs.Common.{◌≡◌, take}
use Rattle.ha_config.proofs.copies.template.+copy_expr.Given as goal

abbrev pub invariant-copy_exprs-loop-i : goal.invariant-copy_exprs-loop-i
invariant-copy_exprs-loop-i l = l.all ≡ take l.i l.items
