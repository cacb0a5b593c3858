use Rattle.std.proofs.Common.{◌≡◌, None, drop}
use Rattle.tpl_fns.proofs.ListLemmas.{best_from}
use Rattle.tpl_fns.proofs.lists.best.Given as goal

abbrev pub invariant-loop-value : goal.invariant-loop-value
invariant-loop-value l = best_from l.side None l.values ≡ best_from l.side l.so_far (drop l.value-index l.values)
