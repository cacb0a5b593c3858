use Rattle.tpl_reads.specs.Reads.{expr_reads}
use Rattle.tpl_reads.proofs.FindLemmas.{Goes}
use Rattle.tpl_reads.proofs.exprs.+exprs.Given as goal

abbrev pub invariant-add_exprs-loop-i : goal.invariant-add_exprs-loop-i
invariant-add_exprs-loop-i l = Goes expr_reads l.exprs l.i l.initial.found l.found
