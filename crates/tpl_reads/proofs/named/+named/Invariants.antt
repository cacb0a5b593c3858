use Rattle.tpl_reads.specs.Reads.{expr_named}
use Rattle.tpl_reads.proofs.FindLemmas.{Goes}
use Rattle.tpl_reads.proofs.named.+named.Given as goal

abbrev pub invariant-add_each_named-loop-i : goal.invariant-add_each_named-loop-i
invariant-add_each_named-loop-i l = Goes expr_named l.exprs l.i l.initial.found l.found
