use Rattle.tpl_reads.specs.Reads.{piece_reads}
use Rattle.tpl_reads.proofs.FindLemmas.{Goes}
use Rattle.tpl_reads.proofs.FormLemmas.{arm_reads}
use Rattle.tpl_reads.proofs.pieces.+pieces.Given as goal

abbrev pub invariant-add_template-loop-i : goal.invariant-add_template-loop-i
invariant-add_template-loop-i l = Goes piece_reads l.pieces l.i l.initial.found l.found

abbrev pub invariant-add_piece-loop-i : goal.invariant-add_piece-loop-i
invariant-add_piece-loop-i l = Goes arm_reads l.arms l.i l.initial.found l.found
