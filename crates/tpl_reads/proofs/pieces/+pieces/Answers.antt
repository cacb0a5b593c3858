use Rattle.std.proofs.Common.{◌∙◌, ap, map, subst, sym}
use Rattle.tpl_reads.specs.Finds.{Found}
use Rattle.tpl_reads.specs.Reads.{Written, all_of, all_reads, both, expr_reads, piece_reads}
use Rattle.tpl_reads.proofs.FindLemmas.{along-none, along-true, finds-along, finds-none, found-both, goes-all, goes-false, goes-more, then-false, then-true}
use Rattle.tpl_reads.proofs.FormLemmas.{arm_reads, reads-assign, reads-choice, reads-show, reads-template, reads-text}
use Rattle.tpl_reads.proofs.pieces.+pieces.Goals as goal

pub add_piece-loop-i-init : goal.add_piece-loop-i-init
add_piece-loop-i-init t c = finds-none c.args.found.now

pub add_piece-returns-in-Ok-false : goal.add_piece-returns-in-Ok-false
add_piece-returns-in-Ok-false t c = λ start h.
    sym (reads-choice c.in-Choice.fallback c.in-Choice.is c.as_slice-arms.ensures)
    ∙ ap (λ w. both w (all_reads c.in-Choice.fallback)) (goes-false arm_reads c.as_slice-arms.result.now c.loop-i.i c.index-arms-i.result c.args.found.now c.loop-i.found c.add_template_then.new.found c.loop-i.invariant c.loop-i-test.true c.index-arms-i.is c.in-Ok-false.field-0 c.add_template_then.result c.in-Ok-false.is (λ s k. c.add_template_then.ensures s (expr_reads c.index-arms-i.result.0) (c.add_expr-first.ensures s k)) c.in-Ok-false.field-0-test start h)

pub add_piece-loop-i-preserved : goal.add_piece-loop-i-preserved
add_piece-loop-i-preserved t c = goes-more arm_reads c.as_slice-arms.result.now c.loop-i.i c.index-arms-i.result c.args.found.now c.loop-i.found c.add_template_then.new.found c.loop-i.invariant c.loop-i-test.true c.index-arms-i.is c.in-Ok-true.field-0 c.add_template_then.result c.in-Ok-true.is (λ s k. c.add_template_then.ensures s (expr_reads c.index-arms-i.result.0) (c.add_expr-first.ensures s k)) c.in-Ok-true.field-0-test

pub add_piece-returns-after-loop-i : goal.add_piece-returns-after-loop-i
add_piece-returns-after-loop-i t c = λ start h.
    subst (λ (w : Written). Found start c.add_template.new.found w c.add_template.result) (reads-choice c.in-Choice.fallback c.in-Choice.is c.as_slice-arms.ensures)
    (found-both start c.loop-i.found c.add_template.new.found (all_of (map arm_reads c.as_slice-arms.result.now)) (all_reads c.in-Choice.fallback) c.add_template.result (goes-all arm_reads c.as_slice-arms.result.now c.loop-i.i c.args.found.now c.loop-i.found c.loop-i.invariant c.loop-i-test.false start h) c.add_template.ensures)

pub add_piece-returns-in-Text : goal.add_piece-returns-in-Text
add_piece-returns-in-Text t c = along-none c.args.found.now (piece_reads c.args.piece.now) (reads-text c.in-Text.is)

pub add_piece-returns-in-Show : goal.add_piece-returns-in-Show
add_piece-returns-in-Show t c = finds-along c.args.found.now c.add_expr.new.found (expr_reads c.in-Show.expr) (piece_reads c.args.piece.now) c.add_expr.result (reads-show c.in-Show.is) c.add_expr.ensures

pub add_piece-returns-in-Assign : goal.add_piece-returns-in-Assign
add_piece-returns-in-Assign t c = finds-along c.args.found.now c.add_expr-in-Assign.new.found (expr_reads c.in-Assign.value) (piece_reads c.args.piece.now) c.add_expr-in-Assign.result (reads-assign c.in-Assign.is) c.add_expr-in-Assign.ensures

pub add_template-loop-i-init : goal.add_template-loop-i-init
add_template-loop-i-init t c = finds-none c.args.found.now

pub add_template-returns-in-Ok-false : goal.add_template-returns-in-Ok-false
add_template-returns-in-Ok-false t c = λ start h. sym (reads-template c.args.template.now c.as_slice-pieces.result.now c.as_slice-pieces.ensures) ∙ goes-false piece_reads c.as_slice-pieces.result.now c.loop-i.i c.index-pieces-i.result c.args.found.now c.loop-i.found c.add_piece.new.found c.loop-i.invariant c.loop-i-test.true c.index-pieces-i.is c.in-Ok-false.field-0 c.add_piece.result c.in-Ok-false.is c.add_piece.ensures c.in-Ok-false.field-0-test start h

pub add_template-loop-i-preserved : goal.add_template-loop-i-preserved
add_template-loop-i-preserved t c = goes-more piece_reads c.as_slice-pieces.result.now c.loop-i.i c.index-pieces-i.result c.args.found.now c.loop-i.found c.add_piece.new.found c.loop-i.invariant c.loop-i-test.true c.index-pieces-i.is c.in-Ok-true.field-0 c.add_piece.result c.in-Ok-true.is c.add_piece.ensures c.in-Ok-true.field-0-test

pub add_template-returns : goal.add_template-returns
add_template-returns t c = along-true c.args.found.now c.loop-i.found (all_of (map piece_reads c.as_slice-pieces.result.now)) (all_reads c.args.template.now) (reads-template c.args.template.now c.as_slice-pieces.result.now c.as_slice-pieces.ensures) (goes-all piece_reads c.as_slice-pieces.result.now c.loop-i.i c.args.found.now c.loop-i.found c.loop-i.invariant c.loop-i-test.false)

pub add_template_then-returns-in-Ok-true : goal.add_template_then-returns-in-Ok-true
add_template_then-returns-in-Ok-true t c = λ start given h.
    then-true start c.args.found.now c.add_template.new.found given (all_reads c.args.template.now) c.args.before c.add_template.result c.in-Ok-true.field-0 c.in-Ok-true.is c.in-Ok-true.field-0-test h c.add_template.ensures

pub add_template_then-returns-in-Ok-false : goal.add_template_then-returns-in-Ok-false
add_template_then-returns-in-Ok-false t c = λ start given h.
    then-false start c.args.found.now c.args.found.now given (all_reads c.args.template.now) c.args.before c.in-Ok-false.field-0 c.in-Ok-false.is c.in-Ok-false.field-0-test h
