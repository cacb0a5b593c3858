use Rattle.std.proofs.Common.{arith, ◌∙◌, []}
use Rattle.yaml_scan.specs.Lines.{lines_from}
use Rattle.yaml_scan.proofs.Cuts.{at_end, at_other}
use Rattle.yaml_scan.proofs.text.lines.Goals.{then-text-i-eq10+in_ok-line+in_ok-push, else-text-i-eq10}
use Rattle.yaml_scan.proofs.text.lines.Goals as goal

pub text-preserved : goal.text-preserved
text-preserved c =
    elim c.if-text-i-eq10.branch [
      | then-text-i-eq10+in_ok-line+in_ok-push w ↦ record {
        begun = omega (arith, w.start-is);
        numbered = omega (arith, w.start-is, w.number-is);
        so_far = at_end c.text.lines c.if-text-i-eq10.lines c.text.number c.if-text-i-eq10.number c.without_mark-text.result.now w.without_cr.result.now w.in_ok-line.line c.text.start c.if-text-i-eq10.start c.text.i (lines_from 1 [] c.without_mark-text.result.now)
            c.text.invariant.begun c.text-test.true w.if-text-i-eq10.true w.without_cr.ensures.value w.in_ok-line.ensures (w.lines-is ∙ w.in_ok-push.ensures.ok) w.number-is w.start-is c.text.invariant.so_far;
      }
      | else-text-i-eq10 w ↦ record {
        begun = omega (arith, w.start-is);
        numbered = omega (arith, w.start-is, w.number-is);
        so_far = rw (w.lines-is, w.number-is, w.start-is) (at_other c.text.lines c.text.number c.without_mark-text.result.now c.text.start c.text.i (lines_from 1 [] c.without_mark-text.result.now) c.text.invariant.begun c.text-test.true w.if-text-i-eq10.false c.text.invariant.so_far);
      }
    ]
