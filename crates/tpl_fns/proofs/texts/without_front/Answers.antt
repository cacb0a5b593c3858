use Rattle.std.proofs.Common.{◌∙◌, sym, below_more, arith}
use Rattle.std.proofs.lemmas.Str.{IsCharBoundary-start}
use Rattle.tpl_fns.proofs.CutLemmas.{cut-behind, front-cut}
use Rattle.tpl_fns.proofs.texts.without_front.Goals as goal
use Rattle.tpl_fns.proofs.texts.without_front.Goals.{then-loop-start-test+else-is_blank_or_break, else-loop-start-test}

pub loop-start-init : goal.loop-start-init
loop-start-init c = record { within = omega arith; passed = λ k lt. absurd (omega arith); boundary = IsCharBoundary-start c.args.text.now c.utf8.text }

pub loop-start-preserved : goal.loop-start-preserved
loop-start-preserved c =
    let i = c.loop-start.invariant in
    let here = sym c.is_blank_or_break.ensures ∙ c.if-is_blank_or_break.true in
    record {
      within = omega arith;
      passed = below_more _ _ i.passed here;
      boundary = cut-behind c.args.text.now c.as_bytes-bytes.result.now c.as_bytes-bytes.ensures.value c.loop-start.start i.within c.utf8.text c.loop-start-test.true here;
    }

pub returns : goal.returns
returns c =
    let i = c.loop-start.invariant in
    let cut = front-cut c.args.text.now c.as_bytes-bytes.result.now c.as_bytes-bytes.ensures.value c.loop-start.start i.within c.range_from.result.now i.passed in
    elim c.loop-start-test.branch [
      | then-loop-start-test+else-is_blank_or_break w ↦ cut (λ some. sym w.is_blank_or_break.ensures ∙ w.if-is_blank_or_break.false) c.range_from.ensures.value
      | else-loop-start-test w ↦ cut (λ some. absurd (omega (arith, some, w.loop-start-test.false))) c.range_from.ensures.value
    ]
