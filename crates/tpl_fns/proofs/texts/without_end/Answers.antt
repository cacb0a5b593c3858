use Rattle.std.proofs.Common.{◌∙◌, sym, arith}
use Rattle.tpl_fns.proofs.CutLemmas.{end-cut}
use Rattle.tpl_fns.proofs.texts.without_end.Goals as goal
use Rattle.tpl_fns.proofs.texts.without_end.Goals.{then-loop-end-test+else-is_blank_or_break, else-loop-end-test}

pub returns : goal.returns
returns c =
    let i = c.loop-end.invariant in
    let cut = end-cut c.args.text.now c.as_bytes-bytes.result.now c.as_bytes-bytes.ensures.value c.loop-end.end i.within c.range.result.now i.passed in
    elim c.loop-end-test.branch [
      | then-loop-end-test+else-is_blank_or_break w ↦ cut (λ some. sym w.is_blank_or_break.ensures ∙ w.if-is_blank_or_break.false) c.range.ensures.value
      | else-loop-end-test w ↦ cut (λ some. absurd (omega (arith, some, w.loop-end-test.false))) c.range.ensures.value
    ]
