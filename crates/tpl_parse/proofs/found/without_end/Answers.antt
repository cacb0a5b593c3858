use Rattle.std.proofs.Common.{arith, sym, ◌∙◌}
use Rattle.tpl_parse.proofs.Trims.{trim_on, trim_ends}
use Rattle.tpl_parse.proofs.found.without_end.Goals as goal
use Rattle.tpl_parse.proofs.found.without_end.Goals.{then-bytes-test+else-is_blank_or_break, else-bytes-test}

pub bytes-preserved : goal.bytes-preserved
bytes-preserved c =
    let le = c.bytes.invariant.0 in
    let some = c.bytes-test.true in
    (omega arith, trim_on c.args.text.now c.bytes.to some le (sym c.is_blank_or_break.ensures ∙ c.if-is_blank_or_break.true) ∙ c.bytes.invariant.1)

pub returns : goal.returns
returns c =
    elim c.bytes-test.branch [
      | then-bytes-test+else-is_blank_or_break w ↦ trim_ends c.args.text.now c.bytes.to c.bytes.invariant.0 (λ some. sym w.is_blank_or_break.ensures ∙ w.if-is_blank_or_break.false) c.bytes.invariant.1
      | else-bytes-test w ↦ (let none = w.bytes-test.false in trim_ends c.args.text.now c.bytes.to c.bytes.invariant.0 (λ some. absurd (omega arith)) c.bytes.invariant.1)
    ]
