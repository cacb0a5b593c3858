use Rattle.std.proofs.Common.{◌∙◌, sym, arith}
use Rattle.std.specs.Prelude.{count_by, slice_index}
use Rattle.ha_model.specs.Lawful.{is_line_of}
use Rattle.segment_carry.proofs.SourceLemmas.{counted-sixteen, length-sixteen}
use Rattle.segment_carry.proofs.sources.given.Goals as goal

pub returns-clause-lines : goal.returns-clause-lines
returns-clause-lines c =
    let before = c.in_ok-counts.counts in
    let after = c.note_all.new.lines in
    let sixteen = length-sixteen (λ k. slice_index c.args.lines.now k) before.items c.in_ok-counts.ensures in
    c.from_vec.ensures
    ∙ counted-sixteen (λ k. slice_index c.args.lines.now k) (λ k. count_by (is_line_of k) c.args.entries.now) before.items after.items c.in_ok-counts.ensures
    (sym after.ok.0 ∙ c.note_all.ensures.lines_len ∙ before.ok.0) (λ k lt. c.note_all.ensures.lines k (omega (arith, lt, sixteen, before.ok.0)))
