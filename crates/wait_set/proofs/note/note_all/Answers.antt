use Rattle.std.proofs.Common.{◌∙◌, ◌+◌, ap, length, take, drop, ◌++◌}
use Rattle.wait_set.specs.Asked.{noted, owners_ended}
use Rattle.wait_set.proofs.NotedLemmas.{ended-next, length-noted, noted-next}
use Rattle.wait_set.proofs.note.note_all.Goals as goal

pub loop-at-preserved : goal.loop-at-preserved
loop-at-preserved g c =
    let q = c.args.place in
    let s = g.A.Answers.sight c.args.answers.now in
    let fired = c.args.fired.now in
    let at = c.loop-at.at in
    let asks = c.loop-at.asks.items in
    let ok = c.in_ok-note_at.ensures.ok in
    record {
      rest = (λ k. take (at + 1) (ok k) ++ noted q s fired (drop (at + 1) (ok k))) ∙ noted-next q s fired at asks ∙ c.loop-at.invariant.rest;
      fresh = (λ k. c.note_at.new.fresh.items ++ owners_ended q s fired (drop (at + 1) (ok k))) ∙ ended-next q s fired at asks c.loop-at.fresh.items c.note_at.new.fresh.items c.in_ok-note_at.ensures.fresh ∙ c.loop-at.invariant.fresh;
      kept = λ ordered kept. c.note_at.ensures.kept ordered (c.loop-at.invariant.kept ordered kept);
      len = ap length ok ∙ length-noted q s fired at asks ∙ c.loop-at.invariant.len;
    }

pub returns-in_err-note_at-clause-kept : goal.returns-in_err-note_at-clause-kept
returns-in_err-note_at-clause-kept g c ordered kept = c.note_at.ensures.kept ordered (c.loop-at.invariant.kept ordered kept)
