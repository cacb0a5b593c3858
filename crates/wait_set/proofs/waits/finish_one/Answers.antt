use Rattle.std.proofs.Common.{arith, refl}
use Rattle.wait_set.specs.Asked.{with_end}
use Rattle.wait_set.proofs.KeptLemmas.{kept-ended}
use Rattle.wait_set.proofs.waits.finish_one.Goals as goal

pub returns-clause-kept : goal.returns-clause-kept
returns-clause-kept c =
    let x = c.index_mut-waiting.result.now in
    kept-ended c.place_in_branch-at.result c.args.asks.now.items x (with_end c.args.place x) c.args.pending.now.timers c.settle.new.pending.timers c.args.pending.now.readers c.settle.new.pending.readers
    c.args.pending.now.runs c.settle.new.pending.runs c.args.ordered c.requires (omega (arith, c.if-at-len.false, c.len.ensures)) c.index_mut-waiting.ensures.value refl refl refl
    c.settle.ensures.timers c.settle.ensures.readers c.settle.ensures.runs
