use Rattle.std.proofs.Common.{◌≡◌, ◌∙◌, ap, arith, length}
use Rattle.std.specs.Prelude.{slice_index_or}
use Rattle.named_runs.proofs.CountLemmas.{numbers-at, numbers-length, numbers-more}
use Rattle.named_runs.proofs.counts.counts_with.Goals as goal

pub counts-preserved : goal.counts-preserved
counts-preserved c = numbers-more (λ n. slice_index_or c.args.known.now n 0) c.counts.at c.counts.made.items _ c.count_at.result c.counts.invariant c.count_at.ensures c.in_ok-push.ensures.items

pub returns-clause-len : goal.returns-clause-len
returns-clause-len c =
    let end : c.counts.at ≡ c.args.count = omega (arith, c.counts.auto.at-end, c.counts-test.false) in
    ap length c.counts.invariant ∙ numbers-length (λ n. slice_index_or c.args.known.now n 0) c.counts.at ∙ end

pub returns-clause-same : goal.returns-clause-same
returns-clause-same c = λ n lt.
    (λ i. slice_index_or (c.counts.invariant i) n 0) ∙ numbers-at (λ m. slice_index_or c.args.known.now m 0) c.counts.at n (omega (arith, lt, c.counts-test.false))
