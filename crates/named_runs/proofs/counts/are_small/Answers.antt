use Rattle.std.proofs.Common.{sym}
use Rattle.ha_config.proofs.ListLemmas.{true-false}
use Rattle.named_runs.proofs.CountLemmas.{small-all, small-more, small-none}
use Rattle.named_runs.proofs.counts.are_small.Goals as goal

pub numbers-init : goal.numbers-init
numbers-init c = small-none c.args.numbers.now

pub numbers-preserved : goal.numbers-preserved
numbers-preserved c = small-more c.args.numbers.now c.numbers.at c.count_at.result c.count_at.ensures (c.is_small.ensures c.if-not-is_small.false) c.numbers.invariant

pub returns-then-not-is_small : goal.returns-then-not-is_small
returns-then-not-is_small c = λ h. absurd (true-false (sym h))

pub returns : goal.returns
returns c = λ is. small-all c.args.numbers.now c.numbers.at c.numbers-test.false c.numbers.invariant
