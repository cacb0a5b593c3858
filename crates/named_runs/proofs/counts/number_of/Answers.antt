use Rattle.std.proofs.Common.{◌+◌, ap, arith}
use Rattle.named_runs.proofs.counts.number_of.Goals as goal

pub overflow_add-result : goal.overflow_add-result
overflow_add-result c = omega (arith, c.requires.few, c.requires.small, c.requires.before, c.count_at.ensures)

pub returns : goal.returns
returns c = ap (λ n. c.args.before + n) c.count_at.ensures
