use Rattle.std.proofs.Common.{◌+◌, ap, arith}
use Rattle.named_runs.proofs.counts.next_number.Goals as goal

pub overflow_add-result : goal.overflow_add-result
overflow_add-result c = omega (arith, c.requires.few, c.requires.small, c.count_at.ensures)

pub returns : goal.returns
returns c = ap (λ n. n + 1) c.count_at.ensures
