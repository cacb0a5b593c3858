use Rattle.std.proofs.Common.{Some, ap}
use Rattle.flow_printed.proofs.Texts.{one_print}
use Rattle.flow_printed.proofs.printed.read_printed.Goals as goal

pub returns-in-Ok-Some-clause-only : goal.returns-in-Ok-Some-clause-only
returns-in-Ok-Some-clause-only c = λ x print. ap (λ y. Some y) (one_print c.args.text.now c.in-Ok-Some.made x (rw c.in-Ok-Some.field-0-is at c.in-Ok-Some.ensures) print)
