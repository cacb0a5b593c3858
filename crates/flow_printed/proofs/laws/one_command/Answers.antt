use Rattle.flow_printed.proofs.Texts.{one_print}
use Rattle.flow_printed.proofs.laws.one_command.Goals as goal

pub returns : goal.returns
returns c = λ x y p q. one_print c.args.text.now x y p q
