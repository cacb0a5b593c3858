use Rattle.ha_value.proofs.PrintLemmas.{print_is_read}
use Rattle.ha_value.proofs.laws.print_is_read.Goals as goal

pub returns : goal.returns
returns c = print_is_read c.args.number c.requires
