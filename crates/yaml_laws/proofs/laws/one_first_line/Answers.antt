use Rattle.yaml_laws.proofs.FirstLine.{one_first_line}
use Rattle.yaml_laws.proofs.laws.one_first_line.Goals as goal

pub returns : goal.returns
returns c = one_first_line
