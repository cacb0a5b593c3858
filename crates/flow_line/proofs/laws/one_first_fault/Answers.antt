use Rattle.flow_line.proofs.OneFault.{same_code, same_place}
use Rattle.flow_line.proofs.laws.one_first_fault.Goals as goal

pub returns : goal.returns
returns c = record { place = same_place c.args.text.now; code = same_code c.args.text.now }
