use Rattle.tpl_laws.proofs.Refusals.{either, first_fault, told}
use Rattle.tpl_laws.proofs.laws.refusals.Goals as goal

pub returns : goal.returns
returns c = record { place = first_fault c.args.text.now; told = told c.args.text.now; either = either c.args.text.now }
