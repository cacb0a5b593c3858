use Rattle.tpl_parse.proofs.Refusals.{least, one_place}
use Rattle.tpl_parse.proofs.laws.one_first_fault.Goals as goal

pub returns : goal.returns
returns c = record { place = one_place c.args.text.now; least = least c.args.text.now }
