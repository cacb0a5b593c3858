use Rattle.tpl_laws.proofs.Refusals.{refused}
use Rattle.tpl_laws.proofs.laws.answers.Goals as goal

pub returns : goal.returns
returns c = record { refused = refused c.args.text.now }
