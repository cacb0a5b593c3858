use Rattle.helper_set.proofs.TakenLemmas.{found-past, kept-past}
use Rattle.helper_set.proofs.list.finish_at.Goals as goal

pub returns-clause-found : goal.returns-clause-found
returns-clause-found c = found-past c.args.kept.now c.args.place c.args.found.now c.if-place-kept.false

pub returns-clause-kept : goal.returns-clause-kept
returns-clause-kept c = kept-past c.args.kept.now c.args.place c.if-place-kept.false
