use Rattle.std.proofs.Common.{◌∙◌}
use Rattle.trig_set.proofs.ReadLemmas.{read-got, read-none}
use Rattle.trig_set.proofs.reads.read_at.Goals as goal

pub returns-in-Some : goal.returns-in-Some
returns-in-Some c = c.as_ref.ensures.value ∙ read-got c.args.reads.now c.args.place c.in-Some.read.now c.in-Some.ensures.value

pub returns-in-None : goal.returns-in-None
returns-in-None c = read-none c.args.reads.now c.args.place c.in-None.ensures.value
