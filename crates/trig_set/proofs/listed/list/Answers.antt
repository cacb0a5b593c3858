use Rattle.std.proofs.Common.{◌∙◌}
use Rattle.event_bus.specs.Subjects.{knows}
use Rattle.trig_set.specs.Known.{heed}
use Rattle.trig_set.proofs.ListedLemmas.{taken-again}
use Rattle.trig_set.proofs.listed.list.Goals as goal

pub returns-in-Err-clause-err : goal.returns-in-Err-clause-err
returns-in-Err-clause-err c s =
    taken-again (heed c.args.triggers.now s) (knows c.args.index.now s c.args.owner) (knows c.list_some.new.index s c.args.owner) (knows c.unlist.new.index s c.args.owner)
    (c.list_some.ensures.part s) (c.unlist.ensures.own c.requires s)

pub returns-in-Err-clause-others : goal.returns-in-Err-clause-others
returns-in-Err-clause-others c s n apart = c.unlist.ensures.others s n apart ∙ c.list_some.ensures.others s n apart
