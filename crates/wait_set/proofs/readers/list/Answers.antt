use Rattle.std.proofs.Common.{◌∙◌, sym}
use Rattle.std.specs.Prelude.{◌||◌}
use Rattle.event_bus.specs.Subjects.{by_read, knows}
use Rattle.wait_set.proofs.ReaderLemmas.{or-none, part-taken}
use Rattle.wait_set.proofs.readers.list.Goals as goal

pub returns-in-Ok-clause-own : goal.returns-in-Ok-clause-own
returns-in-Ok-clause-own c s =
    c.in-Ok.ensures.own s ∙ (λ i. by_read (c.as_ref.ensures.value i) s || knows c.args.index.now s c.args.owner)
    ∙ or-none (by_read c.args.read.now s) (knows c.args.index.now s c.args.owner) (c.requires s)

pub returns-in-Err-clause-err : goal.returns-in-Err-clause-err
returns-in-Err-clause-err c s =
    part-taken (by_read c.args.read.now s) (knows c.args.index.now s c.args.owner) (knows c.put_read.new.self s c.args.owner) (knows c.unlist.new.index s c.args.owner) (c.requires s)
    (λ h. (λ i. by_read (sym c.as_ref.ensures.value i) s || knows c.args.index.now s c.args.owner) ∙ c.put_read.ensures.part s h) (c.unlist.ensures.own s)

pub returns-in-Err-clause-others : goal.returns-in-Err-clause-others
returns-in-Err-clause-others c s n apart = c.unlist.ensures.others s n apart ∙ c.put_read.ensures.others s n apart
