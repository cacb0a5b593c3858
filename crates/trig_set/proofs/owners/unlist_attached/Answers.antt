use Rattle.std.proofs.Common.{◌∙◌, subst, sym}
use Rattle.std.specs.Prelude.{not, ◌&&◌}
use Rattle.event_bus.specs.Subjects.{knows}
use Rattle.trig_set.specs.Known.{heed}
use Rattle.trig_set.specs.Reads.{AreRead}
use Rattle.trig_set.proofs.owners.unlist_attached.Goals as goal

pub returns-clause-own : goal.returns-clause-own
returns-clause-own c are s =
    c.unlist.ensures.own (subst (λ l. AreRead l c.args.attached.now.reads) (sym c.as_slice.ensures) are) s
    ∙ (λ i. not (heed (c.as_slice.ensures i) s) && knows c.args.index.now s c.args.owner)
