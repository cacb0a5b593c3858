use Rattle.std.proofs.Common.{◌∙◌, ap, sym}
use Rattle.std.specs.Prelude.{◌||◌}
use Rattle.event_bus.specs.Subjects.{by_read, knows}
use Rattle.event_bus.proofs.AnyLemmas.{or-true}
use Rattle.event_bus.proofs.ListLemmas.{on-then}
use Rattle.event_bus.proofs.index.Index.put_template.Goals as goal
use Rattle.tpl_reads.specs.Reads.{entities_read}

pub returns-in_err-read-clause-part : goal.returns-in_err-read-clause-part
returns-in_err-read-clause-part c s h = ap (λ b. by_read (entities_read c.args.template.now) s || b) h ∙ or-true (by_read (entities_read c.args.template.now) s)

pub returns-clause-own : goal.returns-clause-own
returns-clause-own c =
    on-then _ _ c.put_read.result
    (λ own s. own s ∙ (λ i. by_read ((c.as_ref.ensures.value ∙ c.in_ok-read.ensures) i) s || knows c.args.self.now s c.args.owner))
    c.put_read.ensures.own

pub returns-clause-part : goal.returns-clause-part
returns-clause-part c s h = (λ i. by_read (sym (c.as_ref.ensures.value ∙ c.in_ok-read.ensures) i) s || knows c.args.self.now s c.args.owner) ∙ c.put_read.ensures.part s h
