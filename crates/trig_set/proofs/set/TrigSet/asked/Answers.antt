use Rattle.std.proofs.Common.{◌∙◌, sym}
use Rattle.event_bus.specs.Subjects.{Subject}
use Rattle.trig_set.proofs.set.TrigSet.asked.Goals as goal

pub returns-clause-left : goal.returns-clause-left
returns-clause-left c = (
  λ is. record { entries = (c.asked.ensures.0 is).0.0; entity = (c.asked.ensures.0 is).1; recent = (c.asked.ensures.0 is).0.1 },
  λ left. c.asked.ensures.1 ((left.entries, left.recent), left.entity),
)

pub returns-clause-free : goal.returns-clause-free
returns-clause-free c j stands none = (
  λ is. record {
    entries = λ n. sym (stands.known.exact Subject.Entries n) ∙ (c.asked.ensures.0 is).0.0 n;
    entity = λ n. sym (stands.known.exact (Subject.Entity c.args.entity.now) n) ∙ (c.asked.ensures.0 is).1 n;
  },
  λ free. c.asked.ensures.1
      ((λ n. stands.known.exact Subject.Entries n ∙ free.entries n, none), λ n. stands.known.exact (Subject.Entity c.args.entity.now) n ∙ free.entity n),
)
