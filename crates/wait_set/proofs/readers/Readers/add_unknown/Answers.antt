use Rattle.std.proofs.Common.{◌∙◌, ap, sym}
use Rattle.event_bus.specs.Subjects.{Subject}
use Rattle.wait_set.specs.Readers.{hears, read_by}
use Rattle.wait_set.proofs.readers.Readers.add_unknown.Goals as goal

pub returns-clause-added : goal.returns-clause-added
returns-clause-added c n none =
    ap (λ reads. hears Subject.Entries (read_by n reads)) (sym c.self.view_is) ∙ sym (c.self.invariant Subject.Entries n) ∙ c.in_ok-put_all.ensures.added n none
