use Rattle.std.proofs.Common.{◌∙◌, ap, false, sym}
use Rattle.std.specs.Option.{option_copied, option_map_or}
use Rattle.event_bus.specs.Subjects.{Subject}
use Rattle.wait_set.specs.Concern.{has}
use Rattle.wait_set.specs.Readers.{hears, read_by}
use Rattle.wait_set.proofs.readers.Readers.add_readers.Goals as goal

pub returns-in_default-clause-added : goal.returns-in_default-clause-added
returns-in_default-clause-added c n none =
    ap (λ reads. hears (Subject.Entity c.args.entity.now) (read_by n reads)) (sym c.self.view_is) ∙ sym (c.self.invariant (Subject.Entity c.args.entity.now) n)
    ∙ sym (c.of_entity.ensures n) ∙ ap (λ o. option_map_or (λ set. has set n) (option_copied o) false) c.in_default.is

pub returns-clause-added : goal.returns-clause-added
returns-clause-added c n none =
    ap (λ reads. hears (Subject.Entity c.args.entity.now) (read_by n reads)) (sym c.self.view_is) ∙ sym (c.self.invariant (Subject.Entity c.args.entity.now) n)
    ∙ sym (c.of_entity.ensures n) ∙ ap (λ o. option_map_or (λ set. has set n) (option_copied o) false) c.in-Some.is ∙ c.in_ok-put_all.ensures.added n none
