use Rattle.std.proofs.Common.{subst, []}
use Rattle.trig_set.specs.Kept.{places_of}
use Rattle.trig_set.specs.Listed.{AreIndexed}
use Rattle.trig_set.proofs.OnLemmas.{on-then}
use Rattle.trig_set.proofs.many_spots.note_listed.Goals as goal

pub returns-clause-stands : goal.returns-clause-stands
returns-clause-stands g c =
    on-then _ _ c.note_some_spots.result
    (λ e j shows sees well listed stand. e j shows sees well (subst (λ ts. AreIndexed c.index.result.now ts (places_of [] ts)) listed c.index.ensures) stand)
    c.note_some_spots.ensures.stands

pub returns-clause-fired : goal.returns-clause-fired
returns-clause-fired g c =
    on-then _ _ c.note_some_spots.result
    (λ e j shows sees well listed stand. e j shows sees well (subst (λ ts. AreIndexed c.index.result.now ts (places_of [] ts)) listed c.index.ensures) stand)
    c.note_some_spots.ensures.fired
