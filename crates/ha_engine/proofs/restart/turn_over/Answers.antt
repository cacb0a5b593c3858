use Rattle.std.proofs.Common.{ℕ, List, length, sym, subst, ◌∙◌, arith}
use Rattle.ha_model.specs.declared.record.EndCause.{EndCause}
use Rattle.ha_model.specs.Records.{Records}
use Rattle.segment_runs.specs.Goes.{AllEnded}
use Rattle.segment_runs.specs.Segment.{all_of}
use Rattle.ha_engine.specs.Named.{AreKnown}
use Rattle.ha_engine.specs.Noted.{moved_by}
use Rattle.ha_engine.proofs.StopLemmas.{all-stopped}
use Rattle.ha_engine.proofs.restart.turn_over.Goals as goal

pub close-requires-clause-ended : goal.close-requires-clause-ended
close-requires-clause-ended c = subst (λ (l : Records). AllEnded l) (sym c.stop_all.ensures.list) (all-stopped c.args.place EndCause.Restarted c.args.runs.now.list)

pub admit_first-requires-clause-spare : goal.admit_first-requires-clause-spare
admit_first-requires-clause-spare c = omega (arith, c.requires.spare, c.stop_all.ensures.spare, c.close.ensures.spare)

pub admit_first-requires-clause-known : goal.admit_first-requires-clause-known
admit_first-requires-clause-known c = subst (λ (l : List ℕ). AreKnown (length l) c.args.next.stack.items) (sym c.close.ensures.firsts) c.requires.known

pub returns-clause-begun : goal.returns-clause-begun
returns-clause-begun c k begun firsts going rested prepared = c.admit_first.ensures.begun k begun (c.close.ensures.firsts ∙ firsts) going rested prepared

pub returns-clause-closed : goal.returns-clause-closed
returns-clause-closed c =
    c.admit_first.ensures.closed ∙ c.close.ensures.closed
    ∙ (λ i. record { records = all_of (c.stop_all.ensures.closed i) (c.stop_all.ensures.list i); entries = c.args.front; numbers = c.args.next.opening.numbers })

pub returns-clause-lasts : goal.returns-clause-lasts
returns-clause-lasts c = c.note_lasts-moved.ensures.lasts

pub returns-clause-moved : goal.returns-clause-moved
returns-clause-moved c =
    c.note_lasts-moved.ensures.moved
    ∙ (λ i. moved_by c.admit_first.new.parts.at c.admit_first.new.runs.firsts (c.listed.ensures i) c.admit_first.new.runs.list c.args.next.lasts.items)
