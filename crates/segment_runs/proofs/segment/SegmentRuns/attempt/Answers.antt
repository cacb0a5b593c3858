use Rattle.std.proofs.Common.{◌∙◌, ◌+◌, ◌<◌, List, ℕ, subst, sym, arith}
use Rattle.std.specs.Prelude.{◌^◌}
use Rattle.segment_runs.specs.Segment.{SegmentTable, number_at}
use Rattle.segment_runs.proofs.OverLemmas.{told-answer, told-err, told-ok, told-stands, told-succeeds}
use Rattle.segment_runs.proofs.segment.SegmentRuns.attempt.Goals as goal

pub overflow_add-at : goal.overflow_add-at
overflow_add-at c = omega (arith, c.self.invariant.most, c.requires.place)

pub whole_number-whole-requires : goal.whole_number-whole-requires
whole_number-whole-requires c =
    subst (λ (l : List ℕ). number_at l c.args.automation + c.args.number < 2 ^ 64) (sym c.as_slice.ensures)
    (subst (λ (t : SegmentTable). number_at t.closed.numbers c.args.automation + c.args.number < 2 ^ 64) (sym c.self.view_is) c.requires.number)

pub invariant_of-self : goal.invariant_of-self
invariant_of-self c =
    (told-stands c.self.inside.front c.self.inside.base c.self.inside.numbers c.self.inside.all.list c.self.invariant c.attempt-told.result c.attempt-told.new.self.list c.args.automation c.args.mode c.args.max c.args.place c.args.order c.whole_number-whole.result c.args.number c.args.env (c.whole_number-whole.ensures ∙ (λ i. number_at (c.as_slice.ensures i) c.args.automation + c.args.number)) c.attempt-told.ensures.ok c.attempt-told.ensures.err).0

pub returns-clause-closed : goal.returns-clause-closed
returns-clause-closed c =
    (told-stands c.self.inside.front c.self.inside.base c.self.inside.numbers c.self.inside.all.list c.self.invariant c.attempt-told.result c.attempt-told.new.self.list c.args.automation c.args.mode c.args.max c.args.place c.args.order c.whole_number-whole.result c.args.number c.args.env (c.whole_number-whole.ensures ∙ (λ i. number_at (c.as_slice.ensures i) c.args.automation + c.args.number)) c.attempt-told.ensures.ok c.attempt-told.ensures.err).1
    ∙ (λ i. (c.self.view_is i).closed)

pub returns-clause-ok : goal.returns-clause-ok
returns-clause-ok c =
    rw (c.own_answer.ensures, ← c.self.view_is)
    (told-ok c.self.inside.front c.self.inside.base c.self.inside.numbers c.self.inside.all.list c.self.invariant c.attempt-told.result c.attempt-told.new.self.list c.args.automation c.args.mode c.args.max c.args.place c.args.order c.whole_number-whole.result c.args.number c.args.env (c.whole_number-whole.ensures ∙ (λ i. number_at (c.as_slice.ensures i) c.args.automation + c.args.number)) c.attempt-told.ensures.ok)

pub returns-clause-err : goal.returns-clause-err
returns-clause-err c =
    rw (c.own_answer.ensures, ← c.self.view_is)
    (told-err c.self.inside.front c.self.inside.base c.self.inside.numbers c.self.inside.all.list c.self.invariant c.attempt-told.result c.attempt-told.new.self.list c.args.automation c.args.mode c.args.max c.args.place c.args.order c.whole_number-whole.result c.args.number c.args.env (c.whole_number-whole.ensures ∙ (λ i. number_at (c.as_slice.ensures i) c.args.automation + c.args.number)) c.attempt-told.ensures.err)

pub returns-clause-answer : goal.returns-clause-answer
returns-clause-answer c =
    rw (c.own_answer.ensures, ← c.self.view_is)
    (told-answer c.self.inside.front c.self.inside.base c.self.inside.numbers c.self.inside.all.list c.self.invariant c.attempt-told.result c.attempt-told.new.self.list c.args.automation c.args.mode c.args.max c.args.place c.args.order c.whole_number-whole.result c.args.number c.args.env (c.whole_number-whole.ensures ∙ (λ i. number_at (c.as_slice.ensures i) c.args.automation + c.args.number)) c.attempt-told.ensures.answer)

pub returns-clause-succeeds : goal.returns-clause-succeeds
returns-clause-succeeds c =
    rw (c.own_answer.ensures, ← c.self.view_is)
    (λ more. told-succeeds c.self.inside.front c.self.inside.base c.self.inside.numbers c.self.inside.all.list c.self.invariant c.attempt-told.result c.attempt-told.new.self.list c.args.automation c.args.mode c.args.max c.args.place c.args.order c.whole_number-whole.result c.args.number c.args.env (c.whole_number-whole.ensures ∙ (λ i. number_at (c.as_slice.ensures i) c.args.automation + c.args.number)) (c.attempt-told.ensures.succeeds more))

pub returns-clause-spare : goal.returns-clause-spare
returns-clause-spare c = rw (← c.self.view_is) c.attempt-told.ensures.spare
