use Rattle.std.proofs.Common.{◌≡◌, ◌<◌, ◌∙◌, List, ℕ, ap, sym, subst, length}
use Rattle.std.specs.Prelude.{◌^◌, slice_index_or}
use Rattle.segment_runs.specs.Segment.{Closed, number_at}
use Rattle.named_runs.specs.Named.{GoesOn, NamedTable}
use Rattle.named_runs.proofs.TableLemmas.{counted-entered, entered-alike}
use Rattle.named_runs.proofs.runs.NamedRuns.enter.Goals as goal

pub enter-requires : goal.enter-requires
enter-requires c =
    entered-alike (number_at c.self.inside.runs.closed.numbers) (number_at c.args.numbers) (length c.self.inside.firsts.items) c.self.inside.runs.list
    (subst (λ (t : NamedTable). (a : ℕ) → a < length t.firsts → number_at t.closed.numbers a ≡ number_at c.args.numbers a) (sym c.self.view_is) c.requires.numbers)
    c.self.invariant.known

pub invariant_of-self : goal.invariant_of-self
invariant_of-self c =
    counted-entered c.self.inside.firsts.items c.in_ok-firsts.firsts.items c.self.inside.counts.items c.in_ok-counts.counts.items c.self.inside.runs c.enter.new.self
    (subst (λ (fs : List ℕ). GoesOn c.self.inside.firsts.items fs) (sym c.in_ok-firsts.ensures) (subst (λ (t : NamedTable). GoesOn t.firsts c.args.firsts.now) (sym c.self.view_is) c.requires.firsts))
    (c.in_ok-counts.ensures.len ∙ ap length (sym c.in_ok-firsts.ensures))
    (λ n lt. c.in_ok-counts.ensures.same n (subst (λ (fs : List ℕ). n < length fs) c.in_ok-firsts.ensures lt) ∙ (λ i. slice_index_or (c.as_slice-2.ensures.value i) n 0))
    c.enter.ensures.list
    (λ a. subst (λ (k : Closed). number_at k.numbers a < 2 ^ 62) (sym c.enter.ensures.closed)
    (subst (λ (ns : List ℕ). number_at ns a < 2 ^ 62) c.as_slice.ensures (c.are_small.ensures c.if-not-are_small.false a)))
    c.self.invariant

pub returns-clause-list : goal.returns-clause-list
returns-clause-list c = c.enter.ensures.list ∙ (λ i. (c.self.view_is i).list)

pub returns-clause-spare : goal.returns-clause-spare
returns-clause-spare c = c.enter.ensures.spare ∙ (λ i. (c.self.view_is i).spare)

pub returns-clause-closed : goal.returns-clause-closed
returns-clause-closed c = c.enter.ensures.closed ∙ (λ i. record (c.self.view_is i).closed { numbers = c.args.numbers })

pub returns-clause-firsts : goal.returns-clause-firsts
returns-clause-firsts c = c.in_ok-firsts.ensures
