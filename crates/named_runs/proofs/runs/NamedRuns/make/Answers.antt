use Rattle.std.proofs.Common.{◌≡◌, ◌<◌, ◌∙◌, List, ℕ, ap, sym, subst, length, true}
use Rattle.std.specs.Prelude.{◌^◌, nat_lt}
use Rattle.std.specs.List.{list_all}
use Rattle.segment_runs.specs.Segment.{Closed, number_at}
use Rattle.named_runs.proofs.CountLemmas.{none-at}
use Rattle.named_runs.proofs.TableLemmas.{counted-none, none-small}
use Rattle.named_runs.proofs.runs.NamedRuns.make.Goals as goal

pub invariant_of-result : goal.invariant_of-result
invariant_of-result c =
    counted-none c.in_ok-firsts.firsts.items c.in_ok-counts.counts.items c.make-runs.result
    (subst (λ (fs : List ℕ). list_all (λ n. nat_lt n (length fs)) fs ≡ true) (sym c.in_ok-firsts.ensures) c.requires)
    (c.in_ok-counts.ensures.len ∙ ap length (sym c.in_ok-firsts.ensures))
    (λ n lt. c.in_ok-counts.ensures.same n (subst (λ (fs : List ℕ). n < length fs) c.in_ok-firsts.ensures lt) ∙ none-at n)
    c.make-runs.ensures.list
    (λ a. subst (λ (k : Closed). number_at k.numbers a < 2 ^ 62) (sym c.make-runs.ensures.closed) (none-small a))
