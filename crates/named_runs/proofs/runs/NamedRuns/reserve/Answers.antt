use Rattle.std.proofs.Common.{◌∙◌, ap}
use Rattle.named_runs.proofs.CountLemmas.{units_of}
use Rattle.named_runs.proofs.TableLemmas.{counted-alike}
use Rattle.named_runs.proofs.runs.NamedRuns.reserve.Goals as goal

pub invariant_of-self : goal.invariant_of-self
invariant_of-self c =
    counted-alike c.self.inside.firsts.items c.self.inside.counts.items c.self.inside.runs c.reserve.new.self (ap units_of c.reserve.ensures.list) c.reserve.ensures.closed c.self.invariant

pub returns-clause-list : goal.returns-clause-list
returns-clause-list c = c.reserve.ensures.list ∙ (λ i. (c.self.view_is i).list)

pub returns-clause-closed : goal.returns-clause-closed
returns-clause-closed c = c.reserve.ensures.closed ∙ (λ i. (c.self.view_is i).closed)

pub returns-clause-firsts : goal.returns-clause-firsts
returns-clause-firsts c = λ i. (c.self.view_is i).firsts

pub returns-clause-kept : goal.returns-clause-kept
returns-clause-kept c = rw (← c.self.view_is) c.reserve.ensures.kept
