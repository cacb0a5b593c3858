use Rattle.std.proofs.Common.{◌∙◌, ap}
use Rattle.run_modes.specs.Table.{stopped}
use Rattle.named_runs.proofs.CountLemmas.{units-stopped, units_of}
use Rattle.named_runs.proofs.TableLemmas.{counted-alike}
use Rattle.named_runs.proofs.runs.NamedRuns.stop_all.Goals as goal

pub invariant_of-self : goal.invariant_of-self
invariant_of-self c =
    counted-alike c.self.inside.firsts.items c.self.inside.counts.items c.self.inside.runs c.stop_all.new.self
    (ap units_of c.stop_all.ensures.list ∙ units-stopped c.args.automation c.args.place c.args.cause c.self.inside.runs.list) c.stop_all.ensures.closed c.self.invariant

pub returns-clause-list : goal.returns-clause-list
returns-clause-list c = c.stop_all.ensures.list ∙ (λ i. stopped c.args.automation c.args.place c.args.cause (c.self.view_is i).list)

pub returns-clause-spare : goal.returns-clause-spare
returns-clause-spare c = rw (← c.self.view_is) c.stop_all.ensures.spare

pub returns-clause-closed : goal.returns-clause-closed
returns-clause-closed c = c.stop_all.ensures.closed ∙ (λ i. (c.self.view_is i).closed)

pub returns-clause-firsts : goal.returns-clause-firsts
returns-clause-firsts c = λ i. (c.self.view_is i).firsts
