use Rattle.named_runs.proofs.runs.NamedRuns.table.Goals as goal

pub returns-clause-list : goal.returns-clause-list
returns-clause-list c = λ i. (c.self.view_is i).list

pub returns-clause-closed : goal.returns-clause-closed
returns-clause-closed c = λ i. (c.self.view_is i).closed
