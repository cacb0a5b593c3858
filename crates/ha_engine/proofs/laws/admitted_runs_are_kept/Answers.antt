use Rattle.ha_engine.proofs.AdmitLemmas.{joined-table, joined-kept, begun-branches, waiting-branches}
use Rattle.ha_engine.proofs.laws.admitted_runs_are_kept.Goals as goal

pub returns-clause-table : goal.returns-clause-table
returns-clause-table c = joined-table

pub returns-clause-kept : goal.returns-clause-kept
returns-clause-kept c = joined-kept

pub returns-clause-begun : goal.returns-clause-begun
returns-clause-begun c = begun-branches

pub returns-clause-waiting : goal.returns-clause-waiting
returns-clause-waiting c = waiting-branches
