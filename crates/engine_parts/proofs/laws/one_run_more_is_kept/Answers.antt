use Rattle.engine_parts.proofs.FreshLemmas.{run-added, fresh-live, fresh-branches}
use Rattle.engine_parts.proofs.laws.one_run_more_is_kept.Goals as goal

pub returns-clause-added : goal.returns-clause-added
returns-clause-added c = run-added

pub returns-clause-live : goal.returns-clause-live
returns-clause-live c = fresh-live

pub returns-clause-branches : goal.returns-clause-branches
returns-clause-branches c = fresh-branches
