use Rattle.helper_laws.proofs.StartLemmas.{finishes-once, never-finishes, stopped-stays}
use Rattle.helper_laws.proofs.laws.a_timer_finishes_once_for_each_start.Goals as goal

pub returns-clause-once : goal.returns-clause-once
returns-clause-once c j x xs y h done none = finishes-once j x xs y h done none

pub returns-clause-stopped : goal.returns-clause-stopped
returns-clause-stopped c j x xs y h some none = stopped-stays j x xs y h some none

pub returns-clause-never : goal.returns-clause-never
returns-clause-never c j y h none = never-finishes j y h none
