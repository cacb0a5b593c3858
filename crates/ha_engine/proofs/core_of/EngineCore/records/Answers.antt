use Rattle.std.proofs.Common.{subst}
use Rattle.ha_whole.specs.Whole.{Right}
use Rattle.ha_engine.specs.Core.{Core}
use Rattle.ha_engine.proofs.core_of.EngineCore.records.Goals as goal

pub returns-clause-right : goal.returns-clause-right
returns-clause-right g c = subst (λ (v : Core). Right v.entries v.runs) c.self.view_is c.runs.ensures.right
