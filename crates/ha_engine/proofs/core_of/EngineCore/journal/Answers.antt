use Rattle.std.proofs.Common.{subst}
use Rattle.ha_journal.specs.Commands.{AreRead}
use Rattle.ha_whole.specs.Whole.{Right}
use Rattle.ha_engine.specs.Core.{Core}
use Rattle.ha_engine.proofs.core_of.EngineCore.journal.Goals as goal

pub returns-clause-right : goal.returns-clause-right
returns-clause-right g c = subst (λ (v : Core). Right v.entries v.runs) c.self.view_is c.entries.ensures.right

pub returns-clause-read : goal.returns-clause-read
returns-clause-read g c = subst (λ (v : Core). AreRead g.P.Prepare.reads v.entries) c.self.view_is c.self.invariant
