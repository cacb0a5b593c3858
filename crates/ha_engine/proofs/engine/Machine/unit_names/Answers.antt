use Rattle.std.proofs.Common.{◌∙◌, ap}
use Rattle.ha_whole.specs.Trace.{names}
use Rattle.ha_engine.specs.Core.{Core}
use Rattle.ha_engine.proofs.engine.Machine.unit_names.Goals as goal

pub returns : goal.returns
returns c = c.names.ensures ∙ c.self.invariant.told.holds.names_are ∙ ap (λ (v : Core). names v.entries) c.self.view_is
