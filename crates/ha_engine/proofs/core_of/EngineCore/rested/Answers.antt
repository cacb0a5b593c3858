use Rattle.std.proofs.Common.{◌∙◌, ap}
use Rattle.ha_whole.specs.Whole.{is_rested}
use Rattle.ha_engine.specs.Core.{Core}
use Rattle.ha_engine.proofs.core_of.EngineCore.rested.Goals as goal

pub returns : goal.returns
returns g c = c.is_rested.ensures ∙ ap (λ (v : Core). is_rested v.runs c.args.source v.entries) c.self.view_is
