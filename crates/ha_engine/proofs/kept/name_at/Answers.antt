use Rattle.std.proofs.Common.{◌∙◌, ap, sym}
use Rattle.ha_config.specs.declared.config.Automation.{Automation}
use Rattle.ha_engine.proofs.KeptLemmas.{name-there}
use Rattle.ha_engine.proofs.kept.name_at.Goals as goal

pub returns : goal.returns
returns c = ap (λ (x : Automation). x.name) (sym c.index-rules-at.is) ∙ name-there c.args.rules.now c.args.at c.index-rules-at.result c.requires c.index-rules-at.is
