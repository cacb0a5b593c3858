use Rattle.std.proofs.Common.{◌∙◌, ap, sym}
use Rattle.std.specs.Option.{option_copied}
use Rattle.ha_config.proofs.ListLemmas.{none-some}
use Rattle.ha_engine.proofs.reload.config_in.Goals as goal

pub unreachable-requires : goal.unreachable-requires
unreachable-requires c = none-some c.requires.0 (sym (ap option_copied c.in-None.is) ∙ c.config_at.ensures ∙ c.requires.1)

pub returns : goal.returns
returns c = sym c.config_at.ensures ∙ ap option_copied c.in-Some.is
