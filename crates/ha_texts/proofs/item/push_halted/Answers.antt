use Rattle.std.proofs.Common.{codes, map}
use Rattle.ha_config.specs.ValueText.{list_text}
use Rattle.ha_sight.specs.ItemText.{script_text}
use Rattle.ha_texts.proofs.LineLemmas.{one_pair}
use Rattle.ha_texts.proofs.item.push_halted.Goals as goal

pub returns : goal.returns
returns c = one_pair (codes "halted") (list_text (map (script_text c.args.units.now) c.args.scripts.now)) _ _ _ _ c.in_ok-push_str.ensures.ok c.in_ok-push_scripts.ensures c.in_ok-push_byte.ensures.ok
