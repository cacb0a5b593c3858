use Rattle.std.proofs.Common.{codes, map}
use Rattle.ha_config.specs.ValueText.{list_text}
use Rattle.ha_sight.specs.ItemText.{change_text}
use Rattle.ha_texts.proofs.LineLemmas.{one_pair}
use Rattle.ha_texts.proofs.helped.push_helped.Goals as goal

pub returns : goal.returns
returns c = one_pair (codes "helped") (list_text (map change_text c.args.changes.now)) _ _ _ _ c.in_ok-push_str.ensures.ok c.in_ok-push_changes.ensures c.in_ok-push_byte.ensures.ok
