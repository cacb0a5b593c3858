use Rattle.std.proofs.Common.{codes}
use Rattle.ha_config.specs.ValueText.{quoted}
use Rattle.ha_texts.proofs.LineLemmas.{one_pair}
use Rattle.ha_texts.proofs.command.push_reload.Goals as goal

pub returns : goal.returns
returns c = λ config. one_pair (codes "reload") (quoted c.args.shown.now) _ _ _ _ c.in_ok-push_str.ensures.ok (rw c.as_str.ensures.value at c.in_ok-push_quoted.ensures) c.in_ok-push_byte.ensures.ok
