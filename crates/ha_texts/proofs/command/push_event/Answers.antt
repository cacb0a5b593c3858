use Rattle.std.proofs.Common.{codes}
use Rattle.ha_config.specs.ValueText.{print_pairs, quoted}
use Rattle.ha_texts.proofs.LineLemmas.{two_pairs}
use Rattle.ha_texts.proofs.command.push_event.Goals as goal

pub returns : goal.returns
returns c = two_pairs (codes "event") (codes "data") (quoted c.args.kind.now) (print_pairs c.args.pairs.now) _ _ _ _ _ _ c.in_ok-push_str.ensures.ok (rw c.as_str.ensures.value at c.in_ok-push_quoted.ensures) c.in_ok-push_str-2.ensures.ok c.in_ok-push_pairs.ensures c.in_ok-push_byte.ensures.ok
