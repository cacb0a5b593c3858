use Rattle.std.proofs.Common.{decimal, codes}
use Rattle.ha_texts.proofs.LineLemmas.{one_pair}
use Rattle.ha_texts.proofs.trace.push_again.Goals as goal

pub returns : goal.returns
returns c = one_pair (codes "again") (decimal c.args.number) _ _ _ _ c.in_ok-push_str.ensures.ok (rw c.from.ensures at c.in_ok-push_number.ensures) c.in_ok-push_byte.ensures.ok
