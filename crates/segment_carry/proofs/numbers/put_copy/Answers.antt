use Rattle.std.proofs.Common.{◌∙◌, ◌++◌, ◌∷◌, []}
use Rattle.segment_carry.proofs.numbers.put_copy.Goals as goal

pub returns : goal.returns
returns c = c.in_ok-push.ensures.ok ∙ (λ i. c.args.made.now ++ ((c.in_ok-name.ensures i, c.args.pair.now.1) ∷ []))
