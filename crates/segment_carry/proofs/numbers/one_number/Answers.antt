use Rattle.std.proofs.Common.{◌∙◌, ◌++◌, ◌∷◌, [], sym}
use Rattle.segment_carry.proofs.JoinLemmas.{none-ascends, one-ascends, one-none, one-some}
use Rattle.segment_carry.proofs.numbers.one_number.Goals as goal

pub returns-then-is_none-clause-ascends : goal.returns-then-is_none-clause-ascends
returns-then-is_none-clause-ascends c = none-ascends _ c.make-made.ensures

pub returns-then-is_none-clause-put : goal.returns-then-is_none-clause-put
returns-then-is_none-clause-put c ps = one-none c.args.name.now c.args.number _ ps (sym c.is_none.ensures ∙ c.if-is_none.true) c.make-made.ensures

pub returns-clause-ascends : goal.returns-clause-ascends
returns-clause-ascends c = one-ascends _ (c.args.name.now, c.args.number) (c.in_ok-push.ensures.ok ∙ (λ i. c.make-made.ensures i ++ ((c.in_ok-name.ensures i, c.args.number) ∷ [])))

pub returns-clause-put : goal.returns-clause-put
returns-clause-put c ps =
    one-some c.args.name.now c.args.number _ ps (sym c.is_none.ensures ∙ c.if-is_none.false) (c.in_ok-push.ensures.ok ∙ (λ i. c.make-made.ensures i ++ ((c.in_ok-name.ensures i, c.args.number) ∷ [])))
