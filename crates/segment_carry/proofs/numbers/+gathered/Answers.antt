use Rattle.std.proofs.Common.{◌∙◌, List, ℕ, subst, sym, arith}
use Rattle.ha_config.specs.Words.{Text}
use Rattle.segment_carry.specs.ByName.{Ascends, numbers_with, put_all}
use Rattle.segment_carry.specs.Closing.{number_in}
use Rattle.segment_carry.proofs.JoinLemmas.{halves-put, joined-ascends}
use Rattle.segment_carry.proofs.numbers.+gathered.Goals as goal

pub first_number-requires : goal.first_number-requires
first_number-requires t c = c.half_of-half.ensures.none (omega (arith, c.if-half-eq0.true))

pub joined-requires : goal.joined-requires
joined-requires t c = subst (λ (l : List (Text × ℕ)). Ascends l) (sym c.as_slice-2.ensures) c.in_ok-right.ensures.ascends

pub returns-clause-ascends : goal.returns-clause-ascends
returns-clause-ascends t c =
    subst (λ (l : List (Text × ℕ)). Ascends l) (sym (c.in_ok-made.ensures ∙ (λ i. put_all (c.as_slice-2.ensures i) (c.as_slice.ensures i)))) (joined-ascends c.in_ok-right.right c.in_ok-left.left c.in_ok-left.ensures.ascends)

pub returns-clause-put : goal.returns-clause-put
returns-clause-put t c ps =
    halves-put c.args.last.now c.args.names.now c.half_of-half.result c.in_ok-left.left c.in_ok-right.right c.in_ok-made.made ps c.half_of-half.ensures.most c.in_ok-left.ensures.ascends
    (λ xs. c.in_ok-left.ensures.put xs ∙ (λ i. numbers_with (number_in c.args.last.now) 0 (c.first_names.ensures.names i) xs))
    (λ xs. c.in_ok-right.ensures.put xs ∙ (λ i. numbers_with (number_in (c.other_numbers.ensures i)) 0 (c.other_names.ensures.names i) xs))
    (c.in_ok-made.ensures ∙ (λ i. put_all (c.as_slice-2.ensures i) (c.as_slice.ensures i)))
