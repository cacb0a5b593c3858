use Rattle.std.proofs.Common.{◌∙◌, refl, sym}
use Rattle.std.specs.Prelude.{length, nat_lt}
use Rattle.ha_config.proofs.ListLemmas.{true-false}
use Rattle.switch_book.proofs.PlaceLemmas.{less-of}
use Rattle.switch_book.proofs.book.turn_there.Goals as goal

pub returns-then-not-has_place-clause-past : goal.returns-then-not-has_place-clause-past
returns-then-not-has_place-clause-past c = λ h. refl

pub returns-then-not-has_place-clause-within : goal.returns-then-not-has_place-clause-within
returns-then-not-has_place-clause-within c = λ h. absurd (true-false (sym h ∙ (λ i. nat_lt c.args.place (length (sym c.as_slice.ensures.value i))) ∙ sym c.has_place.ensures ∙ c.if-not-has_place.true))

pub turn_at-requires : goal.turn_at-requires
turn_at-requires c = less-of c.args.place (length c.args.switches.now.items) ((λ i. nat_lt c.args.place (length (sym c.as_slice.ensures.value i))) ∙ sym c.has_place.ensures ∙ c.if-not-has_place.false)

pub returns-clause-past : goal.returns-clause-past
returns-clause-past c = λ h. absurd (true-false (sym ((λ i. nat_lt c.args.place (length (sym c.as_slice.ensures.value i))) ∙ sym c.has_place.ensures ∙ c.if-not-has_place.false) ∙ h))

pub returns-clause-within : goal.returns-clause-within
returns-clause-within c = λ h. c.turn_at.ensures
