use Rattle.std.proofs.Common.{◌∙◌, ◌++◌, ◌∷◌, [], ap, sym, take}
use Rattle.std.specs.Prelude.{nat_lt, if◌then◌else◌}
use Rattle.unit_book.specs.Book.{brought}
use Rattle.unit_book.proofs.StepLemmas.{brought-more, joined, taken-all}
use Rattle.unit_book.proofs.grown.add_origins.Goals as goal

pub numbers-preserved : goal.numbers-preserved
numbers-preserved c =
    c.in_ok-add_origin.ensures
    ∙ (λ i. c.numbers.invariant i ++ (if nat_lt (c.number_at.ensures i) c.args.free then [] else (c.args.latest, c.numbers.at) ∷ []))
    ∙ sym (joined c.args.origins.now.items (brought c.args.latest c.args.free 0 (take c.numbers.at c.args.numbers.now)) _)
    ∙ ap (λ l. c.args.origins.now.items ++ l) (sym (brought-more c.args.latest c.args.free c.args.numbers.now c.numbers.at 0 c.numbers-test.true))

pub returns : goal.returns
returns c =
    c.numbers.invariant ∙ (λ i. c.args.origins.now.items ++ brought c.args.latest c.args.free 0 (taken-all c.args.numbers.now c.numbers.at c.numbers-test.false i))
