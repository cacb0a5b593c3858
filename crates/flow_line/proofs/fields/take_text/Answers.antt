use Rattle.std.proofs.Common.{◌≡◌, true, is_ok, None, sym, ap, ◌∙◌}
use Rattle.std.proofs.lemmas.Option.{slice_get-get_or}
use Rattle.flow_line.specs.Command.{text_of}
use Rattle.flow_line.proofs.Taking.{absent, beside, present}
use Rattle.flow_line.proofs.fields.take_text.Goals as goal

pub unreachable-requires : goal.unreachable-requires
unreachable-requires c =
    let missing = absent c.args.key.now c.args.pairs.now (sym c.in_default.is ∙ c.place_of.ensures.place) in
    let none : is_ok (text_of None) ≡ true = ap (λ v. is_ok (text_of v)) missing ∙ c.requires in
    absurd cc

pub take_text_in-requires : goal.take_text_in-requires
take_text_in-requires c =
    let there = slice_get-get_or c.args.pairs.now c.in-Some.at c.index-pairs-at.result c.in-Some.ensures.bound in
    ap (λ v. is_ok (text_of v)) (present c.args.key.now c.args.pairs.now c.in-Some.at _ (sym c.in-Some.is ∙ c.place_of.ensures.place) there) ∙ c.requires

pub returns-clause-value : goal.returns-clause-value
returns-clause-value c =
    let there = slice_get-get_or c.args.pairs.now c.in-Some.at c.index-pairs-at.result c.in-Some.ensures.bound in
    ap text_of (sym (present c.args.key.now c.args.pairs.now c.in-Some.at _ (sym c.in-Some.is ∙ c.place_of.ensures.place) there)) ∙ c.take_text_in.ensures

pub returns-clause-others : goal.returns-clause-others
returns-clause-others c = λ k apart.
    let there = slice_get-get_or c.args.pairs.now c.in-Some.at c.index-pairs-at.result c.in-Some.ensures.bound in
    beside k c.args.key.now c.args.pairs.now c.in-Some.at _ c.take_text_in.new.value (sym c.in-Some.is ∙ c.place_of.ensures.place) there apart
