use Rattle.std.proofs.Common.{is_ok, Ok, sym, ap, ◌∙◌}
use Rattle.std.proofs.lemmas.Option.{slice_get-get_or}
use Rattle.flow_line.specs.Command.{map_of}
use Rattle.flow_line.proofs.Taking.{absent, present}
use Rattle.flow_line.proofs.fields.take_map.Goals as goal

pub take_map_in-requires : goal.take_map_in-requires
take_map_in-requires c =
    let there = slice_get-get_or c.args.pairs.now c.in-Some.at c.index-pairs-at.result c.in-Some.ensures.bound in
    ap (λ v. is_ok (map_of v)) (present c.args.key.now c.args.pairs.now c.in-Some.at _ (sym c.in-Some.is ∙ c.place_of.ensures.place) there) ∙ c.requires

pub returns-in-Some : goal.returns-in-Some
returns-in-Some c =
    let there = slice_get-get_or c.args.pairs.now c.in-Some.at c.index-pairs-at.result c.in-Some.ensures.bound in
    ap map_of (sym (present c.args.key.now c.args.pairs.now c.in-Some.at _ (sym c.in-Some.is ∙ c.place_of.ensures.place) there)) ∙ c.take_map_in.ensures

pub returns-in-None : goal.returns-in-None
returns-in-None c = ap map_of (sym (absent c.args.key.now c.args.pairs.now (sym c.in-None.is ∙ c.place_of.ensures.place))) ∙ ap (λ m. Ok m) (sym c.make.ensures)
