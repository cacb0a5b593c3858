use Rattle.std.proofs.Common.{sym, ◌∙◌}
use Rattle.std.proofs.lemmas.Option.{slice_get-get_or}
use Rattle.flow_line.proofs.Taking.{absent, present}
use Rattle.flow_line.proofs.fields.value_at.Goals as goal

pub returns-in-Some : goal.returns-in-Some
returns-in-Some c =
    present c.args.key.now c.args.pairs.now c.in-Some.at _ (sym c.in-Some.is ∙ c.place_of.ensures.place) (slice_get-get_or c.args.pairs.now c.in-Some.at c.index-pairs-at.result c.in-Some.ensures.bound)

pub returns-in-None : goal.returns-in-None
returns-in-None c = absent c.args.key.now c.args.pairs.now (sym c.in-None.is ∙ c.place_of.ensures.place)
