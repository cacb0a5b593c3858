use Rattle.std.proofs.Common.{◌∙◌, ap, sym}
use Rattle.std.specs.Prelude.{option_and_then}
use Rattle.std.specs.Option.{option_copied}
use Rattle.trig_set.specs.Table.{number_changed}
use Rattle.trig_set.proofs.TableLemmas.{among-found}
use Rattle.trig_set.proofs.moved.number_among.Goals as goal

pub returns-in-Some : goal.returns-in-Some
returns-in-Some c =
    let e = c.args.entity.now in
    let name = option_copied c.args.attribute in
    c.number_of_change.ensures
    ∙ sym (among-found e name c.args.changes.now ∙ ap (option_and_then (number_changed e name)) (sym c.giving_among.ensures ∙ ap option_copied c.in-Some.is))

pub returns-in-None : goal.returns-in-None
returns-in-None c =
    let e = c.args.entity.now in
    let name = option_copied c.args.attribute in
    sym (among-found e name c.args.changes.now ∙ ap (option_and_then (number_changed e name)) (sym c.giving_among.ensures ∙ ap option_copied c.in-None.is))
