use Rattle.std.proofs.Common.{◌∙◌, sym}
use Rattle.std.specs.Option.{option_copied}
use Rattle.ha_config.specs.Words.{or_else}
use Rattle.ha_journal.specs.Entries.{changes_in}
use Rattle.trig_set.specs.Table.{number_among}
use Rattle.trig_set.proofs.TableLemmas.{number-is}
use Rattle.trig_set.proofs.moved.reported_number.Goals as goal

pub returns-in-Some : goal.returns-in-Some
returns-in-Some c =
    let x = c.args.entry.now in
    let e = c.args.entity.now in
    let name = option_copied c.args.attribute in
    sym (number-is e name x ∙ (λ i. or_else ((sym c.number_of_report.ensures ∙ c.in-Some.is) i) (number_among e name (changes_in x))))

pub returns-in-None : goal.returns-in-None
returns-in-None c =
    let x = c.args.entry.now in
    let e = c.args.entity.now in
    let name = option_copied c.args.attribute in
    c.number_of_changes.ensures
    ∙ sym (number-is e name x ∙ (λ i. or_else ((sym c.number_of_report.ensures ∙ c.in-None.is) i) (number_among e name (changes_in x))))
