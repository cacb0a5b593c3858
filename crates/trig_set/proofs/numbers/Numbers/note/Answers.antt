use Rattle.std.proofs.Common.{◌∙◌, None, sym}
use Rattle.std.specs.Prelude.{if◌then◌else◌}
use Rattle.ha_config.specs.Words.{or_else}
use Rattle.ha_journal.specs.Entries.{changes_in}
use Rattle.ha_journal.specs.Moves.{report_number}
use Rattle.trig_set.specs.Table.{number_among, number_at, number_reported}
use Rattle.trig_set.proofs.OnLemmas.{on-then}
use Rattle.trig_set.proofs.TableLemmas.{number-is, or-join}
use Rattle.trig_set.proofs.numbers.Numbers.note.Goals as goal

pub returns : goal.returns
returns c =
    on-then _ _ c.note_report.result
    (λ h e name.
    let x = c.args.entry.now in
    let old = number_at c.args.self.now e name in
    h e name
    ∙ (λ i. or_else (number_reported e name x) (c.in_ok-note_changes.ensures e name i))
    ∙ or-join (number_reported e name x) (number_among e name (changes_in x)) old
    ∙ (λ i. or_else (sym (number-is e name x) i) old)
    ∙ sym (λ i. if (sym c.opens.ensures ∙ c.if-opens.false) i then None else or_else (report_number e name x) old))
    c.note_report.ensures
