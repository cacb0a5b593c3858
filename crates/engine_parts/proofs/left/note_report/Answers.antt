use Rattle.std.proofs.Common.{◌∙◌}
use Rattle.std.proofs.Common.{◌-◌, [], ◌∷◌, length, sym, subst}
use Rattle.ha_journal.specs.declared.entry.Entry.{Entry}
use Rattle.ha_journal.specs.Journal.{more}
use Rattle.ha_journal.specs.Moves.{sight}
use Rattle.ha_journal.proofs.MoreLemmas.{has-entry}
use Rattle.script_calls.specs.Seen as shown
use Rattle.trig_set.specs.Stands as triggers
use Rattle.wait_set.specs.Concern.{has}
use Rattle.wait_set.specs.Stands as waits
use Rattle.engine_parts.proofs.NoteEntry.{told-by}
use Rattle.engine_parts.proofs.NoteLeft.{left-next, left-none, left-now, left-quiet, left-waits, report}
use Rattle.engine_parts.proofs.TestedLemmas.{tested-quiet}
use Rattle.engine_parts.proofs.ViewLemmas.{helpers-shown, place-seen, units-numbered}
use Rattle.engine_parts.proofs.left.note_report.Goals as goal

pub note_left-requires : goal.note_left-requires
note_left-requires c = record { left = c.requires.untold.left }

pub note_waits-requires : goal.note_waits-requires
note_waits-requires c =
    let k = c.args.journal.now in
    let h = c.requires.untold in
    let sees =
    c.make-view.ensures.sees ∙ place-seen k c.args.states.now c.args.numbers.now c.configuration.result.now c.args.zone.now c.args.at c.args.helpers.now c.requires.looks c.requires.sound (has-entry k h.untold.journal) c.requires.helpers c.configuration.ensures.configured in
    record { quiet = tested-quiet k c.args.triggers.now c.args.waits.now ((c.args.entity.now, h.old) ∷ []) h.untold (shown.sees c.make-view.result) (has c.in_ok-tested.tested) sees c.in_ok-tested.ensures }

pub returns-clause-told : goal.returns-clause-told
returns-clause-told c =
    let k = c.args.journal.now in
    let t = c.args.triggers.now in
    let w = c.args.waits.now in
    let e = c.args.entity.now in
    let text = c.args.text.now in
    let attributes = c.args.attributes.now in
    let h = c.requires.untold in
    let j = h.untold.j in
    let next = left-next k t w e text attributes h c.args.states.now c.args.numbers.now c.args.zone.now c.args.at c.requires.looks in
    let none = left-quiet k t w e text attributes h c.args.states.now c.args.numbers.now c.args.zone.now c.args.at c.requires.looks c.note_left.ensures.fired in
    let some = has-entry k h.untold.journal in
    let helped = c.requires.helpers in
    let sees = c.make-view.ensures.sees ∙ place-seen k c.args.states.now c.args.numbers.now c.configuration.result.now c.args.zone.now c.args.at c.args.helpers.now c.requires.looks c.requires.sound some helped c.configuration.ensures.configured in
    let waits_next = subst (λ n. waits.IsNext j n (report k t w e text attributes h) (shown.sees c.make-view.result) c.make-fired.result w.asks) (sym c.place.ensures.place)
    (left-waits k t w e text attributes h none (shown.sees c.make-view.result) c.make-fired.result sees c.make-fired.ensures) in
    told-by k t w ((e, h.old) ∷ []) h.untold c.note_left.new.self c.note_waits.new.waits c.note_left.ensures.kept
    (subst (λ (y : Entry). triggers.StandsFor c.note_left.new.self (more j y)) (sym h.x_is)
    (c.in_ok-note_left.ensures.stands j h.source h.number (length k - 1) h.old (sight k (length k)) h.untold.triggers_stand next (left-now k t w e text attributes h c.args.states.now c.args.numbers.now c.args.zone.now c.args.at c.requires.looks)))
    (subst (λ (y : Entry). waits.StandsFor c.note_waits.new.waits.asks (more j y)) (sym h.x_is)
    (c.in_ok-note_waits.ensures.stands j (report k t w e text attributes h) h.untold.waits_stand waits_next))
    (c.in_ok-note_waits.ensures.asks j (report k t w e text attributes h) waits_next) c.in_ok-note_waits.ensures.grow c.in_ok-note_waits.ensures.owned c.in_ok-note_waits.ensures.told c.in_ok-note_waits.ensures.apart c.in_ok-note_waits.ensures.others
    c.in_ok-note_waits.ensures.held

pub returns-clause-fired : goal.returns-clause-fired
returns-clause-fired c =
    let k = c.args.journal.now in
    let t = c.args.triggers.now in
    let w = c.args.waits.now in
    let e = c.args.entity.now in
    let text = c.args.text.now in
    let attributes = c.args.attributes.now in
    left-none k t w e text attributes c.requires.untold (left-quiet k t w e text attributes c.requires.untold c.args.states.now c.args.numbers.now c.args.zone.now c.args.at c.requires.looks c.note_left.ensures.fired)

pub returns-in_err-note_left-clause-fired : goal.returns-in_err-note_left-clause-fired
returns-in_err-note_left-clause-fired c =
    let k = c.args.journal.now in
    let t = c.args.triggers.now in
    let w = c.args.waits.now in
    let e = c.args.entity.now in
    let text = c.args.text.now in
    let attributes = c.args.attributes.now in
    left-none k t w e text attributes c.requires.untold (left-quiet k t w e text attributes c.requires.untold c.args.states.now c.args.numbers.now c.args.zone.now c.args.at c.requires.looks c.note_left.ensures.fired)

pub returns-in_err-tested-clause-fired : goal.returns-in_err-tested-clause-fired
returns-in_err-tested-clause-fired c =
    let k = c.args.journal.now in
    let t = c.args.triggers.now in
    let w = c.args.waits.now in
    let e = c.args.entity.now in
    let text = c.args.text.now in
    let attributes = c.args.attributes.now in
    left-none k t w e text attributes c.requires.untold (left-quiet k t w e text attributes c.requires.untold c.args.states.now c.args.numbers.now c.args.zone.now c.args.at c.requires.looks c.note_left.ensures.fired)

pub returns-in_err-note_waits-clause-fired : goal.returns-in_err-note_waits-clause-fired
returns-in_err-note_waits-clause-fired c =
    let k = c.args.journal.now in
    let t = c.args.triggers.now in
    let w = c.args.waits.now in
    let e = c.args.entity.now in
    let text = c.args.text.now in
    let attributes = c.args.attributes.now in
    left-none k t w e text attributes c.requires.untold (left-quiet k t w e text attributes c.requires.untold c.args.states.now c.args.numbers.now c.args.zone.now c.args.at c.requires.looks c.note_left.ensures.fired)

pub make-view-requires-clause-numbered : goal.make-view-requires-clause-numbered
make-view-requires-clause-numbered c = units-numbered c.args.journal.now c.args.numbers.now c.configuration.result.now c.requires.looks.numbers_are c.configuration.ensures.configured

pub make-view-requires-clause-seen : goal.make-view-requires-clause-seen
make-view-requires-clause-seen c =
    helpers-shown c.args.journal.now c.args.states.now c.args.numbers.now c.configuration.result.now c.args.zone.now c.args.at c.args.helpers.now c.requires.looks c.requires.sound (has-entry c.args.journal.now c.requires.untold.untold.journal)
    c.requires.helpers c.configuration.ensures.configured
