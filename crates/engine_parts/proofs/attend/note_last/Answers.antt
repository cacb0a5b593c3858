use Rattle.std.proofs.Common.{◌≡◌, ◌-◌, length, sym, ap, subst, ◌∙◌}
use Rattle.ha_journal.specs.declared.entry.Entry.{Entry}
use Rattle.ha_journal.specs.Journal.{Journal, more}
use Rattle.ha_journal.proofs.MoreLemmas.{has-entry}
use Rattle.script_calls.specs.Seen as shown
use Rattle.trig_set.specs.Next.{IsNext}
use Rattle.ha_past.specs.Firings.{firings}
use Rattle.trig_set.specs.Stands as triggers
use Rattle.wait_set.specs.Concern.{has}
use Rattle.wait_set.specs.Stands as waits
use Rattle.engine_parts.proofs.NoteEntry.{untold-next, untold-told, told-by}
use Rattle.engine_parts.proofs.TestedLemmas.{tested-quiet}
use Rattle.engine_parts.proofs.ViewLemmas.{helpers-shown, place-seen, units-numbered}
use Rattle.engine_parts.proofs.attend.note_last.Goals as goal

pub note-requires-clause-in_time : goal.note-requires-clause-in_time
note-requires-clause-in_time c = c.make-view.ensures.timely

pub note-requires-clause-quiet : goal.note-requires-clause-quiet
note-requires-clause-quiet c =
    let k = c.args.journal.now in
    let sees =
    c.make-view.ensures.sees ∙ place-seen k c.args.states.now c.args.numbers.now c.configuration.result.now c.args.zone.now c.args.at c.args.helpers.now c.requires.looks c.requires.sound (has-entry k c.requires.untold.journal) c.requires.helpers c.configuration.ensures.configured in
    tested-quiet k c.args.triggers.now c.args.waits.now c.args.before c.requires.untold (shown.sees c.make-view.result) (has c.in_ok-tested.tested) sees c.in_ok-tested.ensures

pub returns-clause-told : goal.returns-clause-told
returns-clause-told c =
    let k = c.args.journal.now in
    let h = c.requires.untold in
    let t = c.args.triggers.now in
    let w = c.args.waits.now in
    let same : c.last_entry.result.now ≡ h.x = c.last_entry.ensures h.j h.x h.journal_is in
    let some = has-entry k h.journal in
    let helped = c.requires.helpers in
    let sees = c.make-view.ensures.sees ∙ place-seen k c.args.states.now c.args.numbers.now c.configuration.result.now c.args.zone.now c.args.at c.args.helpers.now c.requires.looks c.requires.sound some helped c.configuration.ensures.configured in
    let p = c.place.result in
    let at : length k - 1 ≡ p = sym c.place.ensures.place in
    let next = subst (λ n. IsNext h.j n c.last_entry.result.now c.args.before c.args.given.now (shown.sees c.make-view.result) (triggers.attached t)) at
    (subst (λ (y : Entry). IsNext h.j (length k - 1) y c.args.before c.args.given.now (shown.sees c.make-view.result) (triggers.attached t)) (sym same)
    (untold-next k t w c.args.before h c.args.states.now c.args.numbers.now c.args.zone.now c.args.at c.args.given.now (shown.sees c.make-view.result) c.requires.looks c.requires.given sees)) in
    let told = subst (λ n. waits.AreFired (more h.j c.last_entry.result.now) n (firings (more h.j c.last_entry.result.now) n (triggers.attached t)) w.asks) at
    (subst (λ (y : Entry). waits.AreFired (more h.j y) (length k - 1) (firings (more h.j y) (length k - 1) (triggers.attached t)) w.asks) (sym same) (untold-told k t w c.args.before h)) in
    told-by k t w c.args.before h c.note.new.triggers c.note.new.waits c.in_ok-fired.ensures.attached
    (subst (λ (y : Entry). triggers.StandsFor c.note.new.triggers (more h.j y)) same (c.in_ok-fired.ensures.triggers h.j h.triggers_stand next))
    (subst (λ (y : Entry). waits.StandsFor c.note.new.waits.asks (more h.j y)) same (c.in_ok-fired.ensures.waits h.j h.some h.triggers_stand h.waits_stand next told))
    (c.in_ok-fired.ensures.asks h.j h.some h.triggers_stand next told) c.in_ok-fired.ensures.grow c.in_ok-fired.ensures.owned c.in_ok-fired.ensures.told c.in_ok-fired.ensures.apart c.in_ok-fired.ensures.others c.in_ok-fired.ensures.held

pub returns-clause-fired : goal.returns-clause-fired
returns-clause-fired c =
    let k = c.args.journal.now in
    let h = c.requires.untold in
    let t = c.args.triggers.now in
    let w = c.args.waits.now in
    let same : c.last_entry.result.now ≡ h.x = c.last_entry.ensures h.j h.x h.journal_is in
    let some = has-entry k h.journal in
    let helped = c.requires.helpers in
    let sees = c.make-view.ensures.sees ∙ place-seen k c.args.states.now c.args.numbers.now c.configuration.result.now c.args.zone.now c.args.at c.args.helpers.now c.requires.looks c.requires.sound some helped c.configuration.ensures.configured in
    let p = c.place.result in
    let at : length k - 1 ≡ p = sym c.place.ensures.place in
    let next = subst (λ n. IsNext h.j n c.last_entry.result.now c.args.before c.args.given.now (shown.sees c.make-view.result) (triggers.attached t)) at
    (subst (λ (y : Entry). IsNext h.j (length k - 1) y c.args.before c.args.given.now (shown.sees c.make-view.result) (triggers.attached t)) (sym same)
    (untold-next k t w c.args.before h c.args.states.now c.args.numbers.now c.args.zone.now c.args.at c.args.given.now (shown.sees c.make-view.result) c.requires.looks c.requires.given sees)) in
    c.in_ok-fired.ensures.fired h.j h.triggers_stand next
    ∙ ap (λ n. firings (more h.j c.last_entry.result.now) n (triggers.attached t)) c.place.ensures.place
    ∙ ap (λ (y : Entry). firings (more h.j y) (length k - 1) (triggers.attached t)) same
    ∙ ap (λ (i : Journal). firings i (length k - 1) (triggers.attached t)) (sym h.journal_is)

pub make-view-requires-clause-numbered : goal.make-view-requires-clause-numbered
make-view-requires-clause-numbered c = units-numbered c.args.journal.now c.args.numbers.now c.configuration.result.now c.requires.looks.numbers_are c.configuration.ensures.configured

pub make-view-requires-clause-seen : goal.make-view-requires-clause-seen
make-view-requires-clause-seen c =
    helpers-shown c.args.journal.now c.args.states.now c.args.numbers.now c.configuration.result.now c.args.zone.now c.args.at c.args.helpers.now c.requires.looks c.requires.sound (has-entry c.args.journal.now c.requires.untold.journal)
    c.requires.helpers c.configuration.ensures.configured
