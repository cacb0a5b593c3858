use Rattle.std.proofs.Common.{◌≡◌, refl, sym, ap, subst, ◌∙◌}
use Rattle.ha_sight.specs.Items.{SwitchesNone, changes_by}
use Rattle.ha_journal.specs.declared.entry.Entry.{Entry}
use Rattle.ha_journal.specs.declared.entry.Entry.TheVariants.{Step}
use Rattle.ha_journal.specs.Entries.{changes_in}
use Rattle.ha_journal.specs.Journal.{more, now}
use Rattle.state_table.specs.Table.{at}
use Rattle.engine_parts.specs.Texts.{AreGiven, AreTold}
use Rattle.engine_parts.proofs.TextLemmas.{changes-given, told-listed, told-stands}
use Rattle.engine_entry.proofs.StepEnters.{not-anew, step-now, step-outside, step-with}
use Rattle.engine_entry.proofs.step_enter.enter_changes.Goals as goal

pub apply-requires : goal.apply-requires
apply-requires c = c.requires.here.sees.looks.in_time

pub returns-clause-entered : goal.returns-clause-entered
returns-clause-entered c wait taken =
    let k = c.args.journal.now in
    let p = c.args.parts.now in
    let h = c.requires.here in
    let j = h.j in
    let x : Entry = Step h.worker h.serial h.branch h.item in
    let plain : SwitchesNone h.item = subst SwitchesNone (sym c.requires.item_is) tt in
    let cs = c.as_slice-all.result.now in
    let are : changes_in x ≡ cs = ap changes_by c.requires.item_is ∙ sym c.as_slice-all.ensures in
    let here : p.at ≡ now (more j x) = step-now k p h plain in
    let given : AreGiven j x cs = subst (AreGiven j x) are (changes-given j x h.some refl refl h.helped) in
    let told : AreTold (now (more j x)) (at p.states) cs c.tell_all.new.states c.in_ok-before.before = subst (λ n. AreTold n (at p.states) cs c.tell_all.new.states c.in_ok-before.before) here c.in_ok-before.ensures in
    let outside = step-outside k p h plain in
    step-with k p h plain c.tell_all.new.states c.apply.new.self c.in_ok-events.events c.in_ok-before.before
    (told-stands j x h.some cs given outside refl refl refl (not-anew k p h plain) p.states c.tell_all.new.states c.in_ok-before.before h.sees.looks.states_stand told)
    (c.in_ok-apply.ensures j x h.some h.sees.helpers_stand (ap changes_by c.requires.item_is) refl here)
    (c.in_ok-events.ensures ∙ given.events)
    (told-listed j x h.some cs given outside refl refl refl (not-anew k p h plain) p.states c.tell_all.new.states c.in_ok-before.before h.sees.looks.states_stand told)
    h.helped wait taken
