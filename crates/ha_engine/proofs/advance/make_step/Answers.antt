use Rattle.std.proofs.Common.{length, sym, subst, ◌∙◌}
use Rattle.std.specs.Prelude.{IfOk}
use Rattle.ha_journal.specs.Force.{force}
use Rattle.ha_journal.specs.Journal.{Journal, IsJournal}
use Rattle.ha_journal.specs.Moves.{sight}
use Rattle.helper_set.specs.Kept.{StandsFor}
use Rattle.script_step.specs.Taken.{out_of}
use Rattle.unit_book.specs.Book.{Holds}
use Rattle.whole_laws.proofs.CutLemmas.{is-cut}
use Rattle.engine_parts.specs.Kept.{AreSound, Looks}
use Rattle.engine_entry.specs.Stepping.{MaySlot, SlotStep}
use Rattle.ha_engine.proofs.LieLemmas.{lies-boot, lies-few, lies-front, lies-seen}
use Rattle.ha_engine.proofs.advance.make_step.Goals as goal

pub make-behind-requires-clause-boot : goal.make-behind-requires-clause-boot
make-behind-requires-clause-boot c = lies-boot c.args.journal.now c.args.bounds c.requires.lies

pub make-behind-requires-clause-few : goal.make-behind-requires-clause-few
make-behind-requires-clause-few c = lies-few c.args.journal.now c.args.bounds c.requires.lies

pub make-behind-requires-clause-front : goal.make-behind-requires-clause-front
make-behind-requires-clause-front c = lies-front c.args.journal.now c.args.bounds c.requires.lies

pub make-behind-requires-clause-held : goal.make-behind-requires-clause-held
make-behind-requires-clause-held c =
    subst (λ (i : Journal). Holds c.args.journal.now (force i) c.args.book.now) (sym (lies-seen c.args.journal.now c.args.bounds c.requires.lies)) c.requires.holds

pub step_slot-requires-clause-looks : goal.step_slot-requires-clause-looks
step_slot-requires-clause-looks c =
    let p = c.args.parts.now in
    subst (λ (i : Journal). Looks i p.states p.numbers p.zone p.at) (sym (c.make-behind.ensures ∙ lies-seen c.args.journal.now c.args.bounds c.requires.lies)) c.requires.looks

pub step_slot-requires-clause-helpers : goal.step_slot-requires-clause-helpers
step_slot-requires-clause-helpers c =
    let p = c.args.parts.now in
    subst (λ (i : Journal). StandsFor p.helpers i) (sym (c.make-behind.ensures ∙ lies-seen c.args.journal.now c.args.bounds c.requires.lies)) c.requires.helpers

pub step_slot-requires-clause-sound : goal.step_slot-requires-clause-sound
step_slot-requires-clause-sound c = subst AreSound (sym (c.make-behind.ensures ∙ lies-seen c.args.journal.now c.args.bounds c.requires.lies)) c.requires.sound

pub step_slot-requires-clause-slot : goal.step_slot-requires-clause-slot
step_slot-requires-clause-slot c =
    let p = c.args.parts.now in
    subst (λ (i : Journal). MaySlot i c.args.serial c.args.branch.now p.at c.args.wait p.frames.items) (sym (c.make-behind.ensures ∙ lies-seen c.args.journal.now c.args.bounds c.requires.lies)) c.requires.slot

pub step_slot-requires-clause-journal : goal.step_slot-requires-clause-journal
step_slot-requires-clause-journal c =
    let j : Journal = c.args.journal.now in
    subst IsJournal (sym (c.make-behind.ensures ∙ lies-seen j c.args.bounds c.requires.lies)) (is-cut j c.requires.lies.entries).alone

pub returns-clause-step : goal.returns-clause-step
returns-clause-step c =
    let j : Journal = c.args.journal.now in
    let p = c.args.parts.now in
    subst (λ (i : Journal). IfOk c.step_slot.result (λ x. SlotStep (sight i (length i)) c.args.serial c.args.branch.now c.args.wait p.frames.items c.step_slot.new.frames.items (out_of x.0) x.1))
    (c.make-behind.ensures ∙ lies-seen j c.args.bounds c.requires.lies) c.step_slot.ensures
