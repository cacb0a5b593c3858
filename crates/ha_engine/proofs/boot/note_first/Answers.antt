use Rattle.std.proofs.Common.{◌≡◌, ◌-◌, [], ◌∷◌, length, filter, sym, ap, subst, ◌∙◌, refl}
use Rattle.ha_journal.specs.declared.entry.Entry.{Entry}
use Rattle.ha_journal.specs.declared.entry.Entry.TheVariants.{Boot}
use Rattle.ha_journal.specs.Attempts.{fired}
use Rattle.ha_journal.specs.Journal.{Journal, HasEntry, last_place}
use Rattle.ha_journal.specs.Moves.{sight}
use Rattle.script_calls.specs.Seen as shown
use Rattle.trig_set.specs.Opening.{Opens}
use Rattle.trig_set.specs.Stands as triggers
use Rattle.engine_parts.specs.Kept.{AreSound, Looks}
use Rattle.engine_parts.specs.Numbers.{numbers_in}
use Rattle.engine_parts.specs.Owners.{attempts_by, is_automation, owners_on}
use Rattle.engine_parts.proofs.AttemptLemmas.{attempts-fired}
use Rattle.ha_engine.proofs.BeginLemmas.{boot-ascends, boot-looks, boot-owners}
use Rattle.engine_parts.proofs.ViewLemmas.{helpers-shown, place-seen, units-numbered}
use Rattle.ha_engine.proofs.boot.note_first.Goals as goal

pub make-view-requires-clause-numbered : goal.make-view-requires-clause-numbered
make-view-requires-clause-numbered c = units-numbered c.args.journal.now c.args.numbers.now c.configuration.result.now c.requires.numbers c.configuration.ensures.configured

pub make-view-requires-clause-seen : goal.make-view-requires-clause-seen
make-view-requires-clause-seen c =
    let h = c.requires.begun.begun in
    let looks = boot-looks h.text h.config h.stored c.args.start c.args.zone.now h.carry h.zone_read h.in_time c.args.states.now c.requires.begun.opened.stand c.args.numbers.now (c.requires.numbers ∙ ap numbers_in h.journal_is) in
    helpers-shown c.args.journal.now c.args.states.now c.args.numbers.now c.configuration.result.now c.args.zone.now c.args.start c.args.helpers.now
    (subst (λ (i : Journal). Looks i c.args.states.now c.args.numbers.now c.args.zone.now c.args.start) (sym h.journal_is) looks) (subst AreSound (sym h.journal_is) h.sound) (subst HasEntry (sym h.journal_is) tt)
    c.requires.helpers c.configuration.ensures.configured

pub returns-clause-stands : goal.returns-clause-stands
returns-clause-stands c =
    let h = c.requires.begun.begun in
    let k : Journal = c.args.journal.now in
    let x : Entry = Boot h.text h.config h.stored c.args.start c.args.zone.now h.carry in
    let looks = boot-looks h.text h.config h.stored c.args.start c.args.zone.now h.carry h.zone_read h.in_time c.args.states.now c.requires.begun.opened.stand c.args.numbers.now (c.requires.numbers ∙ ap numbers_in h.journal_is) in
    let some : HasEntry k = subst HasEntry (sym h.journal_is) tt in
    let sees : shown.sees c.make-view.result ≡ sight k (length k)
    = c.make-view.ensures.sees ∙ place-seen k c.args.states.now c.args.numbers.now c.configuration.result.now c.args.zone.now c.args.start c.args.helpers.now
    (subst (λ (i : Journal). Looks i c.args.states.now c.args.numbers.now c.args.zone.now c.args.start) (sym h.journal_is) looks) (subst AreSound (sym h.journal_is) h.sound) some c.requires.helpers c.configuration.ensures.configured in
    let opens : Opens x c.args.zone.now (shown.sees c.make-view.result)
    = record { boot = tt; zone = refl; sees = subst (λ (i : Journal). shown.sees c.make-view.result ≡ sight i (length i)) h.journal_is sees } in
    subst (λ (i : Journal). triggers.StandsFor c.open_segment.new.self i) (sym h.journal_is) (c.in_ok-fired.ensures.stands x c.requires.begun.opened.triggers_stand opens)

pub returns-clause-fired : goal.returns-clause-fired
returns-clause-fired c =
    let h = c.requires.begun.begun in
    let k : Journal = c.args.journal.now in
    let x : Entry = Boot h.text h.config h.stored c.args.start c.args.zone.now h.carry in
    let t = c.args.triggers.now in
    let looks = boot-looks h.text h.config h.stored c.args.start c.args.zone.now h.carry h.zone_read h.in_time c.args.states.now c.requires.begun.opened.stand c.args.numbers.now (c.requires.numbers ∙ ap numbers_in h.journal_is) in
    let some : HasEntry k = subst HasEntry (sym h.journal_is) tt in
    let sees : shown.sees c.make-view.result ≡ sight k (length k)
    = c.make-view.ensures.sees ∙ place-seen k c.args.states.now c.args.numbers.now c.configuration.result.now c.args.zone.now c.args.start c.args.helpers.now
    (subst (λ (i : Journal). Looks i c.args.states.now c.args.numbers.now c.args.zone.now c.args.start) (sym h.journal_is) looks) (subst AreSound (sym h.journal_is) h.sound) some c.requires.helpers c.configuration.ensures.configured in
    let opens : Opens x c.args.zone.now (shown.sees c.make-view.result)
    = record { boot = tt; zone = refl; sees = subst (λ (i : Journal). shown.sees c.make-view.result ≡ sight i (length i)) h.journal_is sees } in
    let on : filter is_automation (triggers.attached t) ≡ owners_on (x ∷ []) 0 = boot-owners h.text h.config h.stored c.args.start c.args.zone.now h.carry h.sound c.args.states.now t c.requires.begun.opened in
    subst (λ (i : Journal). attempts_by c.in_ok-fired.fired ≡ fired i (last_place i)) (sym h.journal_is)
    (ap attempts_by (c.in_ok-fired.ensures.fired x c.requires.begun.opened.triggers_stand opens)
    ∙ attempts-fired (x ∷ []) 0 (triggers.attached t) (boot-ascends h.text h.config h.stored c.args.start c.args.zone.now h.carry) on)
