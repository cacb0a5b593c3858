use Rattle.std.proofs.Common.{◌≡◌, List, [], ◌∷◌, Bool, true, sym, ap, subst, ◌∙◌, rules}
use Rattle.std.specs.Prelude.{IfOk, IsSome, IsTrue, Some}
use Rattle.ha_clock.specs.Zone as clock
use Rattle.ha_config.specs.declared.config.Automation.{Automation}
use Rattle.ha_config.specs.Sound.{are_sound_automations}
use Rattle.ha_config.specs.Words.{Text}
use Rattle.ha_journal.specs.Attempts.{passing}
use Rattle.ha_journal.specs.declared.entry.Entry.TheVariants.{Boot}
use Rattle.ha_journal.specs.Force.{IsAlike, force}
use Rattle.ha_journal.specs.Journal.{Journal, automations, configured}
use Rattle.ha_whole.specs.Segments.{reopened, segment}
use Rattle.switch_book.specs.Book.{StandsFor}
use Rattle.unit_book.specs.Book.{Holds}
use Rattle.engine_parts.proofs.ViewLemmas.{sound-automations}
use Rattle.engine_parts.specs.Kept.{Going, nobody}
use Rattle.engine_parts.specs.Numbers.{numbers_in}
use Rattle.ha_engine.specs.Admits.{ArePrepared, from_end}
use Rattle.ha_engine.specs.Begun.{Begun}
use Rattle.ha_engine.specs.Restarts.{reopening}
use Rattle.ha_engine.proofs.LieLemmas.{lies-boot, lies-few, lies-front, lies-seen}
use Rattle.ha_engine.proofs.ReopenLemmas.{opening-begun, reopened-automations, reopened-configured}
use Rattle.ha_engine.proofs.restart.open_parts.Goals as goal

true-is : (b : Bool) → b ≡ true → IsTrue b
true-is b h = search (rules, h)

pub make-segment-requires-clause-boot : goal.make-segment-requires-clause-boot
make-segment-requires-clause-boot c = lies-boot c.args.journal.now c.args.bounds c.requires.reopened.lies

pub make-segment-requires-clause-few : goal.make-segment-requires-clause-few
make-segment-requires-clause-few c = lies-few c.args.journal.now c.args.bounds c.requires.reopened.lies

pub make-segment-requires-clause-front : goal.make-segment-requires-clause-front
make-segment-requires-clause-front c = lies-front c.args.journal.now c.args.bounds c.requires.reopened.lies

pub make-segment-requires-clause-held : goal.make-segment-requires-clause-held
make-segment-requires-clause-held c =
    subst (λ (i : Journal). Holds c.args.journal.now (force i) c.args.book.now) (sym (lies-seen c.args.journal.now c.args.bounds c.requires.reopened.lies)) c.requires.holds

pub stored_in-requires : goal.stored_in-requires
stored_in-requires c =
    let h = c.requires.reopened in
    let a = reopening h.closed in
    (h.closed, a.number, a.start, a.stored, a.carry, h.journal_is)

pub restore-requires : goal.restore-requires
restore-requires c =
    let h = c.requires.reopened in
    let s : Journal = segment h.closed in
    let is : c.make-segment.result ≡ reopened s (reopening h.closed) = c.make-segment.ensures ∙ lies-seen c.args.journal.now c.args.bounds h.lies ∙ h.segment_is in
    let same : c.configuration.result.now.automations ≡ automations s = c.configuration.ensures.automations ∙ (λ i. automations (is i)) ∙ reopened-automations s (reopening h.closed) h.journal in
    subst (λ (xs : List Automation). IsTrue (are_sound_automations xs)) (sym same) (true-is (are_sound_automations (automations s)) (sound-automations (configured s) h.sound))

pub begin_parts-requires-clause-begun : goal.begin_parts-requires-clause-begun
begin_parts-requires-clause-begun c =
    let h = c.requires.reopened in
    let a = reopening h.closed in
    let s : Journal = segment h.closed in
    let is : c.make-segment.result ≡ reopened s a = c.make-segment.ensures ∙ lies-seen c.args.journal.now c.args.bounds h.lies ∙ h.segment_is in
    let same : IsAlike c.configuration.result.now (configured s)
    = subst (IsAlike c.configuration.result.now) ((λ i. configured (is i)) ∙ reopened-configured s a h.journal) c.configuration.ensures.configured in
    let stored : c.stored_in.result.now ≡ a.stored = c.stored_in.ensures h.closed a.number a.start a.stored a.carry h.journal_is in
    let zone : c.in_ok-zone.zone ≡ c.args.parts.now.zone = c.in_ok-zone.ensures in
    subst (λ (i : Journal). Begun i c.in_ok-switches.switches c.in_ok-zone.zone c.args.parts.now.at) (sym is)
    (opening-begun s a c.in_ok-zone.zone c.args.parts.now.at h.journal h.sound (zone ∙ h.zone_is) (subst (λ (z : Text). IsSome (clock.zone_of z)) (sym zone) h.zone_read) h.at_is h.in_time
    c.in_ok-switches.switches c.configuration.result.now same
    (λ text start z carry. subst (λ (l : List (Text × Bool)). StandsFor c.in_ok-switches.switches (Boot text c.configuration.result.now (Some l) start z carry ∷ [])) stored (c.in_ok-switches.ensures.stands text start z carry)))

pub begin_parts-requires-clause-numbers : goal.begin_parts-requires-clause-numbers
begin_parts-requires-clause-numbers c = c.requires.numbers ∙ ap numbers_in (sym (c.make-segment.ensures ∙ lies-seen c.args.journal.now c.args.bounds c.requires.reopened.lies))

pub returns-clause-going : goal.returns-clause-going
returns-clause-going c =
    subst (λ (i : Journal). IfOk c.begin_parts.result (λ x. Going nobody i [] x.0)) (c.make-segment.ensures ∙ lies-seen c.args.journal.now c.args.bounds c.requires.reopened.lies) c.begin_parts.ensures.going

pub returns-clause-prepared : goal.returns-clause-prepared
returns-clause-prepared c =
    subst (λ (i : Journal). IfOk c.begin_parts.result (λ x. ArePrepared i (passing i) (from_end x.1.items))) (c.make-segment.ensures ∙ lies-seen c.args.journal.now c.args.bounds c.requires.reopened.lies) c.begin_parts.ensures.prepared
