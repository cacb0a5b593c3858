use Rattle.std.proofs.Common.{◌≡◌, ℕ, ◌+◌, ◌-◌, List, [], ◌∷◌, length, filter, true, sym, ap, subst, ◌∙◌, refl, arith}
use Rattle.std.specs.Prelude.{Option, None, Some}
use Rattle.ha_config.specs.Sound.{is_sound_config}
use Rattle.ha_config.specs.Units.{units_of}
use Rattle.ha_config.proofs.UnitLemmas.{units-few}
use Rattle.helper_set.specs.Kept as helped
use Rattle.timer_queue.specs.Timers.{Timer}
use Rattle.ha_journal.specs.declared.entry.Entry.{Entry}
use Rattle.ha_journal.specs.declared.entry.Entry.TheVariants.{Boot}
use Rattle.ha_journal.specs.Journal.{Journal, helpers}
use Rattle.ha_sight.specs.Scripts.{Branch}
use Rattle.script_calls.specs.Waiting.{Waiting}
use Rattle.script_step.specs.declared.frames.Frames.{Frames}
use Rattle.switch_book.specs.Book as switches
use Rattle.trig_set.specs.Stands as triggers
use Rattle.wait_set.specs.declared.asked.Asked.{Asked}
use Rattle.wait_set.specs.Timers.{AreApart}
use Rattle.engine_parts.specs.declared.parts.Parts.{Parts}
use Rattle.engine_parts.specs.Called.{CallsKept, told_by}
use Rattle.engine_parts.specs.Kept.{AreOwned, Going, KeysBelow, SlotBut, nobody}
use Rattle.engine_parts.specs.Owners.{AreAscending, AreBelow, is_automation}
use Rattle.engine_parts.specs.Runs.{AreHeld, SlotsWith, first_wait}
use Rattle.engine_parts.specs.Numbers.{numbers_in}
use Rattle.engine_parts.proofs.ViewLemmas.{true-of}
use Rattle.ha_engine.proofs.BeginLemmas.{boot-ascends, boot-few, boot-looks, boot-numbers, boot-owners}
use Rattle.engine_entry.proofs.OpenLemmas.{opened-ascend, opened-below}
use Rattle.ha_engine.proofs.boot.first_parts.Goals as goal

pub overflow_cast-free : goal.overflow_cast-free
overflow_cast-free c =
    let h = c.requires.begun in
    let many : length c.args.numbers ≡ length (units_of h.config) = boot-numbers h.text h.config h.stored c.args.start c.args.zone h.carry c.args.numbers (c.requires.numbers ∙ ap numbers_in h.journal_is) in
    let few = units-few h.config (true-of (is_sound_config h.config) h.sound) in
    omega (arith, c.len-free.ensures, many, few)

pub note_first-requires-clause-helpers : goal.note_first-requires-clause-helpers
note_first-requires-clause-helpers c =
    let h = c.in_ok-states.ensures.begun in
    subst (λ (i : Journal). helped.StandsFor c.in_ok-helpers.helpers i) (sym h.journal_is)
    (c.in_ok-helpers.ensures h.config (sym (c.first_configuration.ensures ∙ ap helpers h.journal_is)) h.sound h.text h.stored c.args.start c.args.zone h.carry)

pub returns-clause-going : goal.returns-clause-going
returns-clause-going c =
    let h = c.in_ok-states.ensures.begun in
    let opened = c.in_ok-states.ensures.opened in
    let x : Entry = Boot h.text h.config h.stored c.args.start c.args.zone h.carry in
    let k : Journal = x ∷ [] in
    let table = c.in_ok-states.states in
    let t = c.in_ok-states.triggers in
    let t' = c.note_first.new.triggers in
    let w = c.make-waits.result in
    let same : triggers.attached t' ≡ triggers.attached t = c.in_ok-fired.ensures.attached in
    let p : Parts = record {
      at = c.args.start;
      zone = c.args.zone;
      numbers = c.args.numbers;
      free = c.len-free.result;
      ascending = true;
      states = table;
      helpers = c.in_ok-helpers.helpers;
      given = c.make-given.result;
      switches = c.args.switches;
      triggers = t';
      waits = w;
      calls = c.make-calls.result;
      frames = c.make-frames.result;
      delays = c.make-delays.result;
      ready = record { pairs = c.new.result };
      rested = c.in_ok-rested.rested;
      changed = true;
    } in
    let none-kept : CallsKept (told_by nobody k []) k [] [] [] = record {
      awaited = tt;
      callers = λ called s b e. absurd (let bad : ◌≡◌ {A = Option (ℕ × Branch)} None (Some (s, b)) = e in cc);
    } in
    let helped_stand : helped.StandsFor c.in_ok-helpers.helpers k
    = c.in_ok-helpers.ensures h.config (sym (c.first_configuration.ensures ∙ ap helpers h.journal_is)) h.sound h.text h.stored c.args.start c.args.zone h.carry in
    let going : Going nobody k [] p = record {
      sees = record {
        looks = boot-looks h.text h.config h.stored c.args.start c.args.zone h.carry h.zone_read h.in_time table opened.stand c.args.numbers (c.requires.numbers ∙ ap numbers_in h.journal_is);
        helpers_stand = helped_stand;
        switches_stand = subst (λ (i : Journal). switches.StandsFor c.args.switches i) h.journal_is h.switches_stand;
        changed_is = λ plain. refl;
        sound = h.sound;
        few = boot-few h.text h.config h.stored c.args.start c.args.zone h.carry h.sound;
        free_is = c.len-free.ensures ∙ boot-numbers h.text h.config h.stored c.args.start c.args.zone h.carry c.args.numbers (c.requires.numbers ∙ ap numbers_in h.journal_is);
        ascending_is = sym (boot-ascends h.text h.config h.stored c.args.start c.args.zone h.carry);
      };
      triggers_stand = subst (λ (i : Journal). triggers.StandsFor t' i) h.journal_is c.in_ok-fired.ensures.stands;
      waits_stand = c.make-waits.ensures.stands k;
      owned = record {
        automations_attached = ap (filter is_automation) same ∙ boot-owners h.text h.config h.stored c.args.start c.args.zone h.carry h.sound table t opened;
        ascend = subst (AreAscending 0) (sym same) (opened-ascend [] x refl refl h.sound table t opened);
        early = subst (AreBelow (first_wait + length k)) (sym same) (opened-below [] x refl refl h.sound table t opened (first_wait + length k) (omega arith));
        waits_owned = subst (λ (l : List Asked). AreOwned (length k) (triggers.attached t') l) (sym c.make-waits.ensures.asks) tt;
        apart = subst (λ (l : List Asked). AreApart l) (sym c.make-waits.ensures.asks) tt;
      };
      keys_early = subst (λ (l : List Timer). KeysBelow (length k) l) (sym c.make-delays.ensures) tt;
      runs_kept = record {
        slots = subst (λ (os : List (Option Frames)). SlotsWith (SlotBut nobody (told_by nobody k []) k c.make-delays.result w) [] os) (sym c.make-frames.ensures) tt;
        pairs_are = c.new.ensures.items;
        held = subst (λ (l : List Asked). AreHeld k c.make-frames.result.items l) (sym c.make-waits.ensures.asks) tt;
      };
      calls_kept = subst (λ (waiting : Waiting). CallsKept (told_by nobody k []) k [] waiting c.make-frames.result.items) (sym c.make-calls.ensures)
          (subst (λ (os : List (Option Frames)). CallsKept (told_by nobody k []) k [] [] os) (sym c.make-frames.ensures) none-kept);
    } in
    subst (λ (i : Journal). Going nobody i [] p) (sym h.journal_is) going
