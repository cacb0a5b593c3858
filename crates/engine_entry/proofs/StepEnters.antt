-- What is known once a step that switches nothing has made its own changes.
use Rattle.std.proofs.Common.{◌≡◌, ℕ, suc, List, [], length, Bool, true, false, true≢false, refl, sym, ap, subst, ◌∙◌, arith}
use Rattle.std.specs.Prelude.{Option, Some, None, IsSome, is_some, not, ◌&&◌, ◌||◌}
use Rattle.std.specs.List.{list_all}
use Rattle.ha_value.specs.declared.value.EntityId.{EntityId}
use Rattle.ha_clock.specs.Zone as clock
use Rattle.ha_journal.specs.declared.entry.Entry.{Entry}
use Rattle.ha_journal.specs.declared.entry.Entry.TheVariants.{Step}
use Rattle.ha_sight.specs.declared.item.Item.{Item}
use Rattle.ha_sight.specs.declared.waiting.WaitAsk.{WaitAsk}
use Rattle.ha_sight.specs.declared.steps.Progress.{Progress}
use Rattle.ha_sight.specs.Items.{SwitchesNone}
use Rattle.ha_config.specs.Helpers.{is_helper}
use Rattle.ha_journal.specs.declared.event.BusEvent.{BusEvent}
use Rattle.ha_journal.specs.Entries.{Turning, changes_in, turning}
use Rattle.ha_journal.specs.Helpers.{helper_events, last_events}
use Rattle.ha_journal.proofs.EventLaws.{helps-none, last-events}
use Rattle.ha_journal.proofs.ForceLaws.{helpers-are}
use Rattle.ha_journal.proofs.HelperLaws.{no-change}
use Rattle.helper_set.specs.declared.set.Helpers.{Helpers}
use Rattle.helper_set.specs.Kept as helped
use Rattle.helper_set.specs.Kept.{AreOutside}
use Rattle.helper_set.proofs.SightLemmas.{left-stands}
use Rattle.engine_parts.proofs.TextLemmas.{texts-left}
use Rattle.engine_parts.proofs.ViewLemmas.{sound-outside}
use Rattle.ha_journal.specs.Journal.{Journal, HasEntry, IsJournal, configured, helpers, now, units, zone_of, more}
use Rattle.ha_journal.specs.Switches.{same_switch, switch_named}
use Rattle.ha_journal.specs.Sights.{changes_switch}
use Rattle.ha_journal.specs.States.{states}
use Rattle.ha_model.specs.Records.{Records}
use Rattle.ha_journal.proofs.MoreLemmas.{has-entry, helpers-more, length-more}
use Rattle.ha_model.proofs.LawfulLaws.{right-more}
use Rattle.ha_journal.proofs.SinceLaws.{named-left}
use Rattle.state_table.specs.Anew.{is_automation}
use Rattle.state_laws.specs.Stands.{is_named, sets_anew, turns}
use Rattle.state_laws.specs.Stands.{StandsFor}
use Rattle.state_laws.proofs.StateLaws.{states-other}
use Rattle.switch_book.specs.Book as switches
use Rattle.state_table.specs.declared.table.StateTable.{StateTable}
use Rattle.trig_set.specs.Next.{AreListed, Listed, changes_helpers}
use Rattle.trig_set.specs.Stands.{attached}
use Rattle.engine_parts.specs.declared.parts.Parts.{Parts}
use Rattle.engine_parts.specs.Kept.{AreSound, Owned}
use Rattle.engine_parts.specs.Numbers.{AreFew, is_ascending, numbers_in, rule_numbers}
use Rattle.engine_parts.specs.Stages.{Entered}
use Rattle.engine_entry.proofs.ForceMore.{ascending-more, few-more, free-more, numbers-more}
use Rattle.engine_entry.specs.Stepping.{IsTaken, StepEntered, StepHere, StepPushed}
use Rattle.engine_entry.proofs.HelpedSteps.{step-helps}
use Rattle.engine_entry.proofs.EnterLemmas.{zone-more, sound-more, switches-left, changed-left, now-left, owned-left}
use Rattle.engine_parts.proofs.KeyLemmas.{keys_more}
use Rattle.engine_entry.proofs.TakeLemmas.{none-early}

pub step-leaves : (worker serial : ℕ) (branch : List ℕ) (item : Item) → SwitchesNone item → turning (Step worker serial branch item) ≡ Turning.Leaves
step-leaves worker serial branch (Item.Switched targets) h = absurd h
step-leaves worker serial branch Item.Nothing h = refl
step-leaves worker serial branch (Item.Call service target fields) h = refl
step-leaves worker serial branch (Item.Fired kind pairs) h = refl
step-leaves worker serial branch (Item.Triggered automations skip) h = refl
step-leaves worker serial branch (Item.Failed code) h = refl
step-leaves worker serial branch (Item.Started scripts fields waits) h = refl
step-leaves worker serial branch (Item.Halted scripts) h = refl
step-leaves worker serial branch (Item.Helped changes) h = refl

module _ (k : Journal) (p : Parts) (h : StepHere k p) (plain : SwitchesNone h.item) where
  abbrev j : Journal
  j = h.j

  abbrev x : Entry
  x = Step h.worker h.serial h.branch h.item

  some : HasEntry j
  some = h.some

  leaves : turning x ≡ Turning.Leaves
  leaves = step-leaves h.worker h.serial h.branch h.item plain

  -- an automation's switch is not set anew
  pub not-anew : (e : EntityId) → sets_anew j x e ≡ false
  not-anew e =
      (let still : turns j x e.object ≡ false = (λ i. not (same_switch (switch_named j e.object) (named-left j x e.object some leaves i))) ∙ same-itself (switch_named j e.object) in
      (λ i. (is_automation e && is_named j x e.object) && still i) ∙ and-false (is_automation e && is_named j x e.object))
    where
      same-itself : (o : Option Bool) → not (same_switch o o) ≡ false
      same-itself None = refl
      same-itself (Some true) = refl
      same-itself (Some false) = refl

      and-false : (b : Bool) → (b && false) ≡ false
      and-false true = refl
      and-false false = refl

  longer : more j x ≡ k
  longer = sym h.journal_is

  size : length k ≡ suc (length j)
  size = ap length h.journal_is ∙ length-more j x

  -- LAW: with these states, helpers and events, all but the triggers and the waits stands for the journal with the step
  pub entered-with : (table : StateTable) (hs : Helpers) (g : List BusEvent) (before : Listed) → StandsFor table (more j x) → helped.StandsFor hs (more j x) → g ≡ helper_events j x → AreListed j x before
      → changes_helpers j x ≡ true → Entered k (record p { states = table; helpers = hs; given = g; changed = false }) before
  entered-with table hs g before stands kept_stand gives listed own = record {
    sees = record {
      looks = record {
        now_is = h.sees.looks.now_is ∙ sym (now-left j x refl) ∙ ap now longer;
        in_time = h.sees.looks.in_time;
        zone_is = h.sees.looks.zone_is ∙ sym (zone-more j x some) ∙ ap zone_of longer;
        zone_read = subst (λ t. IsSome (clock.zone_of t)) (sym (zone-more j x some) ∙ ap zone_of longer) h.sees.looks.zone_read;
        states_stand = subst (StandsFor table) longer stands;
        numbers_are = h.sees.looks.numbers_are ∙ numbers-more j x some refl ∙ ap (λ (i : Journal). numbers_in i) longer;
      };
      helpers_stand = subst (helped.StandsFor hs) longer kept_stand;
      switches_stand = subst (switches.StandsFor p.switches) longer (switches-left j x some leaves refl p.switches h.sees.switches_stand);
      changed_is = λ plain. sym (changed-left j x some leaves refl) ∙ ap (λ (i : Journal). changes_switch i) longer;
      sound = subst AreSound longer (sound-more j x some refl h.sees.sound);
      few = subst AreFew longer (few-more j x some refl h.sees.few);
      free_is = free-more j x some refl p.free h.sees.free_is ∙ ap (λ (i : Journal). length (units i)) longer;
      ascending_is = h.sees.ascending_is ∙ ascending-more j x some refl ∙ ap (λ (i : Journal). is_ascending (rule_numbers i)) longer;
    };
    untold = record {
      j = j;
      x = x;
      journal_is = h.journal_is;
      journal = h.journal;
      some = some;
      triggers_stand = h.triggers_stand;
      waits_stand = h.waits_stand;
      owned = subst (λ (i : Journal). Owned i p.triggers p.waits) longer (owned-left j x some leaves refl p.triggers p.waits h.owned);
      listed = λ earlier. listed;
      apart = λ spared. absurd (true≢false (sym spared));
      helped = own;
    };
    given_is = gives ∙ sym (last-events j x) ∙ ap last_events longer;
    keys_early = keys_more (length j) (length k) p.delays (omega (arith, size)) h.keys_early;
  }

  -- LAW: all but the wait and the delay that began, the triggers and the waits stands for the journal with the step
  pub step-with : (table : StateTable) (hs : Helpers) (g : List BusEvent) (before : Listed) → StandsFor table (more j x) → helped.StandsFor hs (more j x) → g ≡ helper_events j x → AreListed j x before
      → changes_helpers j x ≡ true → (wait : Option WaitAsk) → IsTaken wait p.waits → StepEntered k (record p { states = table; helpers = hs; given = g; changed = false }) before wait
  unfolding entered-with
  step-with table hs g before stands kept_stand gives listed own wait taken = record {
    entered = entered-with table hs g before stands kept_stand gives listed own;
    here = size;
    room = h.room;
    below = h.owned.early;
    early = none-early (length j) (length j) (attached p.triggers) p.waits.asks (omega arith) h.owned.waits_owned;
    keys_early = h.keys_early;
    taken = taken;
  }

  pub step-outside : AreOutside (helpers (more j x))
  step-outside = subst AreOutside (helpers-are j ∙ helpers-more j x some) (sound-outside (configured j) h.sees.sound)

  pub step-now : p.at ≡ now (more j x)
  step-now = h.sees.looks.now_is ∙ sym (now-left j x refl)

  -- ---- a step that changes no helper

  module _ (none : changes_in x ≡ []) where
    same-states : (e : EntityId) → states (more j x) e ≡ states j e
    same-states e = states-other j e x refl refl refl (not-anew e) (texts-left j x e refl none refl)

    nothing-listed : AreListed j x []
    nothing-listed e = (same-states e, (λ i. is_some (no-change x e none i) || false))

    -- LAW: it leaves the states and the helpers
    pub step-entered : (g : List BusEvent) → g ≡ [] → (wait : Option WaitAsk) → IsTaken wait p.waits → StepEntered k (record p { given = g; changed = false }) [] wait
    step-entered g quiet wait taken =
        step-with p.states p.helpers g [] (λ e. h.sees.looks.states_stand e ∙ sym (same-states e)) (left-stands j some p.helpers.kept.items p.helpers.timers h.sees.helpers_stand x none refl)
        (quiet ∙ sym (helps-none j x none refl)) nothing-listed (λ i. list_all (λ a. is_helper (helpers (more j x)) a.entity) (none i)) wait taken

-- LAW: the parts behind a step that was pushed
pub step-here : (k : Journal) (rs : Records) (p : Parts) (progress : Progress) (wait : Option WaitAsk) (due : Option ℕ) → StepPushed k rs p progress wait due → StepHere k p
step-here k rs p progress wait due h =
    (let x : Entry = Step h.runs.worker h.runs.serial h.runs.branch h.runs.out.item in
    record {
      j = h.runs.j;
      worker = h.runs.worker;
      serial = h.runs.serial;
      branch = h.runs.branch;
      item = h.runs.out.item;
      journal_is = h.runs.journal_is;
      journal = subst IsJournal (sym h.runs.journal_is) (right-more h.runs.j rs x h.runs.right (λ boot. boot) h.runs.fair).journal;
      some = has-entry h.runs.j h.runs.right.journal;
      helped = step-helps h.runs.j h.runs.worker h.runs.serial h.runs.branch h.runs.out.item (has-entry h.runs.j h.runs.right.journal) rs h.runs.fair;
      room = h.room;
      sees = h.sees;
      triggers_stand = h.triggers_stand;
      waits_stand = h.runs.waits_stand;
      owned = h.owned;
      keys_early = h.keys_early;
    })
