-- What is known once a line that changes no switch has made its own changes.
use Rattle.std.proofs.Common.{◌≡◌, ℕ, ◌≤◌, ◌≢◌, List, [], ◌∷◌, length, Bool, true, false, true≢false, refl, sym, ap, subst, ◌∙◌, arith}
use Rattle.std.specs.Prelude.{Option, Some, None, IsSome, IsTrue, max, codes, not, ◌&&◌, ◌||◌, unwrap_or}
use Rattle.std.specs.Option.{option_map_or}
use Rattle.ha_value.specs.declared.value.EntityId.{EntityId}
use Rattle.ha_clock.specs.Zone as clock
use Rattle.ha_clock.specs.Local.{last_moment}
use Rattle.ha_config.specs.declared.command.Cmd.{Cmd}
use Rattle.ha_journal.specs.declared.entry.Entry.{Entry}
use Rattle.ha_journal.specs.declared.entry.Entry.TheVariants.{Line}
use Rattle.ha_journal.specs.Entries.{report_in, gone_in, is_moment, moment_in, is_restart}
use Rattle.ha_config.specs.Fair.{IsPlain}
use Rattle.ha_config.specs.Words.{same_entity, last_of}
use Rattle.ha_journal.specs.Commands.{IsFair}
use Rattle.ha_journal.specs.Journal.{Journal, HasEntry, IsJournal, units, configured, helpers, zone_of, now, brings, more}
use Rattle.ha_journal.specs.Switches.{same_switch, switch_named}
use Rattle.ha_sight.specs.declared.state.StateObject.{StateObject}
use Rattle.ha_config.specs.Helpers.{is_helper}
use Rattle.ha_journal.specs.declared.event.BusEvent.{BusEvent}
use Rattle.ha_journal.specs.Helpers.{helper_events, last_events}
use Rattle.ha_journal.proofs.EventLaws.{helps-none, last-events}
use Rattle.ha_journal.proofs.ForceLaws.{helpers-are}
use Rattle.helper_set.specs.declared.set.Helpers.{Helpers}
use Rattle.helper_set.specs.Kept as helped
use Rattle.helper_set.specs.Kept.{AreOutside}
use Rattle.helper_set.proofs.SightLemmas.{left-stands}
use Rattle.engine_parts.proofs.TextLemmas.{texts-left}
use Rattle.engine_parts.proofs.ViewLemmas.{sound-outside}
use Rattle.ha_journal.specs.States.{states}
use Rattle.ha_model.specs.Records.{Records}
use Rattle.ha_journal.proofs.MoreLemmas.{has-entry, helpers-more, length-more}
use Rattle.ha_model.proofs.LawfulLaws.{right-more}
use Rattle.ha_config.proofs.EqualLemmas.{same-sound}
use Rattle.ha_journal.proofs.SinceLaws.{named-left}
use Rattle.ha_journal.proofs.StateLemmas.{last_of-snoc, now-snoc}
use Rattle.state_table.specs.Anew.{is_automation}
use Rattle.state_laws.specs.Stands.{is_named, sets_anew, turns}
use Rattle.state_table.specs.Table.{at}
use Rattle.state_laws.specs.Stands.{StandsFor}
use Rattle.state_table.specs.declared.table.StateTable.{StateTable}
use Rattle.state_laws.proofs.StateLaws.{states-other}
use Rattle.switch_book.specs.Book as switches
use Rattle.trig_set.specs.Next.{AreListed, Listed, names_helper, spares_helpers}
use Rattle.engine_parts.specs.declared.parts.Parts.{Parts}
use Rattle.ha_journal.specs.Sights.{changes_switch}
use Rattle.engine_parts.specs.Kept.{AreSound, Owned}
use Rattle.engine_parts.specs.Numbers.{AreFew, is_ascending, numbers_in, rule_numbers}
use Rattle.engine_parts.specs.Stages.{Pushed, Entered, IsOther}
use Rattle.engine_entry.proofs.ForceMore.{ascending-more, few-more, free-more, numbers-more}
use Rattle.engine_entry.proofs.EnterLemmas.{plain-leaves, plain-goes-on, plain-reloads, zone-more, sound-more, switches-left, changed-left, owned-left}
use Rattle.engine_parts.proofs.KeyLemmas.{keys_more}

-- LAW: an entity that a fair line reports is no automation
pub no-automation : (e : EntityId) → e.domain ≢ codes "automation" → is_automation e ≡ false
no-automation e h = false-of (is_automation e) (λ is. h (same-sound e.domain (codes "automation") is))
  where
    false-of : (b : Bool) → (b ≡ true → ⊥) → b ≡ false
    false-of true g = absurd (g refl)
    false-of false g = refl

-- LAW: nor is it a helper
pub no-helper : (b : Bool) → IsTrue (not b) → b ≡ false
no-helper true h = absurd (true≢false (sym h))
no-helper false h = refl

module _ (k : Journal) (rs : Records) (p : Parts) (h : Pushed k rs p) (plain : IsPlain h.cmd) where
  some : HasEntry h.j
  some = has-entry h.j h.right.journal

  -- LAW: with the new states, the new helpers and Now, all but the triggers and the waits stands for the journal with the line
  pub plain-entered : (table : StateTable) (hs : Helpers) (g : List BusEvent) (now' : ℕ) (before : Listed) → StandsFor table (more h.j (Line h.source h.number h.cmd)) → helped.StandsFor hs (more h.j (Line h.source h.number h.cmd))
      → g ≡ helper_events h.j (Line h.source h.number h.cmd) → now' ≡ now (more h.j (Line h.source h.number h.cmd)) → now' ≤ last_moment → AreListed h.j (Line h.source h.number h.cmd) before
      → (spares_helpers (Line h.source h.number h.cmd) ≡ true → names_helper (more h.j (Line h.source h.number h.cmd)) before ≡ false)
      → Entered k (record p { at = now'; states = table; helpers = hs; given = g; changed = false }) before
  plain-entered table hs g now' before stands kept_stand gives is early listed apart =
      let y : Entry = Line h.source h.number h.cmd in
      let longer : more h.j y ≡ k = sym h.journal_is in
      let leaves = plain-leaves h.source h.number h.cmd plain in
      let goes_on = plain-goes-on h.source h.number h.cmd plain in
      let still = plain-reloads h.source h.number h.cmd plain in
      let old = h.kept.going in
      record {
        sees = record {
          looks = record {
            now_is = is ∙ ap now longer;
            in_time = early;
            zone_is = old.sees.looks.zone_is ∙ sym (zone-more h.j y some) ∙ ap zone_of longer;
            zone_read = subst (λ t. IsSome (clock.zone_of t)) (sym (zone-more h.j y some) ∙ ap zone_of longer) old.sees.looks.zone_read;
            states_stand = subst (StandsFor table) longer stands;
            numbers_are = old.sees.looks.numbers_are ∙ numbers-more h.j y some still ∙ ap (λ (i : Journal). numbers_in i) longer;
          };
          helpers_stand = subst (helped.StandsFor hs) longer kept_stand;
          switches_stand = subst (switches.StandsFor p.switches) longer (switches-left h.j y some leaves goes_on p.switches old.sees.switches_stand);
          changed_is = λ plain. sym (changed-left h.j y some leaves goes_on) ∙ ap (λ (i : Journal). changes_switch i) longer;
          sound = subst AreSound longer (sound-more h.j y some still old.sees.sound);
          few = subst AreFew longer (few-more h.j y some still old.sees.few);
          free_is = free-more h.j y some still p.free old.sees.free_is ∙ ap (λ (i : Journal). length (units i)) longer;
          ascending_is = old.sees.ascending_is ∙ ascending-more h.j y some still ∙ ap (λ (i : Journal). is_ascending (rule_numbers i)) longer;
        };
        untold = record {
          j = h.j;
          x = y;
          journal_is = h.journal_is;
          journal = subst IsJournal longer (right-more h.j rs y h.right (λ boot. boot) h.fair).journal;
          some = some;
          triggers_stand = old.triggers_stand;
          waits_stand = old.waits_stand;
          owned = subst (λ (i : Journal). Owned i p.triggers p.waits) longer (owned-left h.j y some leaves goes_on p.triggers p.waits old.owned);
          listed = λ earlier. listed;
          apart = λ spared. subst (λ (i : Journal). names_helper i before ≡ false) longer (apart spared);
          helped = refl;
        };
        given_is = gives ∙ sym (last-events h.j y) ∙ ap last_events longer;
        keys_early = keys_more (length h.j) (length k) p.delays (omega (arith, length-more h.j y, ap length h.journal_is)) old.keys_early;
      }

  -- an automation's switch is not set anew
  pub not-anew : (e : EntityId) → sets_anew h.j (Line h.source h.number h.cmd) e ≡ false
  not-anew e =
      (let y : Entry = Line h.source h.number h.cmd in
      let still : turns h.j y e.object ≡ false
      = (λ i. plain-goes-on h.source h.number h.cmd plain i || not (same_switch (switch_named h.j e.object) (named-left h.j y e.object some (plain-leaves h.source h.number h.cmd plain) i)))
      ∙ same-itself (switch_named h.j e.object) in
      (λ i. (is_automation e && is_named h.j y e.object) && still i) ∙ and-false (is_automation e && is_named h.j y e.object))
    where
      same-itself : (o : Option Bool) → not (same_switch o o) ≡ false
      same-itself None = refl
      same-itself (Some true) = refl
      same-itself (Some false) = refl

      and-false : (b : Bool) → (b && false) ≡ false
      and-false true = refl
      and-false false = refl

  -- LAW: a line that is no moment leaves the helpers, and gives no event of one
  pub helpers-left : is_moment (Line h.source h.number h.cmd) ≡ false → helped.StandsFor p.helpers (more h.j (Line h.source h.number h.cmd))
  helpers-left still = left-stands h.j some p.helpers.kept.items p.helpers.timers h.kept.going.sees.helpers_stand (Line h.source h.number h.cmd) refl still

  pub none-given : (g : List BusEvent) → g ≡ [] → is_moment (Line h.source h.number h.cmd) ≡ false → g ≡ helper_events h.j (Line h.source h.number h.cmd)
  none-given g none still = none ∙ sym (helps-none h.j (Line h.source h.number h.cmd) refl still)

  -- a helper is one with the line where it was one before it
  pub helper-alike : (e : EntityId) → is_helper (helpers (more h.j (Line h.source h.number h.cmd))) e ≡ is_helper (helpers h.j) e
  helper-alike e = (λ i. is_helper (sym (helpers-more h.j (Line h.source h.number h.cmd) some) i) e)

  pub line-outside : AreOutside (helpers (more h.j (Line h.source h.number h.cmd)))
  line-outside = subst AreOutside (helpers-are h.j ∙ helpers-more h.j (Line h.source h.number h.cmd) some) (sound-outside (configured h.j) h.kept.going.sees.sound)

  module _ (none : report_in (Line h.source h.number h.cmd) ≡ None) (kept : gone_in (Line h.source h.number h.cmd) ≡ None) (still : is_moment (Line h.source h.number h.cmd) ≡ false) where
    same-states : (e : EntityId) → states (more h.j (Line h.source h.number h.cmd)) e ≡ states h.j e
    same-states e = states-other h.j e (Line h.source h.number h.cmd) none kept (no-restart h.cmd plain) (not-anew e) (texts-left h.j (Line h.source h.number h.cmd) e refl refl still)
      where
        no-restart : (cmd : Cmd) → IsPlain cmd → is_restart (Line h.source h.number cmd) ≡ false
        no-restart (Cmd.Report entity text attributes) g = refl
        no-restart (Cmd.Gone entity) g = refl
        no-restart (Cmd.Event kind pairs) g = refl
        no-restart (Cmd.Moment at) g = refl
        no-restart (Cmd.Switch name on stop) g = absurd g
        no-restart (Cmd.Trigger name skip) g = refl
        no-restart Cmd.Restart g = absurd g
        no-restart (Cmd.Reload text config) g = absurd g
        no-restart (Cmd.Refused code) g = refl
        no-restart Cmd.Lost g = refl
        no-restart Cmd.TooLong g = refl

    -- LAW: a line that reports nothing leaves the states, and nothing has to be listed
    pub states-left : StandsFor p.states (more h.j (Line h.source h.number h.cmd))
    states-left e = h.kept.going.sees.looks.states_stand e ∙ sym (same-states e)

    pub nothing-listed : AreListed h.j (Line h.source h.number h.cmd) []
    nothing-listed e = (same-states e, ap (λ r. option_map_or (λ q. same_entity q.entity e) r false) none)

pub now-before : (k : Journal) (rs : Records) (p : Parts) (h : Pushed k rs p) → moment_in (Line h.source h.number h.cmd) ≡ None → p.at ≡ now (more h.j (Line h.source h.number h.cmd))
now-before k rs p h none =
    let y : Entry = Line h.source h.number h.cmd in
    let zero' : brings y ≡ 0 = ap (λ o. unwrap_or o 0) none in
    h.kept.going.sees.looks.now_is ∙ (let least : now h.j ≡ max (now h.j) 0 = omega arith in least) ∙ ap (max (now h.j)) (sym zero') ∙ sym (now-snoc h.j y)

-- LAW: all but the triggers and the waits stands for the journal with a line that is this command, where the only entity that is listed is
-- no helper
pub entered-as : (k : Journal) (rs : Records) (p : Parts) (h : Pushed k rs p) (cmd : Cmd) → h.cmd ≡ cmd → IsPlain cmd → is_moment (Line h.source h.number cmd) ≡ false → (table : StateTable) (g : List BusEvent) (now' : ℕ) (entity : EntityId) (was : Option StateObject)
    → g ≡ [] → is_helper (helpers h.j) entity ≡ false → StandsFor table (more h.j (Line h.source h.number cmd)) → now' ≡ now (more h.j (Line h.source h.number cmd)) → now' ≤ last_moment
    → AreListed h.j (Line h.source h.number cmd) ((entity, was) ∷ []) → Entered k (record p { at = now'; states = table; given = g; changed = false }) ((entity, was) ∷ [])
entered-as k rs p h cmd e plain still table g now' entity was none free stands is early listed =
    let quiet = ap (λ (c : Cmd). is_moment (Line h.source h.number c)) e ∙ still in
    plain-entered k rs p h (subst IsPlain (sym e) plain) table p.helpers g now' ((entity, was) ∷ []) (subst (λ (c : Cmd). StandsFor table (more h.j (Line h.source h.number c))) (sym e) stands)
    (helpers-left k rs p h (subst IsPlain (sym e) plain) quiet) (none-given k rs p h (subst IsPlain (sym e) plain) g none quiet)
    (is ∙ ap (λ (c : Cmd). now (more h.j (Line h.source h.number c))) (sym e)) early (subst (λ (c : Cmd). AreListed h.j (Line h.source h.number c) ((entity, was) ∷ [])) (sym e) listed)
    (λ spared. (λ i. (helper-alike k rs p h (subst IsPlain (sym e) plain) entity ∙ free) i || false))

-- Now of a line that brings no moment
pub now-as : (k : Journal) (rs : Records) (p : Parts) (h : Pushed k rs p) (cmd : Cmd) → h.cmd ≡ cmd → moment_in (Line h.source h.number cmd) ≡ None → p.at ≡ now (more h.j (Line h.source h.number cmd))
now-as k rs p h cmd e none =
    now-before k rs p h (ap (λ (c : Cmd). moment_in (Line h.source h.number c)) e ∙ none) ∙ ap (λ (c : Cmd). now (more h.j (Line h.source h.number c))) e

pub fair-as : (k : Journal) (rs : Records) (p : Parts) (h : Pushed k rs p) (cmd : Cmd) → h.cmd ≡ cmd → IsFair h.j cmd
fair-as k rs p h cmd e = subst (IsFair h.j) e h.fair

-- LAW: a moment that is not over yet is Now
pub moment-now : (k : Journal) (rs : Records) (p : Parts) (h : Pushed k rs p) (at now' : ℕ) → h.cmd ≡ Cmd.Moment at → now' ≡ max p.at at → (now' ≡ now (more h.j (Line h.source h.number (Cmd.Moment at)))) × (now' ≤ last_moment)
moment-now k rs p h at now' e is =
    let old = h.kept.going.sees.looks in
    (is ∙ ap (λ n. max n at) old.now_is ∙ sym (now-snoc h.j (Line h.source h.number (Cmd.Moment at))), omega (arith, is, old.in_time, fair-as k rs p h (Cmd.Moment at) e))

-- ---- commands that change neither states nor Now nor switches

pub other-plain : (cmd : Cmd) → IsOther cmd → IsPlain cmd
other-plain (Cmd.Report entity text attributes) h = absurd h
other-plain (Cmd.Gone entity) h = absurd h
other-plain (Cmd.Event kind pairs) h = tt
other-plain (Cmd.Moment at) h = absurd h
other-plain (Cmd.Switch name on stop) h = absurd h
other-plain (Cmd.Trigger name skip) h = tt
other-plain Cmd.Restart h = absurd h
other-plain (Cmd.Reload text config) h = absurd h
other-plain (Cmd.Refused code) h = tt
other-plain Cmd.Lost h = tt
other-plain Cmd.TooLong h = tt

pub other-reports : (source number : ℕ) (cmd : Cmd) → IsOther cmd → report_in (Line source number cmd) ≡ None
other-reports source number (Cmd.Report entity text attributes) h = absurd h
other-reports source number (Cmd.Gone entity) h = absurd h
other-reports source number (Cmd.Event kind pairs) h = refl
other-reports source number (Cmd.Moment at) h = absurd h
other-reports source number (Cmd.Switch name on stop) h = absurd h
other-reports source number (Cmd.Trigger name skip) h = refl
other-reports source number Cmd.Restart h = absurd h
other-reports source number (Cmd.Reload text config) h = absurd h
other-reports source number (Cmd.Refused code) h = refl
other-reports source number Cmd.Lost h = refl
other-reports source number Cmd.TooLong h = refl

pub other-keeps : (source number : ℕ) (cmd : Cmd) → IsOther cmd → gone_in (Line source number cmd) ≡ None
other-keeps source number (Cmd.Report entity text attributes) h = absurd h
other-keeps source number (Cmd.Gone entity) h = absurd h
other-keeps source number (Cmd.Event kind pairs) h = refl
other-keeps source number (Cmd.Moment at) h = absurd h
other-keeps source number (Cmd.Switch name on stop) h = absurd h
other-keeps source number (Cmd.Trigger name skip) h = refl
other-keeps source number Cmd.Restart h = absurd h
other-keeps source number (Cmd.Reload text config) h = absurd h
other-keeps source number (Cmd.Refused code) h = refl
other-keeps source number Cmd.Lost h = refl
other-keeps source number Cmd.TooLong h = refl

pub other-waits : (source number : ℕ) (cmd : Cmd) → IsOther cmd → moment_in (Line source number cmd) ≡ None
other-waits source number (Cmd.Report entity text attributes) h = absurd h
other-waits source number (Cmd.Gone entity) h = absurd h
other-waits source number (Cmd.Event kind pairs) h = refl
other-waits source number (Cmd.Moment at) h = absurd h
other-waits source number (Cmd.Switch name on stop) h = absurd h
other-waits source number (Cmd.Trigger name skip) h = refl
other-waits source number Cmd.Restart h = absurd h
other-waits source number (Cmd.Reload text config) h = absurd h
other-waits source number (Cmd.Refused code) h = refl
other-waits source number Cmd.Lost h = refl
other-waits source number Cmd.TooLong h = refl

-- LAW: two journals that are the same have the same last entry
pub last-same : (i j : Journal) (x y : Entry) → more i x ≡ more j y → x ≡ y
last-same i j x y e = (let ends : Some x ≡ Some y = sym (last_of-snoc i x) ∙ ap last_of e ∙ last_of-snoc j y in cc)
