-- The triggers and the waits are told of the last entry.
use Rattle.std.proofs.Common.{◌≡◌, ℕ, ◌+◌, ◌-◌, ◌≤◌, List, length, filter, true, false, sym, ap, subst, ◌∙◌, arith}
use Rattle.std.specs.Prelude.{IsSome, Option}
use Rattle.ha_clock.specs.Zone as clock
use Rattle.ha_clock.specs.Local.{last_moment}
use Rattle.ha_config.specs.Words.{Text}
use Rattle.ha_journal.specs.Journal.{Journal, IsJournal, zone_of, now, more}
use Rattle.ha_sight.specs.Sight.{Sight}
use Rattle.ha_journal.specs.declared.event.BusEvent.{BusEvent}
use Rattle.ha_journal.specs.Helpers.{last_events}
use Rattle.ha_journal.specs.Moves.{sight}
use Rattle.ha_journal.proofs.EventLaws.{last-events}
use Rattle.ha_journal.proofs.MoreLemmas.{length-more}
use Rattle.state_table.specs.declared.table.StateTable.{StateTable}
use Rattle.trig_set.specs.Next.{Listed, IsNext, has_earlier, names_helper}
use Rattle.ha_past.specs.Firings.{Owner, firings}
use Rattle.trig_set.specs.Stands as triggers
use Rattle.trig_set.specs.declared.set.TrigSet.{TrigSet}
use Rattle.wait_set.specs.Asked.{WaitTable}
use Rattle.wait_set.specs.Stands as waits
use Rattle.wait_set.specs.Timers.{AreApart}
use Rattle.engine_parts.specs.Waiting.{AsksKept, EndsGrow}
use Rattle.engine_parts.specs.Pending.{AreOthers, AreWaits}
use Rattle.script_step.specs.declared.frames.Frames.{Frames}
use Rattle.engine_parts.specs.Runs.{AreHeld, first_wait}
use Rattle.engine_parts.specs.Kept.{AreOwned, Looks}
use Rattle.engine_parts.specs.Owners.{AreAscending, AreBelow, is_automation}
use Rattle.engine_parts.specs.Stages.{Untold, Told}
use Rattle.engine_parts.proofs.OwnerLemmas.{waits-told}

module _ (k : Journal) (t : TrigSet) (w : WaitTable) (before : Listed) (h : Untold k t w before) where
  pub last-at : length k - 1 ≡ length h.j
  last-at = omega (arith, length-more h.j h.x, ap length h.journal_is)

  -- LAW: the entry is the next one
  pub untold-next : (table : StateTable) (numbers : List ℕ) (zone : Text) (at : ℕ) (events : List BusEvent) (seen : Sight) → Looks k table numbers zone at → events ≡ last_events k → seen ≡ sight k (length k)
      → IsNext h.j (length k - 1) h.x before events seen (triggers.attached t)
  untold-next table numbers zone at events seen looks given sees = record {
    at = last-at;
    journal = subst IsJournal h.journal_is h.journal;
    zone = subst (λ (i : Journal). IsSome (clock.zone_of (zone_of i))) h.journal_is looks.zone_read;
    in_time = subst (λ (i : Journal). now i ≤ last_moment) h.journal_is (subst (λ n. n ≤ last_moment) looks.now_is looks.in_time);
    listed = λ earlier. h.listed (subst (λ n. has_earlier n (triggers.attached t) ≡ true) last-at earlier);
    apart = λ spared. subst (λ (i : Journal). names_helper i before ≡ false) h.journal_is (h.apart spared);
    helped = h.helped;
    events_are = given ∙ ap last_events h.journal_is ∙ last-events h.j h.x;
    sees = sees ∙ ap (λ (i : Journal). sight i (length i)) h.journal_is;
  }

  -- LAW: all firings tell the waits
  pub untold-told : waits.AreFired (more h.j h.x) (length k - 1) (firings (more h.j h.x) (length k - 1) (triggers.attached t)) w.asks
  untold-told = waits-told (more h.j h.x) (length k - 1) (length k) (triggers.attached t) w.asks h.owned.ascend h.owned.waits_owned

  -- LAW: what was told
  pub told-by : (t' : TrigSet) (w' : WaitTable) → triggers.attached t' ≡ triggers.attached t → triggers.StandsFor t' (more h.j h.x) → waits.StandsFor w'.asks (more h.j h.x)
      → ((serial : ℕ) → AsksKept w w' serial) → ((serial : ℕ) → EndsGrow w w' serial) → ((n : ℕ) (owners : List Owner) → AreOwned n owners w.asks → AreOwned n owners w'.asks)
      → ((n : ℕ) (owners : List Owner) → AreOwned n owners w.asks → AreWaits w'.fresh) → (AreApart w.asks → AreApart w'.asks) → (AreApart w.asks → AreOthers w'.fresh w'.asks)
      → ((i : Journal) (os : List (Option Frames)) → AreHeld i os w.asks → AreHeld i os w'.asks) → Told k w t' w'
  told-by t' w' kept t_stands w_stands asks grow owned fresh apart others held = record {
    triggers_stand = subst (triggers.StandsFor t') (sym h.journal_is) t_stands;
    waits_stand = subst (waits.StandsFor w'.asks) (sym h.journal_is) w_stands;
    owned = record {
      automations_attached = ap (filter is_automation) kept ∙ h.owned.automations_attached;
      ascend = subst (AreAscending 0) (sym kept) h.owned.ascend;
      early = subst (AreBelow (first_wait + length k)) (sym kept) h.owned.early;
      waits_owned = subst (λ (l : List Owner). AreOwned (length k) l w'.asks) (sym kept) (owned (length k) (triggers.attached t) h.owned.waits_owned);
      apart = apart h.owned.apart;
    };
    asks = asks;
    grow = grow;
    fresh = fresh (length k) (triggers.attached t) h.owned.waits_owned;
    others = others h.owned.apart;
    held = held;
  }
