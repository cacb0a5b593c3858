-- Event triggers fire for each event of an entry: for its own, and for those of helpers, in order.
use Rattle.std.proofs.Common.{◌≡◌, ℕ, [], ◌∷◌, ◌++◌, length, map, take, Bool, true, false, refl, sym, ap, ◌∙◌}
use Rattle.std.specs.Prelude.{Option, Some, None, is_some, filter_map, nat_lt, option_map, codes, ◌&&◌, ◌||◌, if◌then◌else◌}
use Rattle.std.specs.List.{cons_option}
use Rattle.std.specs.Option.{option_map_or, option_to_list}
use Rattle.ha_config.specs.declared.config.Trigger.{Trigger}
use Rattle.ha_config.specs.declared.config.TriggerRule.{TriggerRule}
use Rattle.ha_config.specs.Words.{Pairs, Text, one_of}
use Rattle.ha_sight.specs.Rules.{entities_of, is_event, pair_holds, starts}
use Rattle.ha_sight.specs.Sight.{Sight}
use Rattle.ha_journal.specs.declared.entry.Entry.{Entry}
use Rattle.ha_journal.specs.Entries.{event_in, is_boot, opens_segment}
use Rattle.ha_journal.specs.Helpers.{event_for, events_at, events_of, helper_events, own_event}
use Rattle.ha_journal.specs.Journal.{Journal, more}
use Rattle.ha_journal.specs.Moves.{after, before, looks, moves, rule_moves}
use Rattle.ha_journal.specs.Variables.{variables}
use Rattle.ha_journal.specs.Triggers.{entities_at}
use Rattle.ha_journal.proofs.EventLaws.{nobodys-event}
use Rattle.ha_journal.proofs.FiringLaws.{fired-at-once}
use Rattle.ha_journal.proofs.SinceLaws.{take-before}
use Rattle.ha_config.proofs.ListLemmas.{get-last}
use Rattle.std.specs.List.{list_all}
use Rattle.ha_past.specs.Firings.{Owner, firing_for, firings_by}
use Rattle.ha_past.proofs.PastLemmas.{events-last}

-- LAW: an event trigger is no start trigger
pub event-starts : (rule : TriggerRule) → is_event rule ≡ true → starts rule ≡ false
event-starts (TriggerRule.State entities attribute from to) e = refl
event-starts (TriggerRule.Numeric entities attribute above below) e = refl
event-starts (TriggerRule.Event kinds pairs) e = refl
event-starts (TriggerRule.Time seconds) e = refl
event-starts (TriggerRule.Pattern hours minutes seconds) e = refl
event-starts (TriggerRule.Template u) e = refl
event-starts TriggerRule.Start e = cc

-- where nobody's event is there, none is named
module _ (b a : Sight) (past : Journal) (held : Bool) (x : Entry) (none : event_for None (events_of past x) ≡ None) where
  event-looks-not : (rule : TriggerRule) → is_event rule ≡ true → looks b a past rule held None x ≡ false
  event-looks-not (TriggerRule.State entities attribute from to) e = cc
  event-looks-not (TriggerRule.Numeric entities attribute above below) e = cc
  event-looks-not (TriggerRule.Event kinds pairs) e = (λ i. option_map_or (λ v. one_of v.kind kinds && list_all (pair_holds v.pairs) pairs) (none i) false)
  event-looks-not (TriggerRule.Time seconds) e = cc
  event-looks-not (TriggerRule.Pattern hours minutes seconds) e = cc
  event-looks-not (TriggerRule.Template u) e = cc
  event-looks-not TriggerRule.Start e = cc

module _ (j : Journal) (x : Entry) (o : Owner) (n : ℕ) (t : Trigger) (event : is_event t.rule ≡ true) (hold : t.hold ≡ None) where
  entities-are : entities_at (more j x) (length j) t.rule ≡ map (λ v. v.entity) (events_of j x)
  entities-are =
      (λ i. if event i then map (λ v. v.entity) (events_at (more j x) (length j)) else entities_of t.rule)
      ∙ (λ i. map (λ v. v.entity) (events-last j x i))

  nobodys-none : event_in x ≡ None → event_for None (events_of (take (length j) (more j x)) x) ≡ None
  nobodys-none none = (λ i. event_for None (events_of (take-before j x i) x)) ∙ nobodys-event j x ∙ ap (option_map own_event) none

  event-moves-not : event_in x ≡ None → moves (more j x) t None (length j) ≡ false
  event-moves-not none =
      (λ i. option_map_or (λ y. if opens_segment y then is_boot y && starts t.rule && true else rule_moves (more j x) t.rule (is_some t.hold) None (length j) y) (get-last j x i) false)
      ∙ (λ i. if opens_segment x then is_boot x && event-starts t.rule event i && true
      else event-looks-not (before (more j x) (length j)) (after (more j x) (length j)) (take (length j) (more j x)) (is_some t.hold) x (nobodys-none none) t.rule event i)
      ∙ by (opens_segment x) (is_boot x)
    where
      by : (b c : Bool) → (if b then c && false && true else false) ≡ false
      by true true = refl
      by true false = refl
      by false c = refl

  fires-not : event_in x ≡ None → firing_for (more j x) (length j) o (n, t) None ≡ None
  fires-not none =
      ap (option_map (λ i. record { owner = o.owner; trigger = n; entity = None; env = (codes "trigger", variables (more j x) t None i) ∷ [] }))
      (fired-at-once (more j x) t None o.since (length j) hold
      ∙ (λ i. if event-moves-not none i && (nat_lt o.since (length j) || starts t.rule) then Some (length j) else None))

  -- LAW: it fires for the entry's own event, if it has one, and then for each event of a helper
  pub fires-for-each : firings_by (more j x) (length j) o (n, t)
      ≡ cons_option (firing_for (more j x) (length j) o (n, t) None) (filter_map (firing_for (more j x) (length j) o (n, t)) (map (λ v. v.entity) (helper_events j x)))
  fires-for-each = (λ i. filter_map (firing_for (more j x) (length j) o (n, t)) (entities-are i)) ∙ by (event_in x) refl
    where
      by : (v : Option (Text × Pairs)) → event_in x ≡ v
          → filter_map (firing_for (more j x) (length j) o (n, t)) (map (λ v. v.entity) (map own_event (option_to_list v) ++ helper_events j x))
          ≡ cons_option (firing_for (more j x) (length j) o (n, t) None) (filter_map (firing_for (more j x) (length j) o (n, t)) (map (λ v. v.entity) (helper_events j x)))
      by None none = (λ i. cons_option (sym (fires-not none) i) (filter_map (firing_for (more j x) (length j) o (n, t)) (map (λ v. v.entity) (helper_events j x))))
      by (Some v) own = refl
