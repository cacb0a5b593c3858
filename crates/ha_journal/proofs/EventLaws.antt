-- The events and the numbers that an entry gives: its own, and those of helpers.
use Rattle.std.proofs.Common.{◌≡◌, ◌-◌, List, [], ◌∷◌, ◌++◌, length, map, take, false, refl, ap, ◌∙◌, arith}
use Rattle.std.specs.Prelude.{Option, Some, None, ◌&&◌, filter, filter_map, option_map, option_and_then, slice_get, codes, if◌then◌else◌}
use Rattle.std.specs.List.{cons_option, list_all}
use Rattle.std.specs.Option.{option_map_or, option_to_list}
use Rattle.ha_value.specs.declared.value.EntityId.{EntityId}
use Rattle.ha_value.specs.declared.value.Num.{Num}
use Rattle.ha_config.specs.declared.helper.Helper.{Helper}
use Rattle.ha_sight.specs.declared.helped.HelperChange.{HelperChange}
use Rattle.ha_journal.specs.declared.entry.Entry.{Entry}
use Rattle.ha_journal.specs.declared.event.BusEvent.{BusEvent}
use Rattle.ha_config.specs.Words.{Pairs, Text, first_of_list, one_of}
use Rattle.ha_journal.specs.Entries.{Reported, changes_in, event_in, is_moment, report_in, text_given}
use Rattle.ha_journal.specs.Journal.{Journal, helpers, more}
use Rattle.ha_journal.specs.Helpers.{event_for, event_of_change, events_of, finished, finishes, helper_events, last_events, own_event, timer_event}
use Rattle.ha_journal.specs.Moves.{number_in_text, report_number}
use Rattle.ha_sight.specs.Rules.{pair_holds}
use Rattle.ha_config.proofs.ListLemmas.{get-last}
use Rattle.ha_journal.proofs.HelperLaws.{finishes-not}
use Rattle.ha_journal.proofs.MoreLemmas.{length-more}
use Rattle.ha_journal.proofs.SinceLaws.{take-before}

-- ---- events

-- the events of helpers are somebody's
none-finished : (kind : Text) (es : List EntityId) → event_for None (map (timer_event kind) es) ≡ None
none-finished kind [] = refl
none-finished kind (e ∷ es) = none-finished kind es

none-own : (kind : Text) (cs : List HelperChange) (es : List EntityId) → event_for None (filter_map event_of_change cs ++ map (timer_event kind) es) ≡ None
none-own kind [] es = none-finished kind es
none-own kind (c ∷ cs) es = by c.event (none-own kind cs es)
  where
    by : (o : Option Text) → event_for None (filter_map event_of_change cs ++ map (timer_event kind) es) ≡ None
        → event_for None (cons_option (option_map (λ k. timer_event k c.entity) o) (filter_map event_of_change cs) ++ map (timer_event kind) es) ≡ None
    by None rest = rest
    by (Some k) rest = rest

module _ (j : Journal) (x : Entry) where
  -- LAW: the event that is nobody's is that of the entry itself
  pub nobodys-event : event_for None (events_of j x) ≡ option_map own_event (event_in x)
  nobodys-event = by (event_in x)
    where
      by : (o : Option (Text × Pairs)) → event_for None (map own_event (option_to_list o) ++ helper_events j x) ≡ option_map own_event o
      by None = none-own (codes "timer.finished") (changes_in x) (finished j x)
      by (Some v) = refl

  -- LAW: so it is named where the entry is an event that is named
  pub nobodys-named : (kinds : List Text) (pairs : Pairs)
      → option_map_or (λ v. one_of v.kind kinds && list_all (pair_holds v.pairs) pairs) (event_for None (events_of j x)) false
      ≡ option_map_or (λ v. one_of v.0 kinds && list_all (pair_holds v.1) pairs) (event_in x) false
  nobodys-named kinds pairs = (λ i. option_map_or (λ v. one_of v.kind kinds && list_all (pair_holds v.pairs) pairs) (nobodys-event i) false) ∙ by (event_in x)
    where
      by : (o : Option (Text × Pairs)) → option_map_or (λ (v : BusEvent). one_of v.kind kinds && list_all (pair_holds v.pairs) pairs) (option_map own_event o) false
          ≡ option_map_or (λ (v : Text × Pairs). one_of v.0 kinds && list_all (pair_holds v.1) pairs) o false
      by None = refl
      by (Some v) = refl

  -- LAW: and it gives the kind and the data of the entry's
  pub nobodys-given : option_map {T = BusEvent} {U = Text × Pairs} (λ v. (v.kind, v.pairs)) (event_for None (events_of j x)) ≡ event_in x
  nobodys-given = ap (option_map {T = BusEvent} {U = Text × Pairs} (λ v. (v.kind, v.pairs))) nobodys-event ∙ by (event_in x)
    where
      by : (o : Option (Text × Pairs)) → option_map {T = BusEvent} {U = Text × Pairs} (λ v. (v.kind, v.pairs)) (option_map own_event o) ≡ o
      by None = refl
      by (Some v) = refl

  -- no timer finishes at an entry that is no moment
  pub none-finish : is_moment x ≡ false → finished j x ≡ []
  none-finish other = ap (map (λ (h : Helper). h.entity)) (by (helpers j))
    where
      by : (hs : List Helper) → filter (finishes j x) hs ≡ []
      by [] = refl
      by (h ∷ hs) = (λ i. if finishes-not j x h other i then h ∷ filter (finishes j x) hs else filter (finishes j x) hs) ∙ by hs

  -- LAW: an entry that changes no helper, and is no moment, gives no event of one
  pub helps-none : changes_in x ≡ [] → is_moment x ≡ false → helper_events j x ≡ []
  helps-none none other = (λ i. filter_map event_of_change (none i) ++ map (timer_event (codes "timer.finished")) (none-finish other i))

  -- LAW: and none at all where it is none itself
  pub events-none : event_in x ≡ None → changes_in x ≡ [] → is_moment x ≡ false → events_of j x ≡ []
  events-none own none other = (λ i. map own_event (option_to_list (own i)) ++ helps-none none other i)

-- LAW: the events of the last entry are those that it gives behind the others
pub last-events : (j : Journal) (x : Entry) → last_events (more j x) ≡ helper_events j x
last-events j x =
    (let longer = length-more j x in let e : length (more j x) - 1 ≡ length j = omega (arith, longer) in
    λ i. option_map_or (helper_events (take (e i) (more j x))) (slice_get (more j x) (e i)) [])
    ∙ (λ i. option_map_or (helper_events (take-before j x i)) (get-last j x i) [])

-- ---- numbers

first-option : {X : Type 0} (o : Option X) → first_of_list (cons_option o []) ≡ o
first-option None = refl
first-option (Some x) = refl

module _ (e : EntityId) (name : Option Text) (x : Entry) where
  -- the number of a Report
  abbrev pub reported_number : Option Num
  reported_number = option_and_then (number_in_text e name) (report_in x)

  -- LAW: an entry that changes no helper gives the number of its Report
  pub number-own : changes_in x ≡ [] → report_number e name x ≡ reported_number
  number-own none = (λ i. first_of_list (filter_map (number_in_text e name) (option_to_list (report_in x) ++ map text_given (none i)))) ∙ by (report_in x)
    where
      by : (o : Option Reported) → first_of_list (filter_map (number_in_text e name) (option_to_list o ++ [])) ≡ option_and_then (number_in_text e name) o
      by None = refl
      by (Some r) = first-option (number_in_text e name r)

  -- LAW: and none where it has none
  pub number-none : report_in x ≡ None → changes_in x ≡ [] → report_number e name x ≡ None
  number-none report none = (λ i. first_of_list (filter_map (number_in_text e name) (option_to_list (report i) ++ map text_given (none i))))
