-- Helpers after a journal: their texts, the timers that finish, and the events that an entry gives.
use Rattle.std.specs.Prelude.{ℕ, ◌-◌, Bool, false, ◌&&◌, nat_le, List, [], ◌∷◌, ◌++◌, length, map, filter, filter_map, find, take}
use Rattle.std.specs.Prelude.{Option, Some, None, is_none, option_map, option_and_then, slice_get, codes, if◌then◌else◌}
use Rattle.std.specs.List.{list_any}
use Rattle.std.specs.Option.{option_map_or, option_to_list}
use Rattle.ha_value.specs.declared.value.EntityId.{EntityId}
use Rattle.ha_value.specs.declared.value.Value.{Value}
use Rattle.ha_value.specs.Ids.{entity_text}
use Rattle.ha_config.specs.declared.helper.Helper.{Helper}
use Rattle.ha_sight.specs.declared.helped.HelperChange.{HelperChange}
use Rattle.ha_journal.specs.declared.entry.Entry.{Entry}
use Rattle.ha_journal.specs.declared.event.BusEvent.{BusEvent}
use Rattle.ha_config.specs.Words.{Text, Pairs, same_entity, longest_end, last_of}
use Rattle.ha_config.specs.Helpers.{first_text}
use Rattle.ha_sight.specs.Known.{Changed, Known, due_of}
use Rattle.ha_journal.specs.Entries.{change_of, changes_in, event_in, is_moment}
use Rattle.ha_journal.specs.Journal.{Journal, helpers, more, now, stamped}

-- ---- changes

abbrev pub changed_at : EntityId → ℕ × Entry → Option Changed
changed_at e s = option_map (λ c. record { change = c; at = s.0 }) (change_of e s.1)

-- the last change of e
abbrev pub last_change : Journal → EntityId → Option Changed
last_change j e = last_of (filter_map (changed_at e) (stamped j))

-- at a moment entry Now is this due, or later
abbrev pub comes : ℕ → ℕ × Entry → Bool
comes due s = is_moment s.1 && nat_le due s.0

-- a moment entry after the last change of e was at this due, or later
abbrev pub came : Journal → EntityId → ℕ → Bool
came j e due = list_any (comes due) (longest_end (λ s. is_none (change_of e s.1)) (stamped j))

abbrev pub unless_came : Journal → EntityId → ℕ → Option ℕ
unless_came j e due = if came j e due then None else Some due

-- the due of a timer that has not finished
abbrev pub due_in : Journal → EntityId → Option ℕ
due_in j e = option_and_then (unless_came j e) (option_and_then due_of (last_change j e))

-- the text of a helper that was changed so: a timer that finished is idle
abbrev pub text_by : Journal → EntityId → Changed → Text
text_by j e c = if option_map_or (came j e) (due_of c) false then codes "idle" else c.change.text

-- the text of a helper after a journal
abbrev pub text_of : Journal → Helper → Text
text_of j h = option_map_or (text_by j h.entity) (last_change j h.entity) (first_text h.kind)

-- ---- what a place sees of a helper

abbrev pub known : Journal → List Known
known j = map (λ h. record { helper = h; last = last_change j h.entity }) (helpers j)

-- ---- timers that finish

-- with entry x behind a journal the timer finishes: it is active, and this is the first moment at its due or later
abbrev pub finishes : Journal → Entry → Helper → Bool
finishes j x h = option_map_or (λ due. comes due (now (more j x), x)) (due_in j h.entity) false

-- those that finish, as configured
abbrev pub finished : Journal → Entry → List EntityId
finished j x = map (λ h. h.entity) (filter (finishes j x) (helpers j))

-- ---- events

-- the data of a timer's event
abbrev pub timer_pairs : EntityId → Pairs
timer_pairs e = (codes "entity_id", Value.Text (entity_text e)) ∷ []

abbrev pub timer_event : Text → EntityId → BusEvent
timer_event kind e = record { kind = kind; pairs = timer_pairs e; entity = Some e }

abbrev pub own_event : Text × Pairs → BusEvent
own_event v = record { kind = v.0; pairs = v.1; entity = None }

abbrev pub event_of_change : HelperChange → Option BusEvent
event_of_change c = option_map (λ kind. timer_event kind c.entity) c.event

-- the events of helpers that entry x gives behind a journal: those of its changes, or of the timers that finish
abbrev pub helper_events : Journal → Entry → List BusEvent
helper_events j x = filter_map event_of_change (changes_in x) ++ map (timer_event (codes "timer.finished")) (finished j x)

-- all events that it gives
abbrev pub events_of : Journal → Entry → List BusEvent
events_of j x = map own_event (option_to_list (event_in x)) ++ helper_events j x

-- the events of helpers that the last entry gives
abbrev pub last_events : Journal → List BusEvent
last_events j = option_map_or (helper_events (take (length j - 1) j)) (slice_get j (length j - 1)) []

abbrev pub events_at : Journal → ℕ → List BusEvent
events_at j p = option_map_or (events_of (take p j)) (slice_get j p) []

abbrev pub is_of : Option EntityId → BusEvent → Bool
is_of (Some e) v = option_map_or (same_entity e) v.entity false
is_of None v = is_none v.entity

-- the event of e
abbrev pub event_for : Option EntityId → List BusEvent → Option BusEvent
event_for e events = find (is_of e) events
