-- What the next entry of a journal has to be told with.
use Rattle.std.specs.Prelude.{◌≡◌, ℕ, ◌≤◌, Bool, true, false, nat_lt, List, Option, IsSome, MatchOption, ◌||◌, find, is_some, length, option_map}
use Rattle.std.specs.Option.{option_map_or}
use Rattle.std.specs.List.{list_all, list_any}
use Rattle.ha_past.specs.Firings.{Owner}
use Rattle.ha_value.specs.declared.value.EntityId.{EntityId}
use Rattle.ha_clock.specs.Zone as clock
use Rattle.ha_clock.specs.Local.{last_moment}
use Rattle.ha_journal.specs.declared.entry.Entry.{Entry}
use Rattle.ha_sight.specs.declared.state.StateObject.{StateObject}
use Rattle.ha_config.specs.Words.{same_entity}
use Rattle.ha_journal.specs.Entries.{change_of, changes_in, gone_in, opens_segment, report_in}
use Rattle.ha_journal.specs.declared.event.BusEvent.{BusEvent}
use Rattle.ha_config.specs.Helpers.{is_helper}
use Rattle.ha_journal.specs.Helpers.{helper_events}
use Rattle.ha_journal.specs.Journal.{Journal, IsJournal, helpers, zone_of, now, more}
use Rattle.ha_sight.specs.Sight.{Sight}
use Rattle.ha_journal.specs.States.{states}
use Rattle.ha_journal.specs.Moves.{sight}

abbrev pub Listed : Type 0
Listed = List (EntityId × Option StateObject)

-- the state that the list has of an entity, if it names the entity
abbrev pub state_listed : Listed → EntityId → Option (Option StateObject)
state_listed before e = option_map (λ p. p.1) (find (λ p. same_entity p.0 e) before)

-- it names the entity
abbrev pub lists : Listed → EntityId → Bool
lists before e = list_any (λ p. same_entity p.0 e) before

-- the entry is a Report of the entity, or changes the helper
abbrev pub reports : EntityId → Entry → Bool
reports e x = is_some (change_of e x) || option_map_or (λ r. same_entity r.entity e) (report_in x) false

-- one of those that are listed is a helper
abbrev pub names_helper : Journal → Listed → Bool
names_helper j before = list_any (λ p. is_helper (helpers j) p.0) before

-- a segment opens with the entry, or an entity is reported or goes: helpers keep their texts
abbrev pub spares_helpers : Entry → Bool
spares_helpers x = opens_segment x || is_some (report_in x) || is_some (gone_in x)

-- what the entry changes are helpers
abbrev pub changes_helpers : Journal → Entry → Bool
changes_helpers j x = list_all (λ c. is_helper (helpers (more j x)) c.entity) (changes_in x)

-- the list has states before the entry, among them that of each entity that the entry reports or whose state it changes
abbrev pub AreListed : Journal → Entry → Listed → Type 0
AreListed j x before =
    (e : EntityId) → MatchOption (state_listed before e)
    ((states (more j x) e ≡ states j e) × (reports e x ≡ false)) (λ old. old ≡ states j e)

-- an owner has triggers attached since before the entry
abbrev pub has_earlier : ℕ → List Owner → Bool
has_earlier place owners = list_any (λ o. nat_lt o.since place) owners

-- the entry goes on with the journal at that place; it is told with the states before it that it changes (where somebody asks: at a Boot,
-- and at a Restart at which all owners are attached anew, nobody does), with the events of helpers that it gives, and with what is seen after
-- it. What it changes are helpers; and no helper is listed where a segment opens, or where an entity is reported or goes: no line reports a
-- helper, a Restart leaves their states, and at a Boot nobody asks for them.
pub record IsNext (j : Journal) (place : ℕ) (x : Entry) (before : Listed) (events : List BusEvent) (seen : Sight) (owners : List Owner) : Type 0 where
  pub at : place ≡ length j
  pub journal : IsJournal (more j x)
  pub zone : IsSome (clock.zone_of (zone_of (more j x)))
  pub in_time : now (more j x) ≤ last_moment
  pub listed : has_earlier place owners ≡ true → AreListed j x before
  pub apart : spares_helpers x ≡ true → names_helper (more j x) before ≡ false
  pub helped : changes_helpers j x ≡ true
  pub events_are : events ≡ helper_events j x
  pub sees : seen ≡ sight (more j x) (length (more j x))
