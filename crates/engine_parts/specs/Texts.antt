-- The texts that an entry gives helpers.
use Rattle.std.specs.Prelude.{◌≡◌, ℕ, Bool, false, List, [], Option, Some, None, MatchOption, codes, filter_map, find, option_map}
use Rattle.std.specs.Option.{option_map_or}
use Rattle.ha_value.specs.declared.value.EntityId.{EntityId}
use Rattle.ha_config.specs.declared.helper.Helper.{Helper}
use Rattle.ha_config.specs.Helpers.{first_text, helper_named}
use Rattle.ha_config.specs.Words.{same_entity}
use Rattle.ha_sight.specs.declared.helped.HelperChange.{HelperChange}
use Rattle.ha_sight.specs.declared.state.StateObject.{StateObject}
use Rattle.ha_sight.specs.StateStep.{next_object}
use Rattle.ha_journal.specs.declared.entry.Entry.{Entry}
use Rattle.ha_journal.specs.Entries.{change_of}
use Rattle.ha_journal.specs.Helpers.{event_of_change, helper_events, text_of}
use Rattle.ha_journal.specs.Journal.{Journal, helpers, more}
use Rattle.state_laws.specs.Stands.{gives_text}
use Rattle.state_table.specs.Table.{at}
use Rattle.state_table.specs.declared.table.StateTable.{StateTable}
use Rattle.trig_set.specs.Next.{Listed, state_listed}

-- the change is of the entity
abbrev pub change_is_of : EntityId → HelperChange → Bool
change_is_of e c = same_entity c.entity e

-- the first of these changes that is of an entity
abbrev pub first_of : List HelperChange → EntityId → Option HelperChange
first_of cs e = find (λ c. same_entity c.entity e) cs

-- where these were the states, the helpers were given these texts at a moment: of several changes of one the first counts. The states that
-- they had are listed.
pub record AreTold (now : ℕ) (old : EntityId → Option StateObject) (cs : List HelperChange) (table : StateTable) (before : Listed) : Type 0 where
  pub states : (e : EntityId) → at table e ≡ option_map_or (λ c. Some (next_object (old e) c.text [] now)) (first_of cs e) (old e)
  pub listed : (e : EntityId) → state_listed before e ≡ option_map {T = HelperChange} {U = Option StateObject} (λ c. old e) (first_of cs e)

-- a timer that finishes is idle, and gives an event
abbrev pub idle_change : EntityId → HelperChange
idle_change e = record { entity = e; text = codes "idle"; span = None; event = Some (codes "timer.finished") }

-- a helper has its first text
abbrev pub first_change : Helper → HelperChange
first_change h = record { entity = h.entity; text = first_text h.kind; span = None; event = None }

-- a helper of an id that entry x gives a text behind a journal
pub record IsGiven (j : Journal) (x : Entry) (e : EntityId) (c : HelperChange) : Type 0 where
  pub helper : Helper
  pub named : helper_named (helpers (more j x)) e ≡ Some helper
  pub text : text_of (more j x) helper ≡ c.text

-- these are the texts that entry x gives helpers behind a journal, and its events
pub record AreGiven (j : Journal) (x : Entry) (cs : List HelperChange) : Type 0 where
  pub texts : (e : EntityId) → MatchOption (first_of cs e) ((gives_text j x e ≡ false) × (change_of e x ≡ None)) (IsGiven j x e)
  pub events : filter_map event_of_change cs ≡ helper_events j x
