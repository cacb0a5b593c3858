-- A reload, while the automations of both configurations are gone through.
use Rattle.std.specs.Prelude.{◌≡◌, ℕ, ◌<◌, Bool, true, false, ◌&&◌, nat_eq, nat_le, length, get_or, List, [], ◌∷◌, Option, Some, None, MatchOption, is_some, slice_get, slice_index_or, option_and_then, if◌then◌else◌}
use Rattle.std.specs.List.{list_any}
use Rattle.std.specs.Option.{option_map_or}
use Rattle.ha_value.specs.declared.value.EntityId.{EntityId}
use Rattle.ha_config.specs.declared.config.Automation.{Automation}
use Rattle.ha_config.specs.declared.config.Config.{Config}
use Rattle.ha_config.specs.Names.{automation_named, named_among}
use Rattle.ha_config.specs.Sound.{IsSoundConfig}
use Rattle.ha_config.specs.Words.{Text}
use Rattle.ha_journal.specs.Force.{IsAlike}
use Rattle.ha_journal.specs.declared.entry.Entry.{Entry}
use Rattle.ha_journal.specs.Entries.{reload_in}
use Rattle.ha_journal.specs.Journal.{Journal, IsJournal, configured, in_force, more}
use Rattle.ha_journal.specs.States.{states}
use Rattle.ha_journal.specs.Switches.{same_switch, switch_named}
use Rattle.ha_sight.specs.Sight.{Automations, switch_at}
use Rattle.ha_past.specs.Firings.{Owner, owner_named, placed, without_owner}
use Rattle.conf_reload.specs.declared.outcome.Plan.{Plan}
use Rattle.conf_reload.specs.Plan.{IsPlan}
use Rattle.state_table.specs.Anew.{switch_object}
use Rattle.state_table.specs.Table.{at}
use Rattle.state_table.specs.declared.table.StateTable.{StateTable}
use Rattle.switch_book.specs.Book as switches
use Rattle.trig_set.specs.Next.{Listed, state_listed}
use Rattle.trig_set.specs.Stands as triggers
use Rattle.wait_set.specs.Stands as waits
use Rattle.engine_parts.specs.declared.parts.Parts.{Parts}
use Rattle.engine_parts.specs.Kept.{KeysBelow, Owned, Sees}
use Rattle.engine_parts.specs.Numbers.{AreFew}
use Rattle.engine_entry.specs.Turned.{entity_named}

-- a Reload stands last, and the parts stand for the journal before it; this becomes of the numbers
pub record Reloading (k : Journal) (old new : Config) (plan : Plan) (p : Parts) : Type 0 where
  pub j : Journal
  pub x : Entry
  pub journal_is : k ≡ more j x
  pub journal : IsJournal k
  pub reloads : reload_in x ≡ Some new
  pub old_is : IsAlike old (configured j)
  pub sound : IsSoundConfig new
  pub planned : IsPlan old p.numbers p.free new plan
  pub few : AreFew k
  pub sees : Sees j p
  pub triggers_stand : triggers.StandsFor p.triggers j
  pub waits_stand : waits.StandsFor p.waits.asks j
  pub owned : Owned j p.triggers p.waits
  pub keys_early : KeysBelow (length j) p.delays

-- ---- the states

-- an automation of a configuration has this name
abbrev pub has_name : Config → Text → Bool
has_name c name = is_some (automation_named c.automations name)

-- its number, by the numbers of the configuration's units, automations first
abbrev pub number_by : Config → List ℕ → Text → Option ℕ
number_by c numbers name = option_and_then (λ n. slice_get numbers n) (automation_named c.automations name)

-- and its switch
abbrev pub switch_by : Automations → List ℕ → Config → Text → Option Bool
switch_by s numbers c name = option_and_then (switch_at s) (number_by c numbers name)

-- an entity that is not listed has the state before the entry; one that is listed has the one behind it, and is listed with the one before
abbrev pub Halfway : Journal → Journal → StateTable → Listed → Type 0
Halfway j k table before = (e : EntityId) → MatchOption (state_listed before e) (at table e ≡ states j e) (λ old. (old ≡ states j e) × (at table e ≡ states k e))

-- an entity is listed, or its state stays
abbrev pub IsSettled : Journal → Journal → Listed → EntityId → Type 0
IsSettled j k before e = MatchOption (state_listed before e) (states k e ≡ states j e) (λ old. Unit {0})

-- so it is with each of these automations
abbrev pub HaveEntered : Journal → Journal → Listed → List Automation → Type 0
HaveEntered j k before [] = Unit {0}
HaveEntered j k before (y ∷ ys) = IsSettled j k before (entity_named y.name) × HaveEntered j k before ys

-- and with each of these whose name the new configuration has not
abbrev pub HaveLeft : Journal → Journal → Config → Listed → List Automation → Type 0
HaveLeft j k new before [] = Unit {0}
HaveLeft j k new before (y ∷ ys) = (has_name new y.name ≡ false → IsSettled j k before (entity_named y.name)) × HaveLeft j k new before ys

-- a name that the new configuration has not has no state behind the entry
pub record Leaving (j k : Journal) (new : Config) (table : StateTable) (before : Listed) : Type 0 where
  pub gone : (name : Text) → has_name new name ≡ false → states k (entity_named name) ≡ None
  pub halfway : Halfway j k table before

-- the switches by the old configuration are those of names before the entry, and these automations come into force with it; the state of
-- one is that of its switch, where its name had no switch or another one, and else it stays
pub record Entering (j k : Journal) (old : Config) (had : List ℕ) (was : Automations) (rules : List Automation) (numbers : List ℕ) (s : Automations) (now : ℕ) : Type 0 where
  pub before : (name : Text) → switch_by was had old name ≡ switch_named j name
  pub behind : (i : ℕ) (y : Automation) → i < length rules → y ≡ get_or rules i y → named_among (in_force k) y.name ≡ Some (slice_index_or numbers i 0)
  pub stand : switches.StandsFor s k
  pub anew : (name : Text) (on : Bool) → switch_named k name ≡ Some on → same_switch (switch_named j name) (Some on) ≡ false → states k (entity_named name) ≡ Some (switch_object on now)
  pub same : (name : Text) (on : Bool) → switch_named k name ≡ Some on → same_switch (switch_named j name) (Some on) ≡ true → states k (entity_named name) ≡ states j (entity_named name)

-- ---- the triggers

-- the owners without these
abbrev pub without_all : List ℕ → List Owner → List Owner
without_all [] os = os
without_all (n ∷ ns) os = without_all ns (without_owner n os)

-- of these numbers those from `free` on are no owner's, and none of them stands twice
abbrev pub AreFresh : ℕ → List Owner → List ℕ → Type 0
AreFresh free os [] = Unit {0}
AreFresh free os (n ∷ ns) = (nat_le free n ≡ true → (owner_named n os ≡ None) × (list_any (λ m. nat_eq m n) ns ≡ false)) × AreFresh free os ns

-- a number is new, and its automation on
abbrev pub is_new_on : Automations → ℕ → ℕ → Bool
is_new_on s free n = nat_le free n && option_map_or (λ on. on) (switch_at s n) false

-- the owners with an automation that is new and on, attached at this place
abbrev pub with_one : Automations → ℕ → ℕ → ℕ × Automation → List Owner → List Owner
with_one s free place p os = if is_new_on s free p.0 then placed (record { owner = p.0; triggers = p.1.triggers; since = place }) os else os

abbrev pub with_new : Automations → ℕ → ℕ → List (ℕ × Automation) → List Owner → List Owner
with_new s free place [] os = os
with_new s free place (p ∷ ps) os = with_new s free place ps (with_one s free place p os)
