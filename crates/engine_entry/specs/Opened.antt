-- The automations at the opening of a segment, which are all set anew, one after the other.
use Rattle.std.specs.Prelude.{◌≡◌, ℕ, Bool, true, nat_le, List, [], ◌∷◌, length, flat_map, Some, slice_get, if◌then◌else◌}
use Rattle.std.specs.List.{enumerate_from}
use Rattle.ha_config.specs.declared.config.Automation.{Automation}
use Rattle.ha_journal.specs.declared.entry.Entry.{Entry}
use Rattle.ha_journal.specs.Entries.{opens_segment}
use Rattle.ha_journal.specs.Journal.{Journal, automations, in_force, now, more}
use Rattle.ha_journal.specs.Switches.{is_on, since}
use Rattle.ha_sight.specs.Sight.{Automations}
use Rattle.state_laws.specs.Stands.{StandsBut, StandsFor}
use Rattle.state_table.specs.declared.table.StateTable.{StateTable}
use Rattle.switch_book.specs.Book as switches
use Rattle.ha_past.specs.Firings.{Owner}
use Rattle.trig_set.specs.Stands as triggers
use Rattle.trig_set.specs.declared.set.TrigSet.{TrigSet}
use Rattle.engine_parts.specs.Kept.{AreSound}
use Rattle.engine_entry.specs.Turned.{is_left}

-- those from n on are left
abbrev pub left_from : ℕ → ℕ → Bool
left_from n a = nat_le n a

-- the automations, each with its place as number
abbrev pub placed_rules : Journal → List (ℕ × Automation)
placed_rules k = enumerate_from 0 (automations k)

-- the owner that an automation is, where it is on
abbrev pub owner_open : Journal → ℕ × Automation → List Owner
owner_open k y = if is_on k y.0 then record { owner = y.0; triggers = y.1.triggers; since = since k y.0 } ∷ [] else []

-- that of an automation that is not left
abbrev pub owner_below : Journal → ℕ → ℕ × Automation → List Owner
owner_below k n y = if left_from n y.0 then [] else owner_open k y

-- the automations below n are set, the others are left
pub record Opened (j : Journal) (x : Entry) (n : ℕ) (table : StateTable) (t : TrigSet) : Type 0 where
  pub stand : StandsBut (is_left (placed_rules (more j x)) (left_from n)) table (more j x)
  pub owners : triggers.attached t ≡ flat_map (owner_below (more j x) n) (placed_rules (more j x))
  pub triggers_stand : triggers.StandsFor t j

-- this one is next, and its switch is `on`
pub record OpensOne (y : Automation) (a : ℕ) (on : Bool) (place at : ℕ) (table : StateTable) (t : TrigSet) : Type 0 where
  pub j : Journal
  pub x : Entry
  pub opens : opens_segment x ≡ true
  pub numbered : in_force (more j x) ≡ placed_rules (more j x)
  pub sound : AreSound (more j x)
  pub here : slice_get (automations (more j x)) a ≡ Some y
  pub on_is : is_on (more j x) a ≡ on
  pub place_is : place ≡ length j
  pub at_is : at ≡ now (more j x)
  pub opened : Opened j x a table t

-- the switches are those behind an entry that sets all anew, and nothing else is set yet
pub record Opening (all : List Automation) (place at : ℕ) (s : Automations) (table : StateTable) (t : TrigSet) : Type 0 where
  pub j : Journal
  pub x : Entry
  pub opens : opens_segment x ≡ true
  pub all_are : all ≡ automations (more j x)
  pub numbered : in_force (more j x) ≡ placed_rules (more j x)
  pub sound : AreSound (more j x)
  pub place_is : place ≡ length j
  pub at_is : at ≡ now (more j x)
  pub switches_stand : switches.StandsFor s (more j x)
  pub begun : Opened j x 0 table t

-- all are set
pub record AllOpened (j : Journal) (x : Entry) (table : StateTable) (t : TrigSet) : Type 0 where
  pub stand : StandsFor table (more j x)
  pub owners : triggers.attached t ≡ flat_map (owner_open (more j x)) (placed_rules (more j x))
  pub triggers_stand : triggers.StandsFor t j
