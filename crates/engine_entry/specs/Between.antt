-- The parts of an engine while the automations that an entry turns are turned, one after the other.
use Rattle.std.specs.Prelude.{◌≡◌, ℕ, ◌+◌, Bool, true, List, Some, length}
use Rattle.ha_config.specs.declared.config.Automation.{Automation}
use Rattle.ha_config.specs.declared.config.Config.{Config}
use Rattle.ha_config.specs.Names.{unit_of}
use Rattle.ha_config.specs.Numbered.{has_number}
use Rattle.ha_journal.specs.Force.{IsAlike}
use Rattle.ha_journal.specs.declared.entry.Entry.{Entry}
use Rattle.ha_journal.specs.Journal.{Journal, IsJournal, configured, in_force, now, more, units}
use Rattle.ha_journal.specs.Switches.{is_on}
use Rattle.trig_set.specs.Next.{Listed}
use Rattle.trig_set.specs.Stands as triggers
use Rattle.wait_set.specs.Stands as waits
use Rattle.engine_parts.specs.declared.parts.Parts.{Parts}
use Rattle.engine_parts.specs.Kept.{AreOwned, AreSound, KeysBelow, Owned, Sees}
use Rattle.engine_parts.specs.Numbers.{AreFew, numbers_in}
use Rattle.engine_parts.specs.Owners.{AreAscending, AreBelow}
use Rattle.engine_parts.specs.Runs.{first_wait}
use Rattle.engine_entry.specs.Turned.{AreOnce, AreSet, FlagsBetween, IsTurn, OnlyTurns, OwnersBetween, StatesBetween, Target, is_target}

-- the last entry turns these automations, and the parts stand for the journal before it
pub record Turning (k : Journal) (targets : List Target) (p : Parts) : Type 0 where
  pub j : Journal
  pub x : Entry
  pub journal_is : k ≡ more j x
  pub journal : IsJournal k
  pub turn : IsTurn j x targets
  pub sees : Sees j p
  pub triggers_stand : triggers.StandsFor p.triggers j
  pub waits_stand : waits.StandsFor p.waits.asks j
  pub owned : Owned j p.triggers p.waits
  pub keys_early : KeysBelow (length j) p.delays

-- the automations that are left stand for the journal before the entry, the others for the one behind it
pub record Between (j : Journal) (x : Entry) (left : ℕ → Bool) (p : Parts) (before : Listed) : Type 0 where
  pub now_is : p.at ≡ now (more j x)
  pub flags : FlagsBetween j (more j x) left p.switches p.changed
  pub states : StatesBetween j (more j x) left p.states before
  pub owners : OwnersBetween j (more j x) left (triggers.attached p.triggers)
  pub ascend : AreAscending 0 (triggers.attached p.triggers)
  pub early : AreBelow (first_wait + length (more j x)) (triggers.attached p.triggers)
  pub waits_owned : AreOwned (length (more j x)) (triggers.attached p.triggers) p.waits.asks
  pub stand : triggers.StandsFor p.triggers j

-- all of these are left
pub record TurnsAll (config : Config) (targets : List Target) (place : ℕ) (p : Parts) (before : Listed) : Type 0 where
  pub j : Journal
  pub x : Entry
  pub only : OnlyTurns j x
  pub sound : AreSound j
  pub few : AreFew j
  pub config_is : IsAlike config (configured j)
  pub numbers_are : p.numbers ≡ numbers_in j
  pub at : place ≡ length j
  pub once : AreOnce targets
  pub set : AreSet (is_on (more j x)) (has_number (in_force j)) targets
  pub between : Between j x (is_target targets) p before

-- this one is left, and its switch is to be `on`
pub record TurnsOne (y : Automation) (a : ℕ) (on : Bool) (place : ℕ) (p : Parts) (before : Listed) : Type 0 where
  pub j : Journal
  pub x : Entry
  pub left : ℕ → Bool
  pub only : OnlyTurns j x
  pub sound : AreSound j
  pub few : AreFew j
  pub here : unit_of (units j) a ≡ Some y
  pub known : has_number (in_force j) a ≡ true
  pub is_left : left a ≡ true
  pub on_is : is_on (more j x) a ≡ on
  pub at : place ≡ length j
  pub between : Between j x left p before
