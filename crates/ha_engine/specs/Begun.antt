-- A journal of its boot alone, and what is known of it before the parts stand for it.
use Rattle.std.specs.Prelude.{◌≡◌, ℕ, ◌≤◌, zero, suc, true, Bool, IsSome, List, [], ◌∷◌, Option}
use Rattle.ha_clock.specs.Zone.{zone_of}
use Rattle.ha_clock.specs.Local.{last_moment}
use Rattle.ha_config.specs.declared.config.Config.{Config}
use Rattle.ha_journal.specs.declared.carry.Carry.{Carry}
use Rattle.ha_journal.specs.declared.entry.Entry.TheVariants.{Boot}
use Rattle.ha_journal.specs.Entries.{IsBoot, first_carry}
use Rattle.ha_journal.specs.Journal.{Journal}
use Rattle.ha_config.specs.Names.{of_automations}
use Rattle.ha_config.specs.Sound.{AreSoundMoments, IsSoundConfig}
use Rattle.ha_config.specs.Words.{Text}
use Rattle.ha_sight.specs.Sight.{Automations}
use Rattle.store_text.specs.Store.{Moments, Switches}
use Rattle.state_table.specs.declared.table.StateTable.{StateTable}
use Rattle.switch_book.specs.Book as switches
use Rattle.trig_set.specs.declared.set.TrigSet.{TrigSet}
use Rattle.engine_entry.specs.Opened.{AllOpened}

-- the journal is one Boot's
abbrev pub IsBegun : Journal → Type 0
IsBegun [] = ⊥
IsBegun (e ∷ []) = IsBoot e
IsBegun (e ∷ x ∷ es) = ⊥

-- the journal is the boot's, and these are its switches, its zone and its start
pub record Begun (k : Journal) (s : Automations) (zone : Text) (at : ℕ) : Type 0 where
  pub text : Text
  pub config : Config
  pub stored : Option Switches
  pub carry : Carry
  pub journal_is : k ≡ Boot text config stored at zone carry ∷ []
  pub sound : IsSoundConfig config
  pub zone_read : IsSome (zone_of zone)
  pub in_time : at ≤ last_moment
  pub switches_stand : switches.StandsFor s k

-- it is the first Boot: of these moments it takes over those whose names automations have
pub record Boots (k : Journal) (s : Automations) (zone : Text) (at : ℕ) : Type 0 where
  pub text : Text
  pub config : Config
  pub stored : Option Switches
  pub last : Moments
  pub journal_is : k ≡ Boot text config stored at zone (first_carry (of_automations config.automations last)) ∷ []
  pub sound : IsSoundConfig config
  pub moments : AreSoundMoments last
  pub zone_read : IsSome (zone_of zone)
  pub in_time : at ≤ last_moment
  pub switches_stand : switches.StandsFor s k

-- all automations are set, and the triggers are still to be told of the boot
pub record BegunWith (k : Journal) (s : Automations) (zone : Text) (at : ℕ) (table : StateTable) (t : TrigSet) : Type 0 where
  pub begun : Begun k s zone at
  pub opened : AllOpened [] (Boot begun.text begun.config begun.stored at zone begun.carry) table t

-- so many sources, of which each is rested
abbrev pub trues : ℕ → List Bool
trues zero = []
trues (suc n) = true ∷ trues n
