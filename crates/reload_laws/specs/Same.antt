-- A Reload of what is in force.
use Rattle.std.specs.Prelude.{◌≡◌, Some}
use Rattle.ha_config.specs.declared.config.Config.{Config}
use Rattle.ha_config.specs.Sound.{IsSoundConfig}
use Rattle.ha_journal.specs.declared.entry.Entry.{Entry}
use Rattle.ha_journal.specs.Entries.{reload_in}
use Rattle.ha_journal.specs.Force.{IsAlike}
use Rattle.ha_journal.specs.Journal.{HasEntry, Journal, configured}

-- the entry is a Reload of the configuration in force, which is sound; the helpers of the new one may be others, since a Reload brings none
pub record ReloadsTheSame (j : Journal) (x : Entry) : Type 0 where
  pub config : Config
  pub some : HasEntry j
  pub reloads : reload_in x ≡ Some config
  pub sound : IsSoundConfig (configured j)
  pub alike : IsAlike config (configured j)
