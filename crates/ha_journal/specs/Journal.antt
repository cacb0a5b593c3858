-- The journal: a list of entries, of which the first alone is a Boot.
use Rattle.std.specs.Prelude.{ℕ, List, [], ◌∷◌, map, max, unwrap_or, ◌++◌, suc, ◌-◌, length, take}
use Rattle.std.specs.Option.{option_map_or}
use Rattle.ha_config.specs.declared.config.Automation.{Automation}
use Rattle.ha_config.specs.declared.config.Config.{Config}
use Rattle.ha_config.specs.declared.config.Script.{Script}
use Rattle.ha_config.specs.declared.helper.Helper.{Helper}
use Rattle.ha_journal.specs.declared.entry.Entry.{Entry}
use Rattle.ha_config.specs.Names.{names_of}
use Rattle.ha_config.specs.Words.{Text, EachFrom}
use Rattle.ha_journal.specs.Entries.{boot_of, moment_in, IsBoot, BeginsSegment}
use Rattle.ha_journal.specs.Force.{force}

abbrev pub Journal : Type 0
Journal = List Entry

-- the first entry is a Boot, and every other one a Line or a Step
abbrev pub IsJournal : Journal → Type 0
IsJournal [] = ⊥
IsJournal (e ∷ es) = IsBoot e × EachFrom (λ n x. ¬ BeginsSegment x) 1 es

-- there is an entry
abbrev pub HasEntry : Journal → Type 0
HasEntry [] = ⊥
HasEntry (e ∷ es) = Unit {0}

-- the configuration in force: that of the last Reload, else the Boot's, with the Boot's helpers
abbrev pub configured : Journal → Config
configured j = (force j).config

abbrev pub automations : Journal → List Automation
automations j = (configured j).automations

abbrev pub scripts : Journal → List Script
scripts j = (configured j).scripts

-- the helpers of the Boot: a Reload brings none
abbrev pub helpers : Journal → List Helper
helpers [] = []
helpers (e ∷ es) = option_map_or (λ b. b.config.helpers) (boot_of e) []

-- the automations in force, each with its number, as configured
abbrev pub in_force : Journal → List (ℕ × Automation)
in_force j = (force j).rules

-- the scripts in force, each by its name and its number
abbrev pub scripts_in : Journal → List (Text × ℕ)
scripts_in j = map (λ p. (p.1.name, p.0)) (force j).scripts

-- what has runs: all units that were in force at some time, each at its number
abbrev pub units : Journal → List Automation
units j = (force j).units

-- their names, each at its number
abbrev pub names : Journal → List Text
names j = names_of (units j)

abbrev pub zone_of : Journal → Text
zone_of [] = []
zone_of (e ∷ es) = option_map_or (λ b. b.zone) (boot_of e) []

-- the moment that an entry brings, and 0 where it brings none
abbrev pub brings : Entry → ℕ
brings e = option_map_or (λ b. b.start) (boot_of e) (unwrap_or (moment_in e) 0)

-- Now: the greatest of the start and of all moments
abbrev pub now : Journal → ℕ
now [] = 0
now (e ∷ es) = max (brings e) (now es)

-- each entry, with Now after it
abbrev pub stamped_from : ℕ → Journal → List (ℕ × Entry)
stamped_from before [] = []
stamped_from before (e ∷ es) = (max before (brings e), e) ∷ stamped_from (max before (brings e)) es

abbrev pub stamped : Journal → List (ℕ × Entry)
stamped = stamped_from 0

-- the journal with one more entry
abbrev pub more : Journal → Entry → Journal
more j x = j ++ (x ∷ [])

-- the part of a journal up to place p, that entry included
abbrev pub through : Journal → ℕ → Journal
through j p = take (suc p) j

-- the place of the last entry
abbrev pub last_place : Journal → ℕ
last_place j = length j - 1
