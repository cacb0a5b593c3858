-- Where the units of a segment stand in the list of all entries.
use Rattle.std.specs.Prelude.{◌≡◌, ℕ, suc, ◌-◌, Bool, nat_lt, List, [], ◌∷◌, ◌++◌, map, length, slice_get, Option, Some, None, IfSome, is_some, option_map, option_and_then, if◌then◌else◌}
use Rattle.ha_config.specs.declared.config.Automation.{Automation}
use Rattle.ha_config.specs.declared.config.Config.{Config}
use Rattle.ha_config.specs.declared.config.Script.{Script}
use Rattle.ha_config.specs.Names.{automation_named, names_of, unit_of}
use Rattle.ha_config.specs.Sound.{IsSoundConfig}
use Rattle.ha_config.specs.Units.{as_unit, units_of}
use Rattle.ha_config.specs.Words.{Text, same}
use Rattle.ha_journal.specs.declared.entry.Entry.{Entry}
use Rattle.ha_journal.specs.declared.entry.Entry.TheVariants.{Boot, Line, Step, Again}
use Rattle.ha_journal.specs.Entries.{reloads_to}
use Rattle.ha_journal.specs.Force.{Force, in_place_of}
use Rattle.unit_book.specs.declared.book.UnitBook.{UnitBook}

-- ---- units in the list of all entries

-- the configuration that an entry brings into force
abbrev pub config_in : Entry → Option Config
config_in (Boot text config stored start zone carry) = Some config
config_in (Line source number cmd) = reloads_to cmd
config_in (Step worker serial branch item) = None
config_in (Again number start stored carry) = None

abbrev pub config_at : List Entry → ℕ → Option Config
config_at es at = option_and_then config_in (slice_get es at)

-- the script at a place behind the automations
abbrev pub script_in : Config → ℕ → Option Script
script_in c at = if nat_lt at (length c.automations) then None else slice_get c.scripts (at - length c.automations)

-- a unit is an automation or a script
abbrev pub unit_told : Option Automation → Option Script → Option Automation
unit_told (Some rule) script = Some rule
unit_told None script = option_map as_unit script

-- where a unit stands: the place of the entry that brought it, and its place among the units of that one's configuration
abbrev pub Origin : Type 0
Origin = ℕ × ℕ

abbrev pub unit_at : List Entry → Origin → Option Automation
unit_at es o = option_and_then (λ c. unit_of (units_of c) o.1) (config_at es o.0)

-- the unit of a number
abbrev pub unit_by : List Entry → List Origin → ℕ → Option Automation
unit_by es os a = option_and_then (unit_at es) (slice_get os a)

-- each unit stands there, in a sound configuration
abbrev pub AreAt : List Entry → List Origin → List Automation → Type 0
AreAt es [] [] = Unit {0}
AreAt es (o ∷ os) (u ∷ us) = (unit_at es o ≡ Some u) × IfSome (config_at es o.0) IsSoundConfig × AreAt es os us
AreAt es [] (u ∷ us) = ⊥
AreAt es (o ∷ os) [] = ⊥

-- ---- names

-- the place of the first of these with this name, where they are counted from n on
abbrev pub first_from : ℕ → Text → List Text → ℕ
first_from n name [] = n
first_from n name (x ∷ xs) = if same x name then n else first_from (suc n) name xs

-- for each name the place of the first that is the same
abbrev pub firsts_of : List Text → List ℕ
firsts_of names = map (λ name. first_from 0 name names) names

-- for each name whether an automation of the configuration has it
abbrev pub listed_in : Config → List Text → List Bool
listed_in c names = map (λ name. is_some (automation_named c.automations name)) names

-- ---- what a book holds

-- the configuration in force stands at a place of these entries, but for its helpers, all units that were in force stand at their origins, and have these names
pub record Holds (es : List Entry) (f : Force) (b : UnitBook) : Type 0 where
  pub config_is : option_map (in_place_of f.config) (config_at es b.latest) ≡ Some f.config
  pub units_are : AreAt es b.origins.items f.units
  pub names_are : b.names ≡ names_of f.units
  pub firsts_are : b.firsts.items ≡ firsts_of b.names
  pub listed_are : b.listed.items ≡ listed_in f.config b.names
  -- as it stands there it is sound
  pub sound : IfSome (config_at es b.latest) IsSoundConfig

-- ---- what comes into force

-- the places of the units that an entry brings: those whose numbers nobody had
abbrev pub brought : ℕ → ℕ → ℕ → List ℕ → List Origin
brought place free at [] = []
brought place free at (n ∷ ns) = if nat_lt n free then brought place free (suc at) ns else (place, at) ∷ brought place free (suc at) ns

-- the numbers of what is in force, automations first
abbrev pub numbers_in : Force → List ℕ
numbers_in f = map {A = ℕ × Automation} {B = ℕ} (λ p. p.0) f.rules ++ map {A = ℕ × Script} {B = ℕ} (λ p. p.0) f.scripts
