-- What is in force: the configuration of the last Reload, else the Boot's, with the Boot's helpers, and the numbers of its units.
use Rattle.std.specs.Prelude.{◌≡◌, ℕ, ◌+◌, Bool, ◌||◌, List, [], ◌∷◌, ◌++◌, length, map, fold}
use Rattle.std.specs.List.{enumerate_from}
use Rattle.std.specs.Option.{option_map_or}
use Rattle.ha_config.specs.declared.config.Automation.{Automation}
use Rattle.ha_config.specs.declared.config.Config.{Config}
use Rattle.ha_config.specs.declared.config.Script.{Script}
use Rattle.ha_config.specs.Equality.{same_automation, same_script}
use Rattle.ha_config.specs.Numbered.{fresh, has_number, numbered}
use Rattle.ha_config.specs.Units.{as_unit, units_of}
use Rattle.ha_journal.specs.declared.entry.Entry.{Entry}
use Rattle.ha_journal.specs.Entries.{boot_of, reload_in}

pub record Force : Type 0 where
  pub config : Config
  -- all units that were in force at some time, each at its number
  pub units : List Automation
  -- the automations in force, and the scripts in force, each with its number, as configured
  pub rules : List (ℕ × Automation)
  pub scripts : List (ℕ × Script)

abbrev pub nothing : Force
nothing = record { config = record { automations = []; scripts = []; helpers = [] }; units = []; rules = []; scripts = [] }

-- a Boot's units have their places as numbers, the scripts behind the automations
abbrev pub opened : Config → Force
opened c = record {
  config = c;
  units = units_of c;
  rules = enumerate_from 0 c.automations;
  scripts = enumerate_from (length c.automations) c.scripts;
}

-- the automations, and the scripts, that a Reload brings: those that are not kept
abbrev pub new_rules : Force → Config → List Automation
new_rules f c = fresh same_automation f.rules c.automations

abbrev pub new_scripts : Force → Config → List Script
new_scripts f c = fresh same_script f.scripts c.scripts

-- a configuration that comes into force behind another: a Reload brings no helpers, those of the Boot stay
abbrev pub in_place_of : Config → Config → Config
in_place_of old c = record { automations = c.automations; scripts = c.scripts; helpers = old.helpers }

-- a configuration is this one, but for its helpers
abbrev pub IsAlike : Config → Config → Type 0
IsAlike c d = in_place_of d c ≡ d

-- what is equal in every field to one of its kind in force is kept and has its number; the others get the next numbers that no unit had,
-- automations first
abbrev pub reloaded : Force → Config → Force
reloaded f c = record {
  config = in_place_of f.config c;
  units = (f.units ++ new_rules f c) ++ map as_unit (new_scripts f c);
  rules = numbered same_automation f.rules (length f.units) c.automations;
  scripts = numbered same_script f.scripts (length f.units + length (new_rules f c)) c.scripts;
}

abbrev pub force_after : Force → Entry → Force
force_after f x = option_map_or (reloaded f) (reload_in x) f

abbrev pub first_force : Entry → Force
first_force e = option_map_or (λ b. opened b.config) (boot_of e) nothing

abbrev pub force : List Entry → Force
force [] = nothing
force (e ∷ es) = fold force_after (first_force e) es

-- the unit of this number is in force
abbrev pub has_unit : Force → ℕ → Bool
has_unit f a = has_number f.rules a || has_number f.scripts a
