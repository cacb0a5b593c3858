-- What has runs: the automations of a configuration, and behind them its scripts.
use Rattle.std.specs.Prelude.{ℕ, suc, List, [], ◌∷◌, ◌++◌, map, length, codes, None}
use Rattle.ha_config.specs.declared.config.Automation.{Automation}
use Rattle.ha_config.specs.declared.config.Config.{Config}
use Rattle.ha_config.specs.declared.config.Script.{Script}
use Rattle.ha_config.specs.Words.{Text}

-- a script runs as an automation that nothing triggers, with the name that its runs have
abbrev pub as_unit : Script → Automation
as_unit s = record {
  name = codes "script." ++ s.name;
  triggers = [];
  tests = [];
  actions = s.actions;
  mode = s.mode;
  max = s.max;
  initial = None;
}

-- the units, each named elsewhere by its place here
abbrev pub units_of : Config → List Automation
units_of c = c.automations ++ map as_unit c.scripts

-- scripts, each by its name and a number, counted from n on
abbrev pub numbered_from : ℕ → List Script → List (Text × ℕ)
numbered_from n [] = []
numbered_from n (s ∷ ss) = (s.name, n) ∷ numbered_from (suc n) ss

-- the scripts, each by its name and its unit's number
abbrev pub scripts_of : Config → List (Text × ℕ)
scripts_of c = numbered_from (length c.automations) c.scripts
