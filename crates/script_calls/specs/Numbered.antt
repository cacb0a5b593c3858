-- Scripts with the numbers of their units.
use Rattle.std.specs.Prelude.{ℕ, List, drop, length, map, zip}
use Rattle.ha_config.specs.declared.config.Config.{Config}
use Rattle.ha_config.specs.declared.config.Script.{Script}
use Rattle.ha_config.specs.Words.{Text}
use Rattle.ha_sight.specs.Inner.{Scripts}

-- scripts, each by its name and its number
abbrev pub scripts_with : List ℕ → List Script → Scripts
scripts_with numbers scripts = map {A = ℕ × Script} {B = Text × ℕ} (λ p. (p.1.name, p.0)) (zip numbers scripts)

-- the scripts of a configuration; the numbers are those of all its units, automations first
abbrev pub scripts_seen : List ℕ → Config → Scripts
scripts_seen numbers c = scripts_with (drop (length c.automations) numbers) c.scripts
