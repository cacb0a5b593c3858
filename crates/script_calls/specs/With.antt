-- What parts, and a view, see with the scripts of the configuration and these helpers.
use Rattle.std.specs.Prelude.{ℕ, List}
use Rattle.ha_config.specs.declared.config.Config.{Config}
use Rattle.ha_config.specs.Words.{Text}
use Rattle.ha_sight.specs.Sight.{Sight}
use Rattle.state_table.specs.declared.table.StateTable.{StateTable}
use Rattle.cond_eval.specs.declared.view.View.{View}
use Rattle.cond_eval.specs.Seen.{seen, sight_of}
use Rattle.helper_set.specs.declared.set.Helpers.{Helpers}
use Rattle.helper_set.specs.Kept.{known_of}
use Rattle.script_calls.specs.Numbered.{scripts_seen}

abbrev pub sight_with : StateTable → List ℕ → Config → Text → ℕ → Helpers → Sight
sight_with states numbers config zone at hs = record (sight_of states numbers config zone at) { scripts = scripts_seen numbers config; helpers = known_of hs }

abbrev pub sees_with : View → Helpers → Sight
sees_with v hs = record (seen v) { scripts = scripts_seen v.numbers.now v.config.now; helpers = known_of hs }
