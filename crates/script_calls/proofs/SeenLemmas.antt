-- What is seen where no helper is kept.
use Rattle.std.proofs.Common.{◌≡◌, ℕ, List, [], refl, sym, subst}
use Rattle.std.specs.Prelude.{map}
use Rattle.ha_config.specs.declared.config.Config.{Config}
use Rattle.ha_config.specs.Words.{Text}
use Rattle.state_table.specs.declared.table.StateTable.{StateTable}
use Rattle.cond_eval.specs.Seen.{sight_of}
use Rattle.helper_set.specs.declared.kept.Kept.{Kept}
use Rattle.helper_set.specs.declared.set.Helpers.{Helpers}
use Rattle.helper_set.specs.Kept.{AreSeen, kept_in, shown}
use Rattle.script_calls.specs.Numbered.{scripts_seen}
use Rattle.script_calls.specs.With.{sight_with}

-- LAW: without helpers a place sees none
pub nobody-seen : (states : StateTable) (numbers : List ℕ) (config : Config) (zone : Text) (at : ℕ) (hs : Helpers) → kept_in hs ≡ [] → AreSeen (kept_in hs) (sight_with states numbers config zone at hs) at
nobody-seen states numbers config zone at hs none =
    subst (λ (ks : List Kept). AreSeen ks (record (sight_of states numbers config zone at) { scripts = scripts_seen numbers config; helpers = map shown ks }) at) (sym none)
    (record { helpers = refl; now = refl; texts = λ n. tt })
