-- What is known of a configuration that was read of a tree.
use Rattle.std.proofs.Common.{ℕ, ◌<◌, List, Result, Ok, Err}
use Rattle.std.specs.Prelude.{IfOk}
use Rattle.ha_config.specs.declared.config.Config.{Config}
use Rattle.yaml_scan.specs.Answers.{Gives}
use Rattle.yaml_scan.specs.declared.fault.YamlFault.{YamlFault}
use Rattle.yaml_tree.specs.declared.node.Node.{Node}
use Rattle.yaml_tree.specs.Spelling.{IsText}
use Rattle.conf_field.specs.Sizes.{size}
use Rattle.conf_auto.specs.Config.{of_root}
use Rattle.conf_auto.specs.Read.{IsReadOf}

pub small_one : (root : Node) (result : Result Config YamlFault) → size root < 2_147_483_648 → IfOk result (λ config. size root < 2_147_483_648)
small_one root (Ok config) small = small
small_one root (Err fault) small = tt

pub read_of : (text : List ℕ) (root : Node) (result : Result Config YamlFault) → IsText text root → Gives (of_root (Ok root)) result → IfOk result (λ config. size root < 2_147_483_648)
    → IfOk result (IsReadOf text)
read_of text root (Ok config) spelled exact small = record { root = root; spelled = spelled; small = small; config_is = exact }
read_of text root (Err fault) spelled exact small = tt
