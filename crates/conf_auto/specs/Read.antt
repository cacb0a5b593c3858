-- What a reader of configurations knows of the text.
use Rattle.std.specs.Prelude.{◌≡◌, ℕ, ◌<◌, List, Ok}
use Rattle.ha_config.specs.declared.config.Config.{Config}
use Rattle.yaml_tree.specs.declared.node.Node.{Node}
use Rattle.yaml_tree.specs.Spelling.{IsText}
use Rattle.conf_field.specs.Sizes.{size}
use Rattle.conf_auto.specs.Config.{of_root}

-- the configuration is that of a tree that the text spells, and the tree is so small that every list that is read of it is short
pub record IsReadOf (text : List ℕ) (config : Config) : Type 0 where
  pub root : Node
  pub spelled : IsText text root
  pub small : size root < 2_147_483_648
  pub config_is : of_root (Ok root) ≡ Ok config
