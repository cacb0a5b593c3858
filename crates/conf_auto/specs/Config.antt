-- The configuration of a text.
use Rattle.std.specs.Prelude.{ℕ, ◌&&◌, nat_lt, if◌then◌else◌, List, [], ◌∷◌, Option, Some, None, Ok, Err, length, option_map}
use Rattle.std.specs.List.{slice_get}
use Rattle.ha_config.specs.declared.config.Automation.{Automation}
use Rattle.ha_config.specs.declared.config.Config.{Config}
use Rattle.ha_config.specs.declared.config.Script.{Script}
use Rattle.ha_config.specs.declared.helper.Helper.{Helper}
use Rattle.yaml_scan.specs.declared.fault.Fault.{Fault}
use Rattle.yaml_scan.specs.declared.fault.Code.TheVariants as code
use Rattle.yaml_tree.specs.declared.node.Node.{Node}
use Rattle.yaml_tree.specs.declared.node.NodeKind.TheOpen.{NodeKind-F}
use Rattle.yaml_tree.specs.Readers.{Shape, line_of, shape_of, is_null_word}
use Rattle.yaml_tree.specs.Tree.{tree}
use Rattle.conf_field.specs.declared.key.Key.TheVariants as key
use Rattle.conf_field.specs.Readings.{Read, bad, both, fault, made, unless}
use Rattle.conf_field.specs.Fields.{Meaning, Pair, row, get, keys, need}
use Rattle.conf_field.specs.declared.table.Row.{Row}
use Rattle.conf_auto.specs.Automations.{automation, or_empty}
use Rattle.conf_auto.specs.HelperMaps.{helper_rows, helpers_in}
use Rattle.conf_auto.specs.Names.{joined}
use Rattle.conf_auto.specs.Scripts.{scripts}

abbrev pub at_most : ℕ → List Node → Option Fault
at_most most ns = option_map (λ n. fault (line_of n) code.Limit) (slice_get ns most)

-- each automation, behind those before
unfoldable pub automations_from : Read (List Automation) → List Node → Read (List Automation)
automations_from before [] = before
automations_from before (n ∷ ns) = automations_from (joined before (automation n)) ns

abbrev pub made_list : Unit {0} × List Automation → List Automation
made_list x = x.1

-- a list of automations, 1,024 at most
abbrev pub listed : List Node → Read (List Automation)
listed ns = made made_list (both (unless (at_most 1_024 ns)) (automations_from (Ok []) ns))

-- one automation alone, a list of them, or null for none
abbrev pub automations_by : ℕ → Node → Shape → Read (List Automation)
automations_by line n (NodeKind-F.Scalar t plain) = if plain && is_null_word t then Ok [] else bad line code.Kind
automations_by line n (NodeKind-F.List items) = listed items
automations_by line n (NodeKind-F.Map pairs) = listed (n ∷ [])

abbrev pub automations : Meaning (List Automation)
automations line n = automations_by line n (shape_of n)

-- what stands beside the automations
abbrev pub Others : Type 0
Others = Option (List Script) × List Helper

abbrev pub made_root : Unit {0} × (List Automation × Others) → Config
made_root x = record { automations = x.1.0; scripts = or_empty x.1.1.0; helpers = x.1.1.1 }

abbrev pub root_rows : List Row
root_rows = row key.Automation ∷ row key.Script ∷ helper_rows

-- the map of a file has the key of automations, and perhaps those of scripts and of helpers
abbrev pub root_map : ℕ → List Pair → Read Config
root_map line pairs =
    made made_root
    (both (keys root_rows pairs)
    (both (need key.Automation line pairs automations)
    (both (get key.Script pairs scripts) (helpers_in pairs))))

abbrev pub config_with : List Automation → Config
config_with all = record { automations = all; scripts = []; helpers = [] }

-- A list stands for the value of the key of automations; null is no automation.
abbrev pub root_by : ℕ → Shape → Read Config
root_by line (NodeKind-F.Scalar t plain) = made config_with (if plain && is_null_word t then Ok [] else bad line code.Kind)
root_by line (NodeKind-F.List items) = made config_with (listed items)
root_by line (NodeKind-F.Map pairs) = root_map line pairs

abbrev pub of_node : Node → Read Config
of_node root = root_by (line_of root) (shape_of root)

abbrev pub of_root : Read Node → Read Config
of_root (Ok root) = of_node root
of_root (Err f) = Err f

-- The length comes before every other fault, and a fault of the text's structure before those of its keys.
abbrev pub config_of : List ℕ → Read Config
config_of text = if nat_lt 1_048_576 (length text) then bad 1 code.Limit else of_root (tree text)

-- the configuration that is read, if one is
abbrev pub if_read : Read Config → Option Config
if_read (Ok config) = Some config
if_read (Err fault) = None

-- the configuration that a text is read as, if it is one
abbrev pub config_in : List ℕ → Option Config
config_in text = if_read (config_of text)
