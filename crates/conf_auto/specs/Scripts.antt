-- Scripts: what a map from names is as the scripts that calls start.
use Rattle.std.specs.Prelude.{ℕ, if◌then◌else◌, List, [], ◌∷◌, Option, Some, None, Ok, ◌&&◌, option_map, slice_get, unwrap_or}
use Rattle.ha_value.specs.Ids.{is_name}
use Rattle.ha_config.specs.declared.config.Action.{Action}
use Rattle.ha_config.specs.declared.config.Mode.{Mode}
use Rattle.ha_config.specs.declared.config.Script.{Script}
use Rattle.yaml_scan.specs.declared.fault.Code.TheVariants as code
use Rattle.yaml_scan.specs.declared.fault.Fault.{Fault}
use Rattle.yaml_tree.specs.declared.node.NodeKind.TheOpen.{NodeKind-F}
use Rattle.yaml_tree.specs.Readers.{Shape, shape_of, is_null_word}
use Rattle.conf_field.specs.declared.key.Key.TheVariants as key
use Rattle.conf_field.specs.declared.table.Row.{Row}
use Rattle.conf_field.specs.Readings.{Read, bad, both, each, fault, made, unless}
use Rattle.conf_field.specs.Fields.{Meaning, Pair, row, get, keys, need, place}
use Rattle.conf_auto.specs.Automations.{actions_in, mode, most_runs, script_of}

-- Five keys are accepted and ignored: an alias, a description, an icon, what a caller may hand over, and what happens past the most runs.
abbrev pub rows : List Row
rows =
    row key.Sequence ∷ row key.Mode ∷ row key.Max ∷ row key.Alias ∷ row key.Description ∷ row key.Icon
    ∷ row key.Fields ∷ row key.MaxExceeded ∷ []

abbrev pub Settings : Type 0
Settings = Option Mode × Option ℕ

abbrev pub Parts : Type 0
Parts = Unit {0} × (List Action × Settings)

-- Mode single and ten runs are the defaults, as of automations.
abbrev pub build : List ℕ → List Action → Settings → Script
build name actions settings = record {
  name = name;
  actions = actions;
  mode = unwrap_or settings.0 Mode.Single;
  max = unwrap_or settings.1 10;
}

abbrev pub made_script : List ℕ → Parts → Script
made_script name x = build name (script_of x.1.0) x.1.1

abbrev pub script_map : List ℕ → ℕ → List Pair → Read Script
script_map name line pairs =
    made (made_script name)
    (both (keys rows pairs)
    (both (need key.Sequence line pairs actions_in)
    (both (get key.Mode pairs mode) (get key.Max pairs most_runs))))

abbrev pub script_by : List ℕ → ℕ → Shape → Read Script
script_by name line (NodeKind-F.Scalar t plain) = bad line code.Kind
script_by name line (NodeKind-F.List items) = bad line code.Kind
script_by name line (NodeKind-F.Map pairs) = script_map name line pairs

-- a name is an object id, else its key is at fault
abbrev pub name_fault : Pair → Option Fault
name_fault p = if is_name p.0 then None else Some (fault p.1 code.EntityId)

abbrev pub made_named : Unit {0} × Script → Script
made_named x = x.1

-- one script, by its name
abbrev pub script : Pair → Read Script
script p = made made_named (both (unless (name_fault p)) (script_by p.0 (place p) (shape_of p.2)))

abbrev pub at_most : ℕ → List Pair → Option Fault
at_most most pairs = option_map (λ p. fault (place p) code.Limit) (slice_get pairs most)

abbrev pub made_scripts : Unit {0} × List Script → List Script
made_scripts x = x.1

-- 1,024 at most
abbrev pub named : List Pair → Read (List Script)
named pairs = made made_scripts (both (unless (at_most 1_024 pairs)) (each script pairs))

-- a map from names, or null for none
abbrev pub scripts_by : ℕ → Shape → Read (List Script)
scripts_by line (NodeKind-F.Scalar t plain) = if plain && is_null_word t then Ok [] else bad line code.Kind
scripts_by line (NodeKind-F.List items) = bad line code.Kind
scripts_by line (NodeKind-F.Map pairs) = named pairs

abbrev pub scripts : Meaning (List Script)
scripts line n = scripts_by line (shape_of n)
