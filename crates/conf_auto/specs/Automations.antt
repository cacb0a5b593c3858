-- Automations: what a node is as one automation, whose name is the one that it asks for.
use Rattle.std.specs.Prelude.{ℕ, Bool, List, [], ◌∷◌, Option, Some, None, bytes_eq, codes, option_and_then, unwrap_or}
use Rattle.std.specs.List.{find}
use Rattle.ha_clock.specs.SpanText.{number_of}
use Rattle.ha_text.specs.Slug.{slug}
use Rattle.ha_config.specs.declared.config.Action.{Action}
use Rattle.ha_config.specs.declared.config.ActionKind.TheVariants as does
use Rattle.ha_config.specs.declared.config.Automation.{Automation}
use Rattle.ha_config.specs.declared.config.Condition.{Condition}
use Rattle.ha_config.specs.declared.config.Mode.{Mode}
use Rattle.ha_config.specs.declared.config.Trigger.{Trigger}
use Rattle.yaml_scan.specs.declared.fault.Code.TheVariants as code
use Rattle.yaml_tree.specs.declared.node.Node.{Node}
use Rattle.yaml_tree.specs.declared.node.NodeKind.TheOpen.{NodeKind-F}
use Rattle.yaml_tree.specs.Readers.{Shape, line_of, shape_of}
use Rattle.conf_field.specs.declared.key.Key.TheVariants as key
use Rattle.conf_field.specs.declared.table.Row.{Row}
use Rattle.conf_field.specs.Readings.{Read, bad, both, made}
use Rattle.conf_field.specs.Fields.{Meaning, Pair, row, either, field, get, keys, needed, optional}
use Rattle.conf_field.specs.Kinds.{in_scalar, text, flag, within}
use Rattle.conf_trigger.specs.Triggers.{triggers}
use Rattle.conf_cond.specs.Conditions.{read_conditions}
use Rattle.conf_script.specs.Actions.{actions as read_actions}

abbrev pub trigger_row : Row
trigger_row = either key.Triggers key.Trigger

abbrev pub condition_row : Row
condition_row = either key.Conditions key.Condition

abbrev pub action_row : Row
action_row = either key.Actions key.Action

-- Three keys are accepted and ignored: a description, what happens past the most runs, and how runs are traced.
abbrev pub rows : List Row
rows =
    row key.Id ∷ row key.Alias ∷ row key.Description ∷ trigger_row
    ∷ condition_row ∷ action_row ∷ row key.Mode ∷ row key.Max ∷ row key.MaxExceeded
    ∷ row key.InitialState ∷ row key.Trace ∷ []

abbrev pub mode_text : Mode → List ℕ
mode_text Mode.Single = codes "single"
mode_text Mode.Restart = codes "restart"
mode_text Mode.Queued = codes "queued"
mode_text Mode.Parallel = codes "parallel"

abbrev pub modes : List Mode
modes = Mode.Single ∷ Mode.Restart ∷ Mode.Queued ∷ Mode.Parallel ∷ []

abbrev pub mode_named : List ℕ → Option Mode
mode_named t = find (λ m. bytes_eq (mode_text m) t) modes

abbrev pub mode : Meaning Mode
mode = in_scalar code.UnknownKind mode_named

abbrev pub most_of : List ℕ → Option ℕ
most_of t = option_and_then (within 1 1_000) (number_of t)

abbrev pub most_runs : Meaning ℕ
most_runs = in_scalar code.Number most_of

abbrev pub triggers_in : Meaning (List Trigger)
triggers_in line n = triggers n

abbrev pub conditions_in : Meaning (List Condition)
conditions_in line n = read_conditions n

abbrev pub actions_in : Meaning (List Action)
actions_in line n = read_actions n

-- the name that it asks for: the slug of its alias, else of its id
abbrev pub asked_name : Option (List ℕ) → Option (List ℕ) → List ℕ
asked_name (Some alias) id = slug alias
asked_name None (Some id) = slug id
asked_name None None = codes "unnamed"

abbrev pub or_empty : {A : Type 0} → Option (List A) → List A
or_empty (Some xs) = xs
or_empty None = []

-- a script of nothing is one empty block
abbrev pub script_of : List Action → List Action
script_of [] = record { kind = does.Block [] } ∷ []
script_of (a ∷ as') = a ∷ as'

abbrev pub Settings : Type 0
Settings = Option Mode × (Option ℕ × Option Bool)

abbrev pub Parts : Type 0
Parts = Unit {0} × (Option (List ℕ) × (Option (List ℕ) × (List Trigger × (Option (List Condition) × (List Action × Settings)))))

-- Mode single and ten runs are the defaults.
abbrev pub build : List ℕ → List Trigger → List Condition → List Action → Settings → Automation
build name triggers tests actions settings = record {
  name = name;
  triggers = triggers;
  tests = tests;
  actions = actions;
  mode = unwrap_or settings.0 Mode.Single;
  max = unwrap_or settings.1.0 10;
  initial = settings.1.1;
}

abbrev pub made_automation : Parts → Automation
made_automation x = build (asked_name x.1.0 x.1.1.0) x.1.1.1.0 (or_empty x.1.1.1.1.0) (script_of x.1.1.1.1.1.0) x.1.1.1.1.1.1

abbrev pub automation_map : ℕ → List Pair → Read Automation
automation_map line pairs =
    made made_automation
    (both (keys rows pairs)
    (both (get key.Alias pairs text)
    (both (get key.Id pairs text)
    (both (needed triggers_in line (field trigger_row pairs))
    (both (optional conditions_in (field condition_row pairs))
    (both (needed actions_in line (field action_row pairs))
    (both (get key.Mode pairs mode)
    (both (get key.Max pairs most_runs) (get key.InitialState pairs flag)))))))))

abbrev pub automation_by : ℕ → Shape → Read Automation
automation_by line (NodeKind-F.Scalar t plain) = bad line code.Kind
automation_by line (NodeKind-F.List items) = bad line code.Kind
automation_by line (NodeKind-F.Map pairs) = automation_map line pairs

abbrev pub automation : Node → Read Automation
automation n = automation_by (line_of n) (shape_of n)
