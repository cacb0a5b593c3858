-- Services and targets of calls.
use Rattle.std.specs.Prelude.{ℕ, Bool, ◌==◌, if◌then◌else◌, List, [], ◌∷◌, ◌++◌, Option, Some, None, Ok, is_some}
use Rattle.ha_value.specs.Ids.{read_entity}
use Rattle.ha_config.specs.declared.template.Template.{Template}
use Rattle.yaml_scan.specs.declared.fault.Code.TheVariants as code
use Rattle.yaml_scan.specs.Words.{trimmed, without_blanks}
use Rattle.yaml_tree.specs.declared.node.Node.{Node}
use Rattle.yaml_tree.specs.declared.node.NodeKind.TheOpen.{NodeKind-F}
use Rattle.yaml_tree.specs.Readers.{Shape, line_of, shape_of}
use Rattle.conf_field.specs.declared.key.Key.TheVariants as key
use Rattle.conf_field.specs.Readings.{Read, bad, made, both, behind}
use Rattle.conf_field.specs.Fields.{Meaning, Pair, row, get, keys}
use Rattle.conf_field.specs.Kinds.{holds_template, scalar, template_by}
use Rattle.conf_script.specs.Forms.{literal}

-- a literal id
abbrev pub id_text : ℕ → List ℕ → Read Template
id_text line t = if is_some (read_entity t) then Ok (literal t) else bad line code.EntityId

abbrev pub service_by : ℕ → Option (List ℕ) → Read Template
service_by line None = bad line code.Kind
service_by line (Some t) = if holds_template t then template_by line (Some t) else id_text line t

-- a template, or a name in the form of an entity id
abbrev pub service : Meaning Template
service line n = service_by line (scalar n)

-- the blanks at the two ends of a part are dropped
abbrev pub part_id : ℕ → List ℕ → Read Template
part_id line part = id_text line (trimmed (without_blanks part))

abbrev pub is_comma : ℕ → Bool
is_comma b = b == 44

-- the ids of a text that is split at commas, behind others; these bytes of the next one were read
unfoldable pub ids_from : ℕ → Read (List Template) → List ℕ → List ℕ → Read (List Template)
ids_from line before part [] = behind before (part_id line part)
ids_from line before part (b ∷ rest) =
    if is_comma b then ids_from line (behind before (part_id line part)) [] rest else ids_from line before (part ++ b ∷ []) rest

-- the targets of one text, behind others
abbrev pub targets_text : Read (List Template) → ℕ → Option (List ℕ) → Read (List Template)
targets_text before line None = behind before (bad line code.Kind)
targets_text before line (Some t) =
    if holds_template t then behind before (template_by line (Some t)) else ids_from line before [] t

unfoldable pub targets_behind : Read (List Template) → List Node → Read (List Template)
targets_behind before [] = before
targets_behind before (n ∷ ns) = targets_behind (targets_text before (line_of n) (scalar n)) ns

abbrev pub targets_by : ℕ → Option (List ℕ) → Shape → Read (List Template)
targets_by line t (NodeKind-F.Scalar text plain) = targets_text (Ok []) line t
targets_by line t (NodeKind-F.List items) = targets_behind (Ok []) items
targets_by line t (NodeKind-F.Map pairs) = bad line code.Kind

-- texts or templates, split at commas where no template is held
abbrev pub targets : Meaning (List Template)
targets line n = targets_by line (scalar n) (shape_of n)

abbrev pub or_none : {A : Type 0} → Option (List A) → List A
or_none (Some xs) = xs
or_none None = []

abbrev pub made_target : Unit {0} × Option (List Template) → List Template
made_target x = or_none x.1

abbrev pub map_target : List Pair → Read (List Template)
map_target pairs = made made_target (both (keys (row key.EntityId ∷ []) pairs) (get key.EntityId pairs targets))

abbrev pub target_by : ℕ → Shape → Read (List Template)
target_by line (NodeKind-F.Scalar t plain) = bad line code.Kind
target_by line (NodeKind-F.List items) = bad line code.Kind
target_by line (NodeKind-F.Map pairs) = map_target pairs

-- a map with the targets
abbrev pub target : Meaning (List Template)
target line n = target_by line (shape_of n)
