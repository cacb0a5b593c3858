-- Values that may have templates in them, and spans that may.
use Rattle.std.specs.Prelude.{ℕ, Bool, false, if◌then◌else◌, List, [], ◌∷◌, Option, Some, None, Ok, codes}
use Rattle.std.specs.List.{list_any}
use Rattle.ha_config.specs.declared.config.Form.{Form}
use Rattle.ha_config.specs.declared.config.Form.TheVariants as forms
use Rattle.ha_config.specs.declared.config.SpanForm.{SpanForm}
use Rattle.ha_config.specs.declared.template.Template.{Template}
use Rattle.ha_config.specs.declared.template.Piece.{Piece}
use Rattle.ha_config.specs.declared.template.Piece.TheVariants as pieces
use Rattle.yaml_scan.specs.declared.fault.Code.TheVariants as code
use Rattle.yaml_tree.specs.declared.node.Node.{Node}
use Rattle.yaml_tree.specs.declared.node.NodeKind.TheOpen.{NodeKind-F}
use Rattle.yaml_tree.specs.Readers.{Shape, shape_of}
use Rattle.conf_field.specs.declared.table.Row.{Row}
use Rattle.conf_field.specs.Readings.{Read, bad, both, each, made}
use Rattle.conf_field.specs.Fields.{Meaning, Pair, field, keys, optional}
use Rattle.conf_field.specs.Kinds.{holds_template, scalar, template_by}
use Rattle.conf_field.specs.Spans.{span_rows, span_map, span_text as literal_span}
use Rattle.conf_field.specs.Trees.{Fields, tree, data_of}
use Rattle.conf_field.specs.Values.{are_digits, bare_value}

abbrev pub one_piece : Piece → Template
one_piece p = record { pieces = p ∷ [] }

-- the template that renders to this text
abbrev pub literal : List ℕ → Template
literal t = one_piece (pieces.Text t)

-- ---- forms

-- a scalar that holds a template is one, in quotes too
abbrev pub scalar_form : ℕ → List ℕ → Bool → Read Form
scalar_form line t plain =
    if holds_template t then made forms.Text (template_by line (Some t)) else made forms.Plain (bare_value line t plain)

abbrev pub form : Node → Read Form
form = tree scalar_form forms.Items forms.Pairs

-- a map of forms, or null for none
abbrev pub fields : Meaning (Fields Form)
fields = data_of form

-- ---- spans that may have templates

-- a template where the text holds one, else digits as they are written
abbrev pub template_or_digits : ℕ → List ℕ → Read Template
template_or_digits line t =
    if holds_template t then template_by line (Some t) else (if are_digits t then Ok (literal t) else bad line code.Number)

abbrev pub digits_by : ℕ → Option (List ℕ) → Read Template
digits_by line (Some t) = template_or_digits line t
digits_by line None = bad line code.Number

-- a part of a span, or a count
abbrev pub digits : Meaning Template
digits line n = digits_by line (scalar n)

abbrev pub part_or : Option Template → Template
part_or (Some t) = t
part_or None = literal (codes "0")

abbrev pub part_at : List Pair → Row → Read Template
part_at pairs r = made part_or (optional digits (field r pairs))

-- whether one of the parts is a template
abbrev pub is_template : Option (List ℕ) → Bool
is_template (Some t) = holds_template t
is_template None = false

abbrev pub is_template_at : Option Pair → Bool
is_template_at (Some p) = is_template (scalar p.2)
is_template_at None = false

abbrev pub has_template : List Pair → Bool
has_template pairs = list_any (λ r. is_template_at (field r pairs)) span_rows

abbrev pub made_parts : Unit {0} × List Template → SpanForm
made_parts x = SpanForm.Parts x.1

abbrev pub parts_map : List Pair → Read SpanForm
parts_map pairs = made made_parts (both (keys span_rows pairs) (each (part_at pairs) span_rows))

abbrev pub known_text : ℕ → List ℕ → Read SpanForm
known_text line t = made SpanForm.Known (literal_span line t)

abbrev pub span_text : ℕ → Option (List ℕ) → Read SpanForm
span_text line None = bad line code.Time
span_text line (Some t) = if holds_template t then made SpanForm.Text (template_by line (Some t)) else known_text line t

abbrev pub map_span : ℕ → List Pair → Read SpanForm
map_span line pairs = if has_template pairs then parts_map pairs else made SpanForm.Known (span_map line pairs)

abbrev pub span_form_by : ℕ → Node → Shape → Read SpanForm
span_form_by line n (NodeKind-F.Scalar t plain) = span_text line (scalar n)
span_form_by line n (NodeKind-F.List items) = bad line code.Time
span_form_by line n (NodeKind-F.Map pairs) = map_span line pairs

-- whole seconds, `HH:MM`, `HH:MM:SS`, a template, or a map of parts that may be templates
abbrev pub span_form : Meaning SpanForm
span_form line n = span_form_by line n (shape_of n)
