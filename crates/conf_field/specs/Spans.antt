-- Spans of time: whole seconds, `HH:MM`, `HH:MM:SS`, or a map of parts.
use Rattle.std.specs.Prelude.{ℕ, ◌+◌, ◌*◌, nat_lt, if◌then◌else◌, List, [], ◌∷◌, Option, Some, None, Ok, Err, unwrap_or}
use Rattle.ha_clock.specs.Local.{last_span}
use Rattle.ha_clock.specs.SpanText.{span_of}
use Rattle.yaml_scan.specs.declared.fault.Fault.{Fault}
use Rattle.yaml_scan.specs.declared.fault.Code.TheVariants as code
use Rattle.yaml_tree.specs.declared.node.Node.{Node}
use Rattle.yaml_tree.specs.declared.node.NodeKind.TheOpen.{NodeKind-F}
use Rattle.yaml_tree.specs.Readers.{Shape, shape_of}
use Rattle.conf_field.specs.declared.key.Key.{Key}
use Rattle.conf_field.specs.declared.table.Row.{Row}
use Rattle.conf_field.specs.Readings.{Read, fault, both, made, or_bad, unless}
use Rattle.conf_field.specs.Fields.{Meaning, Pair, row, field, keys, optional}
use Rattle.conf_field.specs.Kinds.{in_scalar, whole}

abbrev pub span_rows : List Row
span_rows = row Key.Days ∷ row Key.Hours ∷ row Key.Minutes ∷ row Key.Seconds ∷ row Key.Milliseconds ∷ []

-- a part that is not there is 0
abbrev pub part_by : Row → List Pair → Read ℕ
part_by r pairs = made (λ o. unwrap_or o 0) (optional whole (field r pairs))

abbrev pub part : Key → List Pair → Read ℕ
part key pairs = part_by (row key) pairs

-- a part that is at fault counts nothing
abbrev pub or_zero : Read ℕ → ℕ
or_zero (Ok n) = n
or_zero (Err f) = 0

abbrev pub total : ℕ → ℕ → ℕ → ℕ → ℕ → ℕ
total days hours minutes seconds milliseconds = days * 86_400_000 + hours * 3_600_000 + minutes * 60_000 + seconds * 1_000 + milliseconds

abbrev pub too_long : ℕ → ℕ → Option Fault
too_long line n = if nat_lt last_span n then Some (fault line code.Time) else None

abbrev pub none_there : ℕ → List Pair → Option Fault
none_there line [] = Some (fault line code.Time)
none_there line (p ∷ ps) = None

-- the parts together, at most the longest span
abbrev pub parts : ℕ → Read ℕ → Read ℕ → Read ℕ → Read ℕ → Read ℕ → Read ℕ
parts line d h m s ms =
    made (λ x. total x.1.0 x.1.1.0 x.1.1.1.0 x.1.1.1.1.0 x.1.1.1.1.1)
    (both (unless (too_long line (total (or_zero d) (or_zero h) (or_zero m) (or_zero s) (or_zero ms))))
    (both d (both h (both m (both s ms)))))

abbrev pub all_parts : ℕ → List Pair → Read ℕ
all_parts line pairs =
    parts line (part Key.Days pairs) (part Key.Hours pairs) (part Key.Minutes pairs) (part Key.Seconds pairs) (part Key.Milliseconds pairs)

abbrev pub span_map : ℕ → List Pair → Read ℕ
span_map line pairs = made (λ x. x.1.1) (both (keys span_rows pairs) (both (unless (none_there line pairs)) (all_parts line pairs)))

abbrev pub span_text : ℕ → List ℕ → Read ℕ
span_text line t = or_bad line code.Time (span_of t)

abbrev pub span_by : ℕ → Node → Shape → Read ℕ
span_by line n (NodeKind-F.Scalar text plain) = in_scalar code.Time span_of line n
span_by line n (NodeKind-F.List items) = in_scalar code.Time span_of line n
span_by line n (NodeKind-F.Map pairs) = span_map line pairs

abbrev pub span : Meaning ℕ
span line n = span_by line n (shape_of n)
