-- The kinds of values. Each says what a node is read as, with the code of all that is not of the kind; a fault of the node
-- stands at the given line, a fault of a list's item at the item's.
use Rattle.std.specs.Prelude.{ℕ, ◌*◌, ◌+◌, ◌-◌, ◌==◌, ◌&&◌, ◌||◌, Bool, true, false, nat_le, nat_lt, if◌then◌else◌, List, [], ◌∷◌}
use Rattle.std.specs.Prelude.{map, Option, Some, None, Ok, Err, option_and_then, option_map, min, bytes_eq, codes, length}
use Rattle.std.specs.List.{list_any}
use Rattle.std.specs.Char.{to_ascii_lowercase}
use Rattle.ha_value.specs.declared.value.EntityId.{EntityId}
use Rattle.ha_value.specs.declared.value.Num.{Num}
use Rattle.ha_value.specs.Lists.{before_first, after_first}
use Rattle.ha_value.specs.Numbers.{read_number}
use Rattle.ha_clock.specs.SpanText.{number_of}
use Rattle.ha_config.specs.declared.template.Template.{Template}
use Rattle.reading.specs.declared.fault.Bad.{Bad}
use Rattle.reading.specs.Answer.{Answer}
use Rattle.yaml_scan.specs.declared.fault.Code.{Code}
use Rattle.yaml_scan.specs.declared.fault.Code.TheVariants as code
use Rattle.yaml_tree.specs.declared.node.Node.{Node}
use Rattle.yaml_tree.specs.declared.node.NodeKind.TheOpen.{NodeKind-F}
use Rattle.yaml_tree.specs.Readers.{Shape, line_of, shape_of, is_null, is_null_word, texts as texts_of}
use Rattle.yaml_tree.specs.Entities.{entities as entities_of}
use Rattle.tpl_parse.specs.Pieces.{template as parsed}
use Rattle.conf_field.specs.Readings.{Read, bad, made, or_bad, each}
use Rattle.conf_field.specs.Fields.{Meaning}

-- the text of a scalar that is not null
abbrev pub scalar_by : Shape → Option (List ℕ)
scalar_by (NodeKind-F.Scalar text plain) = if plain && is_null_word text then None else Some text
scalar_by (NodeKind-F.List items) = None
scalar_by (NodeKind-F.Map pairs) = None

abbrev pub scalar : Node → Option (List ℕ)
scalar n = scalar_by (shape_of n)

-- a kind of scalars
abbrev pub in_scalar : {A : Type 0} → Code → (List ℕ → Option A) → Meaning A
in_scalar c read line n = or_bad line c (option_and_then read (scalar n))

-- no null
abbrev pub unless_null : {A : Type 0} → Code → (Node → Read A) → Meaning A
unless_null c read line n = if is_null n then bad line c else read n

-- one, or a list of them
abbrev pub several_by : {A : Type 0} → Meaning A → ℕ → Node → Shape → Read (List A)
several_by read line n (NodeKind-F.Scalar text plain) = made (λ a. a ∷ []) (read line n)
several_by read line n (NodeKind-F.List items) = each (λ item. read (line_of item) item) items
several_by read line n (NodeKind-F.Map pairs) = made (λ a. a ∷ []) (read line n)

abbrev pub several : {A : Type 0} → Meaning A → Meaning (List A)
several read line n = several_by read line n (shape_of n)

-- ---- texts, ids, flags, numbers

abbrev pub text : Meaning (List ℕ)
text = in_scalar code.Kind Some

abbrev pub texts : Meaning (List (List ℕ))
texts = unless_null code.Kind texts_of

abbrev pub entities : Meaning (List EntityId)
entities = unless_null code.EntityId entities_of

abbrev pub yes_words : List (List ℕ)
yes_words = codes "true" ∷ codes "yes" ∷ codes "on" ∷ []

abbrev pub no_words : List (List ℕ)
no_words = codes "false" ∷ codes "no" ∷ codes "off" ∷ []

abbrev pub is_among : List (List ℕ) → List ℕ → Bool
is_among words t = list_any (bytes_eq (map to_ascii_lowercase t)) words

-- in any case of the letters
abbrev pub flag_of : List ℕ → Option Bool
flag_of t = if is_among yes_words t then Some true else (if is_among no_words t then Some false else None)

abbrev pub flag : Meaning Bool
flag = in_scalar code.Kind flag_of

abbrev pub number : Meaning Num
number = in_scalar code.Number read_number

abbrev pub whole : Meaning ℕ
whole = in_scalar code.Number number_of

-- digits that are counted no further than this
abbrev pub counted : ℕ → List ℕ → Option ℕ
counted most t = option_map (min most) (number_of t)

abbrev pub within : ℕ → ℕ → ℕ → Option ℕ
within least most n = if nat_le least n && nat_le n most then Some n else None

abbrev pub whole_within : ℕ → ℕ → Meaning ℕ
whole_within least most = in_scalar code.Number (λ t. option_and_then (within least most) (number_of t))

-- ---- times of the day

-- one or two digits
abbrev pub one_or_two : List ℕ → Option ℕ
one_or_two [] = None
one_or_two (a ∷ []) = number_of (a ∷ [])
one_or_two (a ∷ b ∷ []) = number_of (a ∷ b ∷ [])
one_or_two (a ∷ b ∷ c ∷ rest) = None

abbrev pub two : List ℕ → Option ℕ
two [] = None
two (a ∷ []) = None
two (a ∷ b ∷ []) = number_of (a ∷ b ∷ [])
two (a ∷ b ∷ c ∷ rest) = None

abbrev pub second_of : Option ℕ → Option ℕ → Option ℕ → Option ℕ
second_of (Some h) (Some m) (Some s) = if nat_lt h 24 && (nat_lt m 60 && nat_lt s 60) then Some (h * 3600 + m * 60 + s) else None
second_of _ _ _ = None

-- what follows the hours and their colon
abbrev pub behind_hours : Option ℕ → Option (List ℕ) → Option ℕ
behind_hours h None = None
behind_hours h (Some rest) = by_seconds h (two (before_first 58 rest)) (after_first 58 rest)
  where
    by_seconds : Option ℕ → Option ℕ → Option (List ℕ) → Option ℕ
    by_seconds h m None = second_of h m (Some 0)
    by_seconds h m (Some s) = second_of h m (two s)

-- `HH:MM` or `HH:MM:SS`, as the second of the day
abbrev pub time_of : List ℕ → Option ℕ
time_of t = behind_hours (one_or_two (before_first 58 t)) (after_first 58 t)

abbrev pub time : Meaning ℕ
time = in_scalar code.Time time_of

-- ---- templates

-- `{{`, `{%` or `{#`
abbrev pub opens : ℕ → ℕ → Bool
opens a b = a == 123 && (b == 123 || (b == 37 || b == 35))

-- a text holds a template where it has one of the three opening signs
unfoldable pub holds_template : List ℕ → Bool
holds_template [] = false
holds_template (a ∷ []) = false
holds_template (a ∷ b ∷ rest) = opens a b || holds_template (b ∷ rest)

abbrev pub tree_of : Answer ℕ (Bad (Unit {0})) Template → Option Template
tree_of (Ok x) = Some x.0
tree_of (Err f) = None

abbrev pub template_of : List ℕ → Option Template
template_of t = tree_of (parsed t)

-- A text outside the grammar is at fault as such, whatever its length.
abbrev pub short_template : ℕ → List ℕ → Template → Read Template
short_template line t tree = if nat_lt 16_384 (length t) then bad line code.Limit else Ok tree

abbrev pub template_text : ℕ → List ℕ → Option Template → Read Template
template_text line t (Some tree) = short_template line t tree
template_text line t None = bad line code.Template

abbrev pub template_by : ℕ → Option (List ℕ) → Read Template
template_by line (Some t) = template_text line t (template_of t)
template_by line None = bad line code.Template

abbrev pub template : Meaning Template
template line n = template_by line (scalar n)
