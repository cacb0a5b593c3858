-- Conditions: what a node is as one condition, and as a list of them.
use Rattle.std.specs.Prelude.{ℕ, ◌&&◌, ◌==◌, Bool, true, false, if◌then◌else◌, List, [], ◌∷◌, ◌++◌, map, Option, Some}
use Rattle.std.specs.Prelude.{None, Ok, Err, option_map, unwrap_or, bytes_eq, codes}
use Rattle.std.specs.List.{find}
use Rattle.ha_value.specs.declared.value.EntityId.{EntityId}
use Rattle.ha_value.specs.declared.value.Num.{Num}
use Rattle.ha_config.specs.declared.template.Template.{Template}
use Rattle.ha_config.specs.declared.config.Condition.{Condition}
use Rattle.ha_config.specs.declared.config.Condition.TheVariants as conditions
use Rattle.yaml_scan.specs.declared.fault.Code.TheVariants as code
use Rattle.yaml_tree.specs.declared.node.Node.{Node}
use Rattle.yaml_tree.specs.declared.node.NodeKind.TheOpen.{NodeKind-F}
use Rattle.yaml_tree.specs.Readers.{Shape, is_null_word}
use Rattle.conf_field.specs.declared.key.Key.TheVariants as key
use Rattle.conf_field.specs.declared.table.Row.{Row}
use Rattle.conf_field.specs.Readings.{Read, bad, both, made, unless, alone, kept}
use Rattle.conf_field.specs.Fields.{Meaning, Pair, row, field, first_named, get, keys, names, need, one_of, wanted}
use Rattle.conf_field.specs.Kinds.{in_scalar, several, text, texts, entities, flag, number, time, template_by, template}
use Rattle.conf_field.specs.Spans.{span}
use Rattle.conf_cond.specs.declared.kind.ConditionKind.{ConditionKind}
use Rattle.conf_cond.specs.declared.kind.KindKey.{KindKey}
use Rattle.conf_field.specs.Parts.{Part, Inner, meaning}

-- ---- kinds and their tables of keys

abbrev pub kind_text : ConditionKind → List ℕ
kind_text ConditionKind.And = codes "and"
kind_text ConditionKind.Or = codes "or"
kind_text ConditionKind.Not = codes "not"
kind_text ConditionKind.State = codes "state"
kind_text ConditionKind.Numeric = codes "numeric_state"
kind_text ConditionKind.Template = codes "template"
kind_text ConditionKind.Time = codes "time"
kind_text ConditionKind.Trigger = codes "trigger"

abbrev pub all_kinds : List ConditionKind
all_kinds =
    ConditionKind.And ∷ ConditionKind.Or ∷ ConditionKind.Not ∷ ConditionKind.State
    ∷ ConditionKind.Numeric ∷ ConditionKind.Template ∷ ConditionKind.Time ∷
    ConditionKind.Trigger ∷ []

abbrev pub kind_named : List ℕ → Option ConditionKind
kind_named t = find (λ k. bytes_eq (kind_text k) t) all_kinds

abbrev pub named : Meaning ConditionKind
named = in_scalar code.UnknownKind kind_named

abbrev pub own_rows : ConditionKind → List Row
own_rows ConditionKind.And = row key.Conditions ∷ []
own_rows ConditionKind.Or = row key.Conditions ∷ []
own_rows ConditionKind.Not = row key.Conditions ∷ []
own_rows ConditionKind.State = row key.EntityId ∷ row key.State ∷ row key.Attribute ∷ row key.For ∷ []
own_rows ConditionKind.Numeric = row key.EntityId ∷ row key.Above ∷ row key.Below ∷ row key.Attribute ∷ []
own_rows ConditionKind.Template = row key.ValueTemplate ∷ []
own_rows ConditionKind.Time = row key.After ∷ row key.Before ∷ row key.Weekday ∷ []
own_rows ConditionKind.Trigger = row key.Id ∷ []

-- Every condition has these. One that stands as an action may also say whether to go on after an error.
abbrev pub common_rows : Bool → List Row
common_rows true = row key.Alias ∷ row key.Enabled ∷ row key.ContinueOnError ∷ []
common_rows false = row key.Alias ∷ row key.Enabled ∷ []

-- ---- what a node is, where conditions stand

-- One condition, none where it is disabled, by whether it stands as an action; and a list of conditions: one alone, several, or
-- null for none.
pub record Means : Type 0 where
  pub one : Bool → Read (Option Condition)
  pub all : Read (List Condition)

-- the list of conditions that a field of a map is
abbrev pub Inside : Type 0
Inside = Row → Read (List Condition)

-- ---- the kinds

-- the days, from 0 for Monday
abbrev pub day_text : ℕ → List ℕ
day_text d =
    if d == 0 then codes "mon" else (if d == 1 then codes "tue" else (if d == 2 then codes "wed" else (if d == 3 then codes "thu"
    else (if d == 4 then codes "fri" else (if d == 5 then codes "sat" else codes "sun")))))

abbrev pub days : List ℕ
days = 0 ∷ 1 ∷ 2 ∷ 3 ∷ 4 ∷ 5 ∷ 6 ∷ []

abbrev pub day_named : List ℕ → Option ℕ
day_named t = find (λ d. bytes_eq (day_text d) t) days

abbrev pub weekday : Meaning ℕ
weekday = in_scalar code.UnknownKind day_named

abbrev pub made_state : List EntityId × (List (List ℕ) × (Option (List ℕ) × Option ℕ)) → Condition
made_state x = conditions.State x.0 x.1.1.0 x.1.0 x.1.1.1

abbrev pub state_rule : ℕ → List Pair → Read Condition
state_rule line pairs =
    made made_state
    (both (need key.EntityId line pairs entities)
    (both (need key.State line pairs texts) (both (get key.Attribute pairs text) (get key.For pairs span))))

abbrev pub made_numeric : Unit {0} × (List EntityId × (Option (List ℕ) × (Option Num × Option Num))) → Condition
made_numeric x = conditions.Numeric x.1.0 x.1.1.0 x.1.1.1.0 x.1.1.1.1

abbrev pub numeric_rule : ℕ → List Pair → Read Condition
numeric_rule line pairs =
    made made_numeric
    (both (unless (one_of line (row key.Above ∷ row key.Below ∷ []) pairs))
    (both (need key.EntityId line pairs entities)
    (both (get key.Attribute pairs text) (both (get key.Above pairs number) (get key.Below pairs number)))))

abbrev pub made_time : Unit {0} × (Option ℕ × (Option ℕ × Option (List ℕ))) → Condition
made_time x = conditions.Time x.1.0 x.1.1.0 x.1.1.1

abbrev pub time_rule : ℕ → List Pair → Read Condition
time_rule line pairs =
    made made_time
    (both (unless (one_of line (row key.After ∷ row key.Before ∷ row key.Weekday ∷ []) pairs))
    (both (get key.After pairs time) (both (get key.Before pairs time) (get key.Weekday pairs (several weekday)))))

abbrev pub template_rule : ℕ → List Pair → Read Condition
template_rule line pairs = made conditions.Template (need key.ValueTemplate line pairs template)

abbrev pub trigger_rule : ℕ → List Pair → Read Condition
trigger_rule line pairs = made conditions.Trigger (need key.Id line pairs texts)

abbrev pub rule : ConditionKind → ℕ → List Pair → Inside → Read Condition
rule ConditionKind.And line pairs inside = made conditions.And (inside (row key.Conditions))
rule ConditionKind.Or line pairs inside = made conditions.Or (inside (row key.Conditions))
rule ConditionKind.Not line pairs inside = made conditions.Not (inside (row key.Conditions))
rule ConditionKind.State line pairs inside = state_rule line pairs
rule ConditionKind.Numeric line pairs inside = numeric_rule line pairs
rule ConditionKind.Template line pairs inside = template_rule line pairs
rule ConditionKind.Time line pairs inside = time_rule line pairs
rule ConditionKind.Trigger line pairs inside = trigger_rule line pairs

-- ---- a map: the first of the kind keys is its kind

abbrev pub row_of : KindKey → Row
row_of KindKey.ByName = row key.Condition
row_of KindKey.ByAnd = row key.And
row_of KindKey.ByOr = row key.Or
row_of KindKey.ByNot = row key.Not

abbrev pub kind_keys : List KindKey
kind_keys = KindKey.ByName ∷ KindKey.ByAnd ∷ KindKey.ByOr ∷ KindKey.ByNot ∷ []

-- the first key that is a kind key
abbrev pub kind_key : List Pair → Option KindKey
kind_key pairs = first_named row_of kind_keys pairs

abbrev pub if_enabled : Option Bool → Condition → Option Condition
if_enabled enabled c = if unwrap_or enabled true then Some c else None

abbrev pub goes_on : Bool → List Pair → Read (Option Bool)
goes_on action pairs = if action then get key.ContinueOnError pairs flag else Ok None

abbrev pub made_condition : Unit {0} × (Option Bool × (Option Bool × Condition)) → Option Condition
made_condition x = if_enabled x.1.1.0 x.1.1.1

-- a condition of these keys; one that is disabled is read, and then none
abbrev pub with_keys : Bool → List Row → List Pair → Read Condition → Read (Option Condition)
with_keys action own pairs condition =
    made made_condition (both (keys (common_rows action ++ own) pairs)
    (both (goes_on action pairs) (both (get key.Enabled pairs flag) condition)))

-- Where `condition` is the kind key, its value names the kind; an unknown one is all that is looked at.
abbrev pub kind_rows : ConditionKind → List Row
kind_rows k = row key.Condition ∷ own_rows k

abbrev pub by_name : Bool → ℕ → List Pair → Inside → Read ConditionKind → Read (Option Condition)
by_name action line pairs inside (Ok k) = with_keys action (kind_rows k) pairs (rule k line pairs inside)
by_name action line pairs inside (Err f) = Err f

abbrev pub by_key : Bool → ℕ → List Pair → Inside → Option KindKey → Read (Option Condition)
by_key action line pairs inside None = bad line code.UnknownKind
by_key action line pairs inside (Some KindKey.ByName) =
    by_name action line pairs inside (wanted code.UnknownKind named line (field (row key.Condition) pairs))
by_key action line pairs inside (Some KindKey.ByAnd) =
    with_keys action (row key.And ∷ []) pairs (made conditions.And (inside (row key.And)))
by_key action line pairs inside (Some KindKey.ByOr) = with_keys action (row key.Or ∷ []) pairs (made conditions.Or (inside (row key.Or)))
by_key action line pairs inside (Some KindKey.ByNot) =
    with_keys action (row key.Not ∷ []) pairs (made conditions.Not (inside (row key.Not)))

abbrev pub of_map : Bool → ℕ → List Pair → Inside → Read (Option Condition)
of_map action line pairs inside = by_key action line pairs inside (kind_key pairs)

-- ---- a node, by what it means inside

abbrev pub as_condition : Template → Option Condition
as_condition tree = Some (conditions.Template tree)

-- a scalar is a template condition
abbrev pub of_scalar : ℕ → List ℕ → Bool → Read (Option Condition)
of_scalar line t plain = if plain && is_null_word t then bad line code.Kind else made as_condition (template_by line (Some t))

abbrev pub PartPair : Type 0
PartPair = List ℕ × ℕ × Part Means

abbrev pub nodes : List PartPair → List Pair
nodes ps = map (λ p. (p.0, p.1, p.2.node)) ps

-- a list of conditions has to be there: where it is not, the fault stands at the map's line
abbrev pub all_of : ℕ → Option (Part Means) → Read (List Condition)
all_of line None = bad line code.MissingKey
all_of line (Some x) = x.means.all

abbrev pub inside_parts : ℕ → List PartPair → Inside
inside_parts line ps r = all_of line (option_map (λ p. p.2) (find (λ p. names r p.0) ps))

abbrev pub means_one : ℕ → Inner Means → Bool → Read (Option Condition)
means_one line (NodeKind-F.Scalar t plain) action = of_scalar line t plain
means_one line (NodeKind-F.List items) action = bad line code.Kind
means_one line (NodeKind-F.Map ps) action = of_map action line (nodes ps) (inside_parts line ps)

abbrev pub means_all : Read (Option Condition) → Inner Means → Read (List Condition)
means_all one (NodeKind-F.Scalar t plain) = if plain && is_null_word t then Ok [] else alone one
means_all one (NodeKind-F.List items) = kept (λ x. x.means.one false) items
means_all one (NodeKind-F.Map ps) = alone one

abbrev pub means_step : ℕ → Inner Means → Means
means_step line s = record { one = means_one line s; all = means_all (means_one line s false) s }

abbrev pub means : Node → Means
means = meaning Means means_step

-- one condition, by whether it stands as an action, and the list of conditions that a node is
abbrev pub condition : Bool → Node → Read (Option Condition)
condition action n = (means n).one action

abbrev pub read_conditions : Node → Read (List Condition)
read_conditions n = (means n).all

-- ---- the same at a node whose inside is looked at, as the code does

abbrev pub all_at : ℕ → Option Pair → Read (List Condition)
all_at line None = bad line code.MissingKey
all_at line (Some p) = read_conditions p.2

abbrev pub inside : ℕ → List Pair → Inside
inside line pairs r = all_at line (field r pairs)

-- the condition that a map is, by whether it stands as an action
abbrev pub condition_map : Bool → ℕ → List Pair → Read (Option Condition)
condition_map action line pairs = of_map action line pairs (inside line pairs)

abbrev pub one_by : Bool → ℕ → Shape → Read (Option Condition)
one_by action line (NodeKind-F.Scalar t plain) = of_scalar line t plain
one_by action line (NodeKind-F.List items) = bad line code.Kind
one_by action line (NodeKind-F.Map pairs) = condition_map action line pairs

abbrev pub all_by : Read (Option Condition) → Shape → Read (List Condition)
all_by one (NodeKind-F.Scalar t plain) = if plain && is_null_word t then Ok [] else alone one
all_by one (NodeKind-F.List items) = kept (condition false) items
all_by one (NodeKind-F.Map pairs) = alone one
