-- Actions: what a node is as one action, as a list of them, and as each part of an action in which actions stand.
use Rattle.std.specs.Prelude.{ℕ, ◌&&◌, Bool, true, false, if◌then◌else◌, List, [], ◌∷◌, ◌++◌}
use Rattle.std.specs.Prelude.{map, Option, Some, None, Ok, option_map, unwrap_or}
use Rattle.std.specs.List.{find}
use Rattle.ha_config.specs.declared.config.Action.{Action}
use Rattle.ha_config.specs.declared.config.ActionKind.{ActionKind}
use Rattle.ha_config.specs.declared.config.ActionKind.TheVariants as does
use Rattle.ha_config.specs.declared.config.Condition.{Condition}
use Rattle.ha_config.specs.declared.config.Condition.TheVariants as tests
use Rattle.ha_config.specs.declared.config.Form.{Form}
use Rattle.ha_config.specs.declared.config.RepeatKind.{RepeatKind}
use Rattle.ha_config.specs.declared.config.SpanForm.{SpanForm}
use Rattle.ha_config.specs.declared.config.Trigger.{Trigger}
use Rattle.ha_config.specs.declared.template.Template.{Template}
use Rattle.yaml_scan.specs.declared.fault.Code.TheVariants as code
use Rattle.yaml_tree.specs.declared.node.Node.{Node}
use Rattle.yaml_tree.specs.declared.node.NodeKind.TheOpen.{NodeKind-F}
use Rattle.yaml_tree.specs.Readers.{Shape, shape_of, is_null, is_null_word}
use Rattle.conf_field.specs.declared.key.Key.TheVariants as key
use Rattle.conf_field.specs.declared.table.Row.{Row}
use Rattle.conf_field.specs.Parts.{Part, Inner, meaning}
use Rattle.conf_field.specs.Readings.{Read, alone, bad, both, each, kept, made}
use Rattle.conf_field.specs.Fields.{Meaning, Pair, row, either, field, first_named, get, keys, names, need, needed, place}
use Rattle.conf_field.specs.Kinds.{text, flag, template, template_by}
use Rattle.conf_trigger.specs.Triggers.{triggers}
use Rattle.conf_cond.specs.Conditions.{condition_map, read_conditions}
use Rattle.conf_script.specs.declared.name.ActionName.{ActionName}
use Rattle.conf_script.specs.declared.name.RepeatName.{RepeatName}
use Rattle.conf_script.specs.Forms.{digits, form, fields, span_form}
use Rattle.conf_script.specs.Calls.{service, targets, target, or_none}

-- ---- kind keys and their tables

abbrev pub row_of : ActionName → Row
row_of ActionName.OfCall = either key.Action key.Service
row_of ActionName.OfDelay = row key.Delay
row_of ActionName.OfWaitTemplate = row key.WaitTemplate
row_of ActionName.OfWaitForTrigger = row key.WaitForTrigger
row_of ActionName.OfChoose = row key.Choose
row_of ActionName.OfIf = row key.If
row_of ActionName.OfRepeat = row key.Repeat
row_of ActionName.OfParallel = row key.Parallel
row_of ActionName.OfSequence = row key.Sequence
row_of ActionName.OfVariables = row key.Variables
row_of ActionName.OfEvent = row key.Event
row_of ActionName.OfStop = row key.Stop
row_of ActionName.OfCondition = row key.Condition
row_of ActionName.OfAnd = row key.And
row_of ActionName.OfOr = row key.Or
row_of ActionName.OfNot = row key.Not

abbrev pub all_names : List ActionName
all_names =
    ActionName.OfCall ∷ ActionName.OfDelay ∷ ActionName.OfWaitTemplate ∷ ActionName.OfWaitForTrigger ∷ ActionName.OfChoose ∷
    ActionName.OfIf ∷ ActionName.OfRepeat ∷ ActionName.OfParallel ∷ ActionName.OfSequence
    ∷ ActionName.OfVariables ∷ ActionName.OfEvent ∷ ActionName.OfStop ∷
    ActionName.OfCondition ∷ ActionName.OfAnd ∷ ActionName.OfOr ∷ ActionName.OfNot ∷ []

-- the first key that is a kind key
abbrev pub name_of : List Pair → Option ActionName
name_of pairs = first_named row_of all_names pairs

-- the further keys of an action
abbrev pub own_rows : ActionName → List Row
own_rows ActionName.OfCall = row key.Target ∷ row key.EntityId ∷ row key.Data ∷ row key.Metadata ∷ []
own_rows ActionName.OfDelay = []
own_rows ActionName.OfWaitTemplate = row key.Timeout ∷ row key.ContinueOnTimeout ∷ []
own_rows ActionName.OfWaitForTrigger = row key.Timeout ∷ row key.ContinueOnTimeout ∷ []
own_rows ActionName.OfChoose = row key.Default ∷ []
own_rows ActionName.OfIf = row key.Then ∷ row key.Else ∷ []
own_rows ActionName.OfRepeat = []
own_rows ActionName.OfParallel = []
own_rows ActionName.OfSequence = []
own_rows ActionName.OfVariables = []
own_rows ActionName.OfEvent = row key.EventData ∷ []
own_rows ActionName.OfStop = row key.Error ∷ []
own_rows ActionName.OfCondition = []
own_rows ActionName.OfAnd = []
own_rows ActionName.OfOr = []
own_rows ActionName.OfNot = []

-- every action has these
abbrev pub common_rows : List Row
common_rows = row key.Alias ∷ row key.Enabled ∷ row key.ContinueOnError ∷ []

abbrev pub kind_rows : ActionName → List Row
kind_rows k = row_of k ∷ own_rows k

-- ---- what a node is, where actions stand

abbrev pub Chosen : Type 0
Chosen = List Condition × List Action

abbrev pub Turns : Type 0
Turns = RepeatKind × List Action

-- One action, none where it is disabled; a list of actions; the branches of a parallel block, and one of them; an option of a
-- choice, and all of them; the turns of a repeat. Faults of its own stand at the place of its field, where a role takes one.
pub record Means : Type 0 where
  pub one : Read (Option Action)
  pub all : Read (List Action)
  pub branch : Read (Option (List Action))
  pub branches : Read (List (List Action))
  pub chosen : Read Chosen
  pub choices : ℕ → Read (List Chosen)
  pub turns : ℕ → Read Turns

-- the place of a field of a map, and what its value means
abbrev pub Inside : Type 0
Inside = Row → Option (ℕ × Means)

-- a role of a field, and what is given where it is not there
abbrev pub or_missing : {A : Type 0} → Read A → (ℕ → Means → Read A) → Option (ℕ × Means) → Read A
or_missing missing read None = missing
or_missing missing read (Some x) = read x.0 x.1

-- a field that has to be there; where it is not, the fault stands at the map's line
abbrev pub need_in : {A : Type 0} → (ℕ → Means → Read A) → ℕ → Option (ℕ × Means) → Read A
need_in read line x = or_missing (bad line code.MissingKey) read x

abbrev pub may_in : {A : Type 0} → (ℕ → Means → Read (List A)) → Option (ℕ × Means) → Read (List A)
may_in read x = or_missing (Ok []) read x

abbrev pub all_of : ℕ → Means → Read (List Action)
all_of line m = m.all

abbrev pub branches_of : ℕ → Means → Read (List (List Action))
branches_of line m = m.branches

abbrev pub choices_of : ℕ → Means → Read (List Chosen)
choices_of line m = m.choices line

abbrev pub turns_of : ℕ → Means → Read Turns
turns_of line m = m.turns line

abbrev pub conditions : Meaning (List Condition)
conditions line n = read_conditions n

abbrev pub does_of : ActionKind → Action
does_of k = record { kind = k }

-- ---- the kinds

abbrev pub text_or_null : Meaning (Unit {0})
text_or_null line n = if is_null n then Ok tt else made (λ t. tt) (text line n)

abbrev pub go_on : Option Bool → Bool
go_on b = unwrap_or b true

abbrev pub made_call : Template × (Option (List Template) × (Option (List Template) × Option (List (List ℕ × Form)))) → ActionKind
made_call x = does.Call x.0 (or_none x.1.0 ++ or_none x.1.1.0) (or_none x.1.1.1)

-- Both places of targets are joined.
abbrev pub call : ℕ → List Pair → Read ActionKind
call line pairs =
    made made_call
    (both (needed service line (field (row_of ActionName.OfCall) pairs))
    (both (get key.Target pairs target) (both (get key.EntityId pairs targets) (get key.Data pairs fields))))

abbrev pub delay : ℕ → List Pair → Read ActionKind
delay line pairs = made does.Delay (need key.Delay line pairs span_form)

abbrev pub made_wait : Template × (Option SpanForm × Option Bool) → ActionKind
made_wait x = does.WaitUntil x.0 x.1.0 (go_on x.1.1)

abbrev pub wait_template : ℕ → List Pair → Read ActionKind
wait_template line pairs =
    made made_wait
    (both (need key.WaitTemplate line pairs template)
    (both (get key.Timeout pairs span_form) (get key.ContinueOnTimeout pairs flag)))

abbrev pub made_wait_for : List Trigger × (Option SpanForm × Option Bool) → ActionKind
made_wait_for x = does.WaitFor x.0 x.1.0 (go_on x.1.1)

abbrev pub triggers_in : Meaning (List Trigger)
triggers_in line n = triggers n

abbrev pub wait_for_trigger : ℕ → List Pair → Read ActionKind
wait_for_trigger line pairs =
    made made_wait_for
    (both (need key.WaitForTrigger line pairs triggers_in)
    (both (get key.Timeout pairs span_form) (get key.ContinueOnTimeout pairs flag)))

abbrev pub variables : ℕ → List Pair → Read ActionKind
variables line pairs = made does.Set (need key.Variables line pairs fields)

abbrev pub made_event : List ℕ × Option (List (List ℕ × Form)) → ActionKind
made_event x = does.Fire x.0 (or_none x.1)

abbrev pub event : ℕ → List Pair → Read ActionKind
event line pairs = made made_event (both (need key.Event line pairs text) (get key.EventData pairs fields))

abbrev pub made_stop : Unit {0} × Option Bool → ActionKind
made_stop x = does.Stop

abbrev pub stop : ℕ → List Pair → Read ActionKind
stop line pairs = made made_stop (both (need key.Stop line pairs text_or_null) (get key.Error pairs flag))

abbrev pub made_choose : List Chosen × List Action → ActionKind
made_choose x = does.Choose x.0 x.1

abbrev pub choose_with : Read (List Chosen) → Read (List Action) → Read ActionKind
choose_with options fallback = made made_choose (both options fallback)

abbrev pub choose : ℕ → Inside → Read ActionKind
choose line inside = choose_with (need_in choices_of line (inside (row key.Choose))) (may_in all_of (inside (row key.Default)))

abbrev pub made_if : List Condition × (List Action × List Action) → ActionKind
made_if x = does.If x.0 x.1.0 x.1.1

abbrev pub if_with : ℕ → List Pair → Read (List Action) → Read (List Action) → Read ActionKind
if_with line pairs yes' no' = made made_if (both (need key.If line pairs conditions) (both yes' no'))

abbrev pub if_then : ℕ → List Pair → Inside → Read ActionKind
if_then line pairs inside = if_with line pairs (need_in all_of line (inside (row key.Then))) (may_in all_of (inside (row key.Else)))

abbrev pub made_repeat : Turns → ActionKind
made_repeat x = does.Repeat x.0 x.1

abbrev pub body : ActionName → ℕ → List Pair → Inside → Read ActionKind
body ActionName.OfCall line pairs inside = call line pairs
body ActionName.OfDelay line pairs inside = delay line pairs
body ActionName.OfWaitTemplate line pairs inside = wait_template line pairs
body ActionName.OfWaitForTrigger line pairs inside = wait_for_trigger line pairs
body ActionName.OfChoose line pairs inside = choose line inside
body ActionName.OfIf line pairs inside = if_then line pairs inside
body ActionName.OfRepeat line pairs inside = made made_repeat (need_in turns_of line (inside (row key.Repeat)))
body ActionName.OfParallel line pairs inside = made does.Parallel (need_in branches_of line (inside (row key.Parallel)))
body ActionName.OfSequence line pairs inside = made does.Block (need_in all_of line (inside (row key.Sequence)))
body ActionName.OfVariables line pairs inside = variables line pairs
body ActionName.OfEvent line pairs inside = event line pairs
body ActionName.OfStop line pairs inside = stop line pairs
body ActionName.OfCondition line pairs inside = bad line code.UnknownKind
body ActionName.OfAnd line pairs inside = bad line code.UnknownKind
body ActionName.OfOr line pairs inside = bad line code.UnknownKind
body ActionName.OfNot line pairs inside = bad line code.UnknownKind

-- a condition stands as an action
abbrev pub is_test : ActionName → Bool
is_test ActionName.OfCondition = true
is_test ActionName.OfAnd = true
is_test ActionName.OfOr = true
is_test ActionName.OfNot = true
is_test ActionName.OfCall = false
is_test ActionName.OfDelay = false
is_test ActionName.OfWaitTemplate = false
is_test ActionName.OfWaitForTrigger = false
is_test ActionName.OfChoose = false
is_test ActionName.OfIf = false
is_test ActionName.OfRepeat = false
is_test ActionName.OfParallel = false
is_test ActionName.OfSequence = false
is_test ActionName.OfVariables = false
is_test ActionName.OfEvent = false
is_test ActionName.OfStop = false

abbrev pub if_enabled : Option Bool → ActionKind → Option Action
if_enabled enabled k = if unwrap_or enabled true then Some (does_of k) else None

abbrev pub made_action : Unit {0} × (Option Bool × (Option Bool × ActionKind)) → Option Action
made_action x = if_enabled x.1.1.0 x.1.1.1

abbrev pub with_keys : ActionName → List Pair → Read ActionKind → Read (Option Action)
with_keys k pairs kind =
    made made_action
    (both (keys (common_rows ++ kind_rows k) pairs) (both (get key.ContinueOnError pairs flag) (both (get key.Enabled pairs flag) kind)))

abbrev pub tested : Option Condition → Option Action
tested (Some c) = Some (does_of (does.Test c))
tested None = None

-- A condition stands as an action by its own keys. Where there is no kind key, that is all that is looked at.
abbrev pub by_name : ℕ → List Pair → Inside → Option ActionName → Read (Option Action)
by_name line pairs inside None = bad line code.UnknownKind
by_name line pairs inside (Some k) =
    if is_test k then made tested (condition_map true line pairs) else with_keys k pairs (body k line pairs inside)

abbrev pub of_map : ℕ → List Pair → Inside → Read (Option Action)
of_map line pairs inside = by_name line pairs inside (name_of pairs)

-- ---- options of a choice, and repeats

abbrev pub option_rows : List Row
option_rows = row key.Conditions ∷ row key.Sequence ∷ row key.Alias ∷ []

abbrev pub made_option : Unit {0} × Chosen → Chosen
made_option x = x.1

abbrev pub option_with : ℕ → List Pair → Read (List Action) → Read Chosen
option_with line pairs body = made made_option (both (keys option_rows pairs) (both (need key.Conditions line pairs conditions) body))

abbrev pub option_of : ℕ → List Pair → Inside → Read Chosen
option_of line pairs inside = option_with line pairs (need_in all_of line (inside (row key.Sequence)))

abbrev pub repeat_row : RepeatName → Row
repeat_row RepeatName.ByCount = row key.Count
repeat_row RepeatName.ByWhile = row key.While
repeat_row RepeatName.ByUntil = row key.Until
repeat_row RepeatName.ByEach = row key.ForEach

abbrev pub repeat_names : List RepeatName
repeat_names = RepeatName.ByCount ∷ RepeatName.ByWhile ∷ RepeatName.ByUntil ∷ RepeatName.ByEach ∷ []

abbrev pub repeat_name : List Pair → Option RepeatName
repeat_name pairs = first_named repeat_row repeat_names pairs

abbrev pub forms_by : ℕ → Shape → Read (List Form)
forms_by line (NodeKind-F.Scalar t plain) = bad line code.Kind
forms_by line (NodeKind-F.List items) = each form items
forms_by line (NodeKind-F.Map pairs) = bad line code.Kind

abbrev pub forms : Meaning (List Form)
forms line n = forms_by line (shape_of n)

abbrev pub repeat_kind : ℕ → List Pair → RepeatName → Read RepeatKind
repeat_kind line pairs RepeatName.ByCount = made RepeatKind.Count (need key.Count line pairs digits)
repeat_kind line pairs RepeatName.ByWhile = made RepeatKind.While (need key.While line pairs conditions)
repeat_kind line pairs RepeatName.ByUntil = made RepeatKind.Until (need key.Until line pairs conditions)
repeat_kind line pairs RepeatName.ByEach = made RepeatKind.Each (need key.ForEach line pairs forms)

-- Where no kind key is there that is a missing key. A second one is no key of this map.
abbrev pub repeat_rows : Option RepeatName → List Row
repeat_rows (Some k) = repeat_row k ∷ row key.Sequence ∷ []
repeat_rows None = row key.Sequence ∷ []

abbrev pub repeat_by : ℕ → List Pair → Option RepeatName → Read RepeatKind
repeat_by line pairs (Some k) = repeat_kind line pairs k
repeat_by line pairs None = bad line code.MissingKey

abbrev pub made_turns : Unit {0} × Turns → Turns
made_turns x = x.1

abbrev pub turns_with : ℕ → List Pair → Read (List Action) → Read Turns
turns_with line pairs body =
    made made_turns (both (keys (repeat_rows (repeat_name pairs)) pairs) (both (repeat_by line pairs (repeat_name pairs)) body))

abbrev pub turns_in : ℕ → List Pair → Inside → Read Turns
turns_in line pairs inside = turns_with line pairs (need_in all_of line (inside (row key.Sequence)))

-- ---- a node, by what it means inside

abbrev pub as_test : Template → Option Action
as_test tree = tested (Some (tests.Template tree))

-- a scalar is a template condition
abbrev pub of_scalar : ℕ → List ℕ → Bool → Read (Option Action)
of_scalar line t plain = if plain && is_null_word t then bad line code.Kind else made as_test (template_by line (Some t))

-- a branch of one action
abbrev pub branch_of : Option Action → Option (List Action)
branch_of (Some a) = Some (a ∷ [])
branch_of None = None

abbrev pub some_branch : List Action → Option (List Action)
some_branch all = Some all

abbrev pub PartPair : Type 0
PartPair = List ℕ × ℕ × Part Means

abbrev pub nodes : List PartPair → List Pair
nodes ps = map (λ p. (p.0, p.1, p.2.node)) ps

abbrev pub found : PartPair → ℕ × Means
found p = (place (p.0, p.1, p.2.node), p.2.means)

abbrev pub inside_parts : List PartPair → Inside
inside_parts ps r = option_map found (find (λ p. names r p.0) ps)

abbrev pub means_one : ℕ → Inner Means → Read (Option Action)
means_one line (NodeKind-F.Scalar t plain) = of_scalar line t plain
means_one line (NodeKind-F.List items) = bad line code.Kind
means_one line (NodeKind-F.Map ps) = of_map line (nodes ps) (inside_parts ps)

-- one alone, a list of those that are there, or null for none
abbrev pub one_or_list : {A : Type 0} → (Means → Read (Option A)) → Read (Option A) → Inner Means → Read (List A)
one_or_list read one (NodeKind-F.Scalar t plain) = if plain && is_null_word t then Ok [] else alone one
one_or_list read one (NodeKind-F.List items) = kept (λ x. read x.means) items
one_or_list read one (NodeKind-F.Map ps) = alone one

-- a list is a branch; one action is, where it is enabled
abbrev pub means_branch : Read (Option Action) → Read (List Action) → Inner Means → Read (Option (List Action))
means_branch one all (NodeKind-F.Scalar t plain) = made branch_of one
means_branch one all (NodeKind-F.List items) = made some_branch all
means_branch one all (NodeKind-F.Map ps) = made branch_of one

abbrev pub means_option : ℕ → Inner Means → Read Chosen
means_option line (NodeKind-F.Scalar t plain) = bad line code.Kind
means_option line (NodeKind-F.List items) = bad line code.Kind
means_option line (NodeKind-F.Map ps) = option_of line (nodes ps) (inside_parts ps)

abbrev pub means_options : Read Chosen → Inner Means → ℕ → Read (List Chosen)
means_options one (NodeKind-F.Scalar t plain) line = bad line code.Kind
means_options one (NodeKind-F.List items) line = each (λ x. x.means.chosen) items
means_options one (NodeKind-F.Map ps) line = made (λ o. o ∷ []) one

abbrev pub means_turns : ℕ → Inner Means → ℕ → Read Turns
means_turns own (NodeKind-F.Scalar t plain) line = bad line code.Kind
means_turns own (NodeKind-F.List items) line = bad line code.Kind
means_turns own (NodeKind-F.Map ps) line = turns_in own (nodes ps) (inside_parts ps)

abbrev pub one_of_list : ℕ → Inner Means → Read (List Action)
one_of_list line s = one_or_list (λ m. m.one) (means_one line s) s

abbrev pub branch_in : ℕ → Inner Means → Read (Option (List Action))
branch_in line s = means_branch (means_one line s) (one_of_list line s) s

abbrev pub means_step : ℕ → Inner Means → Means
means_step line s =
    record {
      one = means_one line s;
      all = one_of_list line s;
      branch = branch_in line s;
      branches = one_or_list (λ m. m.branch) (branch_in line s) s;
      chosen = means_option line s;
      choices = means_options (means_option line s) s;
      turns = means_turns line s;
    }

abbrev pub means : Node → Means
means = meaning Means means_step

abbrev pub actions : Node → Read (List Action)
actions n = (means n).all

-- ---- the same at a node whose inside is looked at, as the code does

abbrev pub one_action : Node → Read (Option Action)
one_action n = (means n).one

abbrev pub one_branch : Node → Read (Option (List Action))
one_branch n = (means n).branch

abbrev pub all_branches : Node → Read (List (List Action))
all_branches n = (means n).branches

abbrev pub option : Node → Read Chosen
option n = (means n).chosen

abbrev pub found_at : Pair → ℕ × Means
found_at p = (place p, means p.2)

abbrev pub inside : List Pair → Inside
inside pairs r = option_map found_at (field r pairs)

abbrev pub action_map : ℕ → List Pair → Read (Option Action)
action_map line pairs = of_map line pairs (inside pairs)
