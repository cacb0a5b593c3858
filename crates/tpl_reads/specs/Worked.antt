-- Worked templates, each by its tree, and what places see.
use Rattle.std.specs.Prelude.{ℕ, List, [], ◌∷◌, Some, None, codes, if◌then◌else◌}
use Rattle.ha_value.specs.declared.value.EntityId.{EntityId}
use Rattle.ha_value.specs.declared.value.Value.{Value}
use Rattle.ha_config.specs.declared.template.Op.{Op}
use Rattle.ha_config.specs.declared.template.Expr.{Expr}
use Rattle.ha_config.specs.declared.template.Expr.TheOpen.{Expr-F}
use Rattle.ha_config.specs.declared.template.Expr.TheViews.{roll-Expr}
use Rattle.ha_config.specs.declared.template.Piece.{Piece}
use Rattle.ha_config.specs.declared.template.Template.{Template}
use Rattle.ha_config.specs.declared.template.Piece.TheOpen.{Piece-F}
use Rattle.ha_config.specs.declared.template.Piece.TheViews.{roll-Piece, roll-Template}
use Rattle.ha_config.specs.Words.{Text, same_entity}
use Rattle.ha_sight.specs.declared.state.StateObject.{StateObject}
use Rattle.ha_sight.specs.FilterNumbers as filter
use Rattle.ha_sight.specs.FunctionNumbers as function
use Rattle.ha_sight.specs.Sight.{Sight}

-- binary_sensor.a, binary_sensor.b and binary_sensor.c
abbrev pub sensor : Text → EntityId
sensor object = record { domain = codes "binary_sensor"; object = object }

abbrev pub door : EntityId
door = sensor (codes "a")

abbrev pub window : EntityId
window = sensor (codes "b")

abbrev pub gate : EntityId
gate = sensor (codes "c")

abbrev pub text : Text → Expr
text t = roll-Expr (Expr-F.Plain (Value.Text t))

abbrev pub variable : Text → Expr
variable name = roll-Expr (Expr-F.Name name)

abbrev pub call : ℕ → List Expr → Expr
call name args = roll-Expr (Expr-F.Function name args)

abbrev pub state_of : Text → Expr
state_of t = call function.states (text t ∷ [])

-- is_state('..', 'on')
abbrev pub is_on : Text → Expr
is_on t = call function.is_state (text t ∷ text (codes "on") ∷ [])

abbrev pub show : Expr → Piece
show e = roll-Piece (Piece-F.Show e)

abbrev pub template : List Piece → Template
template ps = roll-Template (record { pieces = ps })

-- {{ is_state('binary_sensor.a', 'on') and is_state('binary_sensor.b', 'on') }}
abbrev pub two_are_on : Template
two_are_on = template (show (roll-Expr (Expr-F.Pair Op.And (is_on (codes "binary_sensor.a")) (is_on (codes "binary_sensor.b")))) ∷ [])

-- {% if is_state('binary_sensor.a', 'on') %}{{ states('binary_sensor.b') }}{% else %}{{ states('binary_sensor.c') }}{% endif %}
abbrev pub one_of_two : Template
one_of_two = template (
    roll-Piece (Piece-F.Choice
    ((is_on (codes "binary_sensor.a"), template (show (state_of (codes "binary_sensor.b")) ∷ [])) ∷ [])
    (template (show (state_of (codes "binary_sensor.c")) ∷ []))) ∷ [])

-- {{ state_attr('binary_sensor.a', 'level') }}
abbrev pub an_attribute : Template
an_attribute = template (show (call function.state_attr (text (codes "binary_sensor.a") ∷ text (codes "level") ∷ [])) ∷ [])

-- {{ is_state_attr('binary_sensor.a', 'level', 'low') or has_value('binary_sensor.b') }}
abbrev pub a_test_of_both : Template
a_test_of_both = template (show (roll-Expr (Expr-F.Pair Op.Or
    (call function.is_state_attr (text (codes "binary_sensor.a") ∷ text (codes "level") ∷ text (codes "low") ∷ []))
    (call function.has_value (text (codes "binary_sensor.b") ∷ [])))) ∷ [])

-- {{ states(x) }}
abbrev pub by_a_variable : Template
by_a_variable = template (show (call function.states (variable (codes "x") ∷ [])) ∷ [])

-- {% set x = 'binary_sensor.a' %}{{ states(x) }}
abbrev pub by_what_is_set : Template
by_what_is_set = template (roll-Piece (Piece-F.Assign (codes "x") (text (codes "binary_sensor.a"))) ∷ show (call function.states (variable (codes "x") ∷ [])) ∷ [])

-- {{ states(trigger.entity_id) }}
abbrev pub by_the_trigger : Template
by_the_trigger = template (show (call function.states (roll-Expr (Expr-F.Field (variable (codes "trigger")) (codes "entity_id")) ∷ [])) ∷ [])

-- {{ states('binary_sensor.a' if has_value('binary_sensor.b') else 'binary_sensor.c') }}
abbrev pub by_a_choice : Template
by_a_choice = template (show (call function.states (roll-Expr (Expr-F.Pick (call function.has_value (text (codes "binary_sensor.b") ∷ [])) (text (codes "binary_sensor.a")) (Some (text (codes "binary_sensor.c")))) ∷ [])) ∷ [])

-- ['..', '..']
abbrev pub of_two : Text → Text → Expr
of_two t u = roll-Expr (Expr-F.List (text t ∷ text u ∷ []))

-- {{ states(['binary_sensor.a', 'binary_sensor.b'][i]) ~ states(['binary_sensor.c', 'binary_sensor.a']|first) }}
abbrev pub out_of_lists : Template
out_of_lists = template (show (roll-Expr (Expr-F.Pair Op.Join
    (call function.states (roll-Expr (Expr-F.At (of_two (codes "binary_sensor.a") (codes "binary_sensor.b")) (variable (codes "i"))) ∷ []))
    (call function.states (roll-Expr (Expr-F.Filter filter.first (of_two (codes "binary_sensor.c") (codes "binary_sensor.a")) []) ∷ [])))) ∷ [])

-- {% set x = states('binary_sensor.a') %}{{ states('binary_sensor.a') ~ states('nonsense') }}
abbrev pub the_same_again : Template
the_same_again = template (roll-Piece (Piece-F.Assign (codes "x") (state_of (codes "binary_sensor.a")))
    ∷ show (roll-Expr (Expr-F.Pair Op.Join (state_of (codes "binary_sensor.a")) (state_of (codes "nonsense")))) ∷ [])

-- {{ x }}
abbrev pub a_variable : Template
a_variable = template (show (variable (codes "x")) ∷ [])

-- ---- what is seen: the door is on, and the window as said

abbrev pub object : Text → StateObject
object t = record { text = t; attributes = []; changed = 0; updated = 0 }

abbrev pub seen_with : Text → Sight
seen_with t = record {
  states = λ e. if same_entity e door then Some (object (codes "on")) else if same_entity e window then Some (object t) else None;
  now = 0;
  zone = codes "UTC";
  automations = [];
  scripts = [];
  helpers = [];
}
