-- Worked scripts: lists side by side, loops, blocks and the services of automations.
use Rattle.std.specs.Prelude.{ℕ, List, [], ◌∷◌, true, false}
use Rattle.std.specs.Prelude.{None, codes, pos}
use Rattle.ha_value.specs.declared.value.Num.{Num}
use Rattle.ha_value.specs.declared.value.EntityId.{EntityId}
use Rattle.ha_value.specs.declared.value.Value.{Value}
use Rattle.ha_value.specs.declared.value.Value.TheOpen.{Value-F}
use Rattle.ha_value.specs.declared.value.Value.TheViews.{roll-Value}
use Rattle.ha_config.specs.declared.template.Expr.{Expr}
use Rattle.ha_config.specs.declared.template.Op.{Op}
use Rattle.ha_config.specs.declared.template.Expr.TheOpen.{Expr-F}
use Rattle.ha_config.specs.declared.template.Expr.TheViews.{roll-Expr}
use Rattle.ha_config.specs.declared.config.Form.{Form}
use Rattle.ha_config.specs.declared.config.Form.TheOpen.{Form-F}
use Rattle.ha_config.specs.declared.config.Form.TheViews.{roll-Form}
use Rattle.ha_config.specs.declared.config.SpanForm.{SpanForm}
use Rattle.ha_config.specs.declared.config.RepeatKind.{RepeatKind}
use Rattle.ha_config.specs.declared.config.Condition.TheOpen.{Condition-F}
use Rattle.ha_config.specs.declared.config.Condition.TheViews.{roll-Condition}
use Rattle.ha_config.specs.declared.config.Action.{Action}
use Rattle.ha_config.specs.declared.config.ActionKind.TheOpen.{ActionKind-F}
use Rattle.ha_sight.specs.declared.item.Item.{Item}
use Rattle.ha_config.specs.Words.{Text}
use Rattle.ha_sight.specs.Sight.{Sight}
use Rattle.ha_sight.specs.Scripts.{Spot}
use Rattle.ha_laws.specs.WorkedHall.{text_template, show, act, call}

-- two automations, of which the second is off, and no states
abbrev pub seen : ℕ → Sight
seen n = record { states = λ e. None; now = n; zone = codes "UTC"; automations = (0, codes "a", true) ∷ (1, codes "b", false) ∷ []; scripts = []; helpers = [] }

abbrev pub at : ℕ → List ℕ → Spot
at n b = record { place = n; branch = b; sight = seen n; wait_end = λ ask p. None }

abbrev pub number : ℕ → Value
number n = Value.Number (Num.Whole (pos n))

abbrev pub literal : ℕ → Expr
literal n = roll-Expr (Expr-F.Plain (roll-Value (Value-F.Number (Num.Whole (pos n)))))

abbrev pub n_name : Expr
n_name = roll-Expr (Expr-F.Name (codes "n"))

abbrev pub said : Expr → Form
said e = roll-Form (Form-F.Text (show e))

abbrev pub set_n : Form → Action
set_n f = act (ActionKind-F.Set ((codes "n", f) ∷ []))

abbrev pub thing : EntityId
thing = record { domain = codes "a"; object = codes "b" }

abbrev pub notify : Text → ℕ → Item
notify s n = Item.Call s (thing ∷ []) ((codes "n", number n) ∷ [])

abbrev pub notify_n : Text → Action
notify_n s = call s (codes "a.b") ((codes "n", said n_name) ∷ [])

abbrev pub N : Item
N = Item.Nothing

-- each list of a parallel block has the scopes for itself, and afterwards they are as they were before it
abbrev pub apart : List Action
apart = set_n (said (literal 1))
    ∷ act (ActionKind-F.Parallel ((set_n (said (literal 2)) ∷ notify_n (codes "notify.a") ∷ []) ∷ (notify_n (codes "notify.b") ∷ []) ∷ []))
    ∷ notify_n (codes "notify.c") ∷ []

-- a loop over a list of two: the block's step, and two steps for each turn
abbrev pub colours : List Action
colours = act (ActionKind-F.Repeat (RepeatKind.Each (roll-Form (Form-F.Plain (number 7)) ∷ roll-Form (Form-F.Plain (number 8)) ∷ []))
    (call (codes "notify.c") (codes "a.b")
    ((codes "n", roll-Form (Form-F.Text (show (roll-Expr (Expr-F.Field (roll-Expr (Expr-F.Name (codes "repeat"))) (codes "item"))))))
    ∷ []) ∷ [])) ∷ []

-- a list of two steps that is set, once raised and then told: the name that is set in a turn is the one that was there before the loop
abbrev pub raised : List Action
raised = set_n (said (literal 0))
    ∷ act (ActionKind-F.Repeat (RepeatKind.Count (text_template (codes "1")))
    (set_n (said (roll-Expr (Expr-F.Pair Op.Plus n_name (literal 5)))) ∷ []))
    ∷ notify_n (codes "notify.x") ∷ []

-- a false condition ends its block, and the script goes on behind it
abbrev pub false_inside : List Action
false_inside =
    act (ActionKind-F.Block (act (ActionKind-F.Test (roll-Condition (Condition-F.Or []))) ∷ act ActionKind-F.Stop ∷ []))
    ∷ notify_n (codes "notify.x") ∷ []

-- a minute and a half, of a text and of parts; the second place is not allowed before
abbrev pub delays : SpanForm → List Action
delays d = act (ActionKind-F.Delay d) ∷ []
