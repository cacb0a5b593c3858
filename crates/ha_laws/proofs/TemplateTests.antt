-- Templates, their operators, filters and functions, computed.
use Rattle.std.proofs.Common.{◌≡◌, ℕ, List, [], ◌∷◌, Bool, true, false, refl}
use Rattle.std.specs.Prelude.{Option, Some, None, codes, pos, negsuc}
use Rattle.std.specs.Fmt.{digits}
use Rattle.ha_value.specs.declared.value.Num.{Num}
use Rattle.ha_value.specs.declared.value.EntityId.{EntityId}
use Rattle.ha_value.specs.declared.value.Value.{Value}
use Rattle.ha_value.specs.declared.value.Value.TheVariants.{Items, Pairs as Map, outs-Null, outs-Flag, outs-Number, outs-Text, outs-Items, outs-Pairs}
use Rattle.ha_value.specs.declared.value.Value.TheViews.{out-roll-Value, roll-Value}
use Rattle.ha_value.specs.declared.value.Value.TheOpen.{Value-F}
use Rattle.ha_value.specs.Numbers.{read_number, print_number}
use Rattle.ha_value.specs.Truth.{says_yes_text}
use Rattle.ha_value.specs.Ids.{read_entity}
use Rattle.ha_value.specs.Arithmetic.{add, floor_div, negate, to_whole, round}
use Rattle.ha_config.specs.declared.template.Op.{Op}
use Rattle.ha_config.specs.declared.template.Expr.{Expr}
use Rattle.ha_config.specs.declared.template.Expr.TheOpen.{Expr-F}
use Rattle.ha_config.specs.declared.template.Expr.TheViews.{roll-Expr}
use Rattle.ha_config.specs.declared.template.Piece.{Piece}
use Rattle.ha_config.specs.declared.template.Template.{Template}
use Rattle.ha_config.specs.declared.template.Piece.TheOpen.{Piece-F}
use Rattle.ha_config.specs.declared.template.Piece.TheViews.{roll-Piece, roll-Template}
use Rattle.ha_sight.specs.declared.state.StateObject.{StateObject}
use Rattle.ha_config.specs.Words.{Text, same_entity}
use Rattle.ha_sight.specs.Sight.{Sight}
use Rattle.ha_sight.specs.Values.{operate, as_data, part_at}
use Rattle.ha_sight.specs.Filters.{filtered, applied}
use Rattle.ha_sight.specs.Templates.{rendered, says, is_true_text}
use Rattle.ha_config.specs.ValueText.{print_value}
use Rattle.ha_sight.proofs.Rolls.{rolls}

abbrev lamp : EntityId
lamp = record { domain = codes "light"; object = codes "x" }

-- one entity is there: light.x, which is on
abbrev seen : Sight
seen = record {
  states = λ e. if_lamp (same_entity e lamp);
  now = 0;
  zone = codes "UTC";
  automations = [];
  scripts = [];
  helpers = [];
}
  where
    if_lamp : Bool → Option StateObject
    if_lamp true = Some (record { text = codes "on"; attributes = (codes "level", Value.Number (Num.Whole (pos 3))) ∷ []; changed = 0; updated = 0 })
    if_lamp false = None

abbrev whole : ℕ → Value
whole n = Value.Number (Num.Whole (pos n))

abbrev text : Text → Value
text = Value.Text

abbrev plain : Value-F Value → Expr
plain v = roll-Expr (Expr-F.Plain (roll-Value v))

abbrev show : Expr → Piece
show e = roll-Piece (Piece-F.Show e)

abbrev written : Text → Piece
written t = roll-Piece (Piece-F.Text t)

abbrev template : List Piece → Template
template ps = roll-Template (record { pieces = ps })

-- ---- operators

sum_of_kinds : operate Op.Plus (whole 1) (text (codes "a")) ≡ None
sum_of_kinds = simp (outs-Number, outs-Text)

joins : operate Op.Plus (text (codes "a")) (text (codes "b")) ≡ Some (text (codes "ab"))
joins = simp (outs-Text)

prints_and_joins : operate Op.Join (whole 7) (Value.Flag true) ≡ Some (text (codes "7True"))
unfolding print_number digits
prints_and_joins = simp (outs-Number, outs-Flag)

equal_by_value : operate Op.Equal (roll-Value (Value-F.Number (Num.Whole (pos 3)))) (Value.Number (Num.Fixed (pos 3000000))) ≡ Some (Value.Flag true)
equal_by_value = simp (rolls, outs-Number)

-- (the three kinds that `in` takes, and one that it doesn't)
in_text : operate Op.Within (text (codes "an")) (text (codes "banana")) ≡ Some (Value.Flag true)
in_text = simp (outs-Text)

not_in_text : operate Op.Outside (text (codes "nab")) (text (codes "banana")) ≡ Some (Value.Flag true)
not_in_text = simp (outs-Text)

in_map : operate Op.Within (text (codes "b")) (Map ((codes "a", whole 1) ∷ (codes "b", whole 2) ∷ [])) ≡ Some (Value.Flag true)
in_map = simp (outs-Text, outs-Pairs)

number_in_map : operate Op.Within (whole 1) (Map ((codes "a", whole 1) ∷ [])) ≡ None
number_in_map = simp (outs-Number, outs-Pairs)

texts_in_order : operate Op.Less (text (codes "abc")) (text (codes "abd")) ≡ Some (Value.Flag true)
texts_in_order = simp (outs-Text)

-- ---- parts

last_item : part_at (Items (whole 4 ∷ whole 5 ∷ [])) (Value.Number (Num.Whole (negsuc 0))) ≡ whole 5
last_item = simp (outs-Items, outs-Number)

no_item : part_at (Items (whole 4 ∷ whole 5 ∷ [])) (Value.Number (Num.Fixed (pos 1000000))) ≡ Value.Null
no_item = simp (outs-Items, outs-Number)

-- ---- filters and functions

int_of_text : filtered 1 (text (codes " 42 ")) [] ≡ Some (whole 42)
unfolding read_number to_whole
int_of_text = simp (outs-Text)

int_of_no_number : filtered 1 (text (codes "unknown")) [] ≡ None
unfolding read_number to_whole
int_of_no_number = simp (outs-Text)

int_or_else : filtered 1 (text (codes "unknown")) (whole 0 ∷ []) ≡ Some (whole 0)
unfolding read_number to_whole
int_or_else = simp (outs-Text)

rounds_to_even : filtered 3 (Value.Number (Num.Fixed (pos 2500000))) [] ≡ Some (whole 2)
unfolding round
rounds_to_even = simp (outs-Number)

places_are_whole : filtered 3 (whole 2) (Value.Number (Num.Fixed (pos 1000000)) ∷ []) ≡ None
places_are_whole = simp (outs-Number)

replaces : filtered 12 (text (codes "aaa")) (text (codes "aa") ∷ text (codes "b") ∷ []) ≡ Some (text (codes "ba"))
replaces = simp (outs-Text)

replaces_nothing : filtered 12 (text (codes "aaa")) (text [] ∷ text (codes "b") ∷ []) ≡ None
replaces_nothing = simp (outs-Text)

default_of_none : filtered 9 Value.Null (whole 1 ∷ []) ≡ Some (whole 1)
default_of_none = simp (outs-Null)

too_few : filtered 9 Value.Null [] ≡ None
too_few = refl

state_there : applied seen 1 (text (codes "light.x") ∷ []) ≡ Some (text (codes "on"))
unfolding read_entity
state_there = simp (outs-Text)

state_not_there : applied seen 1 (text (codes "light.y") ∷ []) ≡ Some (text (codes "unknown"))
unfolding read_entity
state_not_there = simp (outs-Text)

one_of_list : applied seen 3 (text (codes "light.x") ∷ Items (text (codes "off") ∷ text (codes "on") ∷ []) ∷ []) ≡ Some (Value.Flag true)
unfolding read_entity
one_of_list = simp (outs-Text, outs-Items)

attribute_is : applied seen 4 (text (codes "light.x") ∷ text (codes "level") ∷ roll-Value (Value-F.Number (Num.Whole (pos 3))) ∷ []) ≡ Some (Value.Flag true)
unfolding read_entity
attribute_is = simp (outs-Text, outs-Number, rolls)

greatest : applied seen 9 (Items (whole 4 ∷ whole 9 ∷ whole 5 ∷ []) ∷ []) ≡ Some (whole 9)
greatest = simp (outs-Items, outs-Number)

greatest_of_none : applied seen 9 (Items [] ∷ []) ≡ None
greatest_of_none = simp (outs-Items)

-- ---- whole templates

-- the text of `{{ -7 // 2 }}`
floor_below : rendered seen (template (show (roll-Expr (Expr-F.Pair Op.Floor (roll-Expr (Expr-F.Negate (plain (Value-F.Number (Num.Whole (pos 7)))))) (plain (Value-F.Number (Num.Whole (pos 2)))))) ∷ [])) [] ≡ Some (codes "-4")
unfolding print_number digits floor_div negate
floor_below = simp (rolls, out-roll-Value, outs-Number)

too_large : rendered seen (template (show (roll-Expr (Expr-F.Pair Op.Plus (plain (Value-F.Number (Num.Whole (pos 1000000000000)))) (plain (Value-F.Number (Num.Whole (pos 1)))))) ∷ [])) [] ≡ None
unfolding print_number digits add
too_large = simp (rolls, out-roll-Value)

-- what an arm sets holds behind it, and blanks at both ends go
set_in_arm : rendered seen (template (written (codes " ") ∷ roll-Piece (Piece-F.Choice ((plain (Value-F.Flag true), template (roll-Piece (Piece-F.Assign (codes "n") (plain (Value-F.Number (Num.Whole (pos 5))))) ∷ [])) ∷ []) (template [])) ∷ show (roll-Expr (Expr-F.Name (codes "n"))) ∷ written (10 ∷ []) ∷ [])) [] ≡ Some (codes "5")
unfolding print_number digits
set_in_arm = simp (rolls, out-roll-Value)

-- the right side of `or` is not computed where the left one decides: here it is a fault
decided : rendered seen (template (show (roll-Expr (Expr-F.Pair Op.Or (plain (Value-F.Flag true)) (roll-Expr (Expr-F.Negate (plain (Value-F.Flag true)))))) ∷ [])) [] ≡ Some (codes "True")
decided = simp (rolls, out-roll-Value)

-- ---- rendered texts

data_number : as_data (codes "5.0") ≡ Value.Number (Num.Fixed (pos 5000000))
unfolding read_number print_number digits
data_number = refl

data_text : as_data (codes "5.00") ≡ text (codes "5.00")
unfolding read_number print_number digits
data_text = refl

says_on : says (Some (codes "ON")) ≡ true
unfolding says_yes_text read_number
says_on = refl

says_zero : says (Some (codes "0.0")) ≡ false
unfolding says_yes_text read_number
says_zero = refl

one_is_not_true : is_true_text (Some (codes "1")) ≡ false
one_is_not_true = refl

-- ---- printing

printed_map : print_value (roll-Value (Value-F.Pairs ((codes "a\"b", roll-Value (Value-F.Items (roll-Value Value-F.Null ∷ roll-Value (Value-F.Text (10 ∷ 31 ∷ [])) ∷ []))) ∷ []))) ≡ codes "{\"a\\\"b\":[null,\"\\n\\u001f\"]}"
printed_map = simp (rolls)
