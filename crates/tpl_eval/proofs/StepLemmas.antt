-- The value of an expression by its kind.
use Rattle.std.proofs.Common.{◌≡◌, ◌∙◌, ap, ℕ, Bool, true, false, List, [], map, sym}
use Rattle.std.specs.Prelude.{Option, Some, None, Err, not, option_map, option_and_then, if◌then◌else◌}
use Rattle.ha_value.specs.declared.value.Value.{Value}
use Rattle.ha_value.specs.Truth.{truth}
use Rattle.ha_sight.specs.declared.faults.TplFault.{TplFault}
use Rattle.ha_config.specs.declared.template.Op.{Op}
use Rattle.ha_config.specs.declared.template.Expr.{Expr}
use Rattle.ha_config.specs.declared.template.Expr.TheOpen.{Expr-F}
use Rattle.ha_config.specs.declared.template.Expr.TheViews.{out-Expr}
use Rattle.ha_config.specs.declared.template.Expr.TheFolds.{map-Expr}
use Rattle.ha_config.specs.declared.template.Expr.TheVariants.{At, Field, Filter, IsNone, Pair, Pick, outs-At, outs-Field, outs-Filter, outs-IsNone, outs-Pair, outs-Pick}
use Rattle.ha_sight.specs.Sight.{Sight}
use Rattle.ha_config.specs.Words.{Text, Pairs}
use Rattle.ha_sight.specs.Filters.{filtered}
use Rattle.ha_sight.specs.Values.{field_of, is_null, part_at}
use Rattle.ha_sight.specs.Templates.{all_of, else_value, expr_step, value_of, Meaning}
use Rattle.ha_sight.proofs.Rolls.{value_of-out}
use Rattle.tpl_fns.specs.Outcome.{Gives}
use Rattle.tpl_eval.specs.Held.{Puts}
use Rattle.tpl_eval.specs.Pairs.{paired}
use Rattle.tpl_eval.proofs.PairLemmas.{pair-paired}

module _ (sight : Sight) (env : Pairs) where
  at : (x : Expr) (y : Expr-F Expr) → out-Expr x ≡ y → value_of sight x env ≡ expr_step sight (map-Expr Expr (Meaning sight) (value_of sight) y) env
  at x y h = value_of-out sight x env ∙ ap (λ z. expr_step sight (map-Expr Expr (Meaning sight) (value_of sight) z) env) h

  abbrev value : Expr → Option Value
  value e = value_of sight e env

  module _ (x : Expr) where
    pub value-field : (base b : Expr) (name : Text) → x ≡ Field base name → b ≡ base → value x ≡ option_map (λ v. field_of v name) (value b)
    value-field base b name h e = ap value h ∙ at (Field base name) (Expr-F.Field base name) (simp outs-Field) ∙ (λ k. option_map (λ v. field_of v name) (value (sym e k)))

    pub value-none : (base b : Expr) (holds : Bool) → x ≡ IsNone base holds → b ≡ base → value x ≡ option_map (λ v. Value.Flag (if is_null v then holds else not holds)) (value b)
    value-none base b holds h e =
        ap value h ∙ at (IsNone base holds) (Expr-F.IsNone base holds) (simp outs-IsNone)
        ∙ (λ k. option_map (λ v. Value.Flag (if is_null v then holds else not holds)) (value (sym e k)))

    -- a part of what has a value
    pub value-part : (base b index i : Expr) (v : Value) → x ≡ At base index → b ≡ base → i ≡ index → value b ≡ Some v
        → value x ≡ option_map (part_at v) (value i)
    value-part base b index i v h e f known =
        ap value h ∙ at (At base index) (Expr-F.At base index) (simp outs-At)
        ∙ (λ k. option_and_then (λ w. option_map (part_at w) (value (sym f k))) (value (sym e k)))
        ∙ ap (option_and_then (λ w. option_map (part_at w) (value i))) known

    -- a filter whose first operand has a value
    pub value-filter : (name : ℕ) (base b : Expr) (args more : List Expr) (v : Value) → x ≡ Filter name base args → b ≡ base → more ≡ args → value b ≡ Some v
        → value x ≡ option_and_then (filtered name v) (all_of sight (map (value_of sight) more) env)
    value-filter name base b args more v h e f known =
        ap value h ∙ at (Filter name base args) (Expr-F.Filter name base args) (simp outs-Filter)
        ∙ (λ k. option_and_then (λ w. option_and_then (filtered name w) (all_of sight (map (value_of sight) (sym f k)) env)) (value (sym e k)))
        ∙ ap (option_and_then (λ w. option_and_then (filtered name w) (all_of sight (map (value_of sight) more) env))) known

    pub value-pair : (op : Op) (left right l r : Expr) → x ≡ Pair op left right → l ≡ left → r ≡ right → value x ≡ paired sight op (value l) (value r)
    value-pair op left right l r h e f =
        ap value h ∙ at (Pair op left right) (Expr-F.Pair op left right) (simp outs-Pair)
        ∙ pair-paired sight op (value_of sight left) (value_of sight right) env
        ∙ (λ k. paired sight op (value (sym e k)) (value (sym f k)))

    abbrev chosen : Option Value → Option Value → Option Value → Option Value
    chosen test first second = option_and_then (λ v. if truth v then first else second) test

    abbrev other : Option Expr → Option Value
    other no' = else_value sight (option_map (value_of sight) no') env

    picked : (test yes' : Expr) (no' : Option Expr) → value (Pick test yes' no') ≡ chosen (value test) (value yes') (other no')
    picked test yes' None = at (Pick test yes' None) (Expr-F.Pick test yes' None) (simp outs-Pick)
    picked test yes' (Some e) = at (Pick test yes' (Some e)) (Expr-F.Pick test yes' (Some e)) (simp outs-Pick)

    by_truth : (test first second : Option Value) (b : Bool) → option_map truth test ≡ Some b → chosen test first second ≡ (if b then first else second)
    by_truth None first second b h = absurd (cc)
    by_truth (Some v) first second b h = let e : truth v ≡ b = cc in λ k. if e k then first else second

    module _ (test yes' t : Expr) (no' : Option Expr) (h : x ≡ Pick test yes' no') (e : t ≡ test) (b : Bool) (known : option_map truth (value t) ≡ Some b) where
      both : value x ≡ (if b then value yes' else other no')
      both = ap value h ∙ picked test yes' no' ∙ (λ k. chosen (value (sym e k)) (value yes') (other no')) ∙ by_truth (value t) (value yes') (other no') b known

      pub pick-first : (y : Expr) → b ≡ true → y ≡ yes' → value x ≡ value y
      pick-first y is f = both ∙ (λ k. if is k then value yes' else other no') ∙ ap value (sym f)

      pub pick-second : (n n' : Expr) → b ≡ false → no' ≡ Some n → n' ≡ n → value x ≡ value n'
      pick-second n n' is f g = both ∙ (λ k. if is k then value yes' else other (f k)) ∙ ap value (sym g)

      pub pick-none : b ≡ false → no' ≡ None → value x ≡ Some (Value.Text [])
      pick-none is f = both ∙ (λ k. if is k then value yes' else other (f k))

-- a value that is a fault makes the list one
pub list-fault : (fault : TplFault) (old new : List Value) (given : Option Value) (all : Option (List Value)) → Puts {Y = Unit {0}} old new given (Err fault) → (given ≡ None → all ≡ None)
    → Gives {X = List Value} (Err fault) all
list-fault TplFault.Fault old new given all h f = f h
list-fault TplFault.Memory old new given all h f = tt
