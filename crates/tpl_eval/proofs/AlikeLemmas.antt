-- The value of an expression depends on its environment by look-ups alone.
use Rattle.std.proofs.Common.{◌≡◌, ◌∙◌, List, [], ◌∷◌, map, refl, sym, subst}
use Rattle.std.specs.Prelude.{Option, Some, None, option_map, option_and_then, unwrap_or, not, if◌then◌else◌}
use Rattle.ha_value.specs.declared.value.Value.{Value}
use Rattle.ha_value.specs.Truth.{truth}
use Rattle.ha_config.specs.declared.template.Expr.{Expr}
use Rattle.ha_config.specs.declared.template.Expr.TheOpen.{Expr-F}
use Rattle.ha_config.specs.declared.template.Expr.TheViews.{roll-Expr}
use Rattle.ha_config.specs.declared.template.Expr.TheFolds.{ind-Expr, map-Expr}
use Rattle.ha_config.specs.Words.{Pairs}
use Rattle.ha_sight.specs.Sight.{Sight}
use Rattle.ha_sight.specs.Filters.{filtered, applied}
use Rattle.ha_sight.specs.Values.{bounded_items, field_of, is_null, negation, part_at}
use Rattle.ha_sight.specs.Templates.{all_of, expr_step, value_of, Meaning}
use Rattle.ha_sight.proofs.Rolls.{value_of-roll}
use Rattle.tpl_eval.specs.Pairs.{paired}
use Rattle.tpl_eval.specs.Pieces.{Alike}
use Rattle.tpl_eval.proofs.PairLemmas.{pair-paired}

module _ (sight : Sight) (xs ys : Pairs) (alike : Alike xs ys) where
  abbrev Agrees : Expr → Type 0
  Agrees e = value_of sight e xs ≡ value_of sight e ys

  abbrev Agreeing : Type 0
  Agreeing = (e : Expr) × Agrees e

  abbrev below : Expr-F Agreeing → Expr-F Expr
  below = map-Expr Agreeing Expr (λ a. a.0)

  abbrev step : Expr-F Agreeing → Meaning sight
  step y = expr_step sight (map-Expr Expr (Meaning sight) (value_of sight) (below y))

  all-agree : (es : List Agreeing) → all_of sight (map (value_of sight) (map (λ a. a.0) es)) xs ≡ all_of sight (map (value_of sight) (map (λ a. a.0) es)) ys
  all-agree [] = refl
  all-agree (e ∷ es) = λ i. option_and_then (λ v. option_map (λ vs. v ∷ vs) (all-agree es i)) (e.1 i)

  step-agrees : (y : Expr-F Agreeing) → step y xs ≡ step y ys
  step-agrees (Expr-F.Plain v) = refl
  step-agrees (Expr-F.Name name) = λ i. Some (unwrap_or (alike name i) Value.Null)
  step-agrees (Expr-F.List es) = λ i. option_and_then bounded_items (all-agree es i)
  step-agrees (Expr-F.Field e name) = λ i. option_map (λ v. field_of v name) (e.1 i)
  step-agrees (Expr-F.At e index) = λ i. option_and_then (λ v. option_map (part_at v) (index.1 i)) (e.1 i)
  step-agrees (Expr-F.Filter name e args) = λ i. option_and_then (λ v. option_and_then (filtered name v) (all-agree args i)) (e.1 i)
  step-agrees (Expr-F.Function name args) = λ i. option_and_then (applied sight name) (all-agree args i)
  step-agrees (Expr-F.Negate e) = λ i. option_and_then negation (e.1 i)
  step-agrees (Expr-F.Not e) = λ i. option_map (λ v. Value.Flag (not (truth v))) (e.1 i)
  step-agrees (Expr-F.IsNone e holds) = λ i. option_map (λ v. Value.Flag (if is_null v then holds else not holds)) (e.1 i)
  step-agrees (Expr-F.Pair op left right) =
      pair-paired sight op (value_of sight left.0) (value_of sight right.0) xs
      ∙ (λ i. paired sight op (left.1 i) (right.1 i))
      ∙ sym (pair-paired sight op (value_of sight left.0) (value_of sight right.0) ys)
  step-agrees (Expr-F.Pick test yes' no') = picked no'
    where
      picked : (no' : Option Agreeing) → step (Expr-F.Pick test yes' no') xs ≡ step (Expr-F.Pick test yes' no') ys
      picked None = λ i. option_and_then (λ v. if truth v then yes'.1 i else Some (Value.Text [])) (test.1 i)
      picked (Some e) = λ i. option_and_then (λ v. if truth v then yes'.1 i else e.1 i) (test.1 i)

  rolled-agrees : (y : Expr-F Agreeing) → Agrees (roll-Expr (below y))
  rolled-agrees y = value_of-roll sight (below y) xs ∙ step-agrees y ∙ sym (value_of-roll sight (below y) ys)

  -- alike environments give an expression the same value
  pub value-alike : (e : Expr) → value_of sight e xs ≡ value_of sight e ys
  value-alike = ind-Expr Agrees (λ x y is. subst (λ z. Agrees (roll-Expr z)) is (rolled-agrees y))
