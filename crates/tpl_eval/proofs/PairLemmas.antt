-- Pairs whose left operand is known.
use Rattle.std.proofs.Common.{◌≡◌, refl}
use Rattle.std.specs.Prelude.{Option, Some, None, option_and_then}
use Rattle.ha_value.specs.declared.value.Value.{Value}
use Rattle.ha_config.specs.declared.template.Op.{Op}
use Rattle.ha_sight.specs.Sight.{Sight}
use Rattle.ha_config.specs.Words.{Pairs}
use Rattle.ha_sight.specs.Values.{operate}
use Rattle.ha_sight.specs.Templates.{pair_step, Meaning}
use Rattle.tpl_eval.specs.Pairs.{paired}

module _ (sight : Sight) where
  -- a pair looks at its operands at the environment alone
  pub pair-paired : (op : Op) (left right : Meaning sight) (env : Pairs) → pair_step sight op left right env ≡ paired sight op (left env) (right env)
  pair-paired Op.Or left right env = refl
  pair-paired Op.And left right env = refl
  pair-paired Op.Equal left right env = refl
  pair-paired Op.Unequal left right env = refl
  pair-paired Op.Less left right env = refl
  pair-paired Op.AtMost left right env = refl
  pair-paired Op.More left right env = refl
  pair-paired Op.AtLeast left right env = refl
  pair-paired Op.Within left right env = refl
  pair-paired Op.Outside left right env = refl
  pair-paired Op.Plus left right env = refl
  pair-paired Op.Minus left right env = refl
  pair-paired Op.Join left right env = refl
  pair-paired Op.Times left right env = refl
  pair-paired Op.Over left right env = refl
  pair-paired Op.Floor left right env = refl
  pair-paired Op.Modulo left right env = refl

  -- a fault on the left is one of the whole
  pub paired-none : (op : Op) (right : Option Value) → paired sight op None right ≡ None
  paired-none Op.Or right = refl
  paired-none Op.And right = refl
  paired-none Op.Equal right = refl
  paired-none Op.Unequal right = refl
  paired-none Op.Less right = refl
  paired-none Op.AtMost right = refl
  paired-none Op.More right = refl
  paired-none Op.AtLeast right = refl
  paired-none Op.Within right = refl
  paired-none Op.Outside right = refl
  paired-none Op.Plus right = refl
  paired-none Op.Minus right = refl
  paired-none Op.Join right = refl
  paired-none Op.Times right = refl
  paired-none Op.Over right = refl
  paired-none Op.Floor right = refl
  paired-none Op.Modulo right = refl

  -- every other operator takes both
  pub paired-both : (op : Op) (v : Value) (right : Option Value) → ¬ (op ≡ Op.Or) → ¬ (op ≡ Op.And) → paired sight op (Some v) right ≡ option_and_then (operate op v) right
  paired-both Op.Or v right f g = absurd (f refl)
  paired-both Op.And v right f g = absurd (g refl)
  paired-both Op.Equal v right f g = refl
  paired-both Op.Unequal v right f g = refl
  paired-both Op.Less v right f g = refl
  paired-both Op.AtMost v right f g = refl
  paired-both Op.More v right f g = refl
  paired-both Op.AtLeast v right f g = refl
  paired-both Op.Within v right f g = refl
  paired-both Op.Outside v right f g = refl
  paired-both Op.Plus v right f g = refl
  paired-both Op.Minus v right f g = refl
  paired-both Op.Join v right f g = refl
  paired-both Op.Times v right f g = refl
  paired-both Op.Over v right f g = refl
  paired-both Op.Floor v right f g = refl
  paired-both Op.Modulo v right f g = refl

pub ruleset pairs = (pair-paired, paired-none, paired-both)
