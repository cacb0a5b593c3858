-- What the left operand of a pair tells of the whole.
use Rattle.std.specs.Prelude.{◌≡◌, Option, [], option_and_then}
use Rattle.ha_value.specs.declared.value.Value.{Value}
use Rattle.ha_config.specs.declared.template.Op.{Op}
use Rattle.ha_sight.specs.Sight.{Sight}
use Rattle.ha_sight.specs.Values.{operate}
use Rattle.ha_sight.specs.Templates.{pair_step}
use Rattle.tpl_eval.specs.declared.pairs.Begun.{Begun}
use Rattle.tpl_eval.specs.Held.{held_value, Yields}

-- the value of a pair whose operands have these
abbrev pub paired : Sight → Op → Option Value → Option Value → Option Value
paired sight op left right = pair_step sight op (λ env. left) (λ env. right) []

abbrev pub Tells : Sight → Op → Option Value → Begun → Type 0
Tells sight op left (Begun.Decided answer) = (right : Option Value) → Yields answer (paired sight op left right)
Tells sight op left Begun.Passed = (right : Option Value) → paired sight op left right ≡ right
Tells sight op left (Begun.Taken held) =
    (right : Option Value) → paired sight op left right ≡ option_and_then (operate op (held_value held)) right
