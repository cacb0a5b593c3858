-- Parts of operators that several of them share.
use Rattle.std.specs.Prelude.{Bool, List, Option, Some, None, map}
use Rattle.ha_value.specs.declared.value.Num.{Num}
use Rattle.ha_value.specs.declared.value.Value.{Value}
use Rattle.ha_value.specs.declared.value.Value.TheOpen.{Value-F}
use Rattle.ha_config.specs.Words.{Pairs, comes_before}
use Rattle.ha_config.specs.Equal.{each_same, each_pair_same, equal_value}
use Rattle.ha_config.specs.Numbers.{less, minus, times, over, floor_over, modulo}
use Rattle.tpl_eval.specs.declared.operators.Work.{Work}

-- the arithmetic that takes numbers alone
abbrev pub worked_out : Work → Num → Num → Option Num
worked_out Work.Minus = minus
worked_out Work.Times = times
worked_out Work.Over = over
worked_out Work.Floor = floor_over
worked_out Work.Modulo = modulo

-- the first of two numbers is less, or the first of two texts comes before
abbrev pub before : Value-F Value → Value-F Value → Option Bool
before (Value-F.Number a) (Value-F.Number b) = Some (less a b)
before (Value-F.Text a) (Value-F.Text b) = Some (comes_before a b)
before _ _ = None

-- the items of two lists, and the pairs of two maps, are equal by value, in order
abbrev pub equal_items : List Value → List Value → Bool
equal_items a b = each_same (map equal_value a) b

abbrev pub equal_pairs : Pairs → Pairs → Bool
equal_pairs a b = each_pair_same (map (λ p. (p.0, equal_value p.1)) a) b
