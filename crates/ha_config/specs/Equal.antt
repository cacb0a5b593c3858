-- Whether two values are the same: as written, and by the value of the numbers in them.
use Rattle.std.specs.Prelude.{Bool, true, false, ◌&&◌, List, [], ◌∷◌, map}
use Rattle.ha_value.specs.declared.value.Num.{Num}
use Rattle.ha_value.specs.declared.value.Value.{Value}
use Rattle.ha_value.specs.declared.value.Value.TheOpen.{Value-F}
use Rattle.ha_value.specs.declared.value.Value.TheFolds.{fold-Value}
use Rattle.ha_value.specs.declared.value.Value.TheViews.{out-Value}
use Rattle.ha_config.specs.Words.{Text, Pairs, same}
use Rattle.ha_config.specs.Numbers.{equal_number, same_int}

abbrev pub same_flag : Bool → Bool → Bool
same_flag true b = b
same_flag false true = false
same_flag false false = true

-- a number as written: 3 and 3.0 differ
abbrev pub same_num : Num → Num → Bool
same_num (Num.Whole a) (Num.Whole b) = same_int a b
same_num (Num.Fixed a) (Num.Fixed b) = same_int a b
same_num _ _ = false

-- the tests of a list's items, on another list's items
abbrev pub each_same : List (Value → Bool) → List Value → Bool
each_same [] [] = true
each_same (t ∷ ts) (v ∷ vs) = t v && each_same ts vs
each_same _ _ = false

abbrev pub each_pair_same : List (Text × (Value → Bool)) → Pairs → Bool
each_pair_same [] [] = true
each_pair_same (t ∷ ts) (v ∷ vs) = same t.0 v.0 && t.1 v.1 && each_pair_same ts vs
each_pair_same _ _ = false

-- ---- as written

-- two layers are the same, where the inner values of the one are tests
abbrev pub same_layer : Value-F (Value → Bool) → Value-F Value → Bool
same_layer Value-F.Null Value-F.Null = true
same_layer (Value-F.Flag a) (Value-F.Flag b) = same_flag a b
same_layer (Value-F.Number a) (Value-F.Number b) = same_num a b
same_layer (Value-F.Text a) (Value-F.Text b) = same a b
same_layer (Value-F.Items ts) (Value-F.Items vs) = each_same ts vs
same_layer (Value-F.Pairs ts) (Value-F.Pairs vs) = each_pair_same ts vs
same_layer _ _ = false

abbrev pub same_step : Value-F (Value → Bool) → Value → Bool
same_step x v = same_layer x (out-Value v)

abbrev pub same_value : Value → Value → Bool
same_value = fold-Value (Value → Bool) same_step

abbrev pub same_pairs : Pairs → Pairs → Bool
same_pairs a b = each_pair_same (map (λ p. (p.0, same_value p.1)) a) b

-- ---- by value: `==` of templates

abbrev pub equal_layer : Value-F (Value → Bool) → Value-F Value → Bool
equal_layer Value-F.Null Value-F.Null = true
equal_layer (Value-F.Flag a) (Value-F.Flag b) = same_flag a b
equal_layer (Value-F.Number a) (Value-F.Number b) = equal_number a b
equal_layer (Value-F.Text a) (Value-F.Text b) = same a b
equal_layer (Value-F.Items ts) (Value-F.Items vs) = each_same ts vs
equal_layer (Value-F.Pairs ts) (Value-F.Pairs vs) = each_pair_same ts vs
equal_layer _ _ = false

abbrev pub equal_step : Value-F (Value → Bool) → Value → Bool
equal_step x v = equal_layer x (out-Value v)

-- numbers by value, texts by bytes, lists and maps item by item in order, and false between kinds
abbrev pub equal_value : Value → Value → Bool
equal_value = fold-Value (Value → Bool) equal_step
