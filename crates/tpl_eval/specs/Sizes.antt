-- Numbers of values, taken one after the other from what a list in brackets may still have.
use Rattle.std.specs.Prelude.{◌≡◌, ℕ, ◌-◌, nat_le, List, [], ◌∷◌, ◌++◌, map, sum, sum_by, if◌then◌else◌}
use Rattle.std.specs.Prelude.{Option, Some, None, option_and_then, Result, Ok, Err}
use Rattle.ha_value.specs.declared.value.Value.{Value}
use Rattle.ha_sight.specs.declared.faults.TplFault.{TplFault}
use Rattle.ha_config.specs.Words.{Text, Pairs}
use Rattle.ha_sight.specs.Values.{size_of}

-- what is left of a number after so many, where they are not more
abbrev pub left_of : ℕ → ℕ → Option ℕ
left_of left n = if nat_le n left then Some (left - n) else None

-- how many values a list has, and a map, those inside counted
abbrev pub items_size : List Value → ℕ
items_size vs = sum (map size_of vs)

abbrev pub pairs_size : Pairs → ℕ
pairs_size ps = sum_by (λ (p : Text × ℕ). p.1) (map (λ p. (p.0, size_of p.1)) ps)

-- a list grows by the value that is given, and what is left is less by the size of that; a fault is answered where no
-- value is given, or one of a greater size than is left
abbrev pub PutsWithin : ℕ → List Value → List Value → Option Value → Result ℕ TplFault → Type 0
PutsWithin left old new given (Ok rest) = (v : Value) × (given ≡ Some v) × (new ≡ old ++ (v ∷ [])) × (left_of left (size_of v) ≡ Some rest)
PutsWithin left old new given (Err TplFault.Fault) = option_and_then (λ v. left_of left (size_of v)) given ≡ None
PutsWithin left old new given (Err TplFault.Memory) = Unit {0}
