-- Slots that are changed one by one.
use Rattle.std.proofs.Common.{◌≡◌, ℕ, List, set, ap, ◌∙◌}
use Rattle.std.specs.Prelude.{Option, Some, slice_get, option_map}
use Rattle.std.specs.Global.{Box}
use Rattle.std.proofs.lemmas.List.{map-set}
use Rattle.std.proofs.lemmas.Option.{slice_get-map}
use Rattle.engine_parts.specs.Slots.{value_in, values_in}

-- LAW: what a slot is seen to hold
pub value-got : {T : Type 0} (xs : List (Option (Box T))) (i : ℕ) (v : Option (Box T)) → slice_get xs i ≡ Some v → slice_get (values_in xs) i ≡ Some (value_in v)
value-got xs i v h = slice_get-map value_in xs i ∙ ap (option_map value_in) h

-- LAW: a slot that is put is seen to be put
pub values-put : {T : Type 0} (xs ys : List (Option (Box T))) (i : ℕ) (v : Option (Box T)) → ys ≡ set xs i v → values_in ys ≡ set (values_in xs) i (value_in v)
values-put xs ys i v e = ap values_in e ∙ map-set value_in xs i v
