-- Lists, and maps, of different lengths are not equal.
use Rattle.std.proofs.Common.{◌≡◌, ap, suc, Bool, true, false, ◌&&◌, refl, List, [], ◌∷◌, length}
use Rattle.ha_value.specs.declared.value.Value.{Value}
use Rattle.ha_config.specs.Words.{Pairs, same}
use Rattle.ha_config.specs.Equal.{equal_value}
use Rattle.tpl_eval.specs.Operators.{equal_items, equal_pairs}

and_false : (a b : Bool) → false ≡ b → false ≡ (a && b)
and_false true b e = e
and_false false b e = refl

pub items-lengths : (a b : List Value) → (length a ≡ length b → ⊥) → false ≡ equal_items a b
items-lengths [] [] h = absurd (h refl)
items-lengths [] (y ∷ ys) h = refl
items-lengths (x ∷ xs) [] h = refl
items-lengths (x ∷ xs) (y ∷ ys) h = and_false (equal_value x y) (equal_items xs ys) (items-lengths xs ys (λ e. h (ap suc e)))

pub pairs-lengths : (a b : Pairs) → (length a ≡ length b → ⊥) → false ≡ equal_pairs a b
pairs-lengths [] [] h = absurd (h refl)
pairs-lengths [] (y ∷ ys) h = refl
pairs-lengths (x ∷ xs) [] h = refl
pairs-lengths (x ∷ xs) (y ∷ ys) h = and_false (same x.0 y.0 && equal_value x.1 y.1) (equal_pairs xs ys) (pairs-lengths xs ys (λ e. h (ap suc e)))
