use Rattle.std.proofs.Common.{◌≡◌, ℕ, zero, suc, ◌+◌, List, [], ◌∷◌, length, refl, sym, ap, arith}
use Rattle.std.specs.Prelude.{slice_index_or}
use Rattle.yaml_tree.specs.declared.piece.Piece.{Piece}
use Rattle.yaml_tree.specs.Pieces.{floor}

pub floor_is : (ps : List Piece) (x : Piece) (k : ℕ) → k + 1 ≡ length ps → x ≡ slice_index_or ps k x → floor ps ≡ x.column + 1
unfolding floor
floor_is [] x k lt e = absurd (omega arith)
floor_is (p ∷ []) x zero lt e = ap (λ (y : Piece). y.column + 1) (sym e)
floor_is (p ∷ []) x (suc k) lt e = absurd (omega arith)
floor_is (p ∷ q ∷ ps) x zero lt e = absurd (omega arith)
floor_is (p ∷ q ∷ ps) x (suc k) lt e = floor_is (q ∷ ps) x k (omega arith) e

pub none_left : (ps : List Piece) → length ps ≡ 0 → 0 ≡ floor ps
unfolding floor
none_left [] e = refl
none_left (p ∷ ps) e = absurd (omega (arith, e))
