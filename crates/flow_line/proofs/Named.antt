-- Commands that are found one after the other.
use Rattle.std.proofs.Common.{◌≡◌, ℕ, suc, ◌<◌, Bool, true, cond, List, [], ◌∷◌, ◌++◌, length, take, drop, get_or, sym, ap, ◌∙◌}
use Rattle.std.specs.Prelude.{filter}
use Rattle.std.proofs.lemmas.List.{take-append-drop}
use Rattle.std.proofs.lemmas.List.Elements.{filter-append}
use Rattle.std.proofs.Math.Seq.{drop-cons}

kept : {X : Type 0} (p : X → Bool) (y : X) (ys : List X) → p y ≡ true → filter p (y ∷ ys) ≡ y ∷ filter p ys
kept p y ys h = ap (λ (b : Bool). cond b (y ∷ filter p ys) (filter p ys)) h

-- one was found among the first i, and the next passes too: there are two at least
pub two_found : {X : Type 0} (p : X → Bool) (xs : List X) (i : ℕ) (x y : X) → filter p (take i xs) ≡ x ∷ [] → i < length xs → y ≡ get_or xs i y → p y ≡ true
    → filter p xs ≡ x ∷ y ∷ filter p (drop (suc i) xs)
two_found {X} p xs i x y one within here passes =
    ap (filter p) (sym (take-append-drop i xs)) ∙ filter-append p (take i xs) (drop i xs)
    ∙ ap (λ (r : List X). r ++ filter p (drop i xs)) one
    ∙ ap (λ (r : List X). x ∷ filter p r) (drop-cons xs i y within ∙ ap (λ (z : X). z ∷ drop (suc i) xs) (sym here))
    ∙ ap (λ (r : List X). x ∷ r) (kept p y (drop (suc i) xs) passes)
