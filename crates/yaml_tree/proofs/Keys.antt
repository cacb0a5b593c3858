-- The keys of one pair more.
use Rattle.std.proofs.Common.{◌≡◌, ℕ, Bool, true, false, cond, ◌||◌, List, [], ◌∷◌, ◌++◌, refl, sym, ap, ◌∙◌}
use Rattle.std.specs.Str.{bytes_eq}
use Rattle.std.proofs.lemmas.List.Folds.{list_any-append}
use Rattle.yaml_tree.specs.Nodes.{Pair, has_key}

either : (b s : Bool) → cond b true s ≡ (s || (b || false))
either true true = refl
either true false = refl
either false true = refl
either false false = refl

pub pushed : (pairs : List Pair) (x : Pair) (q : List ℕ) (old new : Bool) → old ≡ has_key pairs q → new ≡ cond (bytes_eq x.0 q) true old → new ≡ has_key (pairs ++ x ∷ []) q
pushed pairs x q old new h e =
    e ∙ ap (λ (s : Bool). cond (bytes_eq x.0 q) true s) h ∙ either (bytes_eq x.0 q) (has_key pairs q) ∙ sym (list_any-append (λ (pair : Pair). bytes_eq pair.0 q) pairs (x ∷ []))
