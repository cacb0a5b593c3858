-- Keys that come once in their map.
use Rattle.std.proofs.Common.{◌≡◌, ℕ, Bool, true, false, ◌||◌, ◌⊎◌, inl, inr, List, [], ◌∷◌, ◌++◌, refl, sym, ap, subst, ◌∙◌}
use Rattle.std.specs.Str.{bytes_eq}
use Rattle.std.proofs.lemmas.List.Folds.{list_any-append}
use Rattle.std.proofs.lemmas.Slice.Eq.{bytes_eq-Decides}
use Rattle.yaml_tree.specs.Nodes.{Pair, has_key}
use Rattle.yaml_tree.proofs.LinesFound.{tested, or_false}

-- no key of the one is a key of the other
abbrev pub Apart : List Pair → List Pair → Type 0
Apart found ps = (q : List ℕ) → has_key found q ≡ true → has_key ps q ≡ false

same : (k : List ℕ) → bytes_eq k k ≡ true
same k = (bytes_eq-Decides k k).1 refl

one_more : (found : List Pair) (p : Pair) (q : List ℕ) → has_key (found ++ p ∷ []) q ≡ (has_key found q || (bytes_eq p.0 q || false))
one_more found p q = list_any-append (λ (pair : Pair). bytes_eq pair.0 q) found (p ∷ [])

or_right : (a : Bool) → (a || (true || false)) ≡ true
or_right true = refl
or_right false = refl

or_split : (a b : Bool) → (a || (b || false)) ≡ true → (a ≡ true) ⊎ (b ≡ true)
or_split true b e = inl refl
or_split false true e = inr refl
or_split false false e = absurd cc

not_both : (b : Bool) → b ≡ true → b ≡ false → ⊥
not_both true e f = cc
not_both false e f = cc

pub apart_none : (ps : List Pair) → Apart [] ps
apart_none ps q e = absurd cc

pub apart_new : (found ps : List Pair) (p : Pair) → Apart found (p ∷ ps) → has_key found p.0 ≡ false
apart_new found ps p a = elim (tested (has_key found p.0)) [
  | inr h ↦ h
  | inl h ↦ absurd (not_both (bytes_eq p.0 p.0) (same p.0) (or_false (bytes_eq p.0 p.0) (has_key ps p.0) (a p.0 h)).0)
]

pub apart_next : (found ps : List Pair) (p : Pair) → Apart found (p ∷ ps) → has_key ps p.0 ≡ false → Apart (found ++ p ∷ []) ps
apart_next found ps p a new q e = elim (or_split (has_key found q) (bytes_eq p.0 q) (sym (one_more found p q) ∙ e)) [
  | inl h ↦ (or_false (bytes_eq p.0 q) (has_key ps q) (a q h)).1
  | inr h ↦ subst (λ (k : List ℕ). has_key ps k ≡ false) ((bytes_eq-Decides p.0 q).0 h) new
]

pub apart_first : (found ps : List Pair) (p : Pair) → Apart (found ++ p ∷ []) ps → has_key ps p.0 ≡ false
apart_first found ps p a = a p.0 (one_more found p p.0 ∙ ap (λ (b : Bool). has_key found p.0 || (b || false)) (same p.0) ∙ or_right (has_key found p.0))

pub apart_more : (found ps : List Pair) (p : Pair) → has_key found p.0 ≡ false → Apart (found ++ p ∷ []) ps → Apart found (p ∷ ps)
apart_more found ps p new a q e =
    let later : has_key ps q ≡ false = a q (one_more found p q ∙ ap (λ (b : Bool). b || (bytes_eq p.0 q || false)) e) in
    elim (tested (bytes_eq p.0 q)) [
      | inr h ↦ rw (h, later) refl
      | inl h ↦ absurd (not_both (has_key found q) e (subst (λ (k : List ℕ). has_key found k ≡ false) ((bytes_eq-Decides p.0 q).0 h) new))
    ]

pub apart_last : (found : List Pair) → Apart found []
apart_last found q e = refl
