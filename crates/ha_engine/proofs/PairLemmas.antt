-- Lists of the same names, in the order of the names.
use Rattle.std.proofs.Common.{◌≡◌, List, [], ◌∷◌, map, Bool, true, false, refl, ◌∙◌}
use Rattle.std.specs.Prelude.{not, ◌||◌, ◌&&◌, if◌then◌else◌}
use Rattle.std.specs.List.{list_any}
use Rattle.ha_config.specs.StoreText.{in_name_order, placed_by_name}
use Rattle.ha_config.specs.Words.{Text, comes_before, same}
use Rattle.ha_config.proofs.EqualLemmas.{same-refl}
use Rattle.ha_whole.specs.Whole.{same_pairs_by}

module _ {X : Type 0} (alike : X → X → Bool) where
  -- the same names one beside the other
  abbrev pub AreBeside : List (Text × X) → List (Text × X) → Type 0
  AreBeside [] [] = Unit {0}
  AreBeside (p ∷ ps) (q ∷ qs) = (p.0 ≡ q.0) × AreBeside ps qs
  AreBeside [] (q ∷ qs) = ⊥
  AreBeside (p ∷ ps) [] = ⊥

  abbrev pub any_differs : List (Text × X) → List (Text × X) → Bool
  any_differs [] qs = false
  any_differs (p ∷ ps) [] = false
  any_differs (p ∷ ps) (q ∷ qs) = not (alike p.1 q.1) || any_differs ps qs

  placed-beside : (p q : Text × X) → p.0 ≡ q.0 → (ps qs : List (Text × X)) → AreBeside ps qs → AreBeside (placed_by_name p ps) (placed_by_name q qs)
  placed-beside p q e [] [] h = (e, tt)
  placed-beside p q e [] (y ∷ ys) h = absurd h
  placed-beside p q e (x ∷ xs) [] h = absurd h
  placed-beside p q e (x ∷ xs) (y ∷ ys) h = by (comes_before p.0 x.0) (comes_before q.0 y.0) (λ i. comes_before (e i) (h.0 i)) (placed-beside p q e xs ys h.1)
    where
      by : (a b : Bool) → a ≡ b → AreBeside (placed_by_name p xs) (placed_by_name q ys)
          → AreBeside (if a then p ∷ x ∷ xs else x ∷ placed_by_name p xs) (if b then q ∷ y ∷ ys else y ∷ placed_by_name q ys)
      by true true s rest = (e, (h.0, h.1))
      by false false s rest = (h.0, rest)
      by true false s rest = absurd (cc)
      by false true s rest = absurd (cc)

  swapped : (a b c : Bool) → (a || (b || c)) ≡ (b || (a || c))
  swapped true true c = refl
  swapped true false c = refl
  swapped false b c = refl

  placed-differs : (p q : Text × X) → p.0 ≡ q.0 → (ps qs : List (Text × X)) → AreBeside ps qs → any_differs (placed_by_name p ps) (placed_by_name q qs) ≡ (not (alike p.1 q.1) || any_differs ps qs)
  placed-differs p q e [] [] h = refl
  placed-differs p q e [] (y ∷ ys) h = absurd h
  placed-differs p q e (x ∷ xs) [] h = absurd h
  placed-differs p q e (x ∷ xs) (y ∷ ys) h = by (comes_before p.0 x.0) (comes_before q.0 y.0) (λ i. comes_before (e i) (h.0 i)) (placed-differs p q e xs ys h.1)
    where
      by : (a b : Bool) → a ≡ b → any_differs (placed_by_name p xs) (placed_by_name q ys) ≡ (not (alike p.1 q.1) || any_differs xs ys)
          → any_differs (if a then p ∷ x ∷ xs else x ∷ placed_by_name p xs) (if b then q ∷ y ∷ ys else y ∷ placed_by_name q ys) ≡ (not (alike p.1 q.1) || (not (alike x.1 y.1) || any_differs xs ys))
      by true true s rest = refl
      by false false s rest = (λ i. not (alike x.1 y.1) || rest i) ∙ swapped (not (alike x.1 y.1)) (not (alike p.1 q.1)) (any_differs xs ys)
      by true false s rest = absurd (cc)
      by false true s rest = absurd (cc)

  order-beside : (ps qs : List (Text × X)) → AreBeside ps qs → AreBeside (in_name_order ps) (in_name_order qs)
  order-beside [] [] h = tt
  order-beside [] (q ∷ qs) h = absurd h
  order-beside (p ∷ ps) [] h = absurd h
  order-beside (p ∷ ps) (q ∷ qs) h = placed-beside p q h.0 (in_name_order ps) (in_name_order qs) (order-beside ps qs h.1)

  order-differs : (ps qs : List (Text × X)) → AreBeside ps qs → any_differs (in_name_order ps) (in_name_order qs) ≡ any_differs ps qs
  order-differs [] [] h = refl
  order-differs [] (q ∷ qs) h = absurd h
  order-differs (p ∷ ps) [] h = absurd h
  order-differs (p ∷ ps) (q ∷ qs) h =
      placed-differs p q h.0 (in_name_order ps) (in_name_order qs) (order-beside ps qs h.1) ∙ (λ i. not (alike p.1 q.1) || order-differs ps qs h.1 i)

  beside-same : (ps qs : List (Text × X)) → AreBeside ps qs → not (same_pairs_by alike ps qs) ≡ any_differs ps qs
  beside-same [] [] h = refl
  beside-same [] (q ∷ qs) h = absurd h
  beside-same (p ∷ ps) [] h = absurd h
  beside-same (p ∷ ps) (q ∷ qs) h =
      (λ i. not (same (h.0 i) q.0 && alike p.1 q.1 && same_pairs_by alike ps qs))
      ∙ (λ i. not (same-refl q.0 i && alike p.1 q.1 && same_pairs_by alike ps qs))
      ∙ by (alike p.1 q.1) (same_pairs_by alike ps qs) ∙ (λ i. not (alike p.1 q.1) || beside-same ps qs h.1 i)
    where
      by : (a b : Bool) → not (true && a && b) ≡ (not a || not b)
      by true b = refl
      by false b = refl

  -- LAW: in the order of their names they are other pairs exactly where one has another value
  pub order-same : (ps qs : List (Text × X)) → AreBeside ps qs → not (same_pairs_by alike (in_name_order ps) (in_name_order qs)) ≡ any_differs ps qs
  order-same ps qs h = beside-same (in_name_order ps) (in_name_order qs) (order-beside ps qs h) ∙ order-differs ps qs h

  -- pairs that are made of one list by its names
  pub made-beside : {Y : Type 0} (name : Y → Text) (f g : Y → X) (ys : List Y) → AreBeside (map {A = Y} {B = Text × X} (λ y. (name y, f y)) ys) (map {A = Y} {B = Text × X} (λ y. (name y, g y)) ys)
  made-beside name f g [] = tt
  made-beside name f g (y ∷ ys) = (refl, made-beside name f g ys)

  pub made-differs : {Y : Type 0} (name : Y → Text) (f g : Y → X) (ys : List Y)
      → any_differs (map {A = Y} {B = Text × X} (λ y. (name y, f y)) ys) (map {A = Y} {B = Text × X} (λ y. (name y, g y)) ys) ≡ list_any (λ y. not (alike (f y) (g y))) ys
  made-differs name f g [] = refl
  made-differs name f g (y ∷ ys) = (λ i. not (alike (f y) (g y)) || made-differs name f g ys i)

  pub made-same : {Y : Type 0} (name : Y → Text) (f g : Y → X) (ys : List Y)
      → not (same_pairs_by alike (in_name_order (map {A = Y} {B = Text × X} (λ y. (name y, f y)) ys)) (in_name_order (map {A = Y} {B = Text × X} (λ y. (name y, g y)) ys)))
      ≡ list_any (λ y. not (alike (f y) (g y))) ys
  made-same {Y} name f g ys =
      order-same (map {A = Y} {B = Text × X} (λ y. (name y, f y)) ys) (map {A = Y} {B = Text × X} (λ y. (name y, g y)) ys) (made-beside name f g ys) ∙ made-differs name f g ys
