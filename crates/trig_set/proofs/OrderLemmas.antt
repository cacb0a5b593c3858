-- Owners ascend, with one more and without one.
use Rattle.std.proofs.Common.{◌≡◌, ◌∙◌, ℕ, List, [], ◌∷◌, Bool, true, false, refl, arith, nat_eq}
use Rattle.std.specs.Prelude.{Some, IsNone, not, nat_lt, ◌&&◌, if◌then◌else◌}
use Rattle.std.specs.List.{list_all}
use Rattle.std.proofs.lemmas.Bool.Decides.{nat_tests}
use Rattle.ha_config.proofs.EqualLemmas.{and_left, and_right}
use Rattle.ha_past.specs.Firings.{Owner, owner_named, placed, without_owner}
use Rattle.trig_set.specs.Order.{ascend}

both : (a b : Bool) → a ≡ true → b ≡ true → (a && b) ≡ true
both a b h k = (λ i. h i && b) ∙ k

above-all : (a b : ℕ) (xs : List Owner) → nat_lt a b ≡ true → list_all (λ y. nat_lt b y.owner) xs ≡ true → list_all (λ y. nat_lt a y.owner) xs ≡ true
above-all a b [] lt h = refl
above-all a b (x ∷ xs) lt h =
    let first = and_left (nat_lt b x.owner) (list_all (λ y. nat_lt b y.owner) xs) h in
    both (nat_lt a x.owner) (list_all (λ y. nat_lt a y.owner) xs) (grind (arith, nat_tests, lt, first)) (above-all a b xs lt (and_right (nat_lt b x.owner) _ h))

above-placed : (a : ℕ) (o : Owner) (xs : List Owner) → nat_lt a o.owner ≡ true → list_all (λ y. nat_lt a y.owner) xs ≡ true → list_all (λ y. nat_lt a y.owner) (placed o xs) ≡ true
above-placed a o [] lt h = both (nat_lt a o.owner) true lt refl
above-placed a o (x ∷ xs) lt h = by (nat_lt o.owner x.owner) (above-placed a o xs lt (and_right (nat_lt a x.owner) _ h))
  where
    by : (b : Bool) → list_all (λ y. nat_lt a y.owner) (placed o xs) ≡ true → list_all (λ y. nat_lt a y.owner) (if b then o ∷ x ∷ xs else x ∷ placed o xs) ≡ true
    by true rest = both (nat_lt a o.owner) _ lt h
    by false rest = both (nat_lt a x.owner) _ (and_left (nat_lt a x.owner) _ h) rest

-- LAW: one more owner, of another number
pub placed-ascend : (o : Owner) (owners : List Owner) → IsNone (owner_named o.owner owners) → ascend owners ≡ true → ascend (placed o owners) ≡ true
placed-ascend o [] new h = refl
placed-ascend o (x ∷ xs) new h = by (nat_eq x.owner o.owner) refl new (placed-ascend o xs)
  where
    here : (b : Bool) → nat_lt o.owner x.owner ≡ b → nat_eq x.owner o.owner ≡ false → ascend (placed o xs) ≡ true → ascend (if b then o ∷ x ∷ xs else x ∷ placed o xs) ≡ true
    here true lt other rest =
        both (list_all (λ y. nat_lt o.owner y.owner) (x ∷ xs)) _ (both (nat_lt o.owner x.owner) _ lt (above-all o.owner x.owner xs lt (and_left (list_all (λ y. nat_lt x.owner y.owner) xs) _ h))) h
    here false lt other rest =
        let more : nat_lt x.owner o.owner ≡ true = grind (arith, nat_tests, lt, other) in
        both (list_all (λ y. nat_lt x.owner y.owner) (placed o xs)) _ (above-placed x.owner o xs more (and_left (list_all (λ y. nat_lt x.owner y.owner) xs) _ h)) rest

    by : (b : Bool) → nat_eq x.owner o.owner ≡ b → IsNone (if b then Some x else owner_named o.owner xs) → (IsNone (owner_named o.owner xs) → ascend xs ≡ true → ascend (placed o xs) ≡ true)
        → ascend (if nat_lt o.owner x.owner then o ∷ x ∷ xs else x ∷ placed o xs) ≡ true
    by true same none rest = absurd (let bad : ◌≡◌ {A = Bool} true false = none in cc)
    by false other none rest = here (nat_lt o.owner x.owner) refl other (rest none (and_right (list_all (λ y. nat_lt x.owner y.owner) xs) _ h))

above-without : (a n : ℕ) (xs : List Owner) → list_all (λ y. nat_lt a y.owner) xs ≡ true → list_all (λ y. nat_lt a y.owner) (without_owner n xs) ≡ true
above-without a n [] h = refl
above-without a n (x ∷ xs) h = by (not (nat_eq x.owner n)) (above-without a n xs (and_right (nat_lt a x.owner) _ h))
  where
    by : (b : Bool) → list_all (λ y. nat_lt a y.owner) (without_owner n xs) ≡ true → list_all (λ y. nat_lt a y.owner) (if b then x ∷ without_owner n xs else without_owner n xs) ≡ true
    by true rest = both (nat_lt a x.owner) _ (and_left (nat_lt a x.owner) _ h) rest
    by false rest = rest

-- LAW: without an owner
pub without-ascend : (n : ℕ) (owners : List Owner) → ascend owners ≡ true → ascend (without_owner n owners) ≡ true
without-ascend n [] h = refl
without-ascend n (x ∷ xs) h = by (not (nat_eq x.owner n)) (without-ascend n xs (and_right (list_all (λ y. nat_lt x.owner y.owner) xs) _ h))
  where
    by : (b : Bool) → ascend (without_owner n xs) ≡ true → ascend (if b then x ∷ without_owner n xs else without_owner n xs) ≡ true
    by true rest = both (list_all (λ y. nat_lt x.owner y.owner) (without_owner n xs)) _ (above-without x.owner n xs (and_left (list_all (λ y. nat_lt x.owner y.owner) xs) _ h)) rest
    by false rest = rest
