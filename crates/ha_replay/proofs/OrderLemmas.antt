-- Names in their byte order are distinct.
use Rattle.std.proofs.Common.{◌≡◌, ℕ, zero, suc, ◌<◌, ◌≤◌, ◌⊎◌, inl, inr, Bool, true, false, List, [], ◌∷◌, length, drop, get_or, refl, sym, ◌∙◌, arith}
use Rattle.std.proofs.lemmas.Cmp.{same_from_slice_cmp_tested}
use Rattle.std.specs.Ordering.{nat_cmp, is_lt, is_some_and}
use Rattle.std.specs.Cmp.Lexicographic.{slice_partial_cmp}
use Rattle.std.proofs.lemmas.Bool.Decides.{nat_tests}
use Rattle.std.specs.Prelude.{Some, nat_eq, nat_lt, not, ◌&&◌, ◌||◌, if◌then◌else◌}
use Rattle.std.specs.List.{list_any}
use Rattle.ha_config.specs.Words.{Text, comes_before, same}
use Rattle.ha_config.specs.ValueFacts.{all_distinct, keys_of}
use Rattle.ha_config.proofs.EqualLemmas.{same-sound, and_left, and_right}
use Rattle.ha_config.specs.Sound.{are_in_name_order}

below : (a b : ℕ) → nat_lt a b ≡ true → a < b
below a b h = grind (arith, nat_tests)

is-below : (a b : ℕ) → a < b → nat_lt a b ≡ true
is-below a b h = grind (arith, nat_tests)

equal : (a b : ℕ) → nat_eq a b ≡ true → a ≡ b
equal a b h = grind (arith, nat_tests)

not-less : (a b : ℕ) → a ≡ b → nat_lt a b ≡ false
not-less a b h = grind (arith, nat_tests)

is-equal : (a b : ℕ) → a ≡ b → nat_eq a b ≡ true
is-equal a b h = grind (arith, nat_tests)

-- of two texts the first has the lesser byte at the front, or the same and comes first behind it
front-is : (x y : ℕ) (xs ys : Text) → comes_before (x ∷ xs) (y ∷ ys) ≡ true → (x < y) ⊎ ((x ≡ y) × (comes_before xs ys ≡ true))
front-is x y xs ys h = by (nat_lt x y) (nat_eq x y) refl refl h
  where
    by : (s t : Bool) → nat_lt x y ≡ s → nat_eq x y ≡ t → (if s then true else (if t then comes_before xs ys else false)) ≡ true → (x < y) ⊎ ((x ≡ y) × (comes_before xs ys ≡ true))
    by true t e f k = inl (below x y e)
    by false true e f k = inr (equal x y f, k)
    by false false e f k = absurd (cc)

not-itself : (t : Text) → comes_before t t ≡ true → ⊥
not-itself [] h = absurd (cc)
not-itself (x ∷ xs) h = by (front-is x x xs xs h) (not-itself xs)
  where
    by : (x < x) ⊎ ((x ≡ x) × (comes_before xs xs ≡ true)) → (comes_before xs xs ≡ true → ⊥) → ⊥
    by (inl lt) rest = omega (arith, lt)
    by (inr p) rest = rest p.1

further : (a b c : Text) → comes_before a b ≡ true → comes_before b c ≡ true → comes_before a c ≡ true
further [] [] c h k = absurd (cc)
further [] (y ∷ b) [] h k = absurd (cc)
further [] (y ∷ b) (z ∷ c) h k = refl
further (x ∷ a) [] c h k = absurd (cc)
further (x ∷ a) (y ∷ b) [] h k = absurd (cc)
further (x ∷ a) (y ∷ b) (z ∷ c) h k = by (front-is x y a b h) (front-is y z b c k) (further a b c)
  where
    first : x < z → comes_before (x ∷ a) (z ∷ c) ≡ true
    first lt = rw (is-below x z lt) refl

    by : (x < y) ⊎ ((x ≡ y) × (comes_before a b ≡ true)) → (y < z) ⊎ ((y ≡ z) × (comes_before b c ≡ true))
        → (comes_before a b ≡ true → comes_before b c ≡ true → comes_before a c ≡ true) → comes_before (x ∷ a) (z ∷ c) ≡ true
    by (inl p) (inl q) rest = first (omega (arith, p, q))
    by (inl p) (inr q) rest = first (omega (arith, p, q.0))
    by (inr p) (inl q) rest = first (omega (arith, p.0, q))
    by (inr p) (inr q) rest = rw (not-less x z (p.0 ∙ q.0), is-equal x z (p.0 ∙ q.0)) (rest p.1 q.1)

other-than : (t u : Text) → comes_before t u ≡ true → same t u ≡ false
other-than t u h = by (same t u) refl
  where
    by : (b : Bool) → same t u ≡ b → same t u ≡ false
    by true e = absurd (not-itself t ((λ i. comes_before t (same-sound t u e i)) ∙ h))
    by false e = e

-- a name that comes before the first of these
abbrev FrontAfter : {X : Type 0} → Text → List (Text × X) → Type 0
FrontAfter t [] = Unit {0}
FrontAfter t (p ∷ ps) = comes_before t p.0 ≡ true

-- it is none of them, where they stand in order
not-among : {X : Type 0} (t : Text) (ps : List (Text × X)) → are_in_name_order ps ≡ true → FrontAfter t ps → list_any (same t) (keys_of ps) ≡ false
not-among t [] h front = refl
not-among t (p ∷ []) h front = (λ i. other-than t p.0 front i || false)
not-among t (p ∷ q ∷ qs) h front =
    let before = and_left (comes_before p.0 q.0) (are_in_name_order (q ∷ qs)) h in
    let rest = not-among t (q ∷ qs) (and_right (comes_before p.0 q.0) (are_in_name_order (q ∷ qs)) h) (further t p.0 q.0 front before) in
    (λ i. other-than t p.0 front i || rest i)

-- LAW: names in their order are distinct
pub ordered-distinct : {X : Type 0} (ps : List (Text × X)) → are_in_name_order ps ≡ true → all_distinct (keys_of ps) ≡ true
ordered-distinct [] h = refl
ordered-distinct (p ∷ []) h = refl
ordered-distinct (p ∷ q ∷ qs) h =
    let rest = and_right (comes_before p.0 q.0) (are_in_name_order (q ∷ qs)) h in
    let none = not-among p.0 (q ∷ qs) rest (and_left (comes_before p.0 q.0) (are_in_name_order (q ∷ qs)) h) in
    (λ i. not (none i) && ordered-distinct (q ∷ qs) rest i)

-- ---- the tests

pub text-order : (xs ys : Text) (r : Bool) → r ≡ is_some_and is_lt (slice_partial_cmp (λ x y. Some (nat_cmp x y)) xs ys) → r ≡ comes_before xs ys
text-order = same_from_slice_cmp_tested nat_cmp is_lt comes_before refl (λ _ _. refl) (λ _ _. refl) (λ x y xs ys o h. grind (arith, nat_tests))

few : (m n : ℕ) → m < n → n ≤ m → ⊥
few m n lt le = omega (arith, lt, le)

-- from a place on the names stand in order where its two do, and those from the next place on
in-order-from : {X : Type 0} (xs : List (Text × X)) (k : ℕ) (d : Text × X) → suc k < length xs
    → are_in_name_order (drop k xs) ≡ (comes_before (get_or xs k d).0 (get_or xs (suc k) d).0 && are_in_name_order (drop (suc k) xs))
in-order-from [] k d lt = absurd (few (suc k) 0 lt (omega arith))
in-order-from (x ∷ []) zero d lt = absurd (few 1 1 lt (omega arith))
in-order-from (x ∷ y ∷ ys) zero d lt = refl
in-order-from (x ∷ xs) (suc k) d lt = in-order-from xs k d (omega (arith, lt))

pub in-order-short : {X : Type 0} (xs : List (Text × X)) (k : ℕ) → length xs ≤ suc k → are_in_name_order (drop k xs) ≡ true
in-order-short [] zero le = refl
in-order-short [] (suc k) le = refl
in-order-short (x ∷ []) zero le = refl
in-order-short (x ∷ y ∷ ys) zero le = absurd (few 1 (suc (suc (length ys))) (omega arith) le)
in-order-short (x ∷ xs) (suc k) le = in-order-short xs k (omega (arith, le))

pub in-order-next : {X : Type 0} (xs : List (Text × X)) (k i : ℕ) (d : Text × X) (b : Bool) → i ≡ suc k → i < length xs → comes_before (get_or xs k d).0 (get_or xs i d).0 ≡ b → are_in_name_order (drop k xs) ≡ (b && are_in_name_order (drop i xs))
in-order-next xs k i d b e lt is =
    in-order-from xs k d (omega (arith, e, lt)) ∙ (λ j. comes_before (get_or xs k d).0 (get_or xs (sym e j) d).0 && are_in_name_order (drop (sym e j) xs)) ∙ (λ j. is j && are_in_name_order (drop i xs))
