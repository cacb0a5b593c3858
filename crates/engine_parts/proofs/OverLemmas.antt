-- A pair that is alone gives way to another one of its run.
use Rattle.std.proofs.Common.{◌≡◌, ℕ, suc, ◌+◌, ◌<◌, ◌≤◌, List, [], ◌∷◌, ◌++◌, length, filter, slice_set, Bool, true, false, refl, sym, ap, subst, ◌∙◌, rules, arith, add-one}
use Rattle.std.specs.Prelude.{not, ◌&&◌, nat_eq, nat_lt, if◌then◌else◌}
use Rattle.ha_sight.specs.Scripts.{Branch}
use Rattle.ha_ready.specs.ReadyPairs.{with_run}
use Rattle.engine_parts.specs.Lower.{Ascends, has_one, lower, stands_at}
use Rattle.engine_parts.proofs.LowerLemmas.{less, late, stands-within}

abbrev earlier : ℕ → List (ℕ × Branch) → List (ℕ × Branch)
earlier s xs = filter (λ (x : ℕ × Branch). nat_lt x.0 s) xs

abbrev later : ℕ → List (ℕ × Branch) → List (ℕ × Branch)
later s xs = filter (λ (x : ℕ × Branch). nat_lt s x.0) xs

above : (a b : ℕ) → a < b → nat_lt a b ≡ true
above a b lt = search (rules, lt)

not-above : (a b : ℕ) → b ≤ a → nat_lt a b ≡ false
not-above a b le = search (rules, le)

eq-of : (a b : ℕ) → nat_eq a b ≡ true → a ≡ b
eq-of a b e = search (rules, e)

ne-of : (a b : ℕ) → nat_eq a b ≡ false → a ≡ b → ⊥
ne-of a b e = search (rules, e)

-- behind one of this run none is earlier
none-earlier : (s n : ℕ) (xs : List (ℕ × Branch)) → s ≤ n → Ascends n xs → earlier s xs ≡ []
none-earlier s n [] le h = refl
none-earlier s n (x ∷ xs) le h =
    (λ i. if not-above x.0 s (omega (arith, le, h.0)) i then x ∷ earlier s xs else earlier s xs) ∙ none-earlier s x.0 xs (omega (arith, le, h.0)) h.1

-- behind one of a later run all are later
all-later : (s n : ℕ) (xs : List (ℕ × Branch)) → s < n → Ascends n xs → later s xs ≡ xs
all-later s n [] lt h = refl
all-later s n (x ∷ xs) lt h =
    (λ i. if above s x.0 (omega (arith, lt, h.0)) i then x ∷ later s xs else later s xs) ∙ ap (λ l. x ∷ l) (all-later s x.0 xs (omega (arith, lt, h.0)) h.1)

-- behind the only one of this run all are later
rest-later : (s n : ℕ) (xs : List (ℕ × Branch)) → s ≤ n → Ascends n xs → stands_at s 0 xs ≡ false → later s xs ≡ xs
rest-later s n [] le h e = refl
rest-later s n (x ∷ xs) le h e =
    let lt : s < x.0 = omega (arith, le, h.0, ne-of x.0 s e) in
    (λ i. if above s x.0 lt i then x ∷ later s xs else later s xs) ∙ ap (λ l. x ∷ l) (all-later s x.0 xs lt h.1)

both : (a b : Bool) → (a && not b) ≡ true → (a ≡ true) × (b ≡ false)
both true false e = (refl, refl)
both true true e = cc
both false b e = cc

over : (s n : ℕ) (b : Branch) (xs : List (ℕ × Branch)) → Ascends n xs → stands_at s (lower s xs) xs ≡ true → stands_at s (suc (lower s xs)) xs ≡ false
    → slice_set xs (lower s xs) (s, b) ≡ earlier s xs ++ (s, b) ∷ later s xs
over s n b [] h e f = cc
over s n b (x ∷ xs) h e f = by (nat_lt x.0 s) refl (over s x.0 b xs h.1) e f
  where
    by : (c : Bool) → nat_lt x.0 s ≡ c
        → (stands_at s (lower s xs) xs ≡ true → stands_at s (suc (lower s xs)) xs ≡ false → slice_set xs (lower s xs) (s, b) ≡ earlier s xs ++ (s, b) ∷ later s xs)
        → stands_at s (if c then suc (lower s xs) else 0) (x ∷ xs) ≡ true → stands_at s (suc (if c then suc (lower s xs) else 0)) (x ∷ xs) ≡ false
        → slice_set (x ∷ xs) (if c then suc (lower s xs) else 0) (s, b)
        ≡ (if c then x ∷ earlier s xs else earlier s xs) ++ (s, b) ∷ (if nat_lt s x.0 then x ∷ later s xs else later s xs)
    by true g ih e f =
        let lt : x.0 < s = less x.0 s g in
        ap (λ l. x ∷ l) (ih e f)
        ∙ (λ i. x ∷ (earlier s xs ++ (s, b) ∷ (if sym (not-above s x.0 (omega (arith, lt))) i then x ∷ later s xs else later s xs)))
    by false g ih e f =
        let same : x.0 ≡ s = eq-of x.0 s e in
        let le : s ≤ x.0 = late x.0 s g in
        (λ i. sym (none-earlier s x.0 xs le h.1) i ++ (s, b) ∷ sym (rest-later s x.0 xs le h.1 f) i)
        ∙ (λ i. earlier s xs ++ (s, b) ∷ (if sym (not-above s x.0 (omega (arith, same))) i then x ∷ later s xs else later s xs))

-- LAW: the only pair of a run gives way to one
pub put-over : (s n at : ℕ) (bs : List Branch) (b : Branch) (xs : List (ℕ × Branch)) → Ascends n xs → at ≡ lower s xs → bs ≡ b ∷ [] → has_one s at xs ≡ true
    → slice_set xs at (s, b) ≡ with_run s bs xs
put-over s n at bs b xs h is one e =
    let both_of = both (stands_at s (lower s xs) xs) (stands_at s (lower s xs + 1) xs) (subst (λ k. has_one s k xs ≡ true) is e) in
    (λ i. slice_set xs (is i) (s, b)) ∙ over s n b xs h both_of.0 (subst (λ k. stands_at s k xs ≡ false) (add-one (lower s xs)) both_of.1) ∙ (λ i. with_run s (sym one i) xs)

-- what the test of a run's only pair says
pub one-said : (s at : ℕ) (bs : List Branch) (xs : List (ℕ × Branch)) (r : Bool) → r ≡ (nat_eq (length bs) 1 && has_one s at xs) → r ≡ true → (length bs ≡ 1) × (has_one s at xs ≡ true) × (at < length xs)
one-said s at bs xs r is so = by (nat_eq (length bs) 1) refl (sym is ∙ so)
  where
    by : (c : Bool) → nat_eq (length bs) 1 ≡ c → (c && has_one s at xs) ≡ true → (length bs ≡ 1) × (has_one s at xs ≡ true) × (at < length xs)
    by true e h = (eq-of (length bs) 1 e, h, stands-within s at xs (both (stands_at s at xs) (stands_at s (at + 1) xs) h).0)
    by false e h = cc
