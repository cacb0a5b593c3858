-- The pairs of one run are put in at their place.
use Rattle.std.proofs.Common.{◌≡◌, ℕ, zero, suc, ◌+◌, ◌<◌, ◌≤◌, List, [], ◌∷◌, ◌++◌, take, drop, Bool, true, false, refl, sym, ap, ◌∙◌, rules, arith}
use Rattle.std.specs.Prelude.{nat_eq, nat_lt, if◌then◌else◌}
use Rattle.ha_sight.specs.Scripts.{Branch}
use Rattle.ha_ready.specs.ReadyPairs.{changed_at, pairs_of, pairs_from}
use Rattle.ha_ready.proofs.ReadyLemmas.{pairs-same}
use Rattle.engine_parts.specs.Lower.{Ascends, lower}

below : (a b : ℕ) → a < b → nat_lt a b ≡ true
below a b lt = search (rules, lt)

not-below : (a b : ℕ) → b ≤ a → nat_lt a b ≡ false
not-below a b le = search (rules, le)

-- behind run s none is lower
none-lower : (s n m : ℕ) (by : ℕ → List Branch) → s ≤ n → lower s (pairs_from n m by) ≡ 0
none-lower s n zero by le = refl
none-lower s n (suc m) by le = one (by (suc n)) (none-lower s (suc n) m by (omega (arith, le)))
  where
    one : (bs : List Branch) → lower s (pairs_from (suc n) m by) ≡ 0 → lower s (pairs_of (suc n) bs ++ pairs_from (suc n) m by) ≡ 0
    one [] rec = rec
    one (b ∷ bs) rec = (λ i. if not-below (suc n) s (omega (arith, le)) i then suc (lower s (pairs_of (suc n) bs ++ pairs_from (suc n) m by)) else 0)

-- ---- the pairs of runs stand by their runs

ascends-from : (n k : ℕ) (xs : List (ℕ × Branch)) → n ≤ k → Ascends k xs → Ascends n xs
ascends-from n k [] le h = tt
ascends-from n k (x ∷ xs) le h = (omega (arith, le, h.0), h.1)

run-ascends : (n k : ℕ) (bs : List Branch) (rest : List (ℕ × Branch)) → n ≤ k → Ascends k rest → Ascends n (pairs_of k bs ++ rest)
run-ascends n k [] rest le h = ascends-from n k rest le h
run-ascends n k (b ∷ bs) rest le h = (le, run-ascends k k bs rest (omega arith) h)

-- LAW
pub pairs-ascend : (n m : ℕ) (by : ℕ → List Branch) → Ascends n (pairs_from n m by)
pairs-ascend n zero by = tt
pairs-ascend n (suc m) by = run-ascends n (suc n) (by (suc n)) (pairs_from (suc n) m by) (omega arith) (pairs-ascend (suc n) m by)

-- ---- where they are put in

-- an earlier run stands before the place
pass-lower : (s q : ℕ) (bs : List Branch) (rest mine : List (ℕ × Branch)) → q < s
    → take (lower s (pairs_of q bs ++ rest)) (pairs_of q bs ++ rest) ++ (mine ++ drop (lower s (pairs_of q bs ++ rest)) (pairs_of q bs ++ rest))
    ≡ pairs_of q bs ++ (take (lower s rest) rest ++ (mine ++ drop (lower s rest) rest))
pass-lower s q [] rest mine lt = refl
pass-lower s q (b ∷ bs) rest mine lt =
    (let n : ℕ = lower s (pairs_of q bs ++ rest) in
    (λ i. take (if below q s lt i then suc n else 0) ((q, b) ∷ (pairs_of q bs ++ rest)) ++ (mine ++ drop (if below q s lt i then suc n else 0) ((q, b) ∷ (pairs_of q bs ++ rest))))
    ∙ ap (λ l. (q, b) ∷ l) (pass-lower s q bs rest mine lt))

-- LAW: put in behind those of earlier runs, they stand at their place
pub put-at : (s n m : ℕ) (bs : List Branch) (by : ℕ → List Branch) → n < s → s ≤ n + m
    → take (lower s (pairs_from n m (changed_at s [] by))) (pairs_from n m (changed_at s [] by)) ++ (pairs_of s bs ++ drop (lower s (pairs_from n m (changed_at s [] by))) (pairs_from n m (changed_at s [] by)))
    ≡ pairs_from n m (changed_at s bs by)
put-at s n zero bs by lt le = absurd (omega (arith, lt, le))
put-at s n (suc m) bs by lt le = one (nat_eq (suc n) s) refl (λ lt' le'. put-at s (suc n) m bs by lt' le')
  where
    eq-of : (a b : ℕ) → nat_eq a b ≡ true → a ≡ b
    eq-of a b e = search (rules, e)

    ne-of : (a b : ℕ) → nat_eq a b ≡ false → a ≡ b → ⊥
    ne-of a b e = search (rules, e)

    apart : (a b : ℕ) → a < b → nat_eq b a ≡ false
    apart a b lt = search (rules, lt)

    rest : List Branch → List (ℕ × Branch)
    rest bs = pairs_from (suc n) m (changed_at s bs by)

    same-rest : suc n ≡ s → rest [] ≡ rest bs
    same-rest e = pairs-same (suc n) m (changed_at s [] by) (changed_at s bs by) (λ q low high. (λ i. if apart s q (omega (arith, e, low)) i then [] else by q) ∙ sym (λ i. if apart s q (omega (arith, e, low)) i then bs else by q))

    one : (c : Bool) → nat_eq (suc n) s ≡ c → (suc n < s → s ≤ suc n + m → take (lower s (rest [])) (rest []) ++ (pairs_of s bs ++ drop (lower s (rest [])) (rest [])) ≡ rest bs)
        → take (lower s (pairs_of (suc n) (if c then [] else by (suc n)) ++ rest [])) (pairs_of (suc n) (if c then [] else by (suc n)) ++ rest []) ++ (pairs_of s bs ++ drop (lower s (pairs_of (suc n) (if c then [] else by (suc n)) ++ rest [])) (pairs_of (suc n) (if c then [] else by (suc n)) ++ rest []))
        ≡ pairs_of (suc n) (if c then bs else by (suc n)) ++ rest bs
    one true e rec =
        (λ i. take (none-lower s (suc n) m (changed_at s [] by) (omega (arith, eq-of (suc n) s e)) i) (rest []) ++ (pairs_of s bs ++ drop (none-lower s (suc n) m (changed_at s [] by) (omega (arith, eq-of (suc n) s e)) i) (rest [])))
        ∙ (λ i. pairs_of (sym (eq-of (suc n) s e) i) bs ++ same-rest (eq-of (suc n) s e) i)
    one false e rec =
        pass-lower s (suc n) (by (suc n)) (rest []) (pairs_of s bs) (omega (arith, lt, ne-of (suc n) s e))
        ∙ ap (λ l. pairs_of (suc n) (by (suc n)) ++ l) (rec (omega (arith, lt, ne-of (suc n) s e)) (omega (arith, le)))

-- ---- one pair more at a place
