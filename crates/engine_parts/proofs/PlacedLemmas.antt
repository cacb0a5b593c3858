-- One pair is put in among those of its run.
use Rattle.std.proofs.Common.{◌≡◌, ℕ, zero, suc, ◌+◌, ◌<◌, ◌≤◌, Bool, true, false, List, [], ◌∷◌, ◌++◌, length, take, drop, refl, sym, ap, ◌∙◌, rules, arith, true≢false}
use Rattle.std.proofs.lemmas.Bool.Decides.{nat_tests}
use Rattle.std.proofs.lemmas.Cmp.{same_from_slice_cmp_tested}
use Rattle.std.specs.Cmp.Lexicographic.{slice_partial_cmp}
use Rattle.std.specs.Ordering.{nat_cmp, is_lt, is_some_and}
use Rattle.std.specs.Prelude.{Some, ◌&&◌, ◌||◌, nat_eq, nat_lt, if◌then◌else◌}
use Rattle.ha_config.specs.Words.{comes_before}
use Rattle.ha_sight.specs.Scripts.{Branch}
use Rattle.ha_ready.specs.ReadyPairs.{changed_at, pairs_from, pairs_of}
use Rattle.ha_ready.proofs.ReadyLemmas.{pairs-same}
use Rattle.engine_parts.specs.Called.{placed}
use Rattle.engine_parts.specs.Lower.{Ascends, earlier_at, is_earlier, lower, put_in}

below : (a b : ℕ) → a < b → nat_lt a b ≡ true
below a b lt = search (rules, lt)

not-below : (a b : ℕ) → b ≤ a → nat_lt a b ≡ false
not-below a b le = search (rules, le)

is-below : (a b : ℕ) → nat_lt a b ≡ true → a < b
is-below a b e = search (rules, e)

above : (a b : ℕ) → nat_lt a b ≡ false → b ≤ a
above a b e = search (rules, e)

self : (a : ℕ) → nat_eq a a ≡ true
self a = search rules

apart : (a b : ℕ) → b < a → nat_eq a b ≡ false
apart a b lt = search (rules, lt)

eq-of : (a b : ℕ) → nat_eq a b ≡ true → a ≡ b
eq-of a b e = search (rules, e)

ne-of : (a b : ℕ) → nat_eq a b ≡ false → a ≡ b → ⊥
ne-of a b e = search (rules, e)

-- LAW: numbers are compared as branches are
pub branch-order : (xs ys : Branch) (r : Bool) → r ≡ is_some_and is_lt (slice_partial_cmp (λ x y. Some (nat_cmp x y)) xs ys) → r ≡ comes_before xs ys
branch-order = same_from_slice_cmp_tested nat_cmp is_lt comes_before refl (λ _ _. refl) (λ _ _. refl) (λ x y xs ys o h. grind (arith, nat_tests))

-- ---- its place

-- up to a place all stands before the pair
abbrev pub Passed : ℕ → Branch → ℕ → List (ℕ × Branch) → Type 0
Passed s b at xs = take at xs ++ put_in s b (drop at xs) ≡ put_in s b xs

-- LAW: so it is with the pairs of earlier runs
pub passed-lower : (s : ℕ) (b : Branch) (xs : List (ℕ × Branch)) → Passed s b (lower s xs) xs
passed-lower s b [] = refl
passed-lower s b (x ∷ xs) = by (nat_lt x.0 s) refl (passed-lower s b xs)
  where
    by : (c : Bool) → nat_lt x.0 s ≡ c → Passed s b (lower s xs) xs
        → take (if c then suc (lower s xs) else 0) (x ∷ xs) ++ put_in s b (drop (if c then suc (lower s xs) else 0) (x ∷ xs)) ≡ put_in s b (x ∷ xs)
    by true e h = ap (λ l. x ∷ l) h ∙ (λ i. if sym e i || is_earlier s b x then x ∷ put_in s b xs else (s, b) ∷ x ∷ xs)
    by false e h = refl

or-true : (a : Bool) → (a || true) ≡ true
or-true true = refl
or-true false = refl

-- LAW: and with one more of an earlier branch
pub passed-next : (s : ℕ) (b : Branch) (at : ℕ) (xs : List (ℕ × Branch)) → earlier_at s b at xs ≡ true → Passed s b at xs → Passed s b (suc at) xs
passed-next s b at xs e h = moved at xs e ∙ h
  where
    moved : (at : ℕ) (ys : List (ℕ × Branch)) → earlier_at s b at ys ≡ true → take (suc at) ys ++ put_in s b (drop (suc at) ys) ≡ take at ys ++ put_in s b (drop at ys)
    moved at [] e' = absurd (true≢false (sym e'))
    moved zero (y ∷ ys) e' =
        (λ i. if sym (or-true (nat_lt y.0 s)) i then y ∷ put_in s b ys else (s, b) ∷ y ∷ ys) ∙ (λ i. if nat_lt y.0 s || sym e' i then y ∷ put_in s b ys else (s, b) ∷ y ∷ ys)
    moved (suc at) (y ∷ ys) e' = ap (λ l. y ∷ l) (moved at ys e')

pub earlier-within : (s : ℕ) (b : Branch) (at : ℕ) (xs : List (ℕ × Branch)) → earlier_at s b at xs ≡ true → at < length xs
earlier-within s b at [] e = absurd (true≢false (sym e))
earlier-within s b zero (x ∷ xs) e = omega arith
earlier-within s b (suc at) (x ∷ xs) e = omega (arith, earlier-within s b at xs e)

-- the pairs from a place on are of this run or later ones
abbrev pub NoneBefore : ℕ → List (ℕ × Branch) → Type 0
NoneBefore s [] = Unit {0}
NoneBefore s (x ∷ xs) = (s ≤ x.0) × NoneBefore s xs

from-ascends : (s n : ℕ) (xs : List (ℕ × Branch)) → s ≤ n → Ascends n xs → NoneBefore s xs
from-ascends s n [] le h = tt
from-ascends s n (x ∷ xs) le h = (omega (arith, le, h.0), from-ascends s x.0 xs (omega (arith, le, h.0)) h.1)

-- LAW: so it is behind those of earlier runs
pub none-behind : (s n : ℕ) (xs : List (ℕ × Branch)) → Ascends n xs → NoneBefore s (drop (lower s xs) xs)
none-behind s n [] h = tt
none-behind s n (x ∷ xs) h = by (nat_lt x.0 s) refl (none-behind s x.0 xs h.1)
  where
    by : (c : Bool) → nat_lt x.0 s ≡ c → NoneBefore s (drop (lower s xs) xs) → NoneBefore s (drop (if c then suc (lower s xs) else 0) (x ∷ xs))
    by true e rest = rest
    by false e rest = (above x.0 s e, from-ascends s x.0 xs (above x.0 s e) h.1)

pub none-next : (s at : ℕ) (xs : List (ℕ × Branch)) → NoneBefore s (drop at xs) → NoneBefore s (drop (suc at) xs)
none-next s at [] h = tt
none-next s zero (x ∷ xs) h = h.1
none-next s (suc at) (x ∷ xs) h = none-next s at xs h

-- LAW: where none of its run's earlier branches stands next, the pair belongs there
pub put-there : (s : ℕ) (b : Branch) (at : ℕ) (xs : List (ℕ × Branch)) → earlier_at s b at xs ≡ false → NoneBefore s (drop at xs) → put_in s b (drop at xs) ≡ (s, b) ∷ drop at xs
put-there s b zero [] e h = refl
put-there s b (suc at) [] e h = refl
put-there s b zero (x ∷ xs) e h = (λ i. if not-below x.0 s h.0 i || e i then x ∷ put_in s b xs else (s, b) ∷ x ∷ xs)
put-there s b (suc at) (x ∷ xs) e h = put-there s b at xs e h

-- ---- among the pairs of all runs

-- in its run it stands among the branches
run-put : (s : ℕ) (b : Branch) (bs : List Branch) (rest : List (ℕ × Branch)) → put_in s b rest ≡ (s, b) ∷ rest → put_in s b (pairs_of s bs ++ rest) ≡ pairs_of s (placed b bs) ++ rest
run-put s b [] rest h = h
run-put s b (c ∷ cs) rest h =
    (λ i. if not-below s s (omega arith) i || (self s i && comes_before c b) then (s, c) ∷ put_in s b (pairs_of s cs ++ rest) else (s, b) ∷ (s, c) ∷ (pairs_of s cs ++ rest))
    ∙ by (comes_before c b) (run-put s b cs rest h)
  where
    by : (d : Bool) → put_in s b (pairs_of s cs ++ rest) ≡ pairs_of s (placed b cs) ++ rest
        → (if d then (s, c) ∷ put_in s b (pairs_of s cs ++ rest) else (s, b) ∷ (s, c) ∷ (pairs_of s cs ++ rest)) ≡ pairs_of s (if d then c ∷ placed b cs else b ∷ c ∷ cs) ++ rest
    by true rec = ap (λ l. (s, c) ∷ l) rec
    by false rec = refl

-- behind the pairs of an earlier run
pass-put : (s q : ℕ) (b : Branch) (bs : List Branch) (rest : List (ℕ × Branch)) → q < s → put_in s b (pairs_of q bs ++ rest) ≡ pairs_of q bs ++ put_in s b rest
pass-put s q b [] rest lt = refl
pass-put s q b (c ∷ cs) rest lt =
    (λ i. if below q s lt i || is_earlier s b (q, c) then (q, c) ∷ put_in s b (pairs_of q cs ++ rest) else (s, b) ∷ (q, c) ∷ (pairs_of q cs ++ rest))
    ∙ ap (λ l. (q, c) ∷ l) (pass-put s q b cs rest lt)

-- and before those of later ones
later-put : (s n m : ℕ) (b : Branch) (by : ℕ → List Branch) → s ≤ n → put_in s b (pairs_from n m by) ≡ (s, b) ∷ pairs_from n m by
later-put s n zero b by le = refl
later-put s n (suc m) b by le = one (by (suc n)) (later-put s (suc n) m b by (omega (arith, le)))
  where
    one : (bs : List Branch) → put_in s b (pairs_from (suc n) m by) ≡ (s, b) ∷ pairs_from (suc n) m by
        → put_in s b (pairs_of (suc n) bs ++ pairs_from (suc n) m by) ≡ (s, b) ∷ (pairs_of (suc n) bs ++ pairs_from (suc n) m by)
    one [] rec = rec
    one (c ∷ cs) rec =
        (λ i. if not-below (suc n) s (omega (arith, le)) i || (apart (suc n) s (omega (arith, le)) i && comes_before c b)
        then (suc n, c) ∷ put_in s b (pairs_of (suc n) cs ++ pairs_from (suc n) m by) else (s, b) ∷ (suc n, c) ∷ (pairs_of (suc n) cs ++ pairs_from (suc n) m by))

-- LAW: the pairs of all runs with one more of a run
pub put-from : (s n m : ℕ) (b : Branch) (by : ℕ → List Branch) → n < s → s ≤ n + m → put_in s b (pairs_from n m by) ≡ pairs_from n m (changed_at s (placed b (by s)) by)
put-from s n zero b by lt le = absurd (omega (arith, lt, le))
put-from s n (suc m) b by lt le = one (nat_eq (suc n) s) refl (λ lt' le'. put-from s (suc n) m b by lt' le')
  where
    same-rest : suc n ≡ s → pairs_from (suc n) m by ≡ pairs_from (suc n) m (changed_at s (placed b (by s)) by)
    same-rest e = pairs-same (suc n) m by (changed_at s (placed b (by s)) by) (λ q low high. (λ i. if sym (apart q s (omega (arith, e, low))) i then placed b (by s) else by q))

    one : (c : Bool) → nat_eq (suc n) s ≡ c → (suc n < s → s ≤ suc n + m → put_in s b (pairs_from (suc n) m by) ≡ pairs_from (suc n) m (changed_at s (placed b (by s)) by))
        → put_in s b (pairs_of (suc n) (by (suc n)) ++ pairs_from (suc n) m by) ≡ pairs_of (suc n) (if c then placed b (by s) else by (suc n)) ++ pairs_from (suc n) m (changed_at s (placed b (by s)) by)
    one true e rec =
        (let here : suc n ≡ s = eq-of (suc n) s e in
        (λ i. put_in s b (pairs_of (here i) (by (here i)) ++ pairs_from (suc n) m by))
        ∙ run-put s b (by s) (pairs_from (suc n) m by) (later-put s (suc n) m b by (omega (arith, here)))
        ∙ (λ i. pairs_of (sym here i) (placed b (by s)) ++ same-rest here i))
    one false e rec =
        (let less : suc n < s = omega (arith, lt, ne-of (suc n) s e) in
        pass-put s (suc n) b (by (suc n)) (pairs_from (suc n) m by) less ∙ ap (λ l. pairs_of (suc n) (by (suc n)) ++ l) (rec less (omega (arith, le))))
