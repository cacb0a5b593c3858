-- Pairs that stand by their runs.
use Rattle.std.proofs.Common.{◌≡◌, ℕ, zero, suc, ◌+◌, ◌<◌, ◌≤◌, List, [], ◌∷◌, ◌++◌, length, take, drop, filter, get_or, Bool, true, false, refl, sym, ap, subst, ◌∙◌, rules, arith}
use Rattle.std.specs.Prelude.{not, nat_eq, nat_lt, if◌then◌else◌}
use Rattle.ha_sight.specs.Scripts.{Branch}
use Rattle.engine_parts.specs.Lower.{Ascends, lower, stands_at}

below : (a b : ℕ) → a < b → nat_lt a b ≡ true
below a b lt = search (rules, lt)

not-below : (a b : ℕ) → b ≤ a → nat_lt a b ≡ false
not-below a b le = search (rules, le)

eq-of : (a b : ℕ) → nat_eq a b ≡ true → a ≡ b
eq-of a b e = search (rules, e)

ne-of : (a b : ℕ) → nat_eq a b ≡ false → a ≡ b → ⊥
ne-of a b e = search (rules, e)

pub less : (a b : ℕ) → nat_lt a b ≡ true → a < b
less a b e = search (rules, e)

pub late : (a b : ℕ) → nat_lt a b ≡ false → b ≤ a
late a b e = search (rules, e)

apart-below : (a b : ℕ) → a < b → nat_eq a b ≡ false
apart-below a b lt = search (rules, lt)

apart-above : (a b : ℕ) → b < a → nat_eq a b ≡ false
apart-above a b lt = search (rules, lt)

abbrev pub others : ℕ → List (ℕ × Branch) → List (ℕ × Branch)
others s xs = filter (λ (x : ℕ × Branch). not (nat_eq x.0 s)) xs

-- ---- the search

ascends-at : (n i : ℕ) (xs : List (ℕ × Branch)) (d : ℕ × Branch) → Ascends n xs → i < length xs → n ≤ (get_or xs i d).0
ascends-at n i [] d h lt = absurd (omega (arith, lt))
ascends-at n zero (x ∷ xs) d h lt = h.0
ascends-at n (suc i) (x ∷ xs) d h lt = omega (arith, h.0, ascends-at x.0 i xs d h.1 (omega (arith, lt)))

pub lower-within : (s : ℕ) (xs : List (ℕ × Branch)) → lower s xs ≤ length xs
lower-within s [] = omega arith
lower-within s (x ∷ xs) = by (nat_lt x.0 s) (lower-within s xs)
  where
    by : (b : Bool) → lower s xs ≤ length xs → (if b then suc (lower s xs) else 0) ≤ suc (length xs)
    by true h = omega (arith, h)
    by false h = omega arith

-- LAW: a pair of an earlier run stands in front of the place
pub passed-lower : (s n i : ℕ) (xs : List (ℕ × Branch)) (d : ℕ × Branch) → Ascends n xs → i < length xs → (get_or xs i d).0 < s → i + 1 ≤ lower s xs
passed-lower s n i [] d h lt early = absurd (omega (arith, lt))
passed-lower s n zero (x ∷ xs) d h lt early = subst (λ b. 1 ≤ (if b then suc (lower s xs) else 0)) (sym (below x.0 s early)) (omega arith)
passed-lower s n (suc i) (x ∷ xs) d h lt early =
    (let first = ascends-at x.0 i xs d h.1 (omega (arith, lt)) in
    let rest = passed-lower s x.0 i xs d h.1 (omega (arith, lt)) early in
    subst (λ b. suc i + 1 ≤ (if b then suc (lower s xs) else 0)) (sym (below x.0 s (omega (arith, first, early)))) (omega (arith, rest)))

-- LAW: one of this run or a later one does not
pub reached-lower : (s i : ℕ) (xs : List (ℕ × Branch)) (d : ℕ × Branch) → i < length xs → s ≤ (get_or xs i d).0 → lower s xs ≤ i
reached-lower s i [] d lt late = absurd (omega (arith, lt))
reached-lower s zero (x ∷ xs) d lt late = subst (λ b. (if b then suc (lower s xs) else 0) ≤ 0) (sym (not-below x.0 s late)) (omega arith)
reached-lower s (suc i) (x ∷ xs) d lt late = by (nat_lt x.0 s) (reached-lower s i xs d (omega (arith, lt)) late)
  where
    by : (b : Bool) → lower s xs ≤ i → (if b then suc (lower s xs) else 0) ≤ suc i
    by true h = omega (arith, h)
    by false h = omega arith

-- ---- the pairs that are taken out

-- up to this place the others are kept, and behind it none is of an earlier run
pub record CutTo (s at : ℕ) (old new : List (ℕ × Branch)) : Type 0 where
  pub rest : take at new ++ others s (drop at new) ≡ others s old
  pub behind : Ascends s (drop at new)

others-first : (s : ℕ) (x : ℕ × Branch) (xs : List (ℕ × Branch)) → nat_eq x.0 s ≡ false → others s (x ∷ xs) ≡ x ∷ others s xs
others-first s x xs e = (λ i. if not (e i) then x ∷ others s xs else others s xs)

pub cut-begins : (s n : ℕ) (xs : List (ℕ × Branch)) → Ascends n xs → CutTo s (lower s xs) xs xs
cut-begins s n [] h = record { rest = refl; behind = tt }
cut-begins s n (x ∷ xs) h = by (nat_lt x.0 s) refl (cut-begins s x.0 xs h.1)
  where
    by : (b : Bool) → nat_lt x.0 s ≡ b → CutTo s (lower s xs) xs xs → CutTo s (if b then suc (lower s xs) else 0) (x ∷ xs) (x ∷ xs)
    by true e c = record { rest = ap (λ l. x ∷ l) c.rest ∙ sym (others-first s x xs (apart-below x.0 s (less x.0 s e))); behind = c.behind }
    by false e c = record { rest = refl; behind = (late x.0 s e, h.1) }

-- what stands behind a place, when the pair there is taken out
drop-cut : {X : Type 0} (at : ℕ) (xs : List X) → at < length xs → drop at (take at xs ++ drop (suc at) xs) ≡ drop (suc at) xs
drop-cut at [] lt = absurd (omega (arith, lt))
drop-cut zero (x ∷ xs) lt = none xs
  where
    none : {X : Type 0} (zs : List X) → drop zero zs ≡ drop zero zs
    none zs = refl
drop-cut (suc at) (x ∷ xs) lt = drop-cut at xs (omega (arith, lt))

ascends-next : (s at : ℕ) (xs : List (ℕ × Branch)) → stands_at s at xs ≡ true → Ascends s (drop at xs) → Ascends s (drop (suc at) xs)
ascends-next s at [] e h = cc
ascends-next s zero (x ∷ xs) e h = subst (λ n. Ascends n xs) (eq-of x.0 s e) h.1
ascends-next s (suc at) (x ∷ xs) e h = ascends-next s at xs e h

cut-one : (s at : ℕ) (xs : List (ℕ × Branch)) → stands_at s at xs ≡ true
    → take at (take at xs ++ drop (suc at) xs) ++ others s (drop at (take at xs ++ drop (suc at) xs)) ≡ take at xs ++ others s (drop at xs)
cut-one s at [] e = cc
cut-one s zero (x ∷ xs) e = (λ k. if not (sym e k) then x ∷ others s xs else others s xs)
cut-one s (suc at) (x ∷ xs) e = ap (λ l. x ∷ l) (cut-one s at xs e)

pub stands-within : (s at : ℕ) (xs : List (ℕ × Branch)) → stands_at s at xs ≡ true → at < length xs
stands-within s at [] e = cc
stands-within s zero (x ∷ xs) e = omega arith
stands-within s (suc at) (x ∷ xs) e = omega (arith, stands-within s at xs e)

pub cut-goes-on : (s at : ℕ) (old xs new : List (ℕ × Branch)) → stands_at s at xs ≡ true → new ≡ take at xs ++ drop (suc at) xs → CutTo s at old xs → CutTo s at old new
cut-goes-on s at old xs new e is c =
    subst (CutTo s at old) (sym is)
    (record {
      rest = cut-one s at xs e ∙ c.rest;
      behind = subst (Ascends s) (sym (drop-cut at xs (stands-within s at xs e))) (ascends-next s at xs e c.behind);
    })

-- where the first is none of the run, none is
later-others : (s n : ℕ) (xs : List (ℕ × Branch)) → s < n → Ascends n xs → others s xs ≡ xs
later-others s n [] lt h = refl
later-others s n (x ∷ xs) lt h = others-first s x xs (apart-above x.0 s (omega (arith, lt, h.0))) ∙ ap (λ l. x ∷ l) (later-others s x.0 xs (omega (arith, lt, h.0)) h.1)

all-kept : (s at : ℕ) (xs : List (ℕ × Branch)) → stands_at s at xs ≡ false → Ascends s (drop at xs) → take at xs ++ others s (drop at xs) ≡ xs
all-kept s zero [] e h = refl
all-kept s (suc at) [] e h = refl
all-kept s zero (x ∷ xs) e h =
    others-first s x xs e ∙ ap (λ l. x ∷ l) (later-others s x.0 xs (omega (arith, h.0, ne-of x.0 s e)) h.1)
all-kept s (suc at) (x ∷ xs) e h = ap (λ l. x ∷ l) (all-kept s at xs e h)

pub cut-ends : (s at : ℕ) (old xs : List (ℕ × Branch)) → stands_at s at xs ≡ false → CutTo s at old xs → xs ≡ others s old
cut-ends s at old xs e c = sym (all-kept s at xs e c.behind) ∙ c.rest
