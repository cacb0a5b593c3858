-- The pairs of serials and owners: what is next among them, and what one that goes or comes leaves.
use Rattle.std.proofs.Common.{◌≡◌, ℕ, ◌≤◌, ◌<◌, List, [], ◌∷◌, Bool, true, false, refl, sym, ap, subst, ◌∙◌, arith, nat_cmp}
use Rattle.std.specs.Prelude.{IsTrue, nat_eq, slice_get, IfSome, if◌then◌else◌}
use Rattle.std.specs.BTreeMap.{is_at}
use Rattle.std.specs.BTreeMap.Range.{IsInRange, IsLeBy}
use Rattle.std.specs.BTreeSet.{BTreeSet, IsKeyRangeOf, Updates, contains}
use Rattle.std.specs.Ordering.{is_eq, is_gt, ordering_then}
use Rattle.std.specs.declared.cmp.Ordering.{Ordering}
use Rattle.std.specs.declared.cmp.Ordering.TheVariants.{Less, Equal, Greater}
use Rattle.std.specs.declared.ops.Bound.TheVariants.{Included, Unbounded}
use Rattle.std.proofs.lemmas.Bool.{eqb-true}
use Rattle.std.proofs.lemmas.Bool.Decides.{nat_tests}
use Rattle.wait_set.specs.Runs.{Pair, has_pair, pair_cmp}

-- ---- their order

cmp-self : (x : ℕ) → nat_cmp x x ≡ Equal
cmp-self x = grind (arith, nat_tests)

cmp-more : (x y : ℕ) → y < x → nat_cmp x y ≡ Greater
cmp-more x y h = grind (arith, nat_tests, h)

up-to : (x y : ℕ) → x ≤ y → is_gt (nat_cmp x y) ≡ false
up-to x y h = grind (arith, nat_tests, h)

not-over : (x y : ℕ) → is_gt (nat_cmp x y) ≡ false → x ≤ y
not-over x y h = grind (arith, nat_tests, h)

-- LEMMA: a pair of the run from an owner on is not before the one of that owner
pub from-low : (s low n : ℕ) → low ≤ n → is_gt (pair_cmp (s, low) (s, n)) ≡ false
from-low s low n le = ap (λ o. is_gt (ordering_then o (nat_cmp low n))) (cmp-self s) ∙ up-to low n le

first-le : (a b : Pair) → is_gt (pair_cmp a b) ≡ false → a.0 ≤ b.0
first-le a b h = by (is_gt (nat_cmp a.0 b.0)) refl
  where
    by : (c : Bool) → is_gt (nat_cmp a.0 b.0) ≡ c → a.0 ≤ b.0
    by false e = not-over a.0 b.0 e
    by true e = absurd (let bad : ◌≡◌ {A = Bool} true false = sym (ap (λ o. is_gt (ordering_then o (nat_cmp a.1 b.1))) more) ∙ h in cc)
      where
        more : nat_cmp a.0 b.0 ≡ Greater
        more = grind (arith, nat_tests, e)

second-le : (a b : Pair) → a.0 ≡ b.0 → is_gt (pair_cmp a b) ≡ false → a.1 ≤ b.1
second-le a b same h = not-over a.1 b.1 (sym (ap (λ o. is_gt (ordering_then o (nat_cmp a.1 b.1))) ((λ k. nat_cmp (same k) b.0) ∙ cmp-self b.0)) ∙ h)

-- ---- the next one

module _ (runs : BTreeSet Pair) (s low : ℕ) (r : List Pair) (range : IsKeyRangeOf pair_cmp (Included (s, low)) Unbounded runs r) where
  -- LEMMA: none is listed where no pair is left
  pub next-none : r ≡ [] → (n : ℕ) → low ≤ n → has_pair runs s n ≡ false
  next-none is n le = range.5 is (s, n) (from-low s low n le, tt)

  not-before : (p : Pair) (rest : List Pair) → r ≡ p ∷ rest → (n : ℕ) → low ≤ n → has_pair runs s n ≡ true → is_gt (pair_cmp p (s, n)) ≡ false
  not-before p rest is n le there = subst (λ xs. IfSome (slice_get xs 0) (λ k. IsLeBy pair_cmp k (s, n))) is (range.2 (s, n) (from-low s low n le, tt) (subst IsTrue (sym there) refl))

  by-test : (n : ℕ) → (has_pair runs s n ≡ true → ⊥) → has_pair runs s n ≡ false
  by-test n never = by (has_pair runs s n) refl
    where
      by : (b : Bool) → has_pair runs s n ≡ b → has_pair runs s n ≡ false
      by true h = absurd (never h)
      by false h = h

  -- LEMMA: none is listed where the next pair is another run's
  pub next-other : (p : Pair) (rest : List Pair) → r ≡ p ∷ rest → nat_eq p.0 s ≡ false → (n : ℕ) → low ≤ n → has_pair runs s n ≡ false
  next-other p rest is other n le = by-test n (λ there.
      (let high = first-le p (s, n) (not-before p rest is n le there) in
      let low = first-le (s, low) p (subst (λ xs. IfSome (slice_get xs 0) (λ k. IsInRange pair_cmp (Included (s, low)) Unbounded k × IsTrue (contains pair_cmp runs k))) is range.1).0.0 in
      grind (arith, nat_tests, high, low, other)))

  -- LEMMA: none before the next pair is
  pub next-some : (p : Pair) (rest : List Pair) → r ≡ p ∷ rest → nat_eq p.0 s ≡ true → (n : ℕ) → low ≤ n → n < p.1 → has_pair runs s n ≡ false
  next-some p rest is same n le lt = by-test n (λ there.
      (let under = second-le p (s, n) (eqb-true p.0 s same) (not-before p rest is n le there) in absurd (omega (arith, under, lt))))

-- ---- one comes or goes

other-pair : (s o : ℕ) (p : Pair) → nat_eq o p.1 ≡ false → is_at (pair_cmp (s, o)) p ≡ false
other-pair s o p other = by (nat_cmp s p.0)
  where
    apart : is_eq (nat_cmp o p.1) ≡ false
    apart = grind (arith, nat_tests, other)

    by : (c : Ordering) → is_eq (ordering_then c (nat_cmp o p.1)) ≡ false
    by Less = refl
    by Equal = apart
    by Greater = refl

-- LEMMA: what an update of the pairs says of other owners
pub pairs-else : (old new : BTreeSet Pair) (s o : ℕ) (b : Bool) → Updates pair_cmp old new (s, o) b → (t n : ℕ) → nat_eq o n ≡ false → has_pair new t n ≡ has_pair old t n
pairs-else old new s o b updates t n apart = updates.0 (t, n) ∙ (λ i. if other-pair s o (t, n) apart i then b else has_pair old t n)

-- LEMMA: those that were listed stay
pub pairs-more : (old new : BTreeSet Pair) (s o : ℕ) → Updates pair_cmp old new (s, o) true → (t n : ℕ) → has_pair old t n ≡ true → has_pair new t n ≡ true
pairs-more old new s o updates t n h = updates.0 (t, n) ∙ by (is_at (pair_cmp (s, o)) (t, n))
  where
    by : (b : Bool) → (if b then true else has_pair old t n) ≡ true
    by true = refl
    by false = h
