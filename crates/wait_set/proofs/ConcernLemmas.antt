-- The places of the waits that an entry concerns: found by halves, put into a set, and taken out, the least first.
use Rattle.std.proofs.Common.{◌≡◌, ℕ, zero, suc, ◌+◌, ◌<◌, ◌≤◌, List, [], ◌∷◌, length, drop, get_or, Bool, true, false, refl, sym, subst, ◌∙◌, arith, inl, inr, nat_cmp, ltb, ltb-false, ltb-true}
use Rattle.std.specs.Prelude.{IsSome, IsTrue, ◌↔◌, None, Option, nat_eq, ◌||◌, if◌then◌else◌}
use Rattle.std.specs.List.{list_any}
use Rattle.std.specs.List.Sorted.{IsNonDecreasingBy, IsPartitionPoint}
use Rattle.std.specs.BTreeMap.{is_at}
use Rattle.std.specs.BTreeSet.{BTreeSet, IsLowerBound, Updates}
use Rattle.std.specs.Ordering.{is_gt}
use Rattle.std.proofs.lemmas.Bool.{cases_lt, eqb-true}
use Rattle.std.proofs.lemmas.Bool.Decides.{eqb_tells, nat_tests}
use Rattle.ha_journal.specs.declared.firing.Firing.{Firing}
use Rattle.wait_set.specs.declared.asked.Asked.{Asked}
use Rattle.wait_set.specs.Concern.{Ascend, fires_for, has}

-- ---- found by halves

pub rising : (asks : List Asked) → Ascend asks → IsNonDecreasingBy (λ (a : Asked). a.owner) asks
rising asks asc i j d le lt = elim (eqb_tells i j) [
  | inl same ↦ subst (λ (k : ℕ). (get_or asks i d).owner ≤ (get_or asks k d).owner) same.1 (omega arith)
  | inr other ↦ (let apart = other.1 in let up = asc i j d (omega (arith, le, apart)) lt in omega (arith, up))
]

-- LEMMA: those before the place have lesser owners
pub lesser-before : (asks : List Asked) (o i n : ℕ) (d : Asked) → IsPartitionPoint (λ (y : Asked). ltb y.owner o ≡ true) (λ (y : Asked). ltb y.owner o ≡ false) asks i
    → n < i → (get_or asks n d).owner < o
lesser-before asks o i n d point before = ltb-true _ _ (point.0 n d (omega arith) before)

-- LEMMA: among waits that ascend, one of an owner stands behind those of lesser owners
pub found-place : (asks : List Asked) (o i n : ℕ) (d : Asked) → Ascend asks → IsPartitionPoint (λ (y : Asked). ltb y.owner o ≡ true) (λ (y : Asked). ltb y.owner o ≡ false) asks i
    → n < length asks → (get_or asks n d).owner ≡ o → i ≡ n
found-place asks o i n d asc point lt is = elim (cases_lt n i) [
  | inl under ↦ (let less = ltb-true _ _ (point.0 n d (omega arith) under) in absurd (omega (arith, less, is)))
  | inr over ↦ elim (cases_lt i n) [
    | inl before ↦ (let more = ltb-false _ _ (point.1 i d (omega arith) (omega (arith, before, lt))) in let up = asc i n d before lt in absurd (omega (arith, more, up, is)))
    | inr after ↦ omega (arith, over, after)
  ]
]

-- ---- one is put in or taken out

is-at-other : (a b : ℕ) → nat_eq a b ≡ false → is_at (nat_cmp a) b ≡ false
is-at-other a b h = grind (arith, nat_tests, h)

least-le : (a b : ℕ) → is_gt (nat_cmp a b) ≡ false → a ≤ b
least-le a b h = grind (arith, nat_tests, h)

-- what an update of a set says of other numbers
pub updates-else : (old new : BTreeSet ℕ) (p : ℕ) (b : Bool) → Updates nat_cmp old new p b → (n : ℕ) → nat_eq p n ≡ false → has new n ≡ has old n
updates-else old new p b updates n apart = updates.0 n ∙ (λ i. if is-at-other p n apart i then b else has old n)

module _ (old new : BTreeSet ℕ) (p : ℕ) (updates : Updates nat_cmp old new p true) where
  pub put-here : has new p ≡ true
  put-here = updates.0 p ∙ (λ i. if itself i then true else has old p)
    where
      itself : is_at (nat_cmp p) p ≡ true
      itself = grind (arith, nat_tests)

  pub put-more : (n : ℕ) → has old n ≡ true → has new n ≡ true
  put-more n h = updates.0 n ∙ by (is_at (nat_cmp p) n)
    where
      by : (b : Bool) → (if b then true else has old n) ≡ true
      by true = refl
      by false = h

  pub put-kept : (n : ℕ) → has new n ≡ false → has old n ≡ false
  put-kept n none = by (has old n) refl
    where
      by : (b : Bool) → has old n ≡ b → has old n ≡ false
      by true h = (let bad : ◌≡◌ {A = Bool} true false = sym (put-more n h) ∙ none in cc)
      by false h = h

  pub put-apart : (n : ℕ) → has new n ≡ false → p ≡ n → ⊥
  put-apart n none same = (let bad : ◌≡◌ {A = Bool} true false = sym put-here ∙ (λ i. has new (same i)) ∙ none in cc)

  pub put-other : (n : ℕ) → has new n ≡ false → nat_eq p n ≡ false
  put-other n none = by (nat_eq p n) refl
    where
      by : (b : Bool) → nat_eq p n ≡ b → nat_eq p n ≡ false
      by true e = absurd (put-apart n none (eqb-true p n e))
      by false e = e

-- ---- one is taken out, the least

never : (f : ℕ → Bool) (n : ℕ) → f n ≡ true → f n ≡ false → ⊥
never f n told other = (let bad : ◌≡◌ {A = Bool} true false = sym told ∙ other in cc)

module _ (old new : BTreeSet ℕ) (p : ℕ) (updates : Updates nat_cmp old new p false) (least : IsLowerBound nat_cmp old p) where
  left-here : has new p ≡ false
  left-here = updates.0 p ∙ (λ i. if itself i then false else has old p)
    where
      itself : is_at (nat_cmp p) p ≡ true
      itself = grind (arith, nat_tests)

  pub left-before : (n : ℕ) → n < p → has old n ≡ false
  left-before n lt = by (has old n) refl
    where
      by : (b : Bool) → has old n ≡ b → has old n ≡ false
      by true h = (let le = least-le p n (least n (subst IsTrue (sym h) refl)) in absurd (omega (arith, le, lt)))
      by false h = h

  pub left-from : (n : ℕ) → has new n ≡ true → p + 1 ≤ n
  left-from n h = elim (eqb_tells p n) [
    | inl same ↦ absurd (never (has new) n h (subst (λ m. has new m ≡ false) same.1 left-here))
    | inr other ↦ (let apart = other.1 in let le = least-le p n (least n (subst IsTrue (sym (sym (updates-else old new p false updates n other.0) ∙ h)) refl)) in omega (arith, apart, le))
  ]

pub apart : (p n : ℕ) → p + 1 ≤ n → nat_eq p n ≡ false
apart p n le = grind (arith, nat_tests, le)

abbrev pub nobody : Option ℕ
nobody = None

-- LEMMA: an empty set has none
pub none-left : (set : BTreeSet ℕ) → (IsSome nobody ↔ (0 < length set.keys)) → (n : ℕ) → has set n ≡ false
none-left set variant n = by set.keys variant
  where
    by : (ks : List ℕ) → (IsSome nobody ↔ (0 < length ks)) → list_any (is_at (nat_cmp n)) ks ≡ false
    by [] v = refl
    by (k ∷ ks) v = absurd (let bad : ◌≡◌ {A = Bool} false true = v.1 (omega arith) in cc)

-- ---- gone through one after the other

-- LEMMA: an owner who is not the next of the listed is among those behind it where he is listed
pub listed-rest : (owner k : ℕ) (left rest : List ℕ) → left ≡ k ∷ rest → nat_eq k owner ≡ false → list_any (is_at (nat_cmp owner)) left ≡ list_any (is_at (nat_cmp owner)) rest
listed-rest owner k left rest is other = (λ i. list_any (is_at (nat_cmp owner)) (is i)) ∙ (λ i. is-at-other owner k (flip other) i || list_any (is_at (nat_cmp owner)) rest)
  where
    flip : nat_eq k owner ≡ false → nat_eq owner k ≡ false
    flip h = grind (arith, nat_tests, h)

pub listed-none : (owner : ℕ) (left : List ℕ) → left ≡ [] → list_any (is_at (nat_cmp owner)) left ≡ false
listed-none owner left is = (λ i. list_any (is_at (nat_cmp owner)) (is i))

-- LEMMA: and so for what fires
pub fires-rest : (owner i : ℕ) (fired : List Firing) (f : Firing) → i < length fired → f ≡ get_or fired i f → nat_eq f.owner owner ≡ false → fires_for (drop i fired) owner ≡ fires_for (drop (i + 1) fired) owner
fires-rest owner i fired f lt is other = subst (λ n. fires_for (drop i fired) owner ≡ fires_for (drop n fired) owner) (one i) (go i fired lt is)
  where
    one : (i : ℕ) → suc i ≡ i + 1
    one i = search arith

    go : (i : ℕ) (fired : List Firing) → i < length fired → f ≡ get_or fired i f → fires_for (drop i fired) owner ≡ fires_for (drop (suc i) fired) owner
    go i [] lt is = absurd (omega arith)
    go zero (g ∷ gs) lt is = (λ k. nat_eq (sym is k).owner owner || fires_for gs owner) ∙ (λ k. other k || fires_for gs owner)
    go (suc i) (g ∷ gs) lt is = go i gs (omega arith) is
