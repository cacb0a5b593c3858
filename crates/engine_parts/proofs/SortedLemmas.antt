-- The firings of an owner among those that stand by their owners.
use Rattle.std.proofs.Common.{◌≡◌, ◌∙◌, refl, sym, subst, ℕ, zero, suc, ◌+◌, ◌<◌, ◌≤◌, List, [], ◌∷◌, ◌++◌, length, get_or, take, map, filter, Bool, true, false, rules, arith, append-nil}
use Rattle.std.specs.Prelude.{nat_eq, nat_lt, if◌then◌else◌}
use Rattle.ha_journal.specs.declared.firing.Firing.{Firing}
use Rattle.ha_journal.specs.Journal.{Journal}
use Rattle.ha_journal.specs.Triggers.{Fired, firings as fired_by}
use Rattle.ha_past.specs.Firings.{Owner, firing_by, firings}
use Rattle.engine_parts.specs.Owners.{AreAscending, as_configured, ordered}
use Rattle.engine_parts.specs.Sorted.{AreSorted, first_of}

below : (a b : ℕ) → a < b → nat_lt a b ≡ true
below a b lt = search (rules, lt)

not-below : (a b : ℕ) → b ≤ a → nat_lt a b ≡ false
not-below a b le = search (rules, le)

pub less : (a b : ℕ) → nat_lt a b ≡ true → a < b
less a b e = search (rules, e)

pub late : (a b : ℕ) → nat_lt a b ≡ false → b ≤ a
late a b e = search (rules, e)

apart-below : (a b : ℕ) → a < b → nat_eq a b ≡ false
apart-below a b lt = search (rules, lt)

apart-above : (a b : ℕ) → b < a → nat_eq a b ≡ false
apart-above a b lt = search (rules, lt)

abbrev pub own : ℕ → List Firing → List Firing
own n fs = filter (λ (f : Firing). nat_eq f.owner n) fs

-- ---- the search

sorted-at : (m i : ℕ) (fs : List Firing) (d : Firing) → AreSorted m fs → i < length fs → m ≤ (get_or fs i d).owner
sorted-at m i [] d h lt = absurd (omega (arith, lt))
sorted-at m zero (f ∷ fs) d h lt = h.0
sorted-at m (suc i) (f ∷ fs) d h lt = omega (arith, h.0, sorted-at f.owner i fs d h.1 (omega (arith, lt)))

pub first-within : (n : ℕ) (fs : List Firing) → first_of n fs ≤ length fs
first-within n [] = omega arith
first-within n (f ∷ fs) = by (nat_lt f.owner n) (first-within n fs)
  where
    by : (b : Bool) → first_of n fs ≤ length fs → (if b then suc (first_of n fs) else 0) ≤ suc (length fs)
    by true h = omega (arith, h)
    by false h = omega arith

-- LAW: a firing of a lesser owner stands in front of the place
pub passed-first : (n m i : ℕ) (fs : List Firing) (d : Firing) → AreSorted m fs → i < length fs → (get_or fs i d).owner < n → i + 1 ≤ first_of n fs
passed-first n m i [] d h lt early = absurd (omega (arith, lt))
passed-first n m zero (f ∷ fs) d h lt early = subst (λ b. 1 ≤ (if b then suc (first_of n fs) else 0)) (sym (below f.owner n early)) (omega arith)
passed-first n m (suc i) (f ∷ fs) d h lt early =
    (let least = sorted-at f.owner i fs d h.1 (omega (arith, lt)) in
    let rest = passed-first n f.owner i fs d h.1 (omega (arith, lt)) early in
    subst (λ b. suc i + 1 ≤ (if b then suc (first_of n fs) else 0)) (sym (below f.owner n (omega (arith, least, early)))) (omega (arith, rest)))

-- LAW: one of this owner or a greater one does not
pub reached-first : (n i : ℕ) (fs : List Firing) (d : Firing) → i < length fs → n ≤ (get_or fs i d).owner → first_of n fs ≤ i
reached-first n i [] d lt late = absurd (omega (arith, lt))
reached-first n zero (f ∷ fs) d lt late = subst (λ b. (if b then suc (first_of n fs) else 0) ≤ 0) (sym (not-below f.owner n late)) (omega arith)
reached-first n (suc i) (f ∷ fs) d lt late = by (nat_lt f.owner n) (reached-first n i fs d (omega (arith, lt)) late)
  where
    by : (b : Bool) → first_of n fs ≤ i → (if b then suc (first_of n fs) else 0) ≤ suc i
    by true h = omega (arith, h)
    by false h = omega arith

-- ---- those of one owner

-- LAW: in front of the place is none of the owner
pub none-first : (n : ℕ) (fs : List Firing) → own n (take (first_of n fs) fs) ≡ []
none-first n [] = refl
none-first n (f ∷ fs) = by (nat_lt f.owner n) refl (none-first n fs)
  where
    by : (b : Bool) → nat_lt f.owner n ≡ b → own n (take (first_of n fs) fs) ≡ [] → own n (take (if b then suc (first_of n fs) else 0) (f ∷ fs)) ≡ []
    by true e rest = (λ i. if apart-below f.owner n (less f.owner n e) i then f ∷ own n (take (first_of n fs) fs) else own n (take (first_of n fs) fs)) ∙ rest
    by false e rest = refl

-- where the first is of a greater owner none is of this one
none-later : (n m : ℕ) (fs : List Firing) → n < m → AreSorted m fs → own n fs ≡ []
none-later n m [] lt h = refl
none-later n m (f ∷ fs) lt h =
    (λ i. if apart-above f.owner n (omega (arith, lt, h.0)) i then f ∷ own n fs else own n fs) ∙ none-later n f.owner fs (omega (arith, lt, h.0)) h.1

-- LAW: from a firing of a greater owner on none is of this one
pub none-from : (n m i : ℕ) (fs : List Firing) (x : Firing) → AreSorted m fs → i < length fs → x ≡ get_or fs i x → n < x.owner → own n (take i fs) ≡ own n fs
none-from n m i [] x h lt is late = absurd (omega (arith, lt))
none-from n m zero (f ∷ fs) x h lt is late =
    (let here : n < f.owner = subst (λ (y : Firing). n < y.owner) is late in
    let self : f.owner ≤ f.owner = omega arith in
    sym (none-later n f.owner (f ∷ fs) here (self, h.1)))
none-from n m (suc i) (f ∷ fs) x h lt is late = by (nat_eq f.owner n) (none-from n f.owner i fs x h.1 (omega (arith, lt)) is late)
  where
    by : (b : Bool) → own n (take i fs) ≡ own n fs → (if b then f ∷ own n (take i fs) else own n (take i fs)) ≡ (if b then f ∷ own n fs else own n fs)
    by true e = (λ k. f ∷ e k)
    by false e = e

-- ---- firings of owners that ascend

-- those of one owner in front of others that are of no lesser one
sorted-own : (o : Owner) (m : ℕ) (fs : List Fired) (rest : List Firing) → m ≤ o.owner → AreSorted o.owner rest → AreSorted m (map (firing_by o) fs ++ rest)
sorted-own o m [] [] le h = tt
sorted-own o m [] (x ∷ rest) le h = (omega (arith, le, h.0), h.1)
sorted-own o m (f ∷ fs) rest le h = (le, sorted-own o o.owner fs rest (omega arith) h)

-- firings from a greater owner on
sorted-weaker : (m n : ℕ) (fs : List Firing) → n ≤ m → AreSorted m fs → AreSorted n fs
sorted-weaker m n [] le h = tt
sorted-weaker m n (f ∷ fs) le h = (omega (arith, le, h.0), h.1)

-- LAW: the firings of owners that ascend stand by their owners
pub firings-sorted : (j : Journal) (p n : ℕ) (os : List Owner) → AreAscending n os → AreSorted n (firings j p os)
firings-sorted j p n [] h = tt
firings-sorted j p n (o ∷ os) h =
    sorted-own o n (fired_by j o.triggers o.since p) (firings j p os) h.0 (sorted-weaker (suc o.owner) o.owner (firings j p os) (omega arith) (firings-sorted j p (suc o.owner) os h.1))

-- ---- the new list

-- LAW: before the first of the owner nothing is added
pub none-added : (n at : ℕ) (made fs : List Firing) → at ≡ first_of n fs → made ≡ made ++ own n (take at fs)
none-added n at made fs is = sym (append-nil made) ∙ (λ i. made ++ sym (none-first n fs) i) ∙ (λ i. made ++ own n (take (sym is i) fs))

-- LAW: where none fires there is none in any order
pub none-ordered : (ascending : Bool) (ns : List ℕ) (fs : List Firing) → fs ≡ [] → fs ≡ ordered ascending ns fs
none-ordered ascending ns fs none = subst (λ (l : List Firing). l ≡ ordered ascending ns l) (sym none) (by ascending)
  where
    nothing : (ms : List ℕ) → as_configured ms [] ≡ []
    nothing [] = refl
    nothing (m ∷ ms) = nothing ms

    by : (b : Bool) → ◌≡◌ {A = List Firing} [] (if b then [] else as_configured ns [])
    by true = refl
    by false = sym (nothing ns)
