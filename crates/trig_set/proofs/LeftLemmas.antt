-- Places put into a set, and taken out, the least first.
use Rattle.std.proofs.Common.{◌≡◌, ℕ, zero, suc, ◌+◌, ◌<◌, ◌≤◌, List, [], ◌∷◌, ◌++◌, length, get_or, Bool, true, false, refl, sym, subst, ◌∙◌, arith, append-nil, nat_cmp, inl, inr}
use Rattle.std.specs.Prelude.{All, IsSome, IsTrue, ◌↔◌, MatchOption, None, Option, Some, flat_map, map, nat_eq, nat_le, slice_get, ◌||◌, if◌then◌else◌}
use Rattle.std.specs.List.{list_any}
use Rattle.std.specs.BTreeMap.{is_at}
use Rattle.std.specs.BTreeSet.{BTreeSet, IsLowerBound}
use Rattle.std.specs.Ordering.{is_gt}
use Rattle.std.proofs.lemmas.Bool.Decides.{eqb_tells, nat_tests}
use Rattle.ha_config.specs.Words.{up_to}
use Rattle.event_bus.specs.Lists.{has}
use Rattle.timer_queue.specs.Timers.{Timer, after_due, due_of, first_due}
use Rattle.trig_set.specs.declared.owners.Attached.{Attached}
use Rattle.event_bus.specs.declared.index.Index.{Index}
use Rattle.event_bus.specs.Subjects.{Subject, knows}
use Rattle.ha_journal.specs.declared.event.BusEvent.{BusEvent}
use Rattle.trig_set.specs.declared.scene.Shift.{Shift}
use Rattle.trig_set.specs.Concerned.{OfOthers}
use Rattle.trig_set.specs.Order.{ascend, owner_of}
use Rattle.trig_set.specs.Places.{Turns}
use Rattle.trig_set.specs.Queued.{IsLater}
use Rattle.trig_set.specs.Stands.{AtOwner}
use Rattle.trig_set.proofs.OwnersLemmas.{at-beyond, flat-up}
use Rattle.trig_set.proofs.RipeLemmas.{none-due}
use Rattle.trig_set.proofs.SpotLemmas.{get-at}

pub is-at-same : (n : ℕ) → is_at (nat_cmp n) n ≡ true
is-at-same n = grind (arith, nat_tests)

-- LAW: a set that has nothing is empty
pub has-nothing : (ks : List ℕ) → ((n : ℕ) → list_any (is_at (nat_cmp n)) ks ≡ false) → length ks ≡ 0
has-nothing [] none = refl
has-nothing (k ∷ ks) none =
    let some : list_any (is_at (nat_cmp k)) (k ∷ ks) ≡ true = (λ i. is-at-same k i || list_any (is_at (nat_cmp k)) ks) in
    let bad : ◌≡◌ {A = Bool} true false = sym some ∙ none k in
    absurd (cc)

pub is-at-other : (a b : ℕ) → nat_eq a b ≡ false → is_at (nat_cmp a) b ≡ false
is-at-other a b h = grind (arith, nat_tests, h)

least-le : (a b : ℕ) → is_gt (nat_cmp a b) ≡ false → a ≤ b
least-le a b h = grind (arith, nat_tests, h)

-- one place was taken out, the least
module _ (old new : BTreeSet ℕ) (p : ℕ) (updates : Turns old new p false) (least : IsLowerBound nat_cmp old p) where
  pub left-here : has new p ≡ false
  left-here = updates p ∙ (λ i. if is-at-same p i then false else has old p)

  pub left-else : (n : ℕ) → nat_eq p n ≡ false → has new n ≡ has old n
  left-else n apart = updates n ∙ (λ i. if is-at-other p n apart i then false else has old n)

  pub left-before : (n : ℕ) → n < p → has old n ≡ false
  left-before n lt = by (has old n) refl
    where
      by : (b : Bool) → has old n ≡ b → has old n ≡ false
      by true h = (let le = least-le p n (least n (subst IsTrue (sym h) refl)) in absurd (omega (arith, le, lt)))
      by false h = h

  pub left-from : (n : ℕ) → has new n ≡ true → p + 1 ≤ n
  left-from n h = elim (eqb_tells p n) [
    | inl same ↦ (let bad : ◌≡◌ {A = Bool} true false = sym h ∙ subst (λ m. has new m ≡ false) same.1 left-here in cc)
    | inr other ↦ (let apart = other.1 in let le = least-le p n (least n (subst IsTrue (sym (sym (left-else n other.0) ∙ h)) refl)) in omega (arith, apart, le))
  ]

abbrev pub nobody : Option ℕ
nobody = None

-- LAW: an empty set has none
pub none-left : (set : BTreeSet ℕ) → (IsSome nobody ↔ (0 < length set.keys)) → (n : ℕ) → has set n ≡ false
none-left set variant n = by set.keys variant
  where
    by : (ks : List ℕ) → (IsSome nobody ↔ (0 < length ks)) → list_any (is_at (nat_cmp n)) ks ≡ false
    by [] v = refl
    by (k ∷ ks) v = absurd (let bad : ◌≡◌ {A = Bool} false true = v.1 (omega arith) in cc)

-- LAW: where nothing comes from a place on, what comes up to there is all
pub flat-skip : {Y : Type 0} (f : ℕ → List Y) (a b : ℕ) → a ≤ b → ((n : ℕ) → a ≤ n → n < b → f n ≡ []) → flat_map f (up_to b) ≡ flat_map f (up_to a)
flat-skip f zero zero le none = refl
flat-skip f (suc a) zero le none = absurd (omega (arith, le))
flat-skip f a (suc b) le none = elim (eqb_tells a (suc b)) [
  | inl same ↦ (λ i. flat_map f (up_to (sym same.1 i)))
  | inr other ↦ (let apart = other.1 in
      (let e : suc b ≡ b + 1 = omega arith in λ i. flat_map f (up_to (e i)))
      ∙ flat-up f b
      ∙ (λ i. flat_map f (up_to b) ++ none b (omega (arith, le, apart)) (omega arith) i)
      ∙ append-nil (flat_map f (up_to b))
      ∙ flat-skip f a b (omega (arith, le, apart)) (λ n from lt. none n from (omega (arith, lt))))
]

-- ---- a place is put in

abbrev pub OfListed : List Attached → BTreeSet ℕ → List ℕ → ℕ → Type 0
OfListed owners listed left n = AtOwner owners n (λ a. ascend (map owner_of owners) ≡ true → has listed a.owner ≡ list_any (is_at (nat_cmp a.owner)) left)

module _ (old new : BTreeSet ℕ) (p : ℕ) (updates : Turns old new p true) (n : ℕ) (none : has new n ≡ false) where
  pub put-apart : nat_eq p n ≡ false
  put-apart = by (nat_eq p n) refl
    where
      by : (b : Bool) → nat_eq p n ≡ b → nat_eq p n ≡ false
      by true h =
          let is : is_at (nat_cmp p) n ≡ true = grind (arith, nat_tests, h) in
          let bad : ◌≡◌ {A = Bool} true false = sym (updates n ∙ (λ i. if is i then true else has old n)) ∙ none in cc
      by false h = h

  -- LAW: what is not there then was not there
  pub put-kept : has old n ≡ false
  put-kept = sym (updates n ∙ (λ i. if is-at-other p n put-apart i then true else has old n)) ∙ none

  apart-never : nat_eq p n ≡ false → p ≡ n → ⊥
  apart-never h e = (let same : nat_eq p n ≡ true = grind (arith, nat_tests, e) in let bad : ◌≡◌ {A = Bool} true false = sym same ∙ h in cc)

  -- LAW: an owner whose place is not there is not the one whose place was put in
  pub put-aside : (owners : List Attached) (listed : BTreeSet ℕ) (k : ℕ) (left rest : List ℕ) → left ≡ k ∷ rest
      → (ascend (map owner_of owners) ≡ true → AtOwner owners n (λ a. a.owner ≡ k → p ≡ n)) → OfListed owners listed left n → OfListed owners listed rest n
  put-aside owners listed k left rest is found told = by (slice_get owners n) found told
    where
      other : (m : ℕ) → (m ≡ k → ⊥) → is_at (nat_cmp m) k ≡ false
      other m differs = elim (eqb_tells m k) [
        | inl same ↦ absurd (differs same.1)
        | inr apart ↦ is-at-other m k apart.0
      ]

      by : (o : Option Attached) → (ascend (map owner_of owners) ≡ true → MatchOption o (Unit {0}) (λ a. a.owner ≡ k → p ≡ n))
          → MatchOption o (Unit {0}) (λ a. ascend (map owner_of owners) ≡ true → has listed a.owner ≡ list_any (is_at (nat_cmp a.owner)) left)
          → MatchOption o (Unit {0}) (λ a. ascend (map owner_of owners) ≡ true → has listed a.owner ≡ list_any (is_at (nat_cmp a.owner)) rest)
      by None f t = tt
      by (Some a) f t = λ asc.
          t asc ∙ (λ i. list_any (is_at (nat_cmp a.owner)) (is i))
          ∙ (λ i. other a.owner (λ e. apart-never (put-apart) (f asc e)) i || list_any (is_at (nat_cmp a.owner)) rest)

-- LAW: once none is left, none of the listed is at another place
pub put-end : (owners : List Attached) (listed : BTreeSet ℕ) (left : List ℕ) (n : ℕ) → left ≡ [] → OfListed owners listed left n → AtOwner owners n (λ a. ascend (map owner_of owners) ≡ true → has listed a.owner ≡ false)
put-end owners listed left n is = by (slice_get owners n)
  where
    by : (o : Option Attached) → MatchOption o (Unit {0}) (λ a. ascend (map owner_of owners) ≡ true → has listed a.owner ≡ list_any (is_at (nat_cmp a.owner)) left)
        → MatchOption o (Unit {0}) (λ a. ascend (map owner_of owners) ≡ true → has listed a.owner ≡ false)
    by None t = tt
    by (Some a) t = λ asc. t asc ∙ (λ i. list_any (is_at (nat_cmp a.owner)) (is i))

-- the key of a timer that comes is the only one that loses its due
due-else : (to k m : ℕ) (timers : List Timer) → first_due to timers ≡ Some k → nat_eq k m ≡ false → due_of m (after_due to timers) ≡ due_of m timers
due-else to k m [] first apart = refl
due-else to k m (t ∷ ts) first apart = by (nat_le t.0 to) first
  where
    other : (b : Bool) → nat_eq t.1 m ≡ b → t.1 ≡ k → due_of m ts ≡ (if b then Some t.0 else due_of m ts)
    other true is same = absurd (let bad : ◌≡◌ {A = Bool} true false = sym is ∙ (λ i. nat_eq (same i) m) ∙ apart in cc)
    other false is same = refl

    by : (b : Bool) → (if b then Some t.1 else None) ≡ Some k → due_of m (if b then ts else t ∷ ts) ≡ due_of m (t ∷ ts)
    by true e = (let same : t.1 ≡ k = cc in other (nat_eq t.1 m) refl same)
    by false e = refl

-- LAW: an owner whose place is not there is not the one whose timer came
pub due-aside : (owners : List Attached) (old new : BTreeSet ℕ) (p : ℕ) → Turns old new p true → (n : ℕ) → has new n ≡ false → (to k : ℕ) (start before after : List Timer)
    → first_due to before ≡ Some k → after ≡ after_due to before → (ascend (map owner_of owners) ≡ true → AtOwner owners n (λ a. a.owner ≡ k → p ≡ n))
    → AtOwner owners n (λ a. ascend (map owner_of owners) ≡ true → due_of a.owner before ≡ due_of a.owner start)
    → AtOwner owners n (λ a. ascend (map owner_of owners) ≡ true → due_of a.owner after ≡ due_of a.owner start)
due-aside owners old new p updates n none to k start before after first rest found told = by (slice_get owners n) found told
  where
    other : (m : ℕ) → (m ≡ k → p ≡ n) → nat_eq k m ≡ false
    other m at = elim (eqb_tells k m) [
      | inl same ↦ absurd (apart-never old new p updates n none (put-apart old new p updates n none) (at (sym same.1)))
      | inr apart ↦ apart.0
    ]

    by : (o : Option Attached) → (ascend (map owner_of owners) ≡ true → MatchOption o (Unit {0}) (λ a. a.owner ≡ k → p ≡ n))
        → MatchOption o (Unit {0}) (λ a. ascend (map owner_of owners) ≡ true → due_of a.owner before ≡ due_of a.owner start)
        → MatchOption o (Unit {0}) (λ a. ascend (map owner_of owners) ≡ true → due_of a.owner after ≡ due_of a.owner start)
    by None f t = tt
    by (Some a) f t = λ asc. (λ i. due_of a.owner (rest i)) ∙ due-else to k a.owner before first (other a.owner (f asc)) ∙ t asc

-- LAW: a place that is not among those of all owners is behind them
pub all-put : (old new : BTreeSet ℕ) (place : ℕ) → Turns old new place true → ((n : ℕ) → has old n ≡ false → place ≤ n) → (n : ℕ) → has new n ≡ false → place + 1 ≤ n
all-put old new place updates told n none =
    let le = told n (put-kept old new place updates n none) in
    elim (eqb_tells place n) [
      | inl same ↦ absurd (apart-never old new place updates n none (put-apart old new place updates n none) same.1)
      | inr other ↦ (let apart = other.1 in omega (arith, le, apart))
    ]

-- LAW: there is nobody aside where all have their places
pub others-none : (owners : List Attached) (places : BTreeSet ℕ) (P : ℕ → Type 0) → ((n : ℕ) → has places n ≡ false → length owners ≤ n) → OfOthers owners places P
others-none owners places P beyond n none = at-beyond (λ a. ascend (map owner_of owners) ≡ true → P a.owner) owners n (beyond n none)

-- what holds of the others with fewer places holds with more
pub others-more : (owners : List Attached) (old new : BTreeSet ℕ) (P : ℕ → Type 0) → ((n : ℕ) → has new n ≡ false → has old n ≡ false) → OfOthers owners old P → OfOthers owners new P
others-more owners old new P kept told n none = told n (kept n none)

pub others-all : (owners : List Attached) (places : BTreeSet ℕ) (P : ℕ → Type 0) → ((m : ℕ) → P m) → OfOthers owners places P
others-all owners places P each n none = by (slice_get owners n)
  where
    by : (o : Option Attached) → MatchOption o (Unit {0}) (λ a. ascend (map owner_of owners) ≡ true → P a.owner)
    by None = tt
    by (Some a) = λ asc. each a.owner

pub others-then : (owners : List Attached) (places : BTreeSet ℕ) (P Q : ℕ → Type 0) → ((m : ℕ) → P m → Q m) → OfOthers owners places P → OfOthers owners places Q
others-then owners places P Q step told n none = by (slice_get owners n) (told n none)
  where
    by : (o : Option Attached) → MatchOption o (Unit {0}) (λ a. ascend (map owner_of owners) ≡ true → P a.owner) → MatchOption o (Unit {0}) (λ a. ascend (map owner_of owners) ≡ true → Q a.owner)
    by None t = tt
    by (Some a) t = λ asc. step a.owner (t asc)

-- LAW: once none comes, each due of the others comes later
pub due-end : (owners : List Attached) (places : BTreeSet ℕ) (to : ℕ) (start left : List Timer) → All (λ t. to < t.0) left → OfOthers owners places (λ m. due_of m left ≡ due_of m start)
    → OfOthers owners places (λ m. IsLater to (due_of m start))
due-end owners places to start left all told =
    others-then owners places (λ m. due_of m left ≡ due_of m start) (λ m. IsLater to (due_of m start))
    (λ m same. subst (IsLater to) same (by m (due_of m left) refl)) told
  where
    by : (m : ℕ) (o : Option ℕ) → due_of m left ≡ o → IsLater to o
    by m None is = tt
    by m (Some d) is = none-due to left all m d is

pub others-two : (owners : List Attached) (places : BTreeSet ℕ) (P Q R : ℕ → Type 0) → ((m : ℕ) → P m → Q m → R m) → OfOthers owners places P → OfOthers owners places Q → OfOthers owners places R
others-two owners places P Q R step told also n none = by (slice_get owners n) (told n none) (also n none)
  where
    by : (o : Option Attached) → MatchOption o (Unit {0}) (λ a. ascend (map owner_of owners) ≡ true → P a.owner) → MatchOption o (Unit {0}) (λ a. ascend (map owner_of owners) ≡ true → Q a.owner)
        → MatchOption o (Unit {0}) (λ a. ascend (map owner_of owners) ≡ true → R a.owner)
    by None t u = tt
    by (Some a) t u = λ asc. step a.owner (t asc) (u asc)

-- ---- changes gone through one after the other

get-beyond : {X : Type 0} (xs : List X) (n : ℕ) → length xs ≤ n → slice_get xs n ≡ None
get-beyond [] n le = refl
get-beyond (x ∷ xs) zero le = absurd (omega (arith, le))
get-beyond (x ∷ xs) (suc n) le = get-beyond xs n (omega (arith, le))

pub shift-beyond : (P : Shift → Type 0) (xs : List Shift) (n : ℕ) → length xs ≤ n → MatchOption (slice_get xs n) (Unit {0}) P
shift-beyond P xs n le = subst (λ o. MatchOption o (Unit {0}) P) (sym (get-beyond xs n le)) tt

pub shifts-more : (index : Index) (shifts : List Shift) (m place : ℕ) (d : Shift) → place < length shifts
    → ((k : ℕ) → k < place → MatchOption (slice_get shifts k) (Unit {0}) (λ c. knows index (Subject.Entity c.entity) m ≡ false)) → knows index (Subject.Entity (get_or shifts place d).entity) m ≡ false
    → (k : ℕ) → k < place + 1 → MatchOption (slice_get shifts k) (Unit {0}) (λ c. knows index (Subject.Entity c.entity) m ≡ false)
shifts-more index shifts m place d within told here k lt = elim (eqb_tells place k) [
  | inl same ↦ subst (λ n. MatchOption (slice_get shifts n) (Unit {0}) (λ c. knows index (Subject.Entity c.entity) m ≡ false)) same.1
      (subst (λ o. MatchOption o (Unit {0}) (λ c. knows index (Subject.Entity c.entity) m ≡ false)) (sym (get-at shifts place d within)) here)
  | inr other ↦ (let apart = other.1 in told k (omega (arith, lt, apart)))
]

-- the same of events

pub event-beyond : (P : BusEvent → Type 0) (xs : List BusEvent) (n : ℕ) → length xs ≤ n → MatchOption (slice_get xs n) (Unit {0}) P
event-beyond P xs n le = subst (λ o. MatchOption o (Unit {0}) P) (sym (get-beyond xs n le)) tt

pub events-more : (index : Index) (events : List BusEvent) (m place : ℕ) (d : BusEvent) → place < length events
    → ((k : ℕ) → k < place → MatchOption (slice_get events k) (Unit {0}) (λ v. knows index (Subject.Event v.kind) m ≡ false)) → knows index (Subject.Event (get_or events place d).kind) m ≡ false
    → (k : ℕ) → k < place + 1 → MatchOption (slice_get events k) (Unit {0}) (λ v. knows index (Subject.Event v.kind) m ≡ false)
events-more index events m place d within told here k lt = elim (eqb_tells place k) [
  | inl same ↦ subst (λ n. MatchOption (slice_get events n) (Unit {0}) (λ v. knows index (Subject.Event v.kind) m ≡ false)) same.1
      (subst (λ o. MatchOption o (Unit {0}) (λ v. knows index (Subject.Event v.kind) m ≡ false)) (sym (get-at events place d within)) here)
  | inr other ↦ (let apart = other.1 in told k (omega (arith, lt, apart)))
]
