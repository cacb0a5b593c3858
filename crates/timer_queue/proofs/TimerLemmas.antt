-- What the set and the map do to the list of timers.
use Rattle.std.proofs.Common.{◌≡◌, ◌∙◌, ap, sym, refl, arith, ℕ, ◌<◌, ◌≤◌, Bool, true, false, not, ◌&&◌, ◌||◌, nat_eq, nat_lt, nat_le, List, [], ◌∷◌, Option, Some, None, if◌then◌else◌, inl, inr, ◌⊎◌, cond}
use Rattle.std.specs.Prelude.{All, MatchOption, is_some}
use Rattle.std.specs.List.{AllByRecursion, list_any}
use Rattle.std.specs.List.Sorted.{IsStrictlySortedBy}
use Rattle.std.proofs.lemmas.List.Elements.{All-head, All-tail}
use Rattle.std.proofs.lemmas.Bool.Decides.{eqb_tells, leb_tells, nat_tests}
use Rattle.std.specs.Ordering.{is_eq, is_gt, nat_cmp, ordering_then, match_ordering}
use Rattle.std.specs.declared.cmp.Ordering.{Ordering}
use Rattle.std.specs.declared.cmp.Ordering.TheVariants.{Less, Equal, Greater}
use Rattle.std.specs.BTreeSet.{insert_key}
use Rattle.std.specs.Set.{remove_key}
use Rattle.timer_queue.specs.Timers.{IsLeast, Timer, distinct_keys, due_of, inserted, is_before, keys_due, removed}

-- the order of the set's keys
abbrev pub order : Timer → Timer → Ordering
order a b = ordering_then (nat_cmp a.0 b.0) (nat_cmp a.1 b.1)

tell : (b : Bool) → (b ≡ true) ⊎ (b ≡ false)
tell true = inl refl
tell false = inr refl

both_true : (a b : Bool) → a ≡ true → b ≡ true → (a && b) ≡ true
both_true a b h k = rw (h, k) refl

parts : (a b : Bool) → (a && b) ≡ true → (a ≡ true) × (b ≡ true)
parts true b h = (refl, h)
parts false b h = absurd (let bad : ◌≡◌ {A = Bool} false true = h in cc)

none_of : (o : Option ℕ) → not (is_some o) ≡ true → o ≡ None
none_of None h = refl
none_of (Some n) h = absurd (let bad : ◌≡◌ {A = Bool} false true = h in cc)

cmp_less : (x y : ℕ) → x < y → nat_cmp x y ≡ Less
cmp_less x y h = grind (arith, nat_tests, h)

cmp_same : (x y : ℕ) → x ≡ y → nat_cmp x y ≡ Equal
cmp_same x y h = grind (arith, nat_tests, h)

cmp_more : (x y : ℕ) → y < x → nat_cmp x y ≡ Greater
cmp_more x y h = grind (arith, nat_tests, h)

before_due : (d k e l : ℕ) → d < e → (nat_lt d e || (nat_eq d e && nat_lt k l)) ≡ true
before_due d k e l h = grind (arith, nat_tests, h)

before_key : (d k e l : ℕ) → d ≡ e → k < l → (nat_lt d e || (nat_eq d e && nat_lt k l)) ≡ true
before_key d k e l h i = grind (arith, nat_tests, h, i)

after_key : (d k e l : ℕ) → d ≡ e → l < k → (nat_lt d e || (nat_eq d e && nat_lt k l)) ≡ false
after_key d k e l h i = grind (arith, nat_tests, h, i)

after_that : (d k e l : ℕ) → e < d → (nat_lt d e || (nat_eq d e && nat_lt k l)) ≡ false
after_that d k e l h = grind (arith, nat_tests, h)

-- of two timers with different keys one is before the other
differ : (a b : Timer) → nat_eq b.1 a.1 ≡ false → ((order a b ≡ Less) × (is_before a b ≡ true)) ⊎ ((order a b ≡ Greater) × (is_before a b ≡ false))
differ a b h = elim (leb_tells b.0 a.0) [
  | inr less ↦ inl (ap (λ o. ordering_then o (nat_cmp a.1 b.1)) (cmp_less a.0 b.0 less.1), before_due a.0 a.1 b.0 b.1 less.1)
  | inl fits ↦ elim (leb_tells a.0 b.0) [
    | inr more ↦ inr (ap (λ o. ordering_then o (nat_cmp a.1 b.1)) (cmp_more a.0 b.0 more.1), after_that a.0 a.1 b.0 b.1 more.1)
    | inl also ↦
        let same : a.0 ≡ b.0 = omega (arith, fits.1, also.1) in
        elim (leb_tells b.1 a.1) [
          | inr low ↦ inl (ap (λ o. ordering_then o (nat_cmp a.1 b.1)) (cmp_same a.0 b.0 same) ∙ cmp_less a.1 b.1 low.1, before_key a.0 a.1 b.0 b.1 same low.1)
          | inl high ↦ elim (eqb_tells b.1 a.1) [
            | inl equal ↦ absurd (let bad : ◌≡◌ {A = Bool} true false = sym equal.0 ∙ h in cc)
            | inr other ↦
                let apart = other.1 in
                let above : b.1 < a.1 = omega (arith, high.1, apart) in
                inr (ap (λ o. ordering_then o (nat_cmp a.1 b.1)) (cmp_same a.0 b.0 same) ∙ cmp_more a.1 b.1 above, after_key a.0 a.1 b.0 b.1 same above)
          ]
        ]
  ]
]

pub absent_head : (key : ℕ) (x : Timer) (xs : List Timer) → due_of key (x ∷ xs) ≡ None → (nat_eq x.1 key ≡ false) × (due_of key xs ≡ None)
absent_head key x xs h = elim (tell (nat_eq x.1 key)) [
  | inl same ↦ absurd (let bad : ◌≡◌ {A = Option ℕ} (Some x.0) None = sym (ap (λ b. if b then Some x.0 else due_of key xs) same) ∙ h in cc)
  | inr other ↦ (other, sym (ap (λ b. if b then Some x.0 else due_of key xs) other) ∙ h)
]

pub inserted_is : (t : Timer) (xs : List Timer) → due_of t.1 xs ≡ None → insert_key order xs t ≡ inserted t xs
inserted_is t [] h = refl
inserted_is t (x ∷ xs) h =
    let head = absent_head t.1 x xs h in
    elim (differ t x head.0) [
      | inl less ↦
          ap (λ o. match_ordering o (t ∷ x ∷ xs) (x ∷ xs) (x ∷ insert_key order xs t)) less.0
          ∙ sym (ap (λ b. if b then t ∷ x ∷ xs else x ∷ inserted t xs) less.1)
      | inr more ↦
          ap (λ o. match_ordering o (t ∷ x ∷ xs) (x ∷ xs) (x ∷ insert_key order xs t)) more.0
          ∙ ap (λ ys. x ∷ ys) (inserted_is t xs head.1)
          ∙ sym (ap (λ b. if b then t ∷ x ∷ xs else x ∷ inserted t xs) more.1)
    ]

swapped : (a b : Bool) (m n o : Option ℕ) → (a ≡ true → b ≡ false) → (if a then m else (if b then n else o)) ≡ (if b then n else (if a then m else o))
swapped true b m n o h = sym (ap (λ c. if c then n else m) (h refl))
swapped false b m n o h = refl

apart_keys : (a b q : ℕ) → nat_eq a b ≡ false → nat_eq a q ≡ true → nat_eq b q ≡ false
apart_keys a b q h k = grind (arith, nat_tests, h, k)

turned : (a b : ℕ) → nat_eq a b ≡ false → nat_eq b a ≡ false
turned a b h = grind (arith, nat_tests, h)

pub due_of-inserted : (q : ℕ) (t : Timer) (xs : List Timer) → due_of t.1 xs ≡ None → due_of q (inserted t xs) ≡ (if nat_eq t.1 q then Some t.0 else due_of q xs)
due_of-inserted q t [] h = refl
due_of-inserted q t (x ∷ xs) h =
    let head = absent_head t.1 x xs h in
    elim (tell (is_before t x)) [
      | inl first ↦ ap (λ b. due_of q (if b then t ∷ x ∷ xs else x ∷ inserted t xs)) first
      | inr later ↦
          ap (λ b. due_of q (if b then t ∷ x ∷ xs else x ∷ inserted t xs)) later
          ∙ ap (λ o. if nat_eq x.1 q then Some x.0 else o) (due_of-inserted q t xs head.1)
          ∙ swapped (nat_eq x.1 q) (nat_eq t.1 q) (Some x.0) (Some t.0) (due_of q xs) (apart_keys x.1 t.1 q head.0)
    ]

pub distinct_inserted : (t : Timer) (xs : List Timer) → due_of t.1 xs ≡ None → distinct_keys xs ≡ true → distinct_keys (inserted t xs) ≡ true
distinct_inserted t [] h d = refl
distinct_inserted t (x ∷ xs) h d =
    let head = absent_head t.1 x xs h in
    let p = parts (not (is_some (due_of x.1 xs))) (distinct_keys xs) d in
    elim (tell (is_before t x)) [
      | inl first ↦
          ap (λ b. distinct_keys (if b then t ∷ x ∷ xs else x ∷ inserted t xs)) first
          ∙ both_true (not (is_some (due_of t.1 (x ∷ xs)))) (distinct_keys (x ∷ xs)) (ap (λ o. not (is_some o)) h) d
      | inr later ↦
          ap (λ b. distinct_keys (if b then t ∷ x ∷ xs else x ∷ inserted t xs)) later
          ∙ both_true (not (is_some (due_of x.1 (inserted t xs)))) (distinct_keys (inserted t xs))
          (ap (λ o. not (is_some o)) (due_of-inserted x.1 t xs head.1 ∙ ap (λ b. if b then Some t.0 else due_of x.1 xs) (turned x.1 t.1 head.0)) ∙ p.0)
          (distinct_inserted t xs head.1 p.1)
    ]

pub removed_absent : (key : ℕ) (xs : List Timer) → due_of key xs ≡ None → removed key xs ≡ xs
removed_absent key [] h = refl
removed_absent key (x ∷ xs) h =
    let head = absent_head key x xs h in
    ap (λ b. if b then removed key xs else x ∷ removed key xs) head.0 ∙ ap (λ ys. x ∷ ys) (removed_absent key xs head.1)

passed_over : (a b : Bool) (o : Option ℕ) (n : ℕ) → b ≡ a → (if a then None else o) ≡ (if a then None else (if b then Some n else o))
passed_over true b o n e = refl
passed_over false b o n e = sym (ap (λ c. if c then Some n else o) e)

pub due_of-removed : (q key : ℕ) (xs : List Timer) → due_of q (removed key xs) ≡ (if nat_eq key q then None else due_of q xs)
due_of-removed q key [] = elim (tell (nat_eq key q)) [
  | inl same ↦ sym (ap (λ b. if b then None else None) same)
  | inr other ↦ sym (ap (λ b. if b then None else None) other)
]
due_of-removed q key (x ∷ xs) = elim (eqb_tells x.1 key) [
  | inl same ↦
      ap (λ b. due_of q (if b then removed key xs else x ∷ removed key xs)) same.0
      ∙ due_of-removed q key xs
      ∙ passed_over (nat_eq key q) (nat_eq x.1 q) (due_of q xs) x.0 (ap (λ k. nat_eq k q) same.1)
  | inr other ↦
      ap (λ b. due_of q (if b then removed key xs else x ∷ removed key xs)) other.0
      ∙ ap (λ o. if nat_eq x.1 q then Some x.0 else o) (due_of-removed q key xs)
      ∙ swapped (nat_eq x.1 q) (nat_eq key q) (Some x.0) None (due_of q xs) (apart_keys x.1 key q other.0)
]

pub distinct_removed : (key : ℕ) (xs : List Timer) → distinct_keys xs ≡ true → distinct_keys (removed key xs) ≡ true
distinct_removed key [] d = refl
distinct_removed key (x ∷ xs) d =
    let p = parts (not (is_some (due_of x.1 xs))) (distinct_keys xs) d in
    elim (tell (nat_eq x.1 key)) [
      | inl same ↦ ap (λ b. distinct_keys (if b then removed key xs else x ∷ removed key xs)) same ∙ distinct_removed key xs p.1
      | inr other ↦
          ap (λ b. distinct_keys (if b then removed key xs else x ∷ removed key xs)) other
          ∙ both_true (not (is_some (due_of x.1 (removed key xs)))) (distinct_keys (removed key xs))
          (ap (λ o. not (is_some o)) (due_of-removed x.1 key xs ∙ ap (λ b. if b then None else due_of x.1 xs) (turned x.1 key other)) ∙ p.0)
          (distinct_removed key xs p.1)
    ]

pub removed_is : (due key : ℕ) (xs : List Timer) → distinct_keys xs ≡ true → due_of key xs ≡ Some due → remove_key (λ x. is_eq (order (due, key) x)) xs ≡ removed key xs
removed_is due key [] d h = refl
removed_is due key (x ∷ xs) d h =
    let p = parts (not (is_some (due_of x.1 xs))) (distinct_keys xs) d in
    elim (eqb_tells x.1 key) [
      | inl same ↦
          let is : ◌≡◌ {A = Option ℕ} (Some x.0) (Some due) = sym (ap (λ b. if b then Some x.0 else due_of key xs) same.0) ∙ h in
          let at : x.0 ≡ due = cc in
          let absent : due_of key xs ≡ None = ap (λ k. due_of k xs) (sym same.1) ∙ none_of (due_of x.1 xs) p.0 in
          let equal : order (due, key) x ≡ Equal = ap (λ o. ordering_then o (nat_cmp key x.1)) (cmp_same due x.0 (sym at)) ∙ cmp_same key x.1 (sym same.1) in
          ap (λ o. cond (is_eq o) xs (x ∷ remove_key (λ x. is_eq (order (due, key) x)) xs)) equal
          ∙ sym (removed_absent key xs absent)
          ∙ sym (ap (λ b. if b then removed key xs else x ∷ removed key xs) same.0)
      | inr other ↦
          let rest : due_of key xs ≡ Some due = sym (ap (λ b. if b then Some x.0 else due_of key xs) other.0) ∙ h in
          let unequal : is_eq (order (due, key) x) ≡ false = elim (differ (due, key) x other.0) [
            | inl less ↦ ap is_eq less.0
            | inr more ↦ ap is_eq more.0
          ] in
          ap (λ b. cond b xs (x ∷ remove_key (λ x. is_eq (order (due, key) x)) xs)) unequal
          ∙ ap (λ ys. x ∷ ys) (removed_is due key xs p.1 rest)
          ∙ sym (ap (λ b. if b then removed key xs else x ∷ removed key xs) other.0)
    ]

-- the first timer's key is gone with it
pub due_of-rest : (q : ℕ) (x : Timer) (xs : List Timer) → distinct_keys (x ∷ xs) ≡ true → (if nat_eq x.1 q then None else due_of q (x ∷ xs)) ≡ due_of q xs
due_of-rest q x xs d =
    let p = parts (not (is_some (due_of x.1 xs))) (distinct_keys xs) d in
    elim (eqb_tells x.1 q) [
      | inl same ↦
          ap (λ b. if b then None else (if b then Some x.0 else due_of q xs)) same.0
          ∙ sym (none_of (due_of x.1 xs) p.0) ∙ ap (λ k. due_of k xs) same.1
      | inr other ↦ ap (λ b. if b then None else (if b then Some x.0 else due_of q xs)) other.0
    ]

pub distinct_rest : (x : Timer) (xs : List Timer) → distinct_keys (x ∷ xs) ≡ true → distinct_keys xs ≡ true
distinct_rest x xs d = (parts (not (is_some (due_of x.1 xs))) (distinct_keys xs) d).1

same_test : (k q : ℕ) → is_eq (nat_cmp k q) ≡ nat_eq k q
same_test k q = grind (arith, nat_tests)

-- what the map says of each key after a change, where it agreed with the timers before
pub map_removed : (f g : ℕ → Option ℕ) (key : ℕ) (xs : List Timer) → ((q : ℕ) → g q ≡ cond (is_eq (nat_cmp key q)) None (f q)) → ((q : ℕ) → f q ≡ due_of q xs) → (q : ℕ) → g q ≡ due_of q (removed key xs)
map_removed f g key xs after before q =
    after q ∙ ap (λ o. cond (is_eq (nat_cmp key q)) None o) (before q) ∙ ap (λ b. cond b None (due_of q xs)) (same_test key q) ∙ sym (due_of-removed q key xs)

pub map_inserted : (f g : ℕ → Option ℕ) (t : Timer) (xs : List Timer) → due_of t.1 xs ≡ None → ((q : ℕ) → g q ≡ cond (is_eq (nat_cmp t.1 q)) (Some t.0) (f q)) → ((q : ℕ) → f q ≡ due_of q xs) → (q : ℕ) → g q ≡ due_of q (inserted t xs)
map_inserted f g t xs absent after before q =
    after q ∙ ap (λ o. cond (is_eq (nat_cmp t.1 q)) (Some t.0) o) (before q) ∙ ap (λ b. cond b (Some t.0) (due_of q xs)) (same_test t.1 q) ∙ sym (due_of-inserted q t xs absent)

pub map_popped : (f g : ℕ → Option ℕ) (x : Timer) (xs : List Timer) → distinct_keys (x ∷ xs) ≡ true → ((q : ℕ) → g q ≡ cond (is_eq (nat_cmp x.1 q)) None (f q)) → ((q : ℕ) → f q ≡ due_of q (x ∷ xs)) → (q : ℕ) → g q ≡ due_of q xs
map_popped f g x xs d after before q =
    after q ∙ ap (λ o. cond (is_eq (nat_cmp x.1 q)) None o) (before q) ∙ ap (λ b. cond b None (due_of q (x ∷ xs))) (same_test x.1 q) ∙ due_of-rest q x xs d

pub absent_of : (o : Option ℕ) → is_some o ≡ false → o ≡ None
absent_of None h = refl
absent_of (Some n) h = absurd (let bad : ◌≡◌ {A = Bool} true false = h in cc)

-- ---- the first timer

not_after : (a b : Timer) → is_gt (order a b) ≡ false → a.0 ≤ b.0
not_after a b h = elim (leb_tells a.0 b.0) [
  | inl fits ↦ fits.1
  | inr more ↦ absurd (let bad : ◌≡◌ {A = Bool} true false = sym (ap is_gt (ap (λ o. ordering_then o (nat_cmp a.1 b.1)) (cmp_more a.0 b.0 more.1))) ∙ h in cc)
]

-- LAW: no timer is due before one that no other comes before
pub least_of : (x : Timer) (ts : List Timer) → All (λ t. is_gt (order x t) ≡ false) ts → IsLeast (Some x.0) ts
least_of x [] all key = tt
least_of x (t ∷ ts) all key = by (nat_eq t.1 key) (least_of x ts (All-tail (λ t. is_gt (order x t) ≡ false) t ts all) key)
  where
    by : (b : Bool) → MatchOption (due_of key ts) (Unit {0}) (λ due. x.0 ≤ due) → MatchOption (if b then Some t.0 else due_of key ts) (Unit {0}) (λ due. x.0 ≤ due)
    by true rest = not_after x t (All-head (λ t. is_gt (order x t) ≡ false) t ts all)
    by false rest = rest

-- LAW: where the first due comes after a moment, each does
pub later_than : (now : ℕ) (first : Option ℕ) (ts : List Timer) → IsLeast first ts → MatchOption first (Unit {0}) (λ due. now < due) → (key : ℕ) → MatchOption (due_of key ts) (Unit {0}) (λ due. now < due)
later_than now first ts least later key = by first (due_of key ts) later (least key)
  where
    by : (f o : Option ℕ) → MatchOption f (Unit {0}) (λ due. now < due) → MatchOption o (Unit {0}) (λ due. MatchOption f ⊥ (λ d. d ≤ due)) → MatchOption o (Unit {0}) (λ due. now < due)
    by f None h le = tt
    by None (Some due) h le = absurd le
    by (Some d) (Some due) h le = omega (arith, h, le)

-- ---- those that are due

above : (now : ℕ) (x : Timer) (ts : List Timer) → now < x.0 → AllByRecursion (λ t. order x t ≡ Less) ts → (key : ℕ) → MatchOption (due_of key ts) (Unit {0}) (λ due. now < due)
above now x [] later all key = tt
above now x (t ∷ ts) later all key = by (nat_eq t.1 key) (above now x ts later all.1 key)
  where
    by : (b : Bool) → MatchOption (due_of key ts) (Unit {0}) (λ due. now < due) → MatchOption (if b then Some t.0 else due_of key ts) (Unit {0}) (λ due. now < due)
    by true rest = (let fits = not_after x t (ap is_gt all.0) in omega (arith, fits, later))
    by false rest = rest

ahead : (a now : ℕ) → nat_le a now ≡ false → now < a
ahead a now h = grind (arith, nat_tests, h)

left : (a b : Bool) → (a || b) ≡ false → (a ≡ false) × (b ≡ false)
left true b h = absurd (let bad : ◌≡◌ {A = Bool} true false = h in cc)
left false b h = (refl, h)

-- LAW: a key that is not among those that are due has a later due, or none
pub later_others : (now : ℕ) (ts : List Timer) → IsStrictlySortedBy order ts → (key : ℕ) → list_any (nat_eq key) (keys_due now ts) ≡ false → MatchOption (due_of key ts) (Unit {0}) (λ due. now < due)
unfolding IsStrictlySortedBy
later_others now [] sorted key none = tt
later_others now (x ∷ xs) sorted key none = by (later_others now xs sorted.1 key) (nat_le x.0 now) refl
  where
    at : (c : Bool) → MatchOption (due_of key xs) (Unit {0}) (λ due. now < due) → (c ≡ true → now < x.0) → MatchOption (if c then Some x.0 else due_of key xs) (Unit {0}) (λ due. now < due)
    at true rest here = here refl
    at false rest here = rest

    by : (list_any (nat_eq key) (keys_due now xs) ≡ false → MatchOption (due_of key xs) (Unit {0}) (λ due. now < due)) → (b : Bool) → nat_le x.0 now ≡ b → MatchOption (if nat_eq x.1 key then Some x.0 else due_of key xs) (Unit {0}) (λ due. now < due)
    by ih true come =
        (let other = left (nat_eq key x.1) (list_any (nat_eq key) (keys_due now xs)) ((λ k. list_any (nat_eq key) (if sym come k then x.1 ∷ keys_due now xs else [])) ∙ none) in
        at (nat_eq x.1 key) (ih other.1) (λ same. absurd (let bad : ◌≡◌ {A = Bool} true false = sym same ∙ turned key x.1 other.0 in cc)))
    by ih false late = (let later = ahead x.0 now late in at (nat_eq x.1 key) (above now x xs later sorted.0 key) (λ same. later))

pub none_due : (now : ℕ) (x : Timer) (left rest : List Timer) → left ≡ x ∷ rest → now < x.0 → keys_due now left ≡ []
none_due now x left rest is later = (λ k. keys_due now (is k)) ∙ (λ k. if late k then x.1 ∷ keys_due now rest else [])
  where
    late : nat_le x.0 now ≡ false
    late = grind (arith, nat_tests, later)
