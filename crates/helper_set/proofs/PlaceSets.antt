-- Places taken out of a set, the least first, and the keys of timers that are due.
use Rattle.std.proofs.Common.{◌≡◌, ℕ, zero, suc, ◌+◌, ◌<◌, ◌≤◌, List, [], ◌∷◌, ◌++◌, length, take, get_or, Bool, true, false, refl, sym, ap, subst, ◌∙◌, arith, nat_cmp, inl, inr, append_assoc, append-nil}
use Rattle.std.specs.Prelude.{IsSome, IsTrue, MatchOption, ◌↔◌, None, Option, Some, flat_map, nat_eq, nat_le, ◌||◌, if◌then◌else◌}
use Rattle.std.specs.List.{list_any}
use Rattle.std.specs.Option.{option_map_or}
use Rattle.std.specs.BTreeMap.{is_at}
use Rattle.std.specs.BTreeSet.{BTreeSet, IsLowerBound}
use Rattle.std.specs.Ordering.{is_gt}
use Rattle.std.proofs.lemmas.Bool.Decides.{eqb_tells, nat_tests}
use Rattle.std.proofs.lemmas.List.{take_more}
use Rattle.ha_config.specs.Words.{numbers_from, up_to}
use Rattle.timer_queue.specs.Timers.{Timer, due_of, keys_due}
use Rattle.helper_set.specs.Passes.{Turns, has, is_over}

pub is-at-same : (n : ℕ) → is_at (nat_cmp n) n ≡ true
is-at-same n = grind (arith, nat_tests)

pub is-at-other : (a b : ℕ) → nat_eq a b ≡ false → is_at (nat_cmp a) b ≡ false
is-at-other a b h = grind (arith, nat_tests, h)

pub is-at-is : (a b : ℕ) → is_at (nat_cmp a) b ≡ nat_eq b a
is-at-is a b = elim (eqb_tells a b) [
  | inl same ↦ subst (λ m. is_at (nat_cmp a) m ≡ nat_eq m a) same.1 (is-at-same a ∙ sym (let e : nat_eq a a ≡ true = grind (arith, nat_tests) in e))
  | inr other ↦ is-at-other a b other.0 ∙ sym (let e : nat_eq b a ≡ false = grind (arith, nat_tests, other.0) in e)
]

least-le : (a b : ℕ) → is_gt (nat_cmp a b) ≡ false → a ≤ b
least-le a b h = grind (arith, nat_tests, h)

pub never : {P : Type 0} (b : Bool) → b ≡ true → b ≡ false → P
never b h k = (let bad : ◌≡◌ {A = Bool} true false = sym h ∙ k in absurd (cc))

-- one place was taken out, the least
module _ (old new : BTreeSet ℕ) (p : ℕ) (updates : Turns old new p false) (least : IsLowerBound nat_cmp old p) where
  pub left-here : has new p ≡ false
  left-here = updates p ∙ (λ i. if is-at-same p i then false else has old p)

  pub left-else : (n : ℕ) → nat_eq p n ≡ false → has new n ≡ has old n
  left-else n apart = updates n ∙ (λ i. if is-at-other p n apart i then false else has old n)

  pub left-before : (n : ℕ) → n < p → has old n ≡ false
  left-before n lt = by (has old n) refl
    where
      by : (b : Bool) → has old n ≡ b → has old n ≡ false
      by true h = (let le = least-le p n (least n (subst IsTrue (sym h) refl)) in absurd (omega (arith, le, lt)))
      by false h = h

  pub left-from : (n : ℕ) → has new n ≡ true → p + 1 ≤ n
  left-from n h = elim (eqb_tells p n) [
    | inl same ↦ (let bad : ◌≡◌ {A = Bool} true false = sym h ∙ subst (λ m. has new m ≡ false) same.1 left-here in cc)
    | inr other ↦ (let apart = other.1 in let le = least-le p n (least n (subst IsTrue (sym (sym (left-else n other.0) ∙ h)) refl)) in omega (arith, apart, le))
  ]

abbrev pub nobody : Option ℕ
nobody = None

pub none-left : (set : BTreeSet ℕ) → (IsSome nobody ↔ (0 < length set.keys)) → (n : ℕ) → has set n ≡ false
none-left set variant n = by set.keys variant
  where
    by : (ks : List ℕ) → (IsSome nobody ↔ (0 < length ks)) → list_any (is_at (nat_cmp n)) ks ≡ false
    by [] v = refl
    by (k ∷ ks) v = absurd (let bad : ◌≡◌ {A = Bool} false true = v.1 (omega arith) in cc)

numbers-snoc : (low n : ℕ) → numbers_from low (suc n) ≡ numbers_from low n ++ ((low + n) ∷ [])
numbers-snoc low zero = (let e : low ≡ low + 0 = omega arith in λ i. e i ∷ [])
numbers-snoc low (suc n) = (let e : low + 1 + n ≡ low + suc n = omega arith in (λ i. low ∷ numbers-snoc (low + 1) n i) ∙ (λ i. low ∷ (numbers_from (low + 1) n ++ (e i ∷ []))))

flat-snoc : {X Y : Type 0} (f : X → List Y) (xs : List X) (x : X) → flat_map f (xs ++ (x ∷ [])) ≡ flat_map f xs ++ f x
flat-snoc f [] x = append-nil (f x)
flat-snoc f (y ∷ ys) x = (λ i. f y ++ flat-snoc f ys x i) ∙ sym (append_assoc (f y) (flat_map f ys) (f x))

pub flat-up : {Y : Type 0} (f : ℕ → List Y) (n : ℕ) → flat_map f (up_to (n + 1)) ≡ flat_map f (up_to n) ++ f n
flat-up f n =
    (let e : n + 1 ≡ suc n = omega arith in λ i. flat_map f (up_to (e i)))
    ∙ (λ i. flat_map f (numbers-snoc 0 n i))
    ∙ flat-snoc f (up_to n) (0 + n)
    ∙ (let e : 0 + n ≡ n = omega arith in λ i. flat_map f (up_to n) ++ f (e i))

-- LAW: where nothing comes from a place on, what comes up to there is all
pub flat-skip : {Y : Type 0} (f : ℕ → List Y) (a b : ℕ) → a ≤ b → ((n : ℕ) → a ≤ n → n < b → f n ≡ []) → flat_map f (up_to b) ≡ flat_map f (up_to a)
flat-skip f zero zero le none = refl
flat-skip f (suc a) zero le none = absurd (omega (arith, le))
flat-skip f a (suc b) le none = elim (eqb_tells a (suc b)) [
  | inl same ↦ (λ i. flat_map f (up_to (sym same.1 i)))
  | inr other ↦ (let apart = other.1 in
      (let e : suc b ≡ b + 1 = omega arith in λ i. flat_map f (up_to (e i)))
      ∙ flat-up f b
      ∙ (λ i. flat_map f (up_to b) ++ none b (omega (arith, le, apart)) (omega arith) i)
      ∙ append-nil (flat_map f (up_to b))
      ∙ flat-skip f a b (omega (arith, le, apart)) (λ n from lt. none n from (omega (arith, lt))))
]

pub apart : (a b : ℕ) → a + 1 ≤ b → nat_eq a b ≡ false
apart a b le = grind (arith, nat_tests, le)

-- ---- keys of timers that are due

any-snoc : (n : ℕ) (xs : List ℕ) (x : ℕ) → list_any (nat_eq n) (xs ++ (x ∷ [])) ≡ (nat_eq n x || list_any (nat_eq n) xs)
any-snoc n [] x = refl
any-snoc n (y ∷ ys) x = (λ i. nat_eq n y || any-snoc n ys x i) ∙ by (nat_eq n y) (nat_eq n x) (list_any (nat_eq n) ys)
  where
    by : (a b c : Bool) → (a || (b || c)) ≡ (b || (a || c))
    by true true c = refl
    by true false c = refl
    by false b c = refl

-- one key more was put in
pub keys-put : (old new : BTreeSet ℕ) (keys : List ℕ) (i : ℕ) → i < length keys → Turns old new (get_or keys i 0) true
    → ((n : ℕ) → has old n ≡ list_any (nat_eq n) (take i keys)) → (n : ℕ) → has new n ≡ list_any (nat_eq n) (take (i + 1) keys)
keys-put old new keys i lt turns h n =
    turns n ∙ by (is_at (nat_cmp k) n) (is-at-is k n) ∙ sym (ap (list_any (nat_eq n)) (take_more keys i 0 lt) ∙ any-snoc n (take i keys) k)
  where
    k : ℕ
    k = get_or keys i 0

    by : (b : Bool) → b ≡ nat_eq n k → (if b then true else has old n) ≡ (nat_eq n k || list_any (nat_eq n) (take i keys))
    by true e = (λ q. e q || list_any (nat_eq n) (take i keys))
    by false e = h n ∙ (λ q. e q || list_any (nat_eq n) (take i keys))

due-key : (at n : ℕ) (ts : List Timer) → list_any (nat_eq n) (keys_due at ts) ≡ true → is_over at ts n ≡ true
due-key at n [] h = absurd (let bad : ◌≡◌ {A = Bool} false true = h in cc)
due-key at n (x ∷ xs) h = by (nat_le x.0 at) refl h (due-key at n xs)
  where
    here : (b : Bool) → nat_eq x.1 n ≡ b → nat_le x.0 at ≡ true → (nat_eq n x.1 || list_any (nat_eq n) (keys_due at xs)) ≡ true
        → (list_any (nat_eq n) (keys_due at xs) ≡ true → is_over at xs n ≡ true) → option_map_or (λ due. nat_le due at) (if b then Some x.0 else due_of n xs) false ≡ true
    here true same le k more = le
    here false other le k more = (let e : nat_eq n x.1 ≡ false = grind (arith, nat_tests, other) in more (sym (λ i. e i || list_any (nat_eq n) (keys_due at xs)) ∙ k))

    by : (b : Bool) → nat_le x.0 at ≡ b → list_any (nat_eq n) (if b then x.1 ∷ keys_due at xs else []) ≡ true
        → (list_any (nat_eq n) (keys_due at xs) ≡ true → is_over at xs n ≡ true) → option_map_or (λ due. nat_le due at) (if nat_eq x.1 n then Some x.0 else due_of n xs) false ≡ true
    by true le k more = here (nat_eq x.1 n) refl le k more
    by false le k more = absurd (let bad : ◌≡◌ {A = Bool} false true = k in cc)

abbrev pub IsLater : ℕ → Option ℕ → Type 0
IsLater at o = MatchOption o (Unit {0}) (λ due. at < due)

later-not : (at : ℕ) (o : Option ℕ) → IsLater at o → option_map_or (λ due. nat_le due at) o false ≡ false
later-not at None l = refl
later-not at (Some due) l = grind (arith, nat_tests, l)

-- LAW: the keys that are due are those of the timers that are due
pub keys-over : (at : ℕ) (ts : List Timer) (keys : List ℕ) → keys ≡ keys_due at ts → ((n : ℕ) → list_any (nat_eq n) keys ≡ false → IsLater at (due_of n ts))
    → (n : ℕ) → list_any (nat_eq n) keys ≡ is_over at ts n
keys-over at ts keys is others n = by (list_any (nat_eq n) keys) refl
  where
    by : (b : Bool) → list_any (nat_eq n) keys ≡ b → b ≡ is_over at ts n
    by true h = sym (due-key at n ts (sym (ap (list_any (nat_eq n)) is) ∙ h))
    by false h = sym (later-not at (due_of n ts) (others n h))
