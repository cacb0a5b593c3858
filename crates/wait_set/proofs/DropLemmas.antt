-- The waits of a run are taken out, one after the other.
use Rattle.std.proofs.Common.{◌≡◌, ℕ, zero, suc, ◌<◌, ◌≤◌, List, [], ◌∷◌, length, get_or, filter, Bool, true, false, refl, sym, ap, subst, ◌∙◌, arith, inl, inr, All}
use Rattle.std.specs.Prelude.{nat_eq, ◌||◌, if◌then◌else◌}
use Rattle.std.specs.BTreeSet.{BTreeSet}
use Rattle.std.specs.List.{list_any}
use Rattle.std.proofs.lemmas.Bool.{cases_lt, eqb-true}
use Rattle.std.proofs.lemmas.List.Elements.{All-cons, All-head, All-nil, All-tail}
use Rattle.timer_queue.specs.Timers.{Timer, removed}
use Rattle.wait_set.specs.declared.asked.Asked.{Asked}
use Rattle.wait_set.specs.Concern.{Ascend}
use Rattle.wait_set.specs.Readers.{Reads, read_by}
use Rattle.wait_set.specs.Runs.{AllBefore, AreUnlisted, IsPaired, Pair, has_pair}
use Rattle.wait_set.specs.Timers.{AreApart, AreFound, AreKept, AreTimed}
use Rattle.wait_set.proofs.CutLemmas.{apart-cut, cut-length, or-left, or-right, timed-cut, without}
use Rattle.wait_set.proofs.KeptLemmas.{listed-cut}
use Rattle.wait_set.proofs.TimedLemmas.{flip, other-owner}

-- ---- places

get-low : (i n : ℕ) (xs : List Asked) (d : Asked) → n < i → get_or (without i xs) n d ≡ get_or xs n d
get-low zero n xs d lt = absurd (omega (arith, lt))
get-low (suc i) n [] d lt = refl
get-low (suc i) zero (z ∷ zs) d lt = refl
get-low (suc i) (suc n) (z ∷ zs) d lt = get-low i n zs d (omega (arith, lt))

get-high : (i n : ℕ) (xs : List Asked) (d : Asked) → i ≤ n → get_or (without i xs) n d ≡ get_or xs (suc n) d
get-high zero n [] d le = refl
get-high zero n (z ∷ zs) d le = refl
get-high (suc i) n [] d le = refl
get-high (suc i) zero (z ∷ zs) d le = absurd (omega (arith, le))
get-high (suc i) (suc n) (z ∷ zs) d le = get-high i n zs d (omega (arith, le))

ascend-cut : (i : ℕ) (asks : List Asked) → i < length asks → Ascend asks → Ascend (without i asks)
ascend-cut i asks lt asc m n d before within = elim (cases_lt n i) [
  | inl low ↦
      (let up = asc m n d before (omega (arith, low, lt)) in let left = ap (λ (a : Asked). a.owner) (get-low i m asks d (omega (arith, before, low))) in
      let right = ap (λ (a : Asked). a.owner) (get-low i n asks d low) in omega (arith, up, left, right))
  | inr high ↦ (let len = cut-length i asks lt in let right = ap (λ (a : Asked). a.owner) (get-high i n asks d high) in elim (cases_lt m i) [
    | inl low ↦ (let up = asc m (suc n) d (omega (arith, before)) (omega (arith, within, len)) in let left = ap (λ (a : Asked). a.owner) (get-low i m asks d low) in omega (arith, up, left, right))
    | inr both ↦ (let up = asc (suc m) (suc n) d (omega (arith, before)) (omega (arith, within, len)) in let left = ap (λ (a : Asked). a.owner) (get-high i m asks d both) in omega (arith, up, left, right))
  ])
]

-- ---- what is kept of the others

module _ (old new : BTreeSet Pair) (o : ℕ) (rest : (s n : ℕ) → nat_eq o n ≡ false → has_pair new s n ≡ has_pair old s n) where
  paired-others : (zs : List Asked) → list_any (λ b. nat_eq b.owner o) zs ≡ false → All (IsPaired old) zs → All (IsPaired new) zs
  paired-others [] none all = All-nil (IsPaired new)
  paired-others (z ∷ zs) none all =
      All-cons (IsPaired new) z zs
      (rest z.ask.serial z.owner (flip z.owner o false (or-left (nat_eq z.owner o) (list_any (λ b. nat_eq b.owner o) zs) none)) ∙ All-head (IsPaired old) z zs all)
      (paired-others zs (or-right (nat_eq z.owner o) (list_any (λ b. nat_eq b.owner o) zs) none) (All-tail (IsPaired old) z zs all))

  paired-cut : (i : ℕ) (asks : List Asked) (x : Asked) → AreApart asks → All (IsPaired old) asks → i < length asks → x ≡ get_or asks i x → x.owner ≡ o → All (IsPaired new) (without i asks)
  paired-cut i [] x apart all lt is own = absurd (omega (arith, lt))
  paired-cut zero (z ∷ zs) x apart all lt is own =
      paired-others zs ((λ k. list_any (λ b. nat_eq b.owner ((sym own ∙ ap (λ (a : Asked). a.owner) is) k)) zs) ∙ apart.0) (All-tail (IsPaired old) z zs all)
  paired-cut (suc i) (z ∷ zs) x apart all lt is own =
      All-cons (IsPaired new) z (without i zs)
      (rest z.ask.serial z.owner ((λ k. nat_eq (sym own k) z.owner) ∙ other-owner i zs x z.owner (omega (arith, lt)) is apart.0) ∙ All-head (IsPaired old) z zs all)
      (paired-cut i zs x apart.1 (All-tail (IsPaired old) z zs all) (omega (arith, lt)) is own)

-- a wait at a place
at-place : (i : ℕ) (asks : List Asked) → i < length asks → (x : Asked) × (x ≡ get_or asks i x)
at-place i [] lt = absurd (omega (arith, lt))
at-place zero (z ∷ zs) lt = (z, refl)
at-place (suc i) (z ∷ zs) lt = at-place i zs (omega (arith, lt))

-- LEMMA: the others are found where one is taken out, and its pair
pub found-cut : (i o : ℕ) (asks : List Asked) (old new : BTreeSet Pair) (ordered : Bool) → i < length asks → ((d : Asked) → o ≡ (get_or asks i d).owner) → ((s n : ℕ) → nat_eq o n ≡ false → has_pair new s n ≡ has_pair old s n)
    → AreFound asks old ordered → AreFound (without i asks) new ordered
found-cut i o asks old new ordered lt own rest found =
    (let x = at-place i asks lt in record {
      apart = apart-cut i asks found.apart;
      paired = paired-cut old new o rest i asks x.0 found.apart found.paired lt x.1 (ap (λ (a : Asked). a.owner) x.1 ∙ sym (own x.0));
      order = λ up. ascend-cut i asks lt (found.order up);
    })

-- LEMMA: and all is kept, without its timer too
pub kept-cut : (i o : ℕ) (asks : List Asked) (ts ts' : List Timer) (old new : Reads) (runs runs' : BTreeSet Pair) (ordered : Bool) → i < length asks → ((d : Asked) → o ≡ (get_or asks i d).owner)
    → ts' ≡ removed o ts → ((n : ℕ) → nat_eq o n ≡ false → read_by n new ≡ read_by n old) → ((s n : ℕ) → nat_eq o n ≡ false → has_pair runs' s n ≡ has_pair runs s n)
    → AreKept asks ts old runs ordered → AreKept (without i asks) ts' new runs' ordered
kept-cut i o asks ts ts' old new runs runs' ordered lt own timers tests rest kept =
    (let x = at-place i asks lt in let same : x.0.owner ≡ o = ap (λ (a : Asked). a.owner) x.1 ∙ sym (own x.0) in record {
      timed = subst (AreTimed (without i asks)) ((λ k. removed (same k) ts) ∙ sym timers) (timed-cut i asks x.0 ts kept.timed lt x.1);
      listed = listed-cut old new o tests i asks x.0 kept.timed.apart kept.listed lt x.1 same;
      paired = paired-cut runs runs' o rest i asks x.0 kept.timed.apart kept.paired lt x.1 same;
      order = λ up. ascend-cut i asks lt (kept.order up);
    })

-- ---- who is listed no more

-- an owner that is another's than the one that goes stays
any-other : (i o p : ℕ) (asks : List Asked) → i < length asks → ((d : Asked) → p ≡ (get_or asks i d).owner) → nat_eq p o ≡ false
    → list_any (λ b. nat_eq b.owner o) asks ≡ list_any (λ b. nat_eq b.owner o) (without i asks)
any-other i o p [] lt own other = absurd (omega (arith, lt))
any-other zero o p (z ∷ zs) lt own other = (λ k. (sym (λ m. nat_eq (own z m) o) ∙ other) k || list_any (λ b. nat_eq b.owner o) zs)
any-other (suc i) o p (z ∷ zs) lt own other = (λ k. nat_eq z.owner o || any-other i o p zs (omega (arith, lt)) own other k)

-- LEMMA: the owner of one that is taken out is listed no more, where it alone is struck out
pub unlisted-cut : (i p : ℕ) (asks : List Asked) (old new : ℕ → Bool) → i < length asks → ((d : Asked) → p ≡ (get_or asks i d).owner)
    → new p ≡ false → ((o : ℕ) → nat_eq p o ≡ false → new o ≡ old o) → AreUnlisted asks (without i asks) old new
unlisted-cut i p asks old new lt own none rest = record {
  gone = λ o before after.
      by-owner o (λ other. absurd (let bad : ◌≡◌ {A = Bool} true false = sym before ∙ any-other i o p asks lt own other ∙ after in cc));
  fewer = λ o before. by-owner o (λ other. rest o other ∙ before);
}
  where
    by-owner : (o : ℕ) → (nat_eq p o ≡ false → new o ≡ false) → new o ≡ false
    by-owner o h = by (nat_eq p o) refl
      where
        by : (b : Bool) → nat_eq p o ≡ b → new o ≡ false
        by true e = sym (λ k. new (eqb-true p o e k)) ∙ none
        by false e = h e

-- LEMMA: none goes where none is taken out
pub unlisted-same : (asks : List Asked) (listed : ℕ → Bool) → AreUnlisted asks asks listed listed
unlisted-same asks listed = record {
  gone = λ o before after. absurd (let bad : ◌≡◌ {A = Bool} true false = sym before ∙ after in cc);
  fewer = λ o before. before;
}

-- LEMMA: first some go, then others
pub unlisted-then : (first between last : List Asked) (r s t : ℕ → Bool)
    → AreUnlisted first between r s → AreUnlisted between last s t → AreUnlisted first last r t
unlisted-then first between last r s t one two = record {
  gone = λ o before after. by o before after (list_any (λ a. nat_eq a.owner o) between) refl;
  fewer = λ o before. two.fewer o (one.fewer o before);
}
  where
    by : (o : ℕ) → list_any (λ a. nat_eq a.owner o) first ≡ true → list_any (λ a. nat_eq a.owner o) last ≡ false
        → (b : Bool) → list_any (λ a. nat_eq a.owner o) between ≡ b → t o ≡ false
    by o before after true e = two.gone o e after
    by o before after false e = two.fewer o (one.gone o before e)

-- ---- a test that holds of what stays

module _ (f : Asked → Bool) where
  -- LEMMA: without one of which it doesn't hold
  pub cut-other : (i : ℕ) (xs : List Asked) → i < length xs → ((d : Asked) → f (get_or xs i d) ≡ false) → filter f (without i xs) ≡ filter f xs
  cut-other i [] lt h = absurd (omega (arith, lt))
  cut-other zero (z ∷ zs) lt h = sym (λ k. if h z k then z ∷ filter f zs else filter f zs)
  cut-other (suc i) (z ∷ zs) lt h = (λ k. if f z then z ∷ cut-other i zs (omega (arith, lt)) h k else cut-other i zs (omega (arith, lt)) h k)

  pub cut-same : (i : ℕ) (xs : List Asked) (x : Asked) → i < length xs → x ≡ get_or xs i x → f x ≡ false → filter f (without i xs) ≡ filter f xs
  cut-same i [] x lt is h = absurd (omega (arith, lt))
  cut-same zero (z ∷ zs) x lt is h = sym (λ k. if ((λ m. f (sym is m)) ∙ h) k then z ∷ filter f zs else filter f zs)
  cut-same (suc i) (z ∷ zs) x lt is h = (λ k. if f z then z ∷ cut-same i zs x (omega (arith, lt)) is h k else cut-same i zs x (omega (arith, lt)) is h k)

  -- LEMMA: it holds of those before the one that goes
  pub before-cut : (i : ℕ) (xs : List Asked) → i < length xs → AllBefore f xs i → AllBefore f (without i xs) i
  before-cut i xs lt h n d low within = (λ k. f (get-low i n xs d low k)) ∙ h n d low (omega (arith, low, lt))

  -- LEMMA: and of those up to a later place
  pub before-joined : (xs : List Asked) (from to : ℕ) → AllBefore f xs from → ((n : ℕ) (d : Asked) → from ≤ n → n < to → n < length xs → f (get_or xs n d) ≡ true) → AllBefore f xs to
  before-joined xs from to h more n d lt within = elim (cases_lt n from) [
    | inl low ↦ h n d low within
    | inr high ↦ more n d high lt within
  ]

  -- LEMMA: where it holds of all none goes
  pub all-stay : (xs : List Asked) (to : ℕ) → length xs ≤ to → AllBefore f xs to → filter f xs ≡ xs
  all-stay xs to le h = go xs (λ n d lt. h n d (omega (arith, lt, le)) lt)
    where
      go : (xs : List Asked) → ((n : ℕ) (d : Asked) → n < length xs → f (get_or xs n d) ≡ true) → filter f xs ≡ xs
      go [] h = refl
      go (z ∷ zs) h = (λ k. if h zero z (omega arith) k then z ∷ filter f zs else filter f zs) ∙ ap (λ t. z ∷ t) (go zs (λ n d lt. h (suc n) d (omega (arith, lt))))
