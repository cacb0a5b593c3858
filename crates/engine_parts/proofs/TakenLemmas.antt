-- Firings and numbers one after the other.
use Rattle.std.proofs.Common.{◌≡◌, ◌∙◌, refl, sym, ℕ, zero, suc, ◌+◌, ◌<◌, ◌≤◌, List, [], ◌∷◌, ◌++◌, length, get_or, take, drop, filter, Bool, true, false, rules, arith, append_assoc, append-nil}
use Rattle.std.specs.Prelude.{◌&&◌, nat_eq, nat_le, slice_index_or, if◌then◌else◌}
use Rattle.ha_journal.specs.declared.firing.Firing.{Firing}
use Rattle.engine_parts.specs.Numbers.{ascends_from}
use Rattle.engine_parts.specs.Owners.{as_configured}

filter-next : (test : Firing → Bool) (xs : List Firing) (i : ℕ) (x : Firing) → i < length xs → x ≡ get_or xs i x → filter test (take (suc i) xs) ≡ filter test (take i xs) ++ filter test (x ∷ [])
filter-next test [] i x lt is = absurd (omega (arith, lt))
filter-next test (y ∷ ys) zero x lt is = (λ i. filter test (sym is i ∷ []))
filter-next test (y ∷ ys) (suc i) x lt is = by (test y) (filter-next test ys i x (omega (arith, lt)) is)
  where
    by : (b : Bool) → filter test (take (suc i) ys) ≡ filter test (take i ys) ++ filter test (x ∷ [])
        → (if b then y ∷ filter test (take (suc i) ys) else filter test (take (suc i) ys)) ≡ (if b then y ∷ filter test (take i ys) else filter test (take i ys)) ++ filter test (x ∷ [])
    by true h = (λ k. y ∷ h k)
    by false h = h

-- LEMMA: one firing more
pub filter-taken : (test : Firing → Bool) (xs : List Firing) (i : ℕ) (x : Firing) → i < length xs → x ≡ get_or xs i x → filter test (take (i + 1) xs) ≡ filter test (take i xs) ++ filter test (x ∷ [])
filter-taken test xs i x lt is = (let up : i + 1 ≡ suc i = omega arith in λ k. filter test (take (up k) xs)) ∙ filter-next test xs i x lt is

configured-next : (fs : List Firing) (ns : List ℕ) (i n : ℕ) → i < length ns → n ≡ get_or ns i n → as_configured (take (suc i) ns) fs ≡ as_configured (take i ns) fs ++ filter (λ (f : Firing). nat_eq f.owner n) fs
configured-next fs [] i n lt is = absurd (omega (arith, lt))
configured-next fs (m ∷ ns) zero n lt is = append-nil (filter (λ (f : Firing). nat_eq f.owner m) fs) ∙ (λ i. filter (λ (f : Firing). nat_eq f.owner (sym is i)) fs)
configured-next fs (m ∷ ns) (suc i) n lt is =
    (λ k. filter (λ (f : Firing). nat_eq f.owner m) fs ++ configured-next fs ns i n (omega (arith, lt)) is k)
    ∙ sym (append_assoc (filter (λ (f : Firing). nat_eq f.owner m) fs) (as_configured (take i ns) fs) (filter (λ (f : Firing). nat_eq f.owner n) fs))

-- LEMMA: one number more
pub configured-taken : (fs : List Firing) (ns : List ℕ) (i n : ℕ) → i < length ns → n ≡ get_or ns i n → as_configured (take (i + 1) ns) fs ≡ as_configured (take i ns) fs ++ filter (λ (f : Firing). nat_eq f.owner n) fs
configured-taken fs ns i n lt is = (let up : i + 1 ≡ suc i = omega arith in λ k. as_configured (take (up k) ns) fs) ∙ configured-next fs ns i n lt is

index-here : (ns : List ℕ) (i d : ℕ) → i < length ns → slice_index_or ns i d ≡ get_or ns i (slice_index_or ns i d)
index-here [] i d lt = absurd (omega (arith, lt))
index-here (n ∷ ns) zero d lt = refl
index-here (n ∷ ns) (suc i) d lt = index-here ns i d (omega (arith, lt))

-- LEMMA: the same, by the number at its place
pub configured-at : (fs : List Firing) (ns : List ℕ) (i d : ℕ) → i < length ns
    → as_configured (take (i + 1) ns) fs ≡ as_configured (take i ns) fs ++ filter (λ (f : Firing). nat_eq f.owner (slice_index_or ns i d)) fs
configured-at fs ns i d lt = configured-taken fs ns i (slice_index_or ns i d) lt (index-here ns i d lt)

ascends-next : (least : ℕ) (ns : List ℕ) (i n : ℕ) → i < length ns → n ≡ get_or ns i n → ascends_from least (drop i ns) ≡ (nat_le least n && ascends_from (suc n) (drop (suc i) ns))
ascends-next least [] i n lt is = absurd (omega (arith, lt))
ascends-next least (m ∷ ns) zero n lt is = (λ k. nat_le least (sym is k) && ascends_from (suc (sym is k)) ns)
ascends-next least (m ∷ ns) (suc i) n lt is = ascends-next least ns i n (omega (arith, lt)) is

-- LEMMA: a number that is no less is passed
pub ascends-on : (least : ℕ) (ns : List ℕ) (i n : ℕ) → i < length ns → n ≡ get_or ns i n → least ≤ n → ascends_from least (drop i ns) ≡ ascends_from (n + 1) (drop (i + 1) ns)
ascends-on least ns i n lt is le =
    let le' : nat_le least n ≡ true = search (rules, le) in
    let up : suc i ≡ i + 1 = omega arith in
    let over : suc n ≡ n + 1 = omega arith in
    ascends-next least ns i n lt is ∙ (λ k. le' k && ascends_from (over k) (drop (up k) ns))

-- LEMMA: at one that is less they do not ascend
pub ascends-not : (least : ℕ) (ns : List ℕ) (i n : ℕ) → i < length ns → n ≡ get_or ns i n → n < least → false ≡ ascends_from least (drop i ns)
ascends-not least ns i n lt is less = (let no : nat_le least n ≡ false = search (rules, less) in sym (ascends-next least ns i n lt is ∙ (λ k. no k && ascends_from (suc n) (drop (suc i) ns))))
