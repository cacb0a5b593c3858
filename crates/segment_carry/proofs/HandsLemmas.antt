-- What the last segment of a journal took over, and its entries behind its opening, tell of the whole journal.
use Rattle.std.proofs.Common.{◌≡◌, ◌∙◌, ap, refl, sym, subst, ℕ, zero, suc, ◌+◌, ◌<◌, Bool, true, false, cond, [], ◌∷◌, ◌++◌, length, ◌||◌, arith, append_assoc, length-append}
use Rattle.std.specs.Prelude.{None, count_by, is_some, filter, map, nat_eq, replicate, slice_index}
use Rattle.std.specs.List.{list_any}
use Rattle.std.proofs.lemmas.List.Sums.{sum_by-append}
use Rattle.std.proofs.lemmas.List.Folds.{list_any-append}
use Rattle.std.proofs.lemmas.Bool.Decides.{nat_tests}
use Rattle.ha_config.specs.Sound.{are_in_name_order}
use Rattle.ha_config.specs.Words.{EachAfter, numbers_from, up_to}
use Rattle.ha_config.proofs.ListLemmas.{append-nil}
use Rattle.ha_journal.specs.declared.entry.Entry.{Entry}
use Rattle.ha_journal.specs.declared.entry.Entry.TheVariants.{Boot, Line, Step, Again}
use Rattle.ha_journal.specs.Entries.{Reopening, again_in, is_again}
use Rattle.ha_journal.specs.Journal.{Journal, HasEntry, more}
use Rattle.ha_journal.specs.Journal as one
use Rattle.ha_journal.proofs.MoreLemmas.{has-entry}
use Rattle.ha_laws.proofs.PrefixLaws.{has-more}
use Rattle.ha_model.specs.Lawful.{is_line_of, shuts}
use Rattle.ha_whole.specs.Segments.{alone, cut, entries_in, reopened, segment, segments}
use Rattle.ha_whole.specs.Whole.{AreEntries, IsBehind, IsFirst, again_of, carry_of, numbers_carried}
use Rattle.whole_laws.proofs.CutLemmas.{IsCut, closed-again, closed-on, cut-behind, cut-first, entries-snoc, segment-again, segment-on}
use Rattle.segment_carry.specs.Hands.{Hands}
use Rattle.segment_carry.specs.Sources.{carry_in}
use Rattle.segment_carry.proofs.LastLemmas.{ordered-numbers}

-- ---- lists of numbers

-- what is made of each of so many numbers stands in their place
pub made-at : (f : ℕ → ℕ) (low n i : ℕ) → i < n → slice_index (map f (numbers_from low n)) i ≡ f (low + i)
made-at f low zero i lt = absurd (omega (arith, lt))
made-at f low (suc n) zero lt = (let e : low ≡ low + 0 = omega arith in ap f e)
made-at f low (suc n) (suc i) lt = (let e : (low + 1) + i ≡ low + suc i = omega arith in made-at f (low + 1) n i (omega (arith, lt)) ∙ ap f e)

same-number : (a b : ℕ) → a ≡ b → nat_eq a b ≡ true
same-number a b e = grind (arith, nat_tests)

other-number : (a b : ℕ) → a < b → nat_eq a b ≡ false
other-number a b lt = grind (arith, nat_tests)

-- a number below all these is none of them
below-all : (p : ℕ → Bool) (s low n : ℕ) → s < low → list_any (nat_eq s) (filter p (numbers_from low n)) ≡ false
below-all p s low zero lt = refl
below-all p s low (suc n) lt = by (p low) (below-all p s (low + 1) n (omega (arith, lt)))
  where
    by : (b : Bool) → list_any (nat_eq s) (filter p (numbers_from (low + 1) n)) ≡ false
        → list_any (nat_eq s) (cond b (low ∷ filter p (numbers_from (low + 1) n)) (filter p (numbers_from (low + 1) n))) ≡ false
    by true rest = (λ i. other-number s low lt i || rest i)
    by false rest = rest

-- one of the numbers that pass is one that passes
pub chosen-at : (p : ℕ → Bool) (low n i : ℕ) → i < n → list_any (nat_eq (low + i)) (filter p (numbers_from low n)) ≡ p (low + i)
chosen-at p low zero i lt = absurd (omega (arith, lt))
chosen-at p low (suc n) zero lt = by (p low) refl
  where
    first : low + 0 ≡ low
    first = omega arith

    by : (b : Bool) → p low ≡ b → list_any (nat_eq (low + 0)) (cond b (low ∷ filter p (numbers_from (low + 1) n)) (filter p (numbers_from (low + 1) n))) ≡ p (low + 0)
    by true e = (λ i. same-number (low + 0) low first i || list_any (nat_eq (low + 0)) (filter p (numbers_from (low + 1) n))) ∙ sym (ap p first ∙ e)
    by false e = below-all p (low + 0) (low + 1) n (omega arith) ∙ sym (ap p first ∙ e)
chosen-at p low (suc n) (suc i) lt = by (p low) (chosen-at p (low + 1) n i (omega (arith, lt)))
  where
    e : (low + 1) + i ≡ low + suc i
    e = omega arith

    not-first : nat_eq (low + suc i) low ≡ false
    not-first = grind (arith, nat_tests)

    by : (b : Bool) → list_any (nat_eq ((low + 1) + i)) (filter p (numbers_from (low + 1) n)) ≡ p ((low + 1) + i)
        → list_any (nat_eq (low + suc i)) (cond b (low ∷ filter p (numbers_from (low + 1) n)) (filter p (numbers_from (low + 1) n))) ≡ p (low + suc i)
    by true rest = (λ k. not-first k || list_any (nat_eq (low + suc i)) (filter p (numbers_from (low + 1) n))) ∙ (λ k. list_any (nat_eq (sym e k)) (filter p (numbers_from (low + 1) n))) ∙ rest ∙ ap p e
    by false rest = (λ k. list_any (nat_eq (sym e k)) (filter p (numbers_from (low + 1) n))) ∙ rest ∙ ap p e

no-lines : (n i : ℕ) → slice_index (replicate n 0) i ≡ 0
no-lines zero zero = refl
no-lines zero (suc i) = refl
no-lines (suc n) zero = refl
no-lines (suc n) (suc i) = no-lines n i

-- ---- one entry more

plain : (n : ℕ) → 0 + n ≡ n
plain n = omega arith

count-more : (p : Entry → Bool) (j : Journal) (x : Entry) → count_by p (more j x) ≡ count_by p j + cond (p x) 1 0
count-more p j x = sum_by-append (λ y. cond (p y) 1 0) j (x ∷ []) ∙ (λ i. count_by p j + plain (cond (p x) 1 0) i)

or-none : (b : Bool) → (b || false) ≡ b
or-none true = refl
or-none false = refl

or-assoc : (a b c : Bool) → (a || (b || c)) ≡ ((a || b) || c)
or-assoc true b c = refl
or-assoc false b c = refl

any-more : (p : Entry → Bool) (j : Journal) (x : Entry) → list_any p (more j x) ≡ (list_any p j || p x)
any-more p j x = list_any-append p j (x ∷ []) ∙ (λ i. list_any p j || or-none (p x) i)

-- ---- what the opening took over

hands-first : (e : Entry) → IsFirst e → Hands (e ∷ [])
hands-first (Boot text config stored start zone carry) h = record {
  before = [];
  opening = Boot text config stored start zone carry;
  behind = [];
  is = refl;
  front_is = refl;
  opens = tt;
  lines = λ s lt. (let none : slice_index carry.lines s ≡ 0 = ap (λ l. slice_index l s) h.lines ∙ no-lines 16 s in omega (arith, none));
  shut = λ s lt. (λ i. list_any (nat_eq s) (sym h.shut i) || false);
  agains = refl;
  carried = refl;
  ordered = (λ i. are_in_name_order (h.numbers i));
}
hands-first (Line source number cmd) h = absurd h
hands-first (Step worker serial branch item) h = absurd h
hands-first (Again number start stored carry) h = absurd h

-- ---- behind an entry that opens no segment

carried-more : (s : Journal) (x : Entry) → HasEntry s → numbers_carried (more s x) ≡ numbers_carried s
carried-more [] x h = absurd h
carried-more (e ∷ es) x h = refl

hands-on : (k : Journal) (x : Entry) → IsCut k → HasEntry k → again_in x ≡ None → Hands k → Hands (more k x)
hands-on k x c has none h =
    let s = segment k in
    let closed = closed-on k x none in
    record {
      before = h.before;
      opening = h.opening;
      behind = more h.behind x;
      is = (λ i. more (h.is i) x) ∙ append_assoc h.before (h.opening ∷ h.behind) (x ∷ []);
      front_is = h.front_is ∙ (λ i. entries_in (sym closed i));
      opens = h.opens;
      lines = λ q lt. omega (arith, count-more (is_line_of q) k x, count-more (is_line_of q) h.behind x, h.lines q lt);
      shut = λ q lt.
          any-more (shuts q) k x
          ∙ (λ i. h.shut q lt i || shuts q x)
          ∙ sym (or-assoc (list_any (nat_eq q) (carry_in h.opening).shut) (list_any (shuts q) h.behind) (shuts q x))
          ∙ (λ i. list_any (nat_eq q) (carry_in h.opening).shut || sym (any-more (shuts q) h.behind x) i);
      agains =
          let plus : count_by is_again k + 0 ≡ length (cut k).closed = omega (arith, h.agains) in
          count-more is_again k x ∙ (λ i. count_by is_again k + cond (is_some (none i)) 1 0) ∙ plus ∙ (λ i. length (sym closed i));
      carried = (λ i. numbers_carried (segment-on k x none i)) ∙ carried-more s (alone s x) (has-entry s c.alone) ∙ h.carried;
      ordered = h.ordered;
    }

-- ---- behind the Again of a journal

-- what a segment opened so takes over of runs
pub reopened-numbers : (s : Journal) (a : Reopening) → one.IsJournal s → numbers_carried (reopened s a) ≡ a.carry.numbers
reopened-numbers [] a h = absurd h
reopened-numbers (Boot text config stored start zone carry ∷ es) a h = refl
reopened-numbers (Line source number cmd ∷ es) a h = absurd h.0
reopened-numbers (Step worker serial branch item ∷ es) a h = absurd h.0
reopened-numbers (Again number start stored carry ∷ es) a h = absurd h.0

pub hands-again : (k : Journal) → IsCut k → Hands k → Hands (more k (again_of k))
hands-again k c h =
    let x = again_of k in
    let s = segment k in
    let a : Reopening = record { number = _; start = _; stored = _; carry = carry_of k } in
    let closed : (cut (more k x)).closed ≡ segments k = closed-again k x a refl in
    record {
      before = k;
      opening = x;
      behind = [];
      is = refl;
      front_is = sym ((λ i. entries_in (closed i)) ∙ entries-snoc (cut k).closed s ∙ c.length_is);
      opens = tt;
      lines = λ q lt.
          let made : slice_index (map (λ q. count_by (is_line_of q) k) (up_to 16)) q ≡ count_by (is_line_of q) k
          = made-at (λ q. count_by (is_line_of q) k) 0 16 q lt ∙ (let e : 0 + q ≡ q = omega arith in λ i. count_by (is_line_of (e i)) k) in
          omega (arith, count-more (is_line_of q) k x, made);
      shut = λ q lt.
          let e : 0 + q ≡ q = omega arith in
          let chosen : list_any (nat_eq q) (filter (λ q. list_any (shuts q) k) (up_to 16)) ≡ list_any (shuts q) k
          = (λ i. list_any (nat_eq (sym e i)) (filter (λ q. list_any (shuts q) k) (up_to 16))) ∙ chosen-at (λ q. list_any (shuts q) k) 0 16 q lt ∙ (λ i. list_any (shuts (e i)) k) in
          any-more (shuts q) k x ∙ or-none (list_any (shuts q) k) ∙ sym (or-none (list_any (shuts q) k)) ∙ (λ i. sym chosen i || false);
      agains =
          let old = h.agains in
          let one = count-more is_again k x in
          let all = ap length closed in
          let more_closed = length-append (cut k).closed (s ∷ []) in
          omega (arith, old, one, all, more_closed);
      carried = (λ i. numbers_carried (segment-again k x a refl i)) ∙ reopened-numbers s a c.alone;
      ordered = ordered-numbers s;
    }

-- ---- along a journal

hands-behind : (k : Journal) (x : Entry) → IsCut k → HasEntry k → IsBehind k x → Hands k → Hands (more k x)
hands-behind k (Boot text config stored start zone carry) c has b h = absurd b
hands-behind k (Line source number cmd) c has b h = hands-on k (Line source number cmd) c has refl h
hands-behind k (Step worker serial branch item) c has b h = hands-on k (Step worker serial branch item) c has refl h
hands-behind k (Again number start stored carry) c has b h = subst (λ y. Hands (more k y)) (sym b.1) (hands-again k c h)

hands-from : (before xs : Journal) → IsCut before → HasEntry before → EachAfter IsBehind before xs → Hands before → Hands (before ++ xs)
hands-from before [] c has b h = subst Hands (sym (append-nil before)) h
hands-from before (x ∷ xs) c has b h =
    subst Hands (append_assoc before (x ∷ []) xs)
    (hands-from (more before x) xs (cut-behind before x c has b.0) (has-more before x has) b.1 (hands-behind before x c has b.0 h))

-- THE LAW: the opening of the last segment, and the entries behind it, tell of the whole journal
pub hands-of : (k : Journal) → AreEntries k → Hands k
hands-of [] h = absurd h
hands-of (e ∷ es) h = hands-from (e ∷ []) es (cut-first e h.0) tt h.1 (hands-first e h.0)

pub entries-have : (k : Journal) → AreEntries k → HasEntry k
entries-have [] h = absurd h
entries-have (e ∷ es) h = tt
