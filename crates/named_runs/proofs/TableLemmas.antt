-- A table stays counted.
use Rattle.std.proofs.Common.{◌≡◌, ℕ, zero, suc, ◌+◌, ◌<◌, ◌≤◌, ◌^◌, List, [], ◌∷◌, ◌++◌, length, Bool, true, false, cond, refl, sym, subst, ◌∙◌, rules, arith}
use Rattle.std.specs.Prelude.{Option, Some, nat_eq, nat_lt, slice_get, slice_index_or, unwrap_or, ◌&&◌, if◌then◌else◌}
use Rattle.std.specs.List.{list_all}
use Rattle.std.proofs.lemmas.List.Sums.{sum_by-cons}
use Rattle.ha_config.proofs.EqualLemmas.{and_left, and_right}
use Rattle.ha_config.proofs.ListLemmas.{append-nil}
use Rattle.ha_model.specs.declared.record.Record.{Record}
use Rattle.ha_model.specs.Records.{Records}
use Rattle.segment_runs.specs.Goes.{CountAlike}
use Rattle.segment_runs.specs.Segment.{Closed, SegmentTable, number_at}
use Rattle.named_runs.specs.declared.runs.Opening.{Opening}
use Rattle.named_runs.specs.Opening.{IsOpening}
use Rattle.named_runs.specs.Named.{GoesOn, IsCounted, first_in, runs_named}
use Rattle.named_runs.proofs.CountLemmas.{first-is, first-known, known-alike, known-more, past-end, runs-alike, runs-more, runs-most, units_of}

-- LAW: where the units of the runs stay, it stays counted
pub counted-alike : (firsts counts : List ℕ) (t t' : SegmentTable) → units_of t'.list ≡ units_of t.list → t'.closed ≡ t.closed → IsCounted firsts counts t → IsCounted firsts counts t'
counted-alike firsts counts t t' units closed h = record {
  whole = h.whole;
  within = h.within;
  known = known-alike (length firsts) t.list t'.list units h.known;
  counted = λ n lt. h.counted n lt ∙ sym (runs-alike firsts n t.list t'.list units);
  small = λ a. subst (λ (c : Closed). number_at c.numbers a < 2 ^ 62) (sym closed) (h.small a);
}

-- LAW: with one run more, which was counted
pub counted-more : (firsts counts counts' : List ℕ) (t t' : SegmentTable) (a first : ℕ) → units_of t'.list ≡ units_of t.list ++ (a ∷ []) → t'.closed ≡ t.closed → slice_get firsts a ≡ Some first → a < length firsts
    → length counts' ≡ length counts → ((n : ℕ) → n < length counts → slice_index_or counts' n 0 ≡ slice_index_or counts n 0 + (if nat_eq first n then 1 else 0)) → IsCounted firsts counts t → IsCounted firsts counts' t'
counted-more firsts counts counts' t t' a first units closed is lt len more h = record {
  whole = len ∙ h.whole;
  within = h.within;
  known = known-more (length firsts) a t.list t'.list units lt h.known;
  counted = λ n less. more n (omega (arith, less, len)) ∙ (λ i. h.counted n (omega (arith, less, len)) i + (if nat_eq (sym (first-is firsts a first is) i) n then 1 else 0))
      ∙ by (runs_named firsts n t.list) (nat_eq (first_in firsts a) n) ∙ sym (runs-more firsts n a t.list t'.list units);
  small = λ b. subst (λ (c : Closed). number_at c.numbers b < 2 ^ 62) (sym closed) (h.small b);
}
  where
    by : (m : ℕ) (b : Bool) → m + (if b then 1 else 0) ≡ m + cond b 1 0
    by m true = refl
    by m false = refl

-- LAW: so it stays counted where a run came or not, as was counted
pub counted-told : (firsts counts counts' : List ℕ) (t t' : SegmentTable) (a first : ℕ) (b : Bool) → units_of t'.list ≡ units_of t.list ++ (if b then a ∷ [] else []) → t'.closed ≡ t.closed → slice_get firsts a ≡ Some first
    → a < length firsts → length counts' ≡ length counts → ((n : ℕ) → n < length counts → slice_index_or counts' n 0 ≡ slice_index_or counts n 0 + (if b && nat_eq first n then 1 else 0)) → IsCounted firsts counts t → IsCounted firsts counts' t'
counted-told firsts counts counts' t t' a first true units closed is lt len more h = counted-more firsts counts counts' t t' a first units closed is lt len more h
counted-told firsts counts counts' t t' a first false units closed is lt len more h =
    let same : IsCounted firsts counts t' = counted-alike firsts counts t t' (units ∙ append-nil (units_of t.list)) closed h in
    record {
      whole = len ∙ same.whole;
      within = same.within;
      known = same.known;
      counted = λ n less. more n (omega (arith, less, len)) ∙ (let none : slice_index_or counts n 0 + 0 ≡ slice_index_or counts n 0 = omega arith in none) ∙ same.counted n (omega (arith, less, len));
      small = same.small;
    }

-- LAW: as many are counted before a run of a name as the name has runs
pub count-of : (firsts counts : List ℕ) (t : SegmentTable) (a first : ℕ) → IsCounted firsts counts t → slice_get firsts a ≡ Some first → slice_index_or counts first 0 ≡ runs_named firsts (first_in firsts a) t.list
count-of firsts counts t a first h is =
    let below = first-known (length firsts) firsts a first h.within is in
    h.counted first (omega (arith, below, h.whole)) ∙ (λ i. runs_named firsts (sym (first-is firsts a first is) i) t.list)

pub count-few : (firsts counts : List ℕ) (t : SegmentTable) (a first : ℕ) → IsCounted firsts counts t → slice_get firsts a ≡ Some first → slice_index_or counts first 0 ≤ length t.list
count-few firsts counts t a first h is = subst (λ m. m ≤ length t.list) (sym (count-of firsts counts t a first h is)) (runs-most firsts (first_in firsts a) t.list)

-- what is counted of a name is at most what there is
pub count-most : (firsts counts : List ℕ) (t : SegmentTable) (n : ℕ) → IsCounted firsts counts t → n < length counts → slice_index_or counts n 0 ≤ length t.list
count-most firsts counts t n h lt = subst (λ m. m ≤ length t.list) (sym (h.counted n lt)) (runs-most firsts n t.list)

less-of : (a b : ℕ) → nat_lt a b ≡ true → a < b
less-of a b e = search (rules, e)

is-less : (a b : ℕ) → a < b → nat_lt a b ≡ true
is-less a b lt = search (rules, lt)

-- ---- other units come behind

firsts-same : (old new : List ℕ) → GoesOn old new → (a : ℕ) → a < length old → first_in new a ≡ first_in old a
firsts-same old new g a lt = (λ i. first_of (g.alike a lt i))
  where
    first_of : Option ℕ → ℕ
    first_of o = unwrap_or o a

runs-same : (old new : List ℕ) → GoesOn old new → (n : ℕ) (rs : Records) → list_all (λ r. nat_lt r.automation (length old)) rs ≡ true → runs_named new n rs ≡ runs_named old n rs
runs-same old new g n [] h = refl
runs-same old new g n (r ∷ rs) h =
    sum_by-cons (λ (q : Record). cond (nat_eq (first_in new q.automation) n) 1 0) r rs
    ∙ (λ i. cond (nat_eq (firsts-same old new g r.automation (less-of r.automation (length old) (and_left (nat_lt r.automation (length old)) (list_all (λ q. nat_lt q.automation (length old)) rs) h)) i) n) 1 0
    + runs-same old new g n rs (and_right (nat_lt r.automation (length old)) (list_all (λ q. nat_lt q.automation (length old)) rs) h) i)
    ∙ sym (sum_by-cons (λ (q : Record). cond (nat_eq (first_in old q.automation) n) 1 0) r rs)

known-longer : (m m' : ℕ) (rs : Records) → m < suc m' → list_all (λ r. nat_lt r.automation m) rs ≡ true → list_all (λ r. nat_lt r.automation m') rs ≡ true
known-longer m m' [] le h = refl
known-longer m m' (r ∷ rs) le h =
    (λ i. is-less r.automation m' (let lt = less-of r.automation m (and_left (nat_lt r.automation m) (list_all (λ q. nat_lt q.automation m) rs) h) in omega (arith, lt, le)) i
    && known-longer m m' rs le (and_right (nat_lt r.automation m) (list_all (λ q. nat_lt q.automation m) rs) h) i)

-- a first that no old unit has was counted by none
first-there : (old : List ℕ) (rs : Records) (n : ℕ) → list_all (λ n. nat_lt n (length old)) old ≡ true → list_all (λ r. nat_lt r.automation (length old)) rs ≡ true → length old ≤ n → runs_named old n rs ≡ 0
first-there old [] n within h le = refl
first-there old (r ∷ rs) n within h le =
    sum_by-cons (λ (q : Record). cond (nat_eq (first_in old q.automation) n) 1 0) r rs
    ∙ (λ i. cond (apart i) 1 0 + first-there old rs n within (and_right (nat_lt r.automation (length old)) (list_all (λ q. nat_lt q.automation (length old)) rs) h) le i)
  where
    here : (xs : List ℕ) (a : ℕ) → a < length xs → (x : ℕ) × (slice_get xs a ≡ Some x)
    here [] a lt = absurd (omega (arith, lt))
    here (x ∷ xs) zero lt = (x, refl)
    here (x ∷ xs) (suc a) lt = here xs a (omega (arith, lt))

    apart : nat_eq (first_in old r.automation) n ≡ false
    apart =
        let lt = less-of r.automation (length old) (and_left (nat_lt r.automation (length old)) (list_all (λ q. nat_lt q.automation (length old)) rs) h) in
        let got = here old r.automation lt in
        let below = first-known (length old) old r.automation got.0 within got.1 in
        (λ i. nat_eq (first-is old r.automation got.0 got.1 i) n) ∙ other got.0 n (omega (arith, below, le))
      where
        other : (a b : ℕ) → a < b → nat_eq a b ≡ false
        other a b lt = search (rules, lt)

-- LAW: with more units behind those that are there it is counted by the counts that were, and 0 for the others
pub counted-entered : (old new counts counts' : List ℕ) (t t' : SegmentTable) → GoesOn old new → length counts' ≡ length new → ((n : ℕ) → n < length new → slice_index_or counts' n 0 ≡ slice_index_or counts n 0)
    → t'.list ≡ t.list → ((a : ℕ) → number_at t'.closed.numbers a < 2 ^ 62) → IsCounted old counts t → IsCounted new counts' t'
counted-entered old new counts counts' t t' g len same list small h = record {
  whole = len;
  within = g.within;
  known = (λ i. list_all (λ r. nat_lt r.automation (length new)) (list i)) ∙ known-longer (length old) (length new) t.list g.longer h.known;
  counted = λ n lt. same n (omega (arith, lt, len)) ∙ by n (nat_lt n (length old)) refl ∙ sym (runs-same old new g n t.list h.known) ∙ (λ i. runs_named new n (sym list i));
  small = small;
}
  where
    not-less : (a b : ℕ) → nat_lt a b ≡ false → b ≤ a
    not-less a b e = search (rules, e)

    by : (n : ℕ) (b : Bool) → nat_lt n (length old) ≡ b → slice_index_or counts n 0 ≡ runs_named old n t.list
    by n true e = h.counted n (let lt = less-of n (length old) e in omega (arith, lt, h.whole))
    by n false e =
        let le = not-less n (length old) e in
        past-end counts n (omega (arith, le, h.whole)) ∙ sym (first-there old t.list n h.within h.known le)

-- LAW: the numbers of closed segments count alike for the runs that are there
pub entered-alike : (num new : ℕ → ℕ) (m : ℕ) (rs : Records) → ((a : ℕ) → a < m → num a ≡ new a) → list_all (λ r. nat_lt r.automation m) rs ≡ true → CountAlike num new rs
entered-alike num new m [] alike h = tt
entered-alike num new m (r ∷ rs) alike h = (
  alike r.automation (less-of r.automation m (and_left (nat_lt r.automation m) (list_all (λ q. nat_lt q.automation m) rs) h)),
  entered-alike num new m rs alike (and_right (nat_lt r.automation m) (list_all (λ q. nat_lt q.automation m) rs) h),
)

-- LAW: a table with no runs is counted by 0
pub counted-none : (firsts counts : List ℕ) (t : SegmentTable) → list_all (λ n. nat_lt n (length firsts)) firsts ≡ true → length counts ≡ length firsts → ((n : ℕ) → n < length firsts → slice_index_or counts n 0 ≡ 0)
    → t.list ≡ [] → ((a : ℕ) → number_at t.closed.numbers a < 2 ^ 62) → IsCounted firsts counts t
counted-none firsts counts t within len zeros list small = record {
  whole = len;
  within = within;
  known = (λ i. list_all (λ r. nat_lt r.automation (length firsts)) (list i));
  counted = λ n lt. zeros n (omega (arith, lt, len)) ∙ (λ i. runs_named firsts n (sym list i));
  small = small;
}

pub none-small : (a : ℕ) → number_at [] a < 2 ^ 62
none-small zero = omega arith
none-small (suc a) = omega arith

-- LAW: what the next segment begins with is counted
pub counted-opened : (o : Opening) (t : SegmentTable) (c : Closed) → IsOpening o.firsts.items o.numbers o → t.list ≡ [] → t.closed ≡ c → c.numbers ≡ o.numbers → IsCounted o.firsts.items o.counts.items t
counted-opened o t c h empty is numbers =
    counted-none o.firsts.items o.counts.items t h.within h.whole h.none empty (λ a. subst (λ ns. number_at ns a < 2 ^ 62) (sym ((λ i. (is i).numbers) ∙ numbers)) (h.small a))
