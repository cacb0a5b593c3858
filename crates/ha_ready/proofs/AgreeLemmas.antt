-- Ready pairs that agree but for some runs, from the first to the last of these.
use Rattle.std.proofs.Common.{◌≡◌, ℕ, zero, suc, ◌-◌, ◌<◌, ◌≤◌, List, [], ◌∷◌, length, Bool, true, false, refl, sym, ◌∙◌, rules, arith}
use Rattle.std.specs.Prelude.{Option, Some, None, nat_eq, slice_get, not, ◌||◌, ◌&&◌, if◌then◌else◌}
use Rattle.std.specs.Option.{option_map_or}
use Rattle.ha_journal.specs.declared.entry.Entry.{Entry}
use Rattle.ha_journal.specs.Entries.{Stepped, step_of}
use Rattle.ha_journal.specs.Journal.{Journal}
use Rattle.ha_sight.specs.Scripts.{Branch}
use Rattle.ha_model.specs.Records.{CallEnds, Records}
use Rattle.ha_model.specs.Lawful.{Right, ready}
use Rattle.ha_ready.specs.ReadyPairs.{branches_at, branches_with, ready_with, pairs_from, with_run, changed_at}
use Rattle.ha_ready.specs.Agree.{step_at, touched, AgreesBut, but}
use Rattle.ha_ready.proofs.ReadyLemmas.{ready-pairs, change-run, pairs-same, no-more-pairs, eq-of, ne-of}

bad : true ≡ false → ⊥
bad e = cc

-- LAW: a run less is left where it has the pairs that it should
pub agree-run : (told : CallEnds) (s : ℕ) (left : ℕ → Bool) (rs : Records) (j : Journal) (pairs : List (ℕ × Branch)) → 0 < s → s ≤ length rs → AgreesBut told left rs j pairs
    → AgreesBut told (but left s) rs j (with_run s (branches_with told rs j s) pairs)
agree-run told s left rs j pairs lt le h = record {
  by = changed_at s (branches_with told rs j s) h.by;
  pairs_are = (λ i. with_run s (branches_with told rs j s) (h.pairs_are i)) ∙ change-run 0 (length rs) s (branches_with told rs j s) h.by lt (omega (arith, le));
  agree = λ q low high none. one q low high none (nat_eq q s) refl;
}
  where
    plain : (b : Bool) → (b && true) ≡ false → b ≡ false
    plain true e = e
    plain false e = refl

    one : (q : ℕ) → 0 < q → q ≤ length rs → (left q && not (nat_eq q s)) ≡ false → (c : Bool) → nat_eq q s ≡ c → (if c then branches_with told rs j s else h.by q) ≡ branches_with told rs j q
    one q low high none true e = (λ i. branches_with told rs j (sym (eq-of q s e) i))
    one q low high none false e = h.agree q low high (plain (left q) ((λ i. left q && not (sym e i)) ∙ none))

-- LAW: more may be left
pub agree-more : (told : CallEnds) (left left' : ℕ → Bool) (rs : Records) (j : Journal) (pairs : List (ℕ × Branch)) → ((s : ℕ) → left' s ≡ false → left s ≡ false) → AgreesBut told left rs j pairs → AgreesBut told left' rs j pairs
agree-more told left left' rs j pairs less h = record { by = h.by; pairs_are = h.pairs_are; agree = λ s low high none. h.agree s low high (less s none) }

-- a place has a Step of one run at most
one-step : (a b : ℕ) (o : Option Stepped) → (nat_eq a b ≡ false) → option_map_or (λ s. nat_eq s.serial a) o false ≡ true → option_map_or (λ s. nat_eq s.serial b) o false ≡ false
one-step a b None ne h = refl
one-step a b (Some s) ne h = (let e = eq-of s.serial a h in (λ i. nat_eq (e i) b) ∙ ne)

other-step : (j : Journal) (a b p : ℕ) → nat_eq a b ≡ false → step_at j a p ≡ true → step_at j b p ≡ false
other-step j a b p ne = by (slice_get j p)
  where
    by : (o : Option Entry) → option_map_or (λ x. option_map_or (λ s. nat_eq s.serial a) (step_of x) false) o false ≡ true → option_map_or (λ x. option_map_or (λ s. nat_eq s.serial b) (step_of x) false) o false ≡ false
    by None h = refl
    by (Some x) h = one-step a b (step_of x) ne h

other-number : (a b : ℕ) → (a ≡ b → ⊥) → nat_eq a b ≡ false
other-number a b h = search (rules, h)

-- LAW: a place less is left where its run has the pairs that it should
pub agree-step : (told : CallEnds) (p s : ℕ) (left : List ℕ) (rs : Records) (j : Journal) (pairs : List (ℕ × Branch)) → 0 < s → s ≤ length rs → step_at j s p ≡ true → AgreesBut told (touched j (p ∷ left)) rs j pairs
    → AgreesBut told (touched j left) rs j (with_run s (branches_with told rs j s) pairs)
agree-step told p s left rs j pairs lt le at h =
    agree-more told (but (touched j (p ∷ left)) s) (touched j left) rs j (with_run s (branches_with told rs j s) pairs) (λ q none. less q none (nat_eq q s) refl) (agree-run told s (touched j (p ∷ left)) rs j pairs lt le h)
  where
    and-false : (b : Bool) → (b && false) ≡ false
    and-false true = refl
    and-false false = refl

    less : (q : ℕ) → touched j left q ≡ false → (c : Bool) → nat_eq q s ≡ c → ((step_at j q p || touched j left q) && not (nat_eq q s)) ≡ false
    less q none true e = (λ i. (step_at j q p || touched j left q) && not (e i)) ∙ and-false (step_at j q p || touched j left q)
    less q none false e =
        let elsewhere : nat_eq s q ≡ false = other-number s q (λ same. ne-of q s e (sym same)) in
        (λ i. (other-step j s q p elsewhere at i || none i) && not (nat_eq q s))

-- LAW: a place that has a Step of no run is not left
pub agree-pass : (told : CallEnds) (p : ℕ) (left : List ℕ) (rs : Records) (j : Journal) (pairs : List (ℕ × Branch)) → ((s : ℕ) → step_at j s p ≡ false) → AgreesBut told (touched j (p ∷ left)) rs j pairs → AgreesBut told (touched j left) rs j pairs
agree-pass told p left rs j pairs no_step h = agree-more told (touched j (p ∷ left)) (touched j left) rs j pairs (λ q none. (λ i. no_step q i || touched j left q) ∙ none) h

-- LAW: where nobody is left, the pairs are those of the records at the journal, and the other way round
pub agree-all : (told : CallEnds) (left : ℕ → Bool) (rs : Records) (j : Journal) (pairs : List (ℕ × Branch)) → ((s : ℕ) → left s ≡ false) → AgreesBut told left rs j pairs → pairs ≡ pairs_from 0 (length rs) (branches_with told rs j)
agree-all told left rs j pairs none h = h.pairs_are ∙ pairs-same 0 (length rs) h.by (branches_with told rs j) (λ q low high. h.agree q low (omega (arith, high)) (none q))

-- LAW: the pairs of other records, of the same runs and perhaps more, agree but for the runs that changed; runs that are not there have none
pub agree-grown : (told : CallEnds) (changed : ℕ → Bool) (rs rs' : Records) (j : Journal) (pairs : List (ℕ × Branch)) → length rs ≤ length rs' → pairs ≡ pairs_from 0 (length rs) (branches_with told rs j)
    → ((s : ℕ) → 0 < s → s ≤ length rs' → changed s ≡ false → branches_with told rs j s ≡ branches_with told rs' j s) → AgreesBut told changed rs' j pairs
agree-grown told changed rs rs' j pairs le at same = record {
  by = branches_with told rs j;
  pairs_are = at ∙ sym (no-more-pairs 0 (length rs) (length rs') (branches_with told rs j) le (λ q lt. none-behind rs q (omega (arith, lt))));
  agree = same;
}
  where
    behind : {X : Type 0} (xs : List X) (i : ℕ) → length xs ≤ i → slice_get xs i ≡ None
    behind [] i le = refl
    behind (x ∷ xs) zero le = absurd (omega arith)
    behind (x ∷ xs) (suc i) le = behind xs i (omega (arith, le))

    none-behind : (rs : Records) (q : ℕ) → length rs < q → branches_with told rs j q ≡ []
    none-behind rs q lt = (λ i. option_map_or (λ r. ready_with told j r) (behind rs (q - 1) (omega (arith, lt)) i) [])

-- LAW: the ready pairs of the journal before agree, but for the runs that are not the same behind the entry
pub agree-first : (told : CallEnds) (left : ℕ → Bool) (rs : Records) (j k : Journal) → Right j rs → ((s : ℕ) → 0 < s → s ≤ length rs → left s ≡ false → branches_at rs j s ≡ branches_with told rs k s)
    → AgreesBut told left rs k (ready rs j)
agree-first told left rs j k right same = record { by = branches_at rs j; pairs_are = ready-pairs j rs right; agree = same }
