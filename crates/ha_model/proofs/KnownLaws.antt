-- Each record is of a unit that was in force at some time, since an attempt of none does not pass.
use Rattle.std.proofs.Common.{ℕ, zero, suc, ◌<◌, ◌≤◌, List, [], ◌∷◌, ◌++◌, length, Bool, true, false, sym, subst, arith, append_assoc}
use Rattle.std.specs.Prelude.{MatchOption, slice_get, if◌then◌else◌}
use Rattle.std.proofs.lemmas.List.{append-nil}
use Rattle.ha_journal.specs.declared.entry.Entry.{Entry}
use Rattle.ha_journal.specs.Journal.{Journal, HasEntry, units, last_place, more}
use Rattle.ha_journal.specs.Attempts.{Attempt, passing}
use Rattle.ha_journal.proofs.ForceLaws.{more-units}
use Rattle.ha_model.specs.declared.record.Record.{Record}
use Rattle.ha_sight.specs.Scripts.{Spot}
use Rattle.ha_model.specs.Records.{Records, records_of, own_ends_on, mode_of, is_restart_mode, lets_in_after, new_record, spots}
use Rattle.ha_model.specs.RunSteps.{replace_all, joined, attempt_all, settled, own_ends}
use Rattle.ha_model.proofs.FoldLaws.{records-more}
use Rattle.ha_model.proofs.KnownPasses.{AllNamed, passing-named}

-- each of these records is of one of so many units
abbrev pub AllKnown : ℕ → Records → Type 0
AllKnown n [] = Unit {0}
AllKnown n (r ∷ rs) = (r.automation < n) × AllKnown n rs

pub known-at : (n : ℕ) (rs : Records) (m : ℕ) → AllKnown n rs → MatchOption (slice_get rs m) (Unit {0}) (λ r. r.automation < n)
known-at n [] m h = tt
known-at n (r ∷ rs) zero h = h.0
known-at n (r ∷ rs) (suc m) h = known-at n rs m h.1

known-later : (n m : ℕ) → n ≤ m → (rs : Records) → AllKnown n rs → AllKnown m rs
known-later n m le [] h = tt
known-later n m le (r ∷ rs) h = (omega (arith, h.0, le), known-later n m le rs h.1)

-- ---- what the steps of a table leave

known-snoc : (n : ℕ) (rs : Records) (r : Record) → AllKnown n rs → r.automation < n → AllKnown n (rs ++ (r ∷ []))
known-snoc n [] r h lt = (lt, tt)
known-snoc n (y ∷ ys) r h lt = (h.0, known-snoc n ys r h.1 lt)

known-ends : (n : ℕ) (places : ℕ → List Spot) (k : Journal) (rs : Records) → AllKnown n rs → AllKnown n (own_ends_on places k rs)
known-ends n places k [] h = tt
known-ends n places k (r ∷ rs) h = (h.0, known-ends n places k rs h.1)

known-replaced : (n a p : ℕ) (rs : Records) → AllKnown n rs → AllKnown n (replace_all a p rs)
known-replaced n a p [] h = tt
known-replaced n a p (r ∷ rs) h = (h.0, known-replaced n a p rs h.1)

known-settled : (n : ℕ) (k : Journal) (before rs : Records) → AllKnown n rs → AllKnown n (settled k before rs)
known-settled n k before [] h = tt
known-settled n k before (r ∷ rs) h = (h.0, known-settled n k (r ∷ before) rs h.1)

known-attempts : (n : ℕ) (k : Journal) (rs : Records) (xs : List (ℕ × Attempt)) → AllNamed n xs → AllKnown n rs → AllKnown n (attempt_all k rs xs)
known-attempts n k rs [] named h = h
known-attempts n k rs (x ∷ xs) named h =
    known-attempts n k (if lets_in_after (units k) rs x.1.automation then joined (mode_of (units k) x.1.automation) x.1.automation (last_place k) rs (new_record k rs x) else rs) xs named.1
    (by (lets_in_after (units k) rs x.1.automation))
  where
    one : (b : Bool) → AllKnown n ((if b then replace_all x.1.automation (last_place k) rs else rs) ++ (new_record k rs x ∷ []))
    one true = known-snoc n (replace_all x.1.automation (last_place k) rs) (new_record k rs x) (known-replaced n x.1.automation (last_place k) rs h) named.0
    one false = known-snoc n rs (new_record k rs x) h named.0

    by : (b : Bool) → AllKnown n (if b then joined (mode_of (units k) x.1.automation) x.1.automation (last_place k) rs (new_record k rs x) else rs)
    by true = one (is_restart_mode (mode_of (units k) x.1.automation))
    by false = h

-- ---- along a journal

known-step : (before : Journal) (x : Entry) → AllKnown (length (units (more before x))) (records_of before) → AllKnown (length (units (more before x))) (records_of (more before x))
known-step before x h =
    let k = more before x in
    let n = length (units k) in
    subst (AllKnown n) (sym (records-more before x))
    (known-settled n k [] (attempt_all k (own_ends k (records_of before)) (passing k))
    (known-attempts n k (own_ends k (records_of before)) (passing k) (passing-named k) (known-ends n (spots k) k (records_of before) h)))

known-along : (before xs : Journal) → HasEntry before → AllKnown (length (units before)) (records_of before) → AllKnown (length (units (before ++ xs))) (records_of (before ++ xs))
known-along before [] some h = subst (λ l. AllKnown (length (units l)) (records_of l)) (sym (append-nil before)) h
known-along before (x ∷ xs) some h =
    subst (λ l. AllKnown (length (units l)) (records_of l)) (append_assoc before (x ∷ []) xs)
    (known-along (more before x) xs (has-more before) (known-step before x (known-later (length (units before)) (length (units (more before x))) (more-units before x) (records_of before) h)))
  where
    has-more : (j : Journal) → HasEntry (more j x)
    has-more [] = tt
    has-more (e ∷ es) = tt

-- THE LAW: each record is of a unit of the journal
pub all-known : (j : Journal) → AllKnown (length (units j)) (records_of j)
unfolding records_of
all-known [] = tt
all-known (e ∷ es) = known-along (e ∷ []) es tt (known-step [] e tt)
