-- The fold over the journal: what one more entry changes, and that the records are those by passes.
use Rattle.std.proofs.Common.{◌≡◌, ℕ, List, [], ◌∷◌, ◌++◌, length, Bool, true, false, refl, sym, ap, subst, ◌∙◌, rules, append_assoc}
use Rattle.std.specs.Prelude.{nat_eq, if◌then◌else◌}
use Rattle.std.proofs.lemmas.List.{append-nil}
use Rattle.ha_config.specs.Words.{or_else}
use Rattle.ha_journal.specs.declared.entry.Entry.{Entry}
use Rattle.ha_journal.specs.Journal.{Journal, HasEntry, last_place, more, units}
use Rattle.ha_journal.specs.Attempts.{Attempt, passing}
use Rattle.ha_model.specs.declared.record.Record.{Record}
use Rattle.ha_model.specs.Records.{Records, Past, past_step, past_from, past_of, records_of, spots, spots_from, spot_of, own_ends_on, mode_of, is_restart_mode, lets_in_after, new_record, last_record, begin_of, calls_of}
use Rattle.ha_model.specs.RecordSteps.{records_after}
use Rattle.ha_model.specs.RunSteps.{replace_all, joined, attempt_all, begins_here, begin_at, settled, runs_after}
use Rattle.ha_model.proofs.Passes.{with_begins, by_passes}
use Rattle.ha_model.proofs.AppendLemmas.{SameUpTo}
use Rattle.ha_model.proofs.RecordGrowth.{passes-same}
use Rattle.ha_model.proofs.RunLaws.{ended-runs}
use Rattle.ha_model.proofs.TableLaws.{passes-table}

past_from-snoc : (before : Journal) (past : Past) (xs : Journal) (x : Entry) → past_from before past (xs ++ (x ∷ [])) ≡ past_step (before ++ xs) (past_from before past xs) x
past_from-snoc before past [] x = (λ i. past_step (sym (append-nil before) i) past x)
past_from-snoc before past (y ∷ ys) x =
    past_from-snoc (before ++ (y ∷ [])) (past_step before past y) ys x
    ∙ (λ i. past_step (append_assoc before (y ∷ []) ys i) (past_from (before ++ (y ∷ [])) (past_step before past y) ys) x)

past-more : (j : Journal) (x : Entry) → past_of (more j x) ≡ past_step j (past_of j) x
past-more j x = past_from-snoc [] (record { records = []; places = λ serial. [] }) j x

spots_from-snoc : (serial : ℕ) (before xs : Journal) (x : Entry) → spots_from serial before (xs ++ (x ∷ [])) ≡ spots_from serial before xs ++ spot_of serial (before ++ xs) x
spots_from-snoc serial before [] x = append-nil (spot_of serial before x) ∙ (λ i. spot_of serial (sym (append-nil before) i) x)
spots_from-snoc serial before (y ∷ ys) x =
    (λ i. spot_of serial before y ++ spots_from-snoc serial (before ++ (y ∷ [])) ys x i)
    ∙ (λ i. spot_of serial before y ++ (spots_from serial (before ++ (y ∷ [])) ys ++ spot_of serial (append_assoc before (y ∷ []) ys i) x))
    ∙ sym (append_assoc (spot_of serial before y) (spots_from serial (before ++ (y ∷ [])) ys) (spot_of serial (before ++ (y ∷ ys)) x))

-- the places of a run with one more entry
pub spots-more : (j : Journal) (x : Entry) (serial : ℕ) → spots (more j x) serial ≡ spots j serial ++ spot_of serial j x
spots-more j x serial = spots_from-snoc serial [] j x

-- the fold has the same places
places-along : (serial : ℕ) (before xs : Journal) → (past_of before).places serial ≡ spots before serial → (past_of (before ++ xs)).places serial ≡ spots (before ++ xs) serial
unfolding records_of
places-along serial before [] h = subst (λ l. (past_of l).places serial ≡ spots l serial) (sym (append-nil before)) h
places-along serial before (x ∷ xs) h =
    subst (λ l. (past_of l).places serial ≡ spots l serial) (append_assoc before (x ∷ []) xs) (places-along serial (more before x) xs one)
  where
    one : (past_of (more before x)).places serial ≡ spots (more before x) serial
    one = (λ i. (past-more before x i).places serial) ∙ (λ i. h i ++ spot_of serial before x) ∙ sym (spots-more before x serial)

places-are : (j : Journal) (serial : ℕ) → (past_of j).places serial ≡ spots j serial
places-are j serial = places-along serial [] j refl

-- THE LAW: the records of a journal with one more entry, from those before it
pub records-more : (j : Journal) (x : Entry) → records_of (more j x) ≡ records_after j (records_of j) x
unfolding records_of
records-more j x =
    (λ i. (past-more j x i).records)
    ∙ (λ i. settled (more j x) [] (attempt_all (more j x) (own_ends_on (λ s. (places-are j s i ++ spot_of s j x)) (more j x) (records_of j)) (passing (more j x))))
    ∙ (λ i. settled (more j x) [] (attempt_all (more j x) (own_ends_on (λ s. sym (spots-more j x s) i) (more j x) (records_of j)) (passing (more j x))))

-- the records of a first entry
pub first-records : (x : Entry) → records_of (x ∷ []) ≡ settled (x ∷ []) [] (attempt_all (x ∷ []) [] (passing (x ∷ [])))
unfolding records_of
first-records x = records-more [] x

-- all records are of the last place
abbrev AllAt : ℕ → Records → Type 0
AllAt p [] = Unit {0}
AllAt p (r ∷ rs) = (r.place ≡ p) × AllAt p rs

begins-settled : (k : Journal) (back rs : Records) → AllAt (last_place k) rs → with_begins k back rs ≡ settled k back rs
begins-settled k back [] h = refl
begins-settled k back (r ∷ rs) h =
    let here : nat_eq r.place (last_place k) ≡ true = equal r.place (last_place k) h.0 in
    (λ i. record r {
      begin = if sym here i then begin_of (mode_of (units k) r.automation) (last_record r.automation back) r
          else or_else r.begin (begins_here (last_place k) (mode_of (units k) r.automation) (last_record r.automation back) r.end);
      calls = calls_of k r.serial;
    } ∷ with_begins k (r ∷ back) rs)
    ∙ ap (λ t. record r { begin = begin_at (last_place k) (mode_of (units k) r.automation) (last_record r.automation back) r; calls = calls_of k r.serial } ∷ t) (begins-settled k (r ∷ back) rs h.1)
  where
    equal : (a b : ℕ) → a ≡ b → nat_eq a b ≡ true
    equal a b e = search (rules, e)

at-replaced : (p a q : ℕ) (rs : Records) → AllAt p rs → AllAt p (replace_all a q rs)
at-replaced p a q [] h = tt
at-replaced p a q (r ∷ rs) h = (h.0, at-replaced p a q rs h.1)

at-snoc : (p : ℕ) (rs : Records) (r : Record) → AllAt p rs → r.place ≡ p → AllAt p (rs ++ (r ∷ []))
at-snoc p [] r h e = (e, tt)
at-snoc p (y ∷ ys) r h e = (h.0, at-snoc p ys r h.1 e)

at-attempts : (k : Journal) (rs : Records) (xs : List (ℕ × Attempt)) → AllAt (last_place k) rs → AllAt (last_place k) (attempt_all k rs xs)
at-attempts k rs [] h = h
at-attempts k rs (x ∷ xs) h = at-attempts k (if lets_in_after (units k) rs x.1.automation then joined (mode_of (units k) x.1.automation) x.1.automation (last_place k) rs (new_record k rs x) else rs) xs (by (lets_in_after (units k) rs x.1.automation))
  where
    one : (b : Bool) → AllAt (last_place k) ((if b then replace_all x.1.automation (last_place k) rs else rs) ++ (new_record k rs x ∷ []))
    one true = at-snoc (last_place k) (replace_all x.1.automation (last_place k) rs) (new_record k rs x) (at-replaced (last_place k) x.1.automation (last_place k) rs h) refl
    one false = at-snoc (last_place k) rs (new_record k rs x) h refl

    by : (b : Bool) → AllAt (last_place k) (if b then joined (mode_of (units k) x.1.automation) x.1.automation (last_place k) rs (new_record k rs x) else rs)
    by true = one (is_restart_mode (mode_of (units k) x.1.automation))
    by false = h

-- ---- the passes

first : (x : Entry) → runs_after (x ∷ []) [] (passing (x ∷ [])) ≡ by_passes (x ∷ [])
first x =
    let k = x ∷ [] in
    sym ((λ i. with_begins (x ∷ []) [] (ended-runs [] x i)) ∙ begins-settled (x ∷ []) [] (attempt_all (x ∷ []) [] (passing (x ∷ []))) (at-attempts (x ∷ []) [] (passing (x ∷ [])) tt))

passes-step : (before : Journal) (x : Entry) → records_of before ≡ by_passes before → records_of (more before x) ≡ by_passes (more before x)
unfolding records_of
passes-step [] x h = records-more [] x ∙ first x
passes-step (e ∷ es) x h =
    records-more (e ∷ es) x ∙ (λ i. runs_after (more (e ∷ es) x) (h i) (passing (more (e ∷ es) x))) ∙ sym (passes-table (e ∷ es) x tt)

passes-along : (before xs : Journal) → records_of before ≡ by_passes before → records_of (before ++ xs) ≡ by_passes (before ++ xs)
passes-along before [] h = subst (λ l. records_of l ≡ by_passes l) (sym (append-nil before)) h
passes-along before (x ∷ xs) h = subst (λ l. records_of l ≡ by_passes l) (append_assoc before (x ∷ []) xs) (passes-along (more before x) xs (passes-step before x h))

-- LAW: the records of the fold are those by passes
pub records-passes : (j : Journal) → records_of j ≡ by_passes j
unfolding records_of
records-passes j = passes-along [] j refl

-- THE LAW: up to the place of a new entry nothing that the records say changes
pub records-same : (j : Journal) (x : Entry) → HasEntry j → SameUpTo (length j) (records_of j) (records_of (more j x))
records-same j x h =
    subst (λ l. SameUpTo (length j) l (records_of (more j x))) (sym (records-passes j))
    (subst (λ l. SameUpTo (length j) (by_passes j) l) (sym (records-passes (more j x))) (passes-same j x h))
