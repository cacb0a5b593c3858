-- What one more entry makes of the end of each run.
use Rattle.std.proofs.Common.{◌≡◌, ℕ, zero, suc, ◌-◌, ◌⊎◌, inl, inr, Bool, true, false, List, [], ◌∷◌, ◌++◌, refl, sym, ap, subst, ◌∙◌, Option, append_assoc}
use Rattle.std.specs.Prelude.{Some, None, nat_eq, slice_get, option_map, if◌then◌else◌}
use Rattle.std.specs.Option.{option_map_or}
use Rattle.ha_config.specs.Words.{or_else}
use Rattle.ha_config.proofs.ListLemmas.{append-nil, get-more, none-some, some-same}
use Rattle.ha_config.proofs.NumberedLemmas.{get-within}
use Rattle.ha_journal.specs.declared.entry.Entry.{Entry}
use Rattle.ha_journal.specs.Attempts.{Attempt, passing}
use Rattle.ha_journal.specs.Journal.{Journal, last_place, more, units}
use Rattle.ha_model.specs.declared.record.EndCause.{EndCause}
use Rattle.ha_model.specs.declared.record.Record.{Record}
use Rattle.ha_model.specs.Lawful.{record_of}
use Rattle.ha_model.specs.Records.{Records, calls_of, is_restart_mode, last_record, lets_in_after, mode_of, new_record, own_cause, records_of}
use Rattle.ha_model.specs.RunSteps.{attempt_all, begin_at, ends_for, joined, own_ends, replace_all, settled}
use Rattle.ha_model.proofs.FoldLaws.{records-more}
use Rattle.reload_laws.specs.Ends.{end_of}

-- a record of a run, behind an entry at place p that gives it this end; where it gives none, the run may be replaced there
pub record IsRun (p : ℕ) (end : Option (ℕ × EndCause)) (r r' : Record) : Type 0 where
  pub unit : r'.automation ≡ r.automation
  pub ends : (r'.end ≡ end) ⊎ ((end ≡ None) × (r'.end ≡ Some (p, EndCause.Replaced)))

-- at place n of the records
pub record HasRun (p : ℕ) (end : Option (ℕ × EndCause)) (r : Record) (rs : Records) (n : ℕ) : Type 0 where
  pub run : Record
  pub found : slice_get rs n ≡ Some run
  pub is_run : IsRun p end r run

module _ (k : Journal) where
  pub own-at : (rs : Records) (n : ℕ) (r : Record) → slice_get rs n ≡ Some r → slice_get (own_ends k rs) n ≡ Some (ends_for (last_place k) (own_cause k r) r)
  own-at [] n r e = absurd (none-some r e)
  own-at (y ∷ ys) zero r e = ap (λ z. Some (ends_for (last_place k) (own_cause k z) z)) (some-same y r e)
  own-at (y ∷ ys) (suc n) r e = own-at ys n r e

  replaced-at : (a p : ℕ) (rs : Records) (n : ℕ) (r : Record) → slice_get rs n ≡ Some r
      → slice_get (replace_all a p rs) n ≡ Some (ends_for p (if nat_eq r.automation a then Some EndCause.Replaced else None) r)
  replaced-at a p [] n r e = absurd (none-some r e)
  replaced-at a p (y ∷ ys) zero r e = ap (λ (z : Record). Some (ends_for p (if nat_eq z.automation a then Some EndCause.Replaced else None) z)) (some-same y r e)
  replaced-at a p (y ∷ ys) (suc n) r e = replaced-at a p ys n r e

  settled-at : (before rs : Records) (n : ℕ) (r : Record) → slice_get rs n ≡ Some r
      → (r' : Record) × (slice_get (settled k before rs) n ≡ Some r') × (r'.automation ≡ r.automation) × (r'.end ≡ r.end)
  settled-at before [] n r e = absurd (none-some r e)
  settled-at before (y ∷ ys) zero r e = (
    record y { begin = begin_at (last_place k) (mode_of (units k) y.automation) (last_record y.automation before) y; calls = calls_of k y.serial },
    refl,
    ap (λ (z : Record). z.automation) (some-same y r e),
    ap (λ (z : Record). z.end) (some-same y r e),
  )
  settled-at before (y ∷ ys) (suc n) r e = settled-at (y ∷ before) ys n r e

  ends-or : (p : ℕ) (end e : Option (ℕ × EndCause)) (b : Bool) → (e ≡ end) ⊎ ((end ≡ None) × (e ≡ Some (p, EndCause.Replaced)))
      → (or_else e (option_map {T = EndCause} (λ c. (p, c)) (if b then Some EndCause.Replaced else None)) ≡ end)
      ⊎ ((end ≡ None) × (or_else e (option_map {T = EndCause} (λ c. (p, c)) (if b then Some EndCause.Replaced else None)) ≡ Some (p, EndCause.Replaced)))
  ends-or p end None true (inl h) = inr (sym h, refl)
  ends-or p end None false (inl h) = inl h
  ends-or p end (Some e) b (inl h) = inl h
  ends-or p end e b (inr (none, some)) = inr (none, (λ i. or_else (some i) (option_map {T = EndCause} (λ c. (p, c)) (if b then Some EndCause.Replaced else None))))

  module _ (p : ℕ) (end : Option (ℕ × EndCause)) (r : Record) where
    run-replaced : (a : ℕ) (rs : Records) (n : ℕ) → HasRun p end r rs n → HasRun p end r (replace_all a p rs) n
    run-replaced a rs n h = record {
      run = ends_for p (if nat_eq h.run.automation a then Some EndCause.Replaced else None) h.run;
      found = replaced-at a p rs n h.run h.found;
      is_run = record { unit = h.is_run.unit; ends = ends-or p end h.run.end (nat_eq h.run.automation a) h.is_run.ends };
    }

    run-behind : (rs : Records) (new : Record) (n : ℕ) → HasRun p end r rs n → HasRun p end r (rs ++ (new ∷ [])) n
    run-behind rs new n h = record { run = h.run; found = get-more rs new n (get-within rs n h.run h.found) ∙ h.found; is_run = h.is_run }

    run-joined : (mode : Bool) (a : ℕ) (rs : Records) (new : Record) (n : ℕ) → HasRun p end r rs n → HasRun p end r ((if mode then replace_all a p rs else rs) ++ (new ∷ [])) n
    run-joined true a rs new n h = run-behind (replace_all a p rs) new n (run-replaced a rs n h)
    run-joined false a rs new n h = run-behind rs new n h

    run-settled : (before rs : Records) (n : ℕ) → HasRun p end r rs n → HasRun p end r (settled k before rs) n
    run-settled before rs n h =
        let one = settled-at before rs n h.run h.found in
        record { run = one.0; found = one.1; is_run = record { unit = one.2 ∙ h.is_run.unit; ends = subst (λ e. (e ≡ end) ⊎ ((end ≡ None) × (e ≡ Some (p, EndCause.Replaced)))) (sym one.3) h.is_run.ends } }

  run-attempts : (end : Option (ℕ × EndCause)) (r : Record) (rs : Records) (xs : List (ℕ × Attempt)) (n : ℕ) → HasRun (last_place k) end r rs n → HasRun (last_place k) end r (attempt_all k rs xs) n
  run-attempts end r rs [] n h = h
  run-attempts end r rs (x ∷ xs) n h =
      run-attempts end r
      (if lets_in_after (units k) rs x.1.automation then joined (mode_of (units k) x.1.automation) x.1.automation (last_place k) rs (new_record k rs x) else rs) xs n
      (by (lets_in_after (units k) rs x.1.automation))
    where
      by : (b : Bool) → HasRun (last_place k) end r (if b then joined (mode_of (units k) x.1.automation) x.1.automation (last_place k) rs (new_record k rs x) else rs) n
      by true = run-joined (last_place k) end r (is_restart_mode (mode_of (units k) x.1.automation)) x.1.automation rs (new_record k rs x) n h
      by false = h

-- the end that the entry itself gives a run, else the one that it had
abbrev pub end_then : Journal → Record → Option (ℕ × EndCause)
end_then k r = or_else r.end (option_map {T = EndCause} (λ c. (last_place k, c)) (own_cause k r))

-- LAW: a run has the end that it had, else the one that the entry gives it, else it may be replaced there
pub run-more : (j : Journal) (x : Entry) (n : ℕ) (r : Record) → slice_get (records_of j) n ≡ Some r → HasRun (last_place (more j x)) (end_then (more j x) r) r (records_of (more j x)) n
run-more j x n r e =
    let k = more j x in
    let own = own_ends k (records_of j) in
    subst (λ rs. HasRun (last_place k) (end_then k r) r rs n) (sym (records-more j x))
    (run-settled k (last_place k) (end_then k r) r [] (attempt_all k own (passing k)) n
    (run-attempts k (end_then k r) r own (passing k) n
    (record { run = ends_for (last_place k) (own_cause k r) r; found = own-at k (records_of j) n r e; is_run = record { unit = refl; ends = inl refl } })))

-- LAW: so an end is never another one
pub end-more : (j : Journal) (x : Entry) (s : ℕ) (e : ℕ × EndCause) → end_of (records_of j) s ≡ Some e → end_of (records_of (more j x)) s ≡ Some e
end-more j x s e h = by (record_of (records_of j) s) refl h
  where
    last : ℕ
    last = last_place (more j x)

    same : (r r' : Record) → r.end ≡ Some e → IsRun last (end_then (more j x) r) r r' → r'.end ≡ Some e
    same r r' at run = either run.ends
      where
        then' : end_then (more j x) r ≡ Some e
        then' = (λ i. or_else (at i) (option_map {T = EndCause} (λ c. (last, c)) (own_cause (more j x) r)))

        either : (r'.end ≡ end_then (more j x) r) ⊎ ((end_then (more j x) r ≡ None) × (r'.end ≡ Some (last, EndCause.Replaced))) → r'.end ≡ Some e
        either (inl q) = q ∙ then'
        either (inr (none, q)) = absurd (none-some e (sym none ∙ then'))

    by : (o : Option Record) → record_of (records_of j) s ≡ o → option_map_or (λ r. r.end) o None ≡ Some e → end_of (records_of (more j x)) s ≡ Some e
    by None found at = absurd (none-some e at)
    by (Some r) found at =
        let run = run-more j x (s - 1) r found in
        (λ i. option_map_or (λ r. r.end) (run.found i) None) ∙ same r run.run at run.is_run

pub end-longer : (j behind : Journal) (s : ℕ) (e : ℕ × EndCause) → end_of (records_of j) s ≡ Some e → end_of (records_of (j ++ behind)) s ≡ Some e
end-longer j [] s e h = (λ i. end_of (records_of (append-nil j i)) s) ∙ h
end-longer j (x ∷ xs) s e h = (λ i. end_of (records_of (sym (append_assoc j (x ∷ []) xs) i)) s) ∙ end-longer (more j x) xs s e (end-more j x s e h)
