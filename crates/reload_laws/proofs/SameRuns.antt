-- A run of a unit in force is, behind a Reload at which nothing is attempted, the run that it was.
use Rattle.std.proofs.Common.{◌≡◌, ℕ, zero, suc, ◌+◌, ◌-◌, ◌<◌, Bool, true, false, cond, [], ◌∷◌, length, refl, sym, ap, subst, ◌∙◌, arith, rules, Option}
use Rattle.std.specs.Prelude.{Some, None, MatchOption, is_none, nat_eq, slice_get, option_map, ◌&&◌, if◌then◌else◌}
use Rattle.std.specs.Option.{option_map_or}
use Rattle.std.proofs.lemmas.Bool.{eqb-true}
use Rattle.ha_config.specs.declared.config.Config.{Config}
use Rattle.ha_config.specs.declared.config.Mode.{Mode}
use Rattle.ha_config.specs.Words.{or_else}
use Rattle.ha_config.proofs.ListLemmas.{none-some, some-same}
use Rattle.ha_sight.specs.Items.{is_call}
use Rattle.ha_journal.specs.declared.entry.Entry.{Entry}
use Rattle.ha_journal.specs.Attempts.{passing}
use Rattle.ha_journal.specs.Entries.{reload_in}
use Rattle.ha_journal.specs.Force.{force, has_unit}
use Rattle.ha_journal.specs.Journal.{Journal, last_place, more, units}
use Rattle.ha_journal.proofs.MoreLemmas.{length-more}
use Rattle.ha_model.specs.declared.record.EndCause.{EndCause}
use Rattle.ha_model.specs.declared.record.Record.{Record}
use Rattle.ha_model.specs.Lawful.{record_of}
use Rattle.ha_model.specs.Records.{Records, begin_of, calls_of, last_record, mode_of, own_cause, records_of}
use Rattle.ha_model.specs.RunSteps.{attempt_all, begin_at, begins_here, ends_for, own_ends, settled}
use Rattle.ha_model.proofs.FoldLaws.{records-more, records-passes}
use Rattle.ha_model.proofs.LastEntry.{calls-more, or-none}
use Rattle.ha_model.proofs.Passes.{bare, end_below, with_begins, with_ends}
use Rattle.ha_model.proofs.RecordGrowth.{AllBelow, EndBelow, below-bare, below-ends}
use Rattle.ha_model.specs.Records.{next_place}
use Rattle.reload_laws.proofs.KeptRuns.{cause-kept}
use Rattle.reload_laws.proofs.ReloadLine.{reload-only}

-- what the records of a journal tell is of its places, and of calls up to its end
record IsPast (j : Journal) (r : Record) : Type 0 where
  place : r.place < length j
  end : EndBelow (length j) r.end
  calls : r.calls ≡ calls_of j r.serial

ArePast : Journal → Records → Type 0
ArePast j [] = Unit {0}
ArePast j (r ∷ rs) = IsPast j r × ArePast j rs

past-begins : (j : Journal) (before rs : Records) → AllBelow (length j) rs → ArePast j (with_begins j before (with_ends j rs))
unfolding ArePast
past-begins j before [] h = tt
past-begins j before (r ∷ rs) h = (
  record { place = h.0; end = below-ends j r (next_place r.automation rs) (length j) (omega arith); calls = refl },
  past-begins j (record r { end = end_below j r (next_place r.automation rs) (length j) } ∷ before) rs h.1,
)

are-past : (j : Journal) → ArePast j (records_of j)
are-past j = subst (ArePast j) (sym (records-passes j)) (past-begins j [] (bare j) (below-bare j (length j) (length j) (omega arith) (omega arith)))

not-equal : (a b : ℕ) → a < b → nat_eq a b ≡ false
not-equal a b lt = search rules

-- an end that is past is not at this place
end-elsewhere : (p : ℕ) (e : Option (ℕ × EndCause)) → EndBelow p e → option_map_or (λ x. nat_eq x.0 p) e false ≡ false
end-elsewhere p None h = refl
end-elsewhere p (Some e) h = not-equal e.0 p h

-- no queued run begins here where the one before it ended earlier, or not yet
begins-not : (p : ℕ) (mode : Mode) (o : Option Record) (own : Option (ℕ × EndCause)) → MatchOption o (Unit {0}) (λ r. EndBelow p r.end) → begins_here p mode o own ≡ None
begins-not p Mode.Queued (Some r) own h = (λ i. if end-elsewhere p r.end h i && is_none own then Some p else None)
begins-not p Mode.Queued None own h = refl
begins-not p Mode.Single o own h = refl
begins-not p Mode.Restart o own h = refl
begins-not p Mode.Parallel o own h = refl

-- nor does one that has ended
begins-no-more : (p : ℕ) (mode : Mode) (o : Option Record) (e : ℕ × EndCause) → begins_here p mode o (Some e) ≡ None
begins-no-more p Mode.Queued (Some r) e = by (option_map_or (λ x. nat_eq x.0 p) r.end false)
  where
    by : (b : Bool) → (if b && false then Some p else None) ≡ None
    by true = refl
    by false = refl
begins-no-more p Mode.Queued None e = refl
begins-no-more p Mode.Single o e = refl
begins-no-more p Mode.Restart o e = refl
begins-no-more p Mode.Parallel o e = refl

module _ (j : Journal) (x : Entry) (c : Config) (reloads : reload_in x ≡ Some c) where
  abbrev k : Journal
  k = more j x

  last : last_place k ≡ length j
  last = omega (arith, length-more j x)

  calls-same : (serial : ℕ) → calls_of k serial ≡ calls_of j serial
  calls-same serial =
      calls-more j x serial
      ∙ (λ i. calls_of j serial + cond (option_map_or (λ y. nat_eq y.serial serial && is_call y.item) ((reload-only x c reloads).step i) false) 1 0)
      ∙ omega arith

  -- the last run of a unit has no end at this place
  abbrev EarlyLast : ℕ → Records → Type 0
  EarlyLast a back = MatchOption (last_record a back) (Unit {0}) (λ r. EndBelow (last_place k) r.end)

  abbrev ended_here : Record → Record
  ended_here r = ends_for (last_place k) (own_cause k r) r

  -- the record that stands for it when all begins are done
  settled-same : (r : Record) (back : Records) → ended_here r ≡ r → begins_here (last_place k) (mode_of (units k) r.automation) (last_record r.automation back) r.end ≡ None → IsPast j r
      → record (ended_here r) {
        begin = begin_at (last_place k) (mode_of (units k) r.automation) (last_record r.automation back) (ended_here r);
        calls = calls_of k r.serial;
      } ≡ r
  settled-same r back same none past =
      (λ i. record (same i) {
        begin = begin_at (last_place k) (mode_of (units k) r.automation) (last_record r.automation back) (same i);
        calls = (calls-same r.serial ∙ sym past.calls) i;
      })
      ∙ (λ i. record r {
        begin = (if here i then begin_of (mode_of (units k) r.automation) (last_record r.automation back) r else or_else r.begin (none i));
        calls = r.calls;
      })
      ∙ (λ i. record r { begin = or-none r.begin i; calls = r.calls })
    where
      here : nat_eq r.place (last_place k) ≡ false
      here = not-equal r.place (last_place k) (omega (arith, last, past.place))

  -- a run that has ended stays, whatever its unit
  ended-along : (back rs : Records) (n : ℕ) (r : Record) (e : ℕ × EndCause) → ArePast j rs → slice_get rs n ≡ Some r → r.end ≡ Some e → slice_get (settled k back (own_ends k rs)) n ≡ Some r
  unfolding ArePast
  ended-along back [] n r e past found at = absurd (none-some r found)
  ended-along back (y ∷ ys) zero r e past found at =
      (let own : y.end ≡ Some e = ap (λ (z : Record). z.end) (some-same y r found) ∙ at in
      let same : ended_here y ≡ y = (λ i. record y { end = or_else (own i) (option_map {T = EndCause} (λ c. (last_place k, c)) (own_cause k y)) }) ∙ (λ i. record y { end = sym own i }) in
      let none : begins_here (last_place k) (mode_of (units k) y.automation) (last_record y.automation back) y.end ≡ None
      = (λ i. begins_here (last_place k) (mode_of (units k) y.automation) (last_record y.automation back) (own i)) ∙ begins-no-more (last_place k) (mode_of (units k) y.automation) (last_record y.automation back) e in
      ap Some (settled-same y back same none past.0) ∙ found)
  ended-along back (y ∷ ys) (suc n) r e past found at = ended-along (ended_here y ∷ back) ys n r e past.1 found at

  module _ (a : ℕ) (there : has_unit (force k) a ≡ true) where
    end-same : (r : Record) → r.automation ≡ a → ended_here r ≡ r
    end-same r own =
        (λ i. ends_for (last_place k) (cause-kept j x c reloads r ((λ i. has_unit (force k) (own i)) ∙ there) i) r) ∙ (λ i. record r { end = or-none r.end i })

    early-more : (r : Record) (back : Records) → IsPast j r → EarlyLast a back → EarlyLast a (ended_here r ∷ back)
    early-more r back past early = by (nat_eq r.automation a) refl
      where
        by : (b : Bool) → nat_eq r.automation a ≡ b → MatchOption (if b then Some (ended_here r) else last_record a back) (Unit {0}) (λ r. EndBelow (last_place k) r.end)
        by false e = early
        by true e = subst (λ (z : Record). EndBelow (last_place k) z.end) (sym (end-same r (eqb-true r.automation a e))) (subst (λ m. EndBelow m r.end) (sym last) past.end)

    -- no run of it begins here
    early-begin : (r : Record) (back : Records) → r.automation ≡ a → EarlyLast a back → begins_here (last_place k) (mode_of (units k) r.automation) (last_record r.automation back) r.end ≡ None
    early-begin r back own early = begins-not (last_place k) (mode_of (units k) r.automation) (last_record r.automation back) r.end (subst (λ b. EarlyLast b back) (sym own) early)

    along : (back rs : Records) (n : ℕ) (r : Record) → ArePast j rs → EarlyLast a back → slice_get rs n ≡ Some r → r.automation ≡ a → slice_get (settled k back (own_ends k rs)) n ≡ Some r
    unfolding ArePast
    along back [] n r past early found own = absurd (none-some r found)
    along back (y ∷ ys) zero r past early found own =
        (let at = some-same y r found in let here = ap (λ (z : Record). z.automation) at ∙ own in ap Some (settled-same y back (end-same y here) (early-begin y back here early) past.0) ∙ found)
    along back (y ∷ ys) (suc n) r past early found own = along (ended_here y ∷ back) ys n r past.1 (early-more y back past.0 early) found own

  -- LAW: where nothing passes, a run is the one that it was, but for a live one of a unit that is not in force behind the Reload
  pub run-same : passing k ≡ [] → (s : ℕ) (r : Record) → record_of (records_of j) s ≡ Some r → (r.end ≡ None → has_unit (force k) r.automation ≡ true) → record_of (records_of k) s ≡ Some r
  run-same none s r found there =
      (λ i. slice_get (records-more j x i) (s - 1))
      ∙ (λ i. slice_get (settled k [] (attempt_all k (own_ends k (records_of j)) (none i))) (s - 1))
      ∙ by r.end refl
    where
      by : (o : Option (ℕ × EndCause)) → r.end ≡ o → slice_get (settled k [] (own_ends k (records_of j))) (s - 1) ≡ Some r
      by None at = along r.automation (there at) [] (records_of j) (s - 1) r (are-past j) tt found refl
      by (Some e) at = ended-along [] (records_of j) (s - 1) r e (are-past j) found at

  -- LAW: and no run is new
  pub none-new : passing k ≡ [] → length (records_of k) ≡ length (records_of j)
  none-new none =
      (λ i. length (records-more j x i))
      ∙ (λ i. length (settled k [] (attempt_all k (own_ends k (records_of j)) (none i))))
      ∙ settled-length [] (own_ends k (records_of j))
      ∙ own-length (records_of j)
    where
      settled-length : (back rs : Records) → length (settled k back rs) ≡ length rs
      settled-length back [] = refl
      settled-length back (r ∷ rs) = ap suc (settled-length (r ∷ back) rs)

      own-length : (rs : Records) → length (own_ends k rs) ≡ length rs
      own-length [] = refl
      own-length (r ∷ rs) = ap suc (own-length rs)
