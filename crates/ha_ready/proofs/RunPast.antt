-- The records of a journal tell of its places alone; and who runs behind one more entry.
use Rattle.std.proofs.Common.{◌≡◌, ℕ, zero, suc, ◌<◌, ◌≤◌, [], ◌∷◌, length, filter, Bool, true, false, refl, sym, subst, ◌∙◌, rules, arith}
use Rattle.std.specs.Prelude.{Option, Some, None, nat_eq, nat_lt, nat_le, ◌&&◌, slice_get, if◌then◌else◌}
use Rattle.std.specs.Option.{option_map_or}
use Rattle.ha_config.specs.declared.config.Mode.{Mode}
use Rattle.ha_model.specs.declared.record.EndCause.{EndCause}
use Rattle.ha_model.specs.declared.record.Record.{Record}
use Rattle.ha_journal.specs.Journal.{Journal, units}
use Rattle.ha_sight.specs.Branches.{branches_of}
use Rattle.ha_model.specs.Records.{CallEnds, Records, actions_of, next_place, last_record, mode_of, begin_of, begin_behind}
use Rattle.ha_model.specs.Lawful.{Right, is_running, may_step}
use Rattle.ha_model.proofs.RecordGrowth.{AllBelow, EndBelow, below-bare, below-ends}
use Rattle.ha_model.proofs.FoldLaws.{records-passes}
use Rattle.ha_model.proofs.Passes.{with_begins, with_ends, bare, end_below}
use Rattle.ha_ready.specs.ReadyPairs.{may_with, ready_branches, ready_with}
use Rattle.ha_ready.specs.RunPast.{BeginBefore, EndBefore, IsPast, AllPast}

-- ---- all that the records tell is before the next place

end-before : (n : ℕ) (e : Option (ℕ × EndCause)) → EndBelow n e → EndBefore n e
end-before n None h = tt
end-before n (Some e) h = h

-- a record of an earlier place begins before n where the one before it ends before n
behind-before : (n p : ℕ) → p < n → (own e : Option (ℕ × EndCause)) → EndBefore n e → BeginBefore n (begin_behind p own e)
behind-before n p lt own None h = tt
behind-before n p lt own (Some e) h = by (nat_le e.0 p) (option_map_or (λ x. nat_le x.0 e.0) own false)
  where
    by : (b c : Bool) → BeginBefore n (if b then Some p else if c then None else Some e.0)
    by true c = lt
    by false true = tt
    by false false = h

-- the record of an automation just before, if there is one, ends before n
abbrev PreviousPast : ℕ → Option Record → Type 0
PreviousPast n None = Unit {0}
PreviousPast n (Some r) = EndBefore n r.end

begin-before : (n : ℕ) (mode : Mode) (previous : Option Record) (r : Record) → r.place < n → PreviousPast n previous → BeginBefore n (begin_of mode previous r)
begin-before n Mode.Queued None r lt h = lt
begin-before n Mode.Queued (Some x) r lt h = behind-before n r.place lt r.end x.end h
begin-before n Mode.Single previous r lt h = lt
begin-before n Mode.Restart previous r lt h = lt
begin-before n Mode.Parallel previous r lt h = lt

abbrev EndsPast : ℕ → Records → Type 0
EndsPast n [] = Unit {0}
EndsPast n (r ∷ rs) = EndBefore n r.end × EndsPast n rs

previous-past : (n a : ℕ) (rs : Records) → EndsPast n rs → PreviousPast n (last_record a rs)
previous-past n a [] h = tt
previous-past n a (r ∷ rs) h = by (nat_eq r.automation a) (previous-past n a rs h.1)
  where
    by : (b : Bool) → PreviousPast n (last_record a rs) → PreviousPast n (if b then Some r else last_record a rs)
    by true g = h.0
    by false g = g

begins-past : (j k : Journal) (before rs : Records) → EndsPast (length k) before → AllBelow (length k) rs → AllPast (length k) (with_begins j before (with_ends k rs))
begins-past j k before [] h below = tt
begins-past j k before (r ∷ rs) h below =
    let e : Record = record r { end = end_below k r (next_place r.automation rs) (length k) } in
    let own : EndBefore (length k) e.end = end-before (length k) e.end (below-ends k r (next_place r.automation rs) (length k) (omega arith)) in (
      record {
        place = below.0;
        begin = begin-before (length k) (mode_of (units j) r.automation) (last_record r.automation before) e below.0 (previous-past (length k) r.automation before h);
        end = own;
      },
      begins-past j k (e ∷ before) rs (own, h) below.1,
    )

-- LAW: the records of a journal tell of its places alone
pub all-past : (j : Journal) (rs : Records) → Right j rs → AllPast (length j) rs
all-past j rs right = subst (AllPast (length j)) (sym (right.records_are ∙ records-passes j)) (begins-past j j [] (bare j) tt (below-bare j (length j) (length j) (omega arith) (omega arith)))

pub past-at : (n : ℕ) (rs : Records) (i : ℕ) (r : Record) → AllPast n rs → slice_get rs i ≡ Some r → IsPast n r
past-at n [] i r h e = absurd (let bad : ◌≡◌ {A = Option Record} None (Some r) = e in cc)
past-at n (y ∷ ys) zero r h e = (let at : y ≡ r = cc in subst (IsPast n) at h.0)
past-at n (y ∷ ys) (suc i) r h e = past-at n ys i r h.1 e

-- ---- who runs at the next place

is-before : (b n : ℕ) → b < n → nat_lt b n ≡ true
is-before b n lt = search rules

is-over : (n e : ℕ) → e < n → nat_le n e ≡ false
is-over n e lt = search rules

begun-before : (n : ℕ) (b : Option ℕ) → BeginBefore n b → option_map_or (λ x. nat_lt x (suc n)) b false ≡ option_map_or (λ x. nat_lt x n) b false
begun-before n None h = refl
begun-before n (Some b) h = is-before b (suc n) (omega arith) ∙ sym (is-before b n h)

ended-before : (n : ℕ) (e : Option (ℕ × EndCause)) → EndBefore n e → option_map_or (λ x. nat_le (suc n) x.0) e true ≡ option_map_or (λ x. nat_le n x.0) e true
ended-before n None h = refl
ended-before n (Some e) h = is-over (suc n) e.0 (omega arith) ∙ sym (is-over n e.0 h)

-- LAW: a run that neither begins nor ends at an entry runs behind it where it ran before it
pub running-stays : (n : ℕ) (r : Record) → IsPast n r → is_running (suc n) r ≡ is_running n r
running-stays n r past = (λ i. begun-before n r.begin past.begin i && ended-before n r.end past.end i)

and-false : (b : Bool) → (b && false) ≡ false
and-false true = refl
and-false false = refl

-- LAW: a run that ends at an entry, or ended before it, does not run behind it
pub ended-rests : (n p : ℕ) (c : EndCause) (r : Record) → r.end ≡ Some (p, c) → p ≤ n → is_running (suc n) r ≡ false
ended-rests n p c r end le =
    (λ i. option_map_or (λ x. nat_lt x (suc n)) r.begin false && option_map_or (λ x. nat_le (suc n) x.0) (end i) true)
    ∙ (let over = is-over (suc n) p (omega (arith, le)) in λ i. option_map_or (λ x. nat_lt x (suc n)) r.begin false && over i)
    ∙ and-false (option_map_or (λ x. nat_lt x (suc n)) r.begin false)

-- LAW: a run that has not begun does not run
pub queued-rests : (n : ℕ) (r : Record) → r.begin ≡ None → is_running n r ≡ false
queued-rests n r begin = (λ i. option_map_or (λ x. nat_lt x n) (begin i) false && option_map_or (λ x. nat_le n x.0) r.end true)

-- LAW: a run that began at an entry or before it and has no end runs behind it
pub begun-runs : (n p : ℕ) (r : Record) → r.begin ≡ Some p → p ≤ n → r.end ≡ None → is_running (suc n) r ≡ true
begun-runs n p r begin le end =
    (λ i. option_map_or (λ x. nat_lt x (suc n)) (begin i) false && option_map_or (λ x. nat_le (suc n) x.0) (end i) true)
    ∙ (let before = is-before p (suc n) (omega (arith, le)) in λ i. before i && true)

-- ---- its branches that may step

-- LAW: those of a run that does not run are none, wherever called runs ended
pub resting-with : (told : CallEnds) (j : Journal) (r : Record) → is_running (length j) r ≡ false → ready_with told j r ≡ []
resting-with told j r off = (λ i. if off i then filter (may_with told j r) (branches_of (actions_of (units j) r.automation)) else [])

pub resting : (all : Records) (j : Journal) (r : Record) → is_running (length j) r ≡ false → ready_branches all j r ≡ []
resting all j r off = (λ i. if off i then filter (may_step all j r) (branches_of (actions_of (units j) r.automation)) else [])
