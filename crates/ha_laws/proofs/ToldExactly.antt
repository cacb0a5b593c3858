-- No other list than that of `records_of` is the one of the rules.
use Rattle.std.proofs.Common.{◌≡◌, ℕ, zero, suc, ◌+◌, ◌<◌, ◌≤◌, ◌⊎◌, inl, inr, List, [], ◌∷◌, ◌++◌, length, map, Bool, true, false, cond, refl, sym, subst, ◌∙◌, arith, Option, append_assoc}
use Rattle.std.specs.Prelude.{Some, None, is_some, slice_get, nat_eq, nat_le, nat_lt, count_by, fold, option_map, if◌then◌else◌}
use Rattle.std.specs.List.{list_any}
use Rattle.std.specs.Option.{option_map_or}
use Rattle.std.proofs.lemmas.Bool.Decides.{leb_tells}
use Rattle.ha_config.specs.declared.config.Mode.{Mode}
use Rattle.ha_model.specs.declared.record.EndCause.{EndCause}
use Rattle.ha_model.specs.declared.record.Record.{Record}
use Rattle.ha_config.specs.Names.{name_of}
use Rattle.ha_config.specs.Words.{EachAfter, or_else, same}
use Rattle.ha_journal.specs.Journal.{Journal, through, units}
use Rattle.ha_journal.specs.Attempts.{Attempt, passing}
use Rattle.ha_model.specs.Records.{Records, mode_of, is_restart_mode, last_is, is_step_of, next_place, records_of, last_record, begin_of, calls_of}
use Rattle.ha_model.specs.Lawful.{IsRightEntry}
use Rattle.ha_laws.specs.Told.{Tried, tried_at, passing_below, has_ended_by, is_unended, IsRecordOf, HaveRecords, units_then, last_among, begins_behind, told_begin, AreTold, ByTheRules}
use Rattle.ha_config.proofs.EqualLemmas.{and_left}
use Rattle.ha_model.proofs.RecordLaws.{last-through}
use Rattle.ha_model.proofs.FoldLaws.{records-passes}
use Rattle.ha_model.proofs.Passes.{end_below, with_ends, bare, end_here, with_begins}
use Rattle.ha_config.proofs.ListLemmas.{true-false, none-some}
use Rattle.ha_laws.proofs.ToldAdmitted.{AllAlike, admitted-alike, admit_each, new_of, bare-each, AllBelowPlace, below-passing, all-alike}
use Rattle.ha_laws.proofs.ToldSteps.{step-runs}
use Rattle.ha_laws.proofs.ToldBegins.{below, SortedFrom, Carried, past-later, end-or-none, get-middle, ends-told, E, e, M, B, f, RunsAt, begins, carry}

-- ---- what the attempts tell of the list

abbrev AreNumbered : Records → Records → Type 0
AreNumbered before [] = Unit {0}
AreNumbered before (r ∷ rs) = (r.serial ≡ suc (length before)) × AreNumbered (before ++ (r ∷ [])) rs

numbered : (j : Journal) (before : Records) (ts : List Tried) (rs : Records) → HaveRecords j before ts rs → AreNumbered before rs
numbered j before [] [] h = tt
numbered j before [] (r ∷ rs) h = absurd h
numbered j before (t ∷ ts) [] h = tt
numbered j before (t ∷ ts) (r ∷ rs) (inl h) = (h.1.serial, numbered j (before ++ (r ∷ [])) ts rs h.2)
numbered j before (t ∷ ts) (r ∷ rs) (inr h) = numbered j before ts (r ∷ rs) h.1

abbrev SortedTs : ℕ → List Tried → Type 0
SortedTs m [] = Unit {0}
SortedTs m (t ∷ ts) = (m ≤ t.place) × SortedTs t.place ts

sorted-less : (m n : ℕ) → m ≤ n → (ts : List Tried) → SortedTs n ts → SortedTs m ts
sorted-less m n le [] h = tt
sorted-less m n le (t ∷ ts) h = (omega (arith, h.0), h.1)

sorted-records : (j : Journal) (m : ℕ) (before : Records) (ts : List Tried) (rs : Records) → SortedTs m ts → HaveRecords j before ts rs → SortedFrom m rs
sorted-records j m before [] [] s h = tt
sorted-records j m before [] (r ∷ rs) s h = absurd h
sorted-records j m before (t ∷ ts) [] s h = tt
sorted-records j m before (t ∷ ts) (r ∷ rs) s (inl h) =
    (omega (arith, s.0, h.1.place), sorted-records j r.place (before ++ (r ∷ [])) ts rs (subst (λ n. SortedTs n ts) (sym h.1.place) s.1) h.2)
sorted-records j m before (t ∷ ts) (r ∷ rs) s (inr h) = sorted-records j m before ts (r ∷ rs) (sorted-less m t.place s.0 ts s.1) h.1

sorted-append : (m p : ℕ) → m ≤ p → (ts us : List Tried) → SortedTs m ts → AllBelowPlace p ts → SortedTs p us → SortedTs m (ts ++ us)
sorted-append m p le [] us h b g = sorted-less m p le us g
sorted-append m p le (t ∷ ts) us h b g = (h.0, sorted-append t.place p (omega (arith, b.0)) ts us h.1 b.1 g)

sorted-tried : (p : ℕ) (xs : List (ℕ × Attempt)) → SortedTs p (map (tried_at p) xs)
sorted-tried p [] = tt
sorted-tried p (x ∷ xs) = (omega arith, sorted-tried p xs)

sorted-passing : (j : Journal) (n : ℕ) → SortedTs 0 (passing_below j n)
sorted-passing j zero = tt
sorted-passing j (suc p) = sorted-append 0 p (omega arith) (passing_below j p) (map (tried_at p) (passing (through j p))) (sorted-passing j p) (below-passing j p p (omega arith)) (sorted-tried p (passing (through j p)))

-- ---- a told begin, against the place

told-same : (m : Mode) (told : Records) (r : Record) (b : Option ℕ) (c : ℕ) → told_begin m told (record r { begin = b; calls = c }) ≡ told_begin m told r
told-same Mode.Single told r b c = refl
told-same Mode.Restart told r b c = refl
told-same Mode.Parallel told r b c = refl
told-same Mode.Queued told r b c = refl

told-late : (j : Journal) (r : Record) (back told : Records) → Carried j r.place back told → (p : ℕ)
    → option_map_or (λ b. nat_lt b p) (told_begin (mode_of (units j) r.automation) told r) false ≡ true → r.place < p
told-late j r back told carried p h = by (mode_of (units j) r.automation) refl h
  where
    a : ℕ
    a = r.automation

    unended : Bool
    unended = list_any (is_unended a r.place) told

    queued : mode_of (units j) a ≡ Mode.Queued → unended ≡ true → (o : Option Record) → last_record a back ≡ o
        → option_map_or (λ b. nat_lt b p) (begins_behind r.end (option_map_or (λ x. x.end) o None)) false ≡ true → r.place < p
    queued m open' None g h = absurd (true-false (sym h))
    queued m open' (Some y) g h = end_of y.end refl h
      where
        after : (z : ℕ × EndCause) → r.place < z.0 → (t : Bool) → option_map_or (λ b. nat_lt b p) (if t then None else Some z.0) false ≡ true → r.place < p
        after z lt true h = absurd (true-false (sym h))
        after z lt false h = omega (arith, below z.0 p h)

        split : (z : ℕ × EndCause) → y.end ≡ Some z → ((nat_le z.0 r.place ≡ true) × (z.0 ≤ r.place)) ⊎ ((nat_le z.0 r.place ≡ false) × (r.place < z.0))
            → option_map_or (λ b. nat_lt b p) (begins_behind r.end (Some z)) false ≡ true → r.place < p
        split z u (inl (t, le)) h =
            absurd (true-false (sym open' ∙ carried.unended a r.place ∙ carried.queue a r.place y m g ((λ i. option_map_or (λ e. nat_le e.0 r.place) (u i) false) ∙ t)))
        split z u (inr (t, lt)) h = after z lt (option_map_or (λ x. nat_le x.0 z.0) r.end false) h

        end_of : (o : Option (ℕ × EndCause)) → y.end ≡ o → option_map_or (λ b. nat_lt b p) (begins_behind r.end y.end) false ≡ true → r.place < p
        end_of None u h = absurd (true-false (sym ((λ i. option_map_or (λ b. nat_lt b p) (begins_behind r.end (sym u i)) false) ∙ h)))
        end_of (Some z) u h = split z u (leb_tells z.0 r.place) ((λ i. option_map_or (λ b. nat_lt b p) (begins_behind r.end (sym u i)) false) ∙ h)

    open_or_not : mode_of (units j) a ≡ Mode.Queued → (t : Bool) → unended ≡ t
        → option_map_or (λ b. nat_lt b p) (if t then begins_behind r.end (option_map_or (λ x. x.end) (last_among a told) None) else Some r.place) false ≡ true → r.place < p
    open_or_not m false g h = below r.place p h
    open_or_not m true g h =
        queued m g (last_record a back) refl
        ((let ends = end-or-none (last_record a back) (last_among a told) (sym (carried.last a)) in λ i. option_map_or (λ b. nat_lt b p) (begins_behind r.end (ends i)) false) ∙ h)

    by : (m : Mode) → mode_of (units j) a ≡ m → option_map_or (λ b. nat_lt b p) (told_begin (mode_of (units j) a) told r) false ≡ true → r.place < p
    by Mode.Single g h = below r.place p ((λ i. option_map_or (λ b. nat_lt b p) (told_begin (sym g i) told r) false) ∙ h)
    by Mode.Restart g h = below r.place p ((λ i. option_map_or (λ b. nat_lt b p) (told_begin (sym g i) told r) false) ∙ h)
    by Mode.Parallel g h = below r.place p ((λ i. option_map_or (λ b. nat_lt b p) (told_begin (sym g i) told r) false) ∙ h)
    by Mode.Queued g h = open_or_not g unended refl ((λ i. option_map_or (λ b. nat_lt b p) (told_begin (sym g i) told r) false) ∙ h)

-- ---- ends and begins of such a list are those of `records_of`

again : (j : Journal) (all : Records) → EachAfter (IsRightEntry all) [] j → (m : ℕ) (rs back told : Records) → SortedFrom m rs → Carried j m back told → all ≡ told ++ rs → AreTold j told rs → AreNumbered told rs
    → rs ≡ with_begins j back (with_ends j rs)
again j all entries m [] back told sorted carried whole rules numbers = refl
again j all entries m (r ∷ rs) back told sorted carried whole rules numbers =
    let next : Option ℕ = next_place r.automation rs in
    let here : Carried j r.place back told = record { past = past-later j m r.place sorted.0 back carried.past; unended = carried.unended; last = carried.last; queue = carried.queue } in
    let made : Record = f j r next back told in
    let index : slice_get all (length told) ≡ Some r = (λ i. slice_get (whole i) (length told)) ∙ get-middle told r rs in
    let runs_r : (q : ℕ) → q < length j → last_is (is_step_of r.serial) (through j q) ≡ true → option_map_or (λ b. nat_lt b q) r.begin false ≡ true
    = λ q lt step. and_left (option_map_or (λ b. nat_lt b q) r.begin false) (option_map_or (λ e. nat_le q e.0) r.end true) (step-runs j all (length told) q r entries lt index numbers.0 step) in
    let late_r : (q : ℕ) → q < length j → last_is (is_step_of r.serial) (through j q) ≡ true → r.place < q
    = λ q lt step. told-late j r back told here q ((λ i. option_map_or (λ b. nat_lt b q) (sym rules.0.begin i) false) ∙ runs_r q lt step) in
    let ends : r.end ≡ E j r next back told = rules.0.end ∙ sym (ends-told j r r.end r.begin r.calls next late_r (length j) (omega arith)) in
    let begin : r.begin ≡ B j r next back told
    = rules.0.begin
    ∙ (λ i. told_begin (M j r next back told) told (record r { end = ends i }))
    ∙ sym (told-same (M j r next back told) told (e j r next back told) (B j r next back told) (calls_of j r.serial))
    ∙ sym (begins j r next back told here) in
    let same : r ≡ made = (let calls = rules.0.calls in λ i. record r { end = ends i; begin = begin i; calls = calls i }) in
    let runs : RunsAt j r next back told = λ q lt step. (λ i. option_map_or (λ b. nat_lt b q) (sym begin i) false) ∙ runs_r q lt step in
    let carried' : Carried j r.place (e j r next back told ∷ back) (told ++ (r ∷ [])) = subst (λ x. Carried j r.place (e j r next back told ∷ back) (told ++ (x ∷ []))) (sym same) (carry j r next back told runs here) in
    let rest = again j all entries r.place rs (e j r next back told ∷ back) (told ++ (r ∷ [])) sorted.1 carried' (whole ∙ sym (append_assoc told (r ∷ []) rs)) rules.1 numbers.1 in
    (λ i. same i ∷ rest i)

-- ---- and its attempts are the admitted ones

abbrev strip : Record → Record
strip r = record r { begin = None; end = None; calls = 0 }

abbrev stripped : Records → Records
stripped rs = map {A = Record} {B = Record} strip rs

stripped-snoc : (rs : Records) (r : Record) → stripped (rs ++ (r ∷ [])) ≡ stripped rs ++ (strip r ∷ [])
stripped-snoc [] r = refl
stripped-snoc (x ∷ xs) r = (λ i. strip x ∷ stripped-snoc xs r i)

-- each has its end by its own entries, where it is not of mode restart
abbrev HasEnds : Journal → Record → Type 0
HasEnds j r = (p : ℕ) → p < length j → is_restart_mode (mode_of (units (through j p)) r.automation) ≡ false → has_ended_by p r ≡ is_some (end_below j (strip r) None (suc p))

abbrev AllEnds : Journal → Records → Type 0
AllEnds j [] = Unit {0}
AllEnds j (r ∷ rs) = HasEnds j r × AllEnds j rs

ends-snoc : (j : Journal) (rs : Records) (r : Record) → AllEnds j rs → HasEnds j r → AllEnds j (rs ++ (r ∷ []))
ends-snoc j [] r h g = (g, tt)
ends-snoc j (x ∷ xs) r h g = (h.0, ends-snoc j xs r h.1 g)

alike-stripped : (j : Journal) (rs : Records) → AllEnds j rs → AllAlike j rs (stripped rs)
alike-stripped j [] h = tt
alike-stripped j (r ∷ rs) h =
    (record { serial = refl; automation = refl; number = refl; place = refl; order = refl; env = refl; ends = h.0 }, alike-stripped j rs h.1)

length-stripped : (rs : Records) → length (stripped rs) ≡ length rs
length-stripped [] = refl
length-stripped (r ∷ rs) = (λ i. suc (length-stripped rs i))

count-stripped : (test : ℕ → Bool) (rs : Records) → count_by (λ x. test x.automation) (stripped rs) ≡ count_by (λ x. test x.automation) rs
count-stripped test rs = go 0 rs
  where
    go : (m : ℕ) (rs : Records) → fold (λ n r. n + cond (test r.automation) 1 0) m (stripped rs) ≡ fold (λ n r. n + cond (test r.automation) 1 0) m rs
    go m [] = refl
    go m (r ∷ rs) = go (m + cond (test r.automation) 1 0) rs

strip-new : (j : Journal) (t : Tried) → t.place < length j → (before : Records) (r : Record) → IsRecordOf (units_then j t) before t r → strip r ≡ new_of j (stripped before) t
strip-new j t lt before r h =
    let s : r.serial ≡ suc (length (stripped before)) = h.serial ∙ (λ i. suc (sym (length-stripped before) i)) in
    let test : ℕ → Bool = λ a. same (name_of (units_then j t) a) (name_of (units_then j t) t.attempt.automation) in
    let n : r.number ≡ suc (count_by (λ x. test x.automation) (stripped before)) = h.number ∙ (λ i. suc (sym (count-stripped test before) i)) in
    let p = h.place ∙ sym (last-through j t.place lt) in
    (λ i. record { serial = s i; automation = h.automation i; number = n i; place = p i; order = h.order i; env = h.env i; begin = None; end = None; calls = 0 })

admitted-only : (j : Journal) (ts : List Tried) → AllBelowPlace (length j) ts → (before rs : Records) → AllEnds j before → AllEnds j rs → HaveRecords j before ts rs
    → stripped rs ≡ admit_each j (stripped before) ts
admitted-only j [] low before [] b h g = refl
admitted-only j [] low before (r ∷ rs) b h g = absurd g
admitted-only j (t ∷ ts) low before [] b h g =
    admitted-only j ts low.1 before [] b tt g.1
    ∙ (let e = sym (sym (admitted-alike j t low.0 before (stripped before) (alike-stripped j before b)) ∙ g.0) in
    λ i. if e i then new_of j (stripped before) t ∷ admit_each j (stripped before ++ (new_of j (stripped before) t ∷ [])) ts else admit_each j (stripped before) ts)
admitted-only j (t ∷ ts) low before (r ∷ rs) b h (inl g) =
    let new = new_of j (stripped before) t in
    let made : strip r ≡ new = strip-new j t low.0 before r g.1 in
    (λ i. made i ∷ admitted-only j ts low.1 (before ++ (r ∷ [])) rs (ends-snoc j before r b h.0) h.1 g.2 i)
    ∙ (λ i. new ∷ admit_each j (stripped-snoc before r i) ts)
    ∙ (λ i. new ∷ admit_each j (stripped before ++ (made i ∷ [])) ts)
    ∙ (let e = sym (sym (admitted-alike j t low.0 before (stripped before) (alike-stripped j before b)) ∙ g.0) in
    λ i. if e i then new ∷ admit_each j (stripped before ++ (new ∷ [])) ts else admit_each j (stripped before) ts)
admitted-only j (t ∷ ts) low before (r ∷ rs) b h (inr g) =
    admitted-only j ts low.1 before (r ∷ rs) b h g.1
    ∙ (let e = sym (sym (admitted-alike j t low.0 before (stripped before) (alike-stripped j before b)) ∙ g.0) in
    λ i. if e i then new_of j (stripped before) t ∷ admit_each j (stripped before ++ (new_of j (stripped before) t ∷ [])) ts else admit_each j (stripped before) ts)

-- the records with their ends and begins do not look at the ends and begins of those that they are made from
next-stripped : (a : ℕ) (rs : Records) → next_place a (stripped rs) ≡ next_place a rs
next-stripped a [] = refl
next-stripped a (r ∷ rs) = (λ i. if nat_eq r.automation a then Some r.place else next-stripped a rs i)

end-stripped : (j : Journal) (r : Record) (next : Option ℕ) (n : ℕ) → end_below j (strip r) next n ≡ end_below j r next n
end-stripped j r next zero = refl
end-stripped j r next (suc p) = (λ i. or_else (end-stripped j r next p i) (end_here (through j p) r next))

-- without its begin and calls
abbrev ended_only : Record → Record
ended_only r = record r { begin = None; calls = 0 }

abbrev all_ended_only : Records → Records
all_ended_only rs = map {A = Record} {B = Record} ended_only rs

ends-stripped : (j : Journal) (rs : Records) → all_ended_only (with_ends j rs) ≡ with_ends j (stripped rs)
ends-stripped j [] = refl
ends-stripped j (r ∷ rs) =
    let ends : end_below j r (next_place r.automation rs) (length j) ≡ end_below j (strip r) (next_place r.automation (stripped rs)) (length j)
    = sym ((λ i. end_below j (strip r) (next-stripped r.automation rs i) (length j)) ∙ end-stripped j r (next_place r.automation rs) (length j)) in
    (λ i. record r { begin = None; calls = 0; end = ends i } ∷ ends-stripped j rs i)

last-ended-only : (a : ℕ) (back : Records) → last_record a (all_ended_only back) ≡ option_map {T = Record} {U = Record} ended_only (last_record a back)
last-ended-only a [] = refl
last-ended-only a (r ∷ rs) = by (nat_eq r.automation a) (last-ended-only a rs)
  where
    by : (b : Bool) → last_record a (all_ended_only rs) ≡ option_map {T = Record} {U = Record} ended_only (last_record a rs)
        → (if b then Some (ended_only r) else last_record a (all_ended_only rs)) ≡ option_map {T = Record} {U = Record} ended_only (if b then Some r else last_record a rs)
    by true h = refl
    by false h = h

begin-ended-only : (m : Mode) (o : Option Record) (r : Record) → begin_of m (option_map {T = Record} {U = Record} ended_only o) (ended_only r) ≡ begin_of m o r
begin-ended-only Mode.Single o r = refl
begin-ended-only Mode.Restart o r = refl
begin-ended-only Mode.Parallel o r = refl
begin-ended-only Mode.Queued None r = refl
begin-ended-only Mode.Queued (Some x) r = refl

begins-ended-only : (j : Journal) (back rs : Records) → with_begins j (all_ended_only back) (all_ended_only rs) ≡ with_begins j back rs
begins-ended-only j back [] = refl
begins-ended-only j back (r ∷ rs) =
    let m = mode_of (units j) r.automation in
    let begin : begin_of m (last_record r.automation (all_ended_only back)) (ended_only r) ≡ begin_of m (last_record r.automation back) r
    = (λ i. begin_of m (last-ended-only r.automation back i) (ended_only r)) ∙ begin-ended-only m (last_record r.automation back) r in
    (λ i. record r { begin = begin i; calls = calls_of j r.serial } ∷ begins-ended-only j (r ∷ back) rs i)

ends-of-all : (j : Journal) (rs qs : Records) → AllAlike j qs rs → qs ≡ rs → AllEnds j rs
ends-of-all j rs qs h same = go rs (subst (λ l. AllAlike j l rs) same h)
  where
    go : (rs : Records) → AllAlike j rs rs → AllEnds j rs
    go [] h = tt
    go (r ∷ rs) h = ((λ p lt m. h.0.ends p lt m ∙ (λ i. is_some (sym (end-stripped j r None (suc p)) i))), go rs h.1)

-- LAW: a list that meets the rules, and whose Steps are right, is `records_of`
pub exactly : (j : Journal) (rs : Records) → ByTheRules j rs → EachAfter (IsRightEntry rs) [] j → rs ≡ records_of j
exactly j rs rules entries =
    let ts = passing_below j (length j) in
    let itself : rs ≡ with_begins j [] (with_ends j rs)
    = again j rs entries 0 rs [] [] (sorted-records j 0 [] ts rs (sorted-passing j (length j)) rules.admitted)
    (record { past = tt; unended = λ a p. refl; last = λ a. refl; queue = λ a p y m h. absurd (none-some y h) }) refl rules.told (numbered j [] ts rs rules.admitted) in
    let attempts : stripped rs ≡ bare j
    = admitted-only j ts (below-passing j (length j) (length j) (omega arith)) [] rs tt (ends-of-all j rs (with_begins j [] (with_ends j rs)) (all-alike j [] rs) (sym itself)) rules.admitted
    ∙ sym (bare-each j (length j)) in
    itself ∙ sym (begins-ended-only j [] (with_ends j rs)) ∙ (λ i. with_begins j [] (ends-stripped j rs i)) ∙ (λ i. with_begins j [] (with_ends j (attempts i)))
    ∙ sym (records-passes j)
