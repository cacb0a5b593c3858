-- What a line that ends nobody does to the records, where all units are of mode single.
use Rattle.std.proofs.Common.{◌≡◌, ℕ, suc, ◌+◌, ◌-◌, ◌<◌, List, [], ◌∷◌, ◌++◌, length, Bool, true, false, cond, refl, sym, ap, subst, ◌∙◌, arith, Option, length-append}
use Rattle.std.specs.Prelude.{Some, None, is_none, not, option_and_then, nat_eq, nat_lt, fold, ◌&&◌, if◌then◌else◌}
use Rattle.std.specs.Option.{option_map_or}
use Rattle.ha_config.specs.declared.command.Cmd.{Cmd}
use Rattle.ha_journal.specs.declared.entry.Entry.{Entry}
use Rattle.ha_journal.specs.declared.entry.Entry.TheVariants.{Line}
use Rattle.ha_model.specs.declared.record.EndCause.{EndCause}
use Rattle.ha_model.specs.declared.record.Record.{Record}
use Rattle.ha_journal.specs.Force.{force, has_unit}
use Rattle.ha_journal.specs.Journal.{Journal, last_place, more, HasEntry, units}
use Rattle.ha_journal.specs.Attempts.{Attempt, passing}
use Rattle.ha_model.specs.Records.{Records, mode_of, max_of, script_end, own_cause, is_restart_mode, is_step_of, stops, next_place, lets_in, live_count, new_record, last_record, begin_of, calls_of, ran}
use Rattle.ha_config.specs.Names.{name_of}
use Rattle.ha_config.specs.Words.{or_else, same}
use Rattle.ha_journal.specs.Entries.{is_reload, is_restart, reload_in}
use Rattle.ha_model.specs.RecordSteps.{records_after}
use Rattle.ha_laws.specs.SingleMode.{AllSingle, IsPlain, started, admit_started}
use Rattle.ha_journal.specs.Commands.{IsFair}
use Rattle.ha_model.specs.Lawful.{IsTurn, Right, Running}
use Rattle.ha_model.proofs.RecordLaws.{at_place, ended-more}
use Rattle.ha_model.proofs.FoldLaws.{records-more, records-passes}
use Rattle.ha_model.proofs.Passes.{replaced, end_here, with_begins, ended, end_now, admit_now}
use Rattle.ha_journal.proofs.ForceLaws.{units-more}
use Rattle.ha_journal.proofs.MoreLemmas.{has-entry}
use Rattle.ha_model.proofs.LawfulLaws.{running-more}
use Rattle.ha_model.proofs.LastEntry.{last-is, or-none, calls-more, no-calls}

-- no replacement but in mode restart
pub single-replaced : (k : Journal) → AllSingle k → (r : Record) (next : Option ℕ) → replaced k r next ≡ None
single-replaced k single r next =
    (λ i. if is_restart_mode (single r.automation i) && option_map_or (λ p. nat_eq p (last_place k)) next false then Some EndCause.Replaced else None)

-- the entry ends no run that is there before it
abbrev pub EndsNone : Journal → Type 0
EndsNone k = (r : Record) → own_cause k r ≡ None

none-here : (k : Journal) → AllSingle k → EndsNone k → (r : Record) (next : Option ℕ) → end_here k r next ≡ None
none-here k single none r next =
    (λ i. at_place (last_place k) (or_else (if nat_lt r.place (last_place k) then none r i else None) (single-replaced k single r next i)))
    ∙ by (nat_lt r.place (last_place k))
  where
    by : (b : Bool) → at_place (last_place k) (or_else (if b then None else None) None) ≡ None
    by true = refl
    by false = refl

none-now : (k : Journal) → AllSingle k → EndsNone k → (rs : Records) → end_now k rs ≡ rs
none-now k single none [] = refl
none-now k single none (r ∷ rs) =
    (λ i. record r { end = or_else r.end (none-here k single none r (next_place r.automation rs) i) } ∷ none-now k single none rs i)
    ∙ (λ i. record r { end = or-none r.end i } ∷ rs)

-- admission where nothing ends: by the number of live ones
abbrev pub admit_plain : Journal → Records → List (ℕ × Attempt) → Records
admit_plain k rs [] = rs
admit_plain k rs (x ∷ xs) = admit_plain k (if nat_eq (live_count x.1.automation rs) 0 then rs ++ (new_record k rs x ∷ []) else rs) xs

plain-now : (k : Journal) → AllSingle k → EndsNone k → (rs : Records) (xs : List (ℕ × Attempt)) → admit_now k rs xs ≡ admit_plain k rs xs
plain-now k single none rs [] = refl
plain-now k single none rs (x ∷ xs) =
    (λ i. admit_now k (if lets_in (single x.1.automation i) (max k) (live_count x.1.automation rs) then none-now k single none (rs ++ (new_record k rs x ∷ [])) i else rs) xs)
    ∙ plain-now k single none (if nat_eq (live_count x.1.automation rs) 0 then rs ++ (new_record k rs x ∷ []) else rs) xs
  where
    max : Journal → ℕ
    max k = max_of (units k) x.1.automation

-- LAW: the ends after such an entry
pub plain-ended : (j : Journal) (x : Entry) → AllSingle (more j x) → EndsNone (more j x) → ended (more j x) ≡ admit_plain (more j x) (ended j) (passing (more j x))
plain-ended j x single none =
    ended-more j x ∙ (λ i. admit_now (more j x) (none-now (more j x) single none (ended j) i) (passing (more j x))) ∙ plain-now (more j x) single none (ended j) (passing (more j x))

pub plain-line : (j : Journal) (source number : ℕ) (cmd : Cmd) → IsPlain cmd → EndsNone (more j (Line source number cmd))
plain-line j source number cmd plain r =
    let x : Entry = Line source number cmd in
    let k = more j x in
    let is_step = last-is (is_step_of r.serial) j x in
    (λ i. or_else (if is_step i then option_and_then (λ o. script_end o.status) (ran k r) else None)
    (if last-is (stops (units k) r.automation) j x i then Some EndCause.SwitchedOff
    else if last-is is_restart j x i then Some EndCause.Restarted
    else if last-is is_reload j x i && not (has_unit (force k) r.automation) then Some EndCause.Reloaded
    else None))
    ∙ by cmd plain
  where
    by : (cmd : Cmd) → IsPlain cmd → (if stops (units (more j (Line source number cmd))) r.automation (Line source number cmd) then Some EndCause.SwitchedOff
        else if is_restart (Line source number cmd) then Some EndCause.Restarted
        else if is_reload (Line source number cmd) && not (has_unit (force (more j (Line source number cmd))) r.automation) then Some EndCause.Reloaded
        else None) ≡ None
    by (Cmd.Report e t a) h = refl
    by (Cmd.Gone e) h = refl
    by (Cmd.Event kind pairs) h = refl
    by (Cmd.Moment m) h = refl
    by (Cmd.Switch name on stop) h = absurd h
    by (Cmd.Trigger name skip) h = refl
    by Cmd.Restart h = absurd h
    by (Cmd.Reload text config) h = absurd h
    by (Cmd.Refused code) h = refl
    by Cmd.Lost h = refl
    by Cmd.TooLong h = refl

-- each with its begin and calls, where every record begins at its place
abbrev pub filled : Journal → Records → Records
filled k [] = []
filled k (r ∷ rs) = record r { begin = Some r.place; calls = calls_of k r.serial } ∷ filled k rs

pub single-begins : (k : Journal) → AllSingle k → (before rs : Records) → with_begins k before rs ≡ filled k rs
single-begins k single before [] = refl
single-begins k single before (r ∷ rs) =
    (λ i. record r { begin = begin_of (single r.automation i) (last_record r.automation before) r; calls = calls_of k r.serial } ∷ single-begins k single (r ∷ before) rs i)

filled-line : (j : Journal) (source number : ℕ) (cmd : Cmd) (rs : Records) → filled (more j (Line source number cmd)) rs ≡ filled j rs
filled-line j source number cmd [] = refl
filled-line j source number cmd (r ∷ rs) =
    let e : calls_of (more j (Line source number cmd)) r.serial ≡ calls_of j r.serial = omega (arith, calls-more j (Line source number cmd) r.serial) in
    (λ i. record r { begin = Some r.place; calls = e i } ∷ filled-line j source number cmd rs i)

length-filled : (k : Journal) (rs : Records) → length (filled k rs) ≡ length rs
length-filled k [] = refl
length-filled k (r ∷ rs) = (λ i. suc (length-filled k rs i))

-- a test of a record looks at its unit alone
count-filled : (k : Journal) (test : ℕ → Bool) (n : ℕ) (rs : Records) → fold (λ m r. m + cond (test r.automation) 1 0) n (filled k rs) ≡ fold (λ m r. m + cond (test r.automation) 1 0) n rs
count-filled k test n [] = refl
count-filled k test n (r ∷ rs) = count-filled k test (n + cond (test r.automation) 1 0) rs

live-filled : (k : Journal) (a n : ℕ) (rs : Records) → fold (λ m r. m + cond (nat_eq r.automation a && is_none r.end) 1 0) n (filled k rs) ≡ fold (λ m r. m + cond (nat_eq r.automation a && is_none r.end) 1 0) n rs
live-filled k a n [] = refl
live-filled k a n (r ∷ rs) = live-filled k a (n + cond (nat_eq r.automation a && is_none r.end) 1 0) rs

new-filled : (k : Journal) (rs : Records) (x : ℕ × Attempt) → new_record k (filled k rs) x ≡ new_record k rs x
new-filled k rs x = (λ i. record (new_record k rs x) { serial = suc (length-filled k rs i); number = suc (count-filled k (λ a. same (name_of (units k) a) (name_of (units k) x.1.automation)) 0 rs i) })

filled-snoc : (k : Journal) (rs : Records) (r : Record) → calls_of k r.serial ≡ r.calls → filled k (rs ++ (r ∷ [])) ≡ filled k rs ++ (started r ∷ [])
filled-snoc k [] r e = (λ i. record r { begin = Some r.place; calls = e i } ∷ [])
filled-snoc k (y ∷ ys) r e = (λ i. record y { begin = Some y.place; calls = calls_of k y.serial } ∷ filled-snoc k ys r e i)

filled-admit : (k : Journal) (rs : Records) (xs : List (ℕ × Attempt)) → ((s : ℕ) → length rs < s → calls_of k s ≡ 0) → filled k (admit_plain k rs xs) ≡ admit_started k (filled k rs) xs
filled-admit k rs [] h = refl
filled-admit k rs (x ∷ xs) h =
    filled-admit k (if nat_eq (live_count x.1.automation rs) 0 then rs ++ (new_record k rs x ∷ []) else rs) xs (later (nat_eq (live_count x.1.automation rs) 0))
    ∙ (λ i. admit_started k (by (nat_eq (live_count x.1.automation rs) 0) i) xs)
    ∙ (let live : live_count x.1.automation rs ≡ live_count x.1.automation (filled k rs) = sym (live-filled k x.1.automation 0 rs) in λ i. admit_started k (if nat_eq (live i) 0 then filled k rs ++ (started (new_record k (filled k rs) x) ∷ []) else filled k rs) xs)
  where
    later : (b : Bool) → (s : ℕ) → length (if b then rs ++ (new_record k rs x ∷ []) else rs) < s → calls_of k s ≡ 0
    later true s lt = h s (omega (arith, lt, length-append rs (new_record k rs x ∷ [])))
    later false s lt = h s lt

    by : (b : Bool) → filled k (if b then rs ++ (new_record k rs x ∷ []) else rs) ≡ (if b then filled k rs ++ (started (new_record k (filled k rs) x) ∷ []) else filled k rs)
    by true = filled-snoc k rs (new_record k rs x) (h (suc (length rs)) (omega arith)) ∙ (λ i. filled k rs ++ (started (sym (new-filled k rs x) i) ∷ []))
    by false = refl

pub single-more : (j : Journal) (x : Entry) → HasEntry j → reload_in x ≡ None → AllSingle j → AllSingle (more j x)
single-more j x h keeps single a = (λ i. mode_of (sym (units-more j x h keeps) i) a) ∙ single a

-- such a line is no reload
plain-keeps : (source number : ℕ) (cmd : Cmd) → IsPlain cmd → reload_in (Line source number cmd) ≡ None
plain-keeps source number (Cmd.Report e t a) h = refl
plain-keeps source number (Cmd.Gone e) h = refl
plain-keeps source number (Cmd.Event kind pairs) h = refl
plain-keeps source number (Cmd.Moment m) h = refl
plain-keeps source number (Cmd.Switch name on stop) h = absurd h
plain-keeps source number (Cmd.Trigger name skip) h = refl
plain-keeps source number Cmd.Restart h = absurd h
plain-keeps source number (Cmd.Reload text config) h = absurd h
plain-keeps source number (Cmd.Refused code) h = refl
plain-keeps source number Cmd.Lost h = refl
plain-keeps source number Cmd.TooLong h = refl

-- LAW: such a line adds the records of its attempts that are admitted, which begin at once
pub plain-records : (j : Journal) (rs : Records) (source number : ℕ) (cmd : Cmd) → Right j rs → AllSingle j → IsPlain cmd
    → records_after j rs (Line source number cmd) ≡ admit_started (more j (Line source number cmd)) rs (passing (more j (Line source number cmd)))
plain-records j rs source number cmd right single plain =
    let x : Entry = Line source number cmd in
    let k = more j x in
    let xs = passing k in
    let single' : AllSingle k = single-more j x (has-entry j right.journal) (plain-keeps source number cmd plain) single in
    let same : rs ≡ filled j (ended j) = right.records_are ∙ records-passes j ∙ single-begins j single [] (ended j) in
    let count : length rs ≡ length (ended j) = ap length same ∙ length-filled j (ended j) in
    let quiet : (s : ℕ) → length (ended j) < s → calls_of k s ≡ 0 = λ s lt. omega (arith, calls-more j x s, no-calls j rs right s (omega (arith, count, lt))) in
    (λ i. records_after j (right.records_are i) x)
    ∙ sym (records-more j x)
    ∙ records-passes k
    ∙ single-begins k single' [] (ended k)
    ∙ (λ i. filled k (plain-ended j x single' (plain-line j source number cmd plain) i))
    ∙ filled-admit k (ended j) xs quiet
    ∙ (λ i. admit_started k (filled-line j source number cmd (ended j) i) xs)
    ∙ (λ i. admit_started k (sym same i) xs)

-- LAW: so the code that appends such a line, and admits the attempts in turn, keeps the journal lawful
pub line-kept : (j j' : Journal) (rs rs' : Records) (source number : ℕ) (cmd : Cmd) (xs : List (ℕ × Attempt)) → Running j rs → AllSingle j → IsPlain cmd → IsFair j cmd → IsTurn rs j (Line source number cmd)
    → xs ≡ passing (more j (Line source number cmd)) → j' ≡ more j (Line source number cmd) → rs' ≡ admit_started (more j (Line source number cmd)) rs xs → Running j' rs'
line-kept j j' rs rs' source number cmd xs run single plain fair turn passes journal_is records_are =
    let x : Entry = Line source number cmd in
    let kept = running-more j rs x run (λ h. h) fair turn tt in
    let same : records_after j rs x ≡ rs' = plain-records j rs source number cmd run.lawful.right single plain ∙ (λ i. admit_started (more j x) rs (sym passes i)) ∙ sym records_are in
    subst (λ l. Running l rs') (sym journal_is) (subst (Running (more j x)) same kept)
