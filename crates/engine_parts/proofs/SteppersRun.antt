-- Who made a step, and has not ended, runs; what is known where ready pairs are listed anew behind a line.
use Rattle.std.proofs.Common.{◌≡◌, ℕ, zero, suc, ◌+◌, ◌-◌, ◌<◌, ◌≤◌, List, [], ◌∷◌, ◌++◌, length, Bool, true, false, refl, sym, ap, subst, ◌∙◌, rules, arith, length-append}
use Rattle.std.specs.Prelude.{Option, Some, None, IsTrue, nat_eq, nat_lt, nat_le, slice_get, ◌&&◌}
use Rattle.std.specs.Option.{option_map_or}
use Rattle.std.proofs.lemmas.Option.{slice_get_within}
use Rattle.timer_queue.specs.Timers.{Timer}
use Rattle.ha_config.specs.declared.command.Cmd.{Cmd}
use Rattle.ha_journal.specs.declared.entry.Entry.{Entry}
use Rattle.ha_journal.specs.declared.entry.Entry.TheVariants.{Boot, Line, Step, Again}
use Rattle.ha_model.specs.declared.record.Record.{Record}
use Rattle.ha_config.specs.Words.{EachAfter}
use Rattle.ha_journal.specs.Entries.{step_of}
use Rattle.ha_journal.specs.Journal.{Journal, now, more, units}
use Rattle.ha_model.specs.Records.{Records, CallEnds}
use Rattle.ha_model.specs.Lawful.{Right, IsRightEntry, record_of, is_running, ready}
use Rattle.ha_journal.proofs.MoreLemmas.{has-entry, length-more}
use Rattle.ha_config.proofs.ListLemmas.{get-last}
use Rattle.ha_model.proofs.KnownLaws.{AllKnown, all-known}
use Rattle.ha_model.proofs.StepLaws.{serial-at}
use Rattle.script_step.specs.declared.frames.Frames.{Frames}
use Rattle.engine_parts.specs.Waiting.{TellsEnds, AsksKept, EndsGrow, fresh}
use Rattle.wait_set.specs.Asked.{WaitTable as Waits}
use Rattle.engine_parts.specs.Runs.{SlotKept, SlotsKept, Waking}
use Rattle.ha_ready.specs.Agree.{step_at, touched, AgreesBut}
use Rattle.engine_parts.specs.Touched.{due_places, wait_places, QueueKept}
use Rattle.ha_ready.proofs.RunPast.{all-past, past-at}
use Rattle.engine_parts.proofs.ReadyOneMore.{script-more}
use Rattle.engine_parts.proofs.SlotLemmas.{slots-known, slot-more, ended-off, untouched-stays}
use Rattle.ha_ready.proofs.AgreeLemmas.{agree-first}
use Rattle.ha_ready.specs.ReadyPairs.{ends_at}

-- what holds of each entry, with those before it, holds of the entry at a place
each-at : (P : Journal → Entry → Type 0) (before xs : Journal) (i : ℕ) (y : Entry) → EachAfter P before xs → slice_get xs i ≡ Some y → (d : Journal) × (length d ≡ length before + i) × P d y
each-at P before [] i y h e = absurd (let bad : ◌≡◌ {A = Option Entry} None (Some y) = e in cc)
each-at P before (z ∷ zs) zero y h e = (before, omega arith, (let same : z ≡ y = cc in subst (P before) same h.0))
each-at P before (z ∷ zs) (suc i) y h e =
    let rest = each-at P (before ++ (z ∷ [])) zs i y h.1 e in
    (rest.0, omega (arith, rest.1, length-append before (z ∷ [])), rest.2)

less : (a b : ℕ) → a < b → nat_lt a b ≡ true
less a b lt = search rules

less-of : (a b : ℕ) → nat_lt a b ≡ true → a < b
less-of a b e = search (rules, e)

-- a live run that ran at a place runs at every later one
pub still-runs : (p m : ℕ) → p ≤ m → (r : Record) → is_running p r ≡ true → r.end ≡ None → is_running m r ≡ true
still-runs p m le r runs end =
    (λ i. option_map_or (λ b. nat_lt b m) r.begin false && option_map_or (λ e. nat_le m e.0) (end i) true)
    ∙ by r.begin ((λ i. option_map_or (λ b. nat_lt b p) r.begin false && option_map_or (λ e. nat_le p e.0) (sym end i) true) ∙ runs)
  where
    by : (b : Option ℕ) → (option_map_or (λ y. nat_lt y p) b false && true) ≡ true → (option_map_or (λ y. nat_lt y m) b false && true) ≡ true
    by None h = absurd (let bad : ◌≡◌ {A = Bool} false true = h in cc)
    by (Some b) h = and-true (nat_lt b m) (less b m (omega (arith, less-of b p (true-and (nat_lt b p) h), le)))
      where
        true-and : (c : Bool) → (c && true) ≡ true → c ≡ true
        true-and true h = refl
        true-and false h = h

        and-true : (c : Bool) → c ≡ true → (c && true) ≡ true
        and-true c e = (λ i. e i && true)

-- an entry that is a Step of the run, with its serial
step-there : (s : ℕ) (y : Entry) → option_map_or (λ t. nat_eq t.serial s) (step_of y) false ≡ true → (rs : Records) (d : Journal) → IsRightEntry rs d y
    → (r : Record) × (record_of rs s ≡ Some r) × (r.serial ≡ s) × (is_running (length d) r ≡ true)
step-there s (Boot text config stored start zone carry) h rs d right = absurd (let bad : ◌≡◌ {A = Bool} false true = h in cc)
step-there s (Again number start stored carry) h rs d right = absurd (let bad : ◌≡◌ {A = Bool} false true = h in cc)
step-there s (Line source number cmd) h rs d right = absurd (let bad : ◌≡◌ {A = Bool} false true = h in cc)
step-there s (Step worker serial branch item) h rs d right =
    let own : serial ≡ s = eq-of serial s h in
    let place : length (d ++ (Step worker serial branch item ∷ [])) - 1 ≡ length d = omega (arith, length-append d (Step worker serial branch item ∷ [])) in
    (right.0, (λ i. record_of rs (sym own i)) ∙ right.1, right.2 ∙ own, true-of (is_running (length d) right.0) (subst (λ n. IsTrue (is_running n right.0)) place right.3.runs))
  where
    eq-of : (a b : ℕ) → nat_eq a b ≡ true → a ≡ b
    eq-of a b e = search (rules, e)

    true-of : (b : Bool) → IsTrue b → b ≡ true
    true-of b h = search (rules, h)

-- LAW: the run of a Step is there, and where it has not ended it runs
pub stepper-runs : (j : Journal) (rs : Records) (s p : ℕ) → Right j rs → step_at j s p ≡ true → (r : Record) × (record_of rs s ≡ Some r) × (r.serial ≡ s) × (p < length j) × (r.end ≡ None → is_running (length j) r ≡ true)
stepper-runs j rs s p right at = by (slice_get j p) refl at
  where
    by : (o : Option Entry) → slice_get j p ≡ o → option_map_or (λ x. option_map_or (λ t. nat_eq t.serial s) (step_of x) false) o false ≡ true
        → (r : Record) × (record_of rs s ≡ Some r) × (r.serial ≡ s) × (p < length j) × (r.end ≡ None → is_running (length j) r ≡ true)
    by None e h = absurd (let bad : ◌≡◌ {A = Bool} false true = h in cc)
    by (Some y) e h =
        let there = each-at (IsRightEntry rs) [] j p y right.entries e in
        let found = step-there s y h rs there.0 there.2 in
        let within : p < length j = slice_get_within j p y e in
        (found.0, found.1, found.2, within, λ end. still-runs (length there.0) (length j) (omega (arith, there.1, within)) found.0 found.3 end)

-- behind a line the Steps are those before it
pub line-steps : (j : Journal) (source number : ℕ) (cmd : Cmd) (s p : ℕ) → step_at (more j (Line source number cmd)) s p ≡ true → step_at j s p ≡ true
line-steps [] source number cmd s zero h = h
line-steps [] source number cmd s (suc p) h = h
line-steps (e ∷ es) source number cmd s zero h = h
line-steps (e ∷ es) source number cmd s (suc p) h = line-steps es source number cmd s p h

-- LAW: behind a line the frames of the runs are kept
pub line-slots : (told : CallEnds) (j : Journal) (same : (p : ℕ) → p < length j → told p ≡ ends_at j p) (rs : Records) (source number : ℕ) (cmd : Cmd) (delays delays' : List Timer) (w w' : Waits) (os : List (Option Frames)) → Right j rs
    → QueueKept (now (more j (Line source number cmd))) delays delays' → ((s : ℕ) → AsksKept w w' s) → SlotsKept (ends_at j) j delays w rs os → SlotsKept told (more j (Line source number cmd)) delays' w' rs os
line-slots told j same rs source number cmd delays delays' w w' os right queue asks kept =
    slots-known (SlotKept (ends_at j) j delays w) (SlotKept told (more j (Line source number cmd)) delays' w') (length (units j))
    (λ r o known h. slot-more (ends_at j) told j (Line source number cmd) same delays delays' w w' (has-entry j right.journal) queue r o (script-more j (Line source number cmd) r.automation known) refl (asks r.serial) h)
    rs os (subst (AllKnown (length (units j))) (sym right.records_are) (all-known j)) kept

-- LAW: behind a line, where the waits stand for it, the branches of runs may be listed anew
pub line-waking : (told : CallEnds) (j : Journal) (same : (p : ℕ) → p < length j → told p ≡ ends_at j p) (rs : Records) (source number : ℕ) (cmd : Cmd) (delays delays' : List Timer) (w w' : Waits) (os : List (Option Frames)) (at : ℕ) → Right j rs → at ≡ now (more j (Line source number cmd))
    → QueueKept (now (more j (Line source number cmd))) delays delays' → ((s : ℕ) → AsksKept w w' s) → TellsEnds w' (more j (Line source number cmd)) → SlotsKept (ends_at j) j delays w rs os
    → Waking told rs (more j (Line source number cmd)) w' os at
line-waking told j same rs source number cmd delays delays' w w' os at right is queue asks stands kept = record {
  delays = delays';
  now_is = is;
  numbered = λ s p step. (let run = stepper-runs j rs s p right (line-steps j source number cmd s p step) in numbers s run.0 run.1 run.2);
  running = λ s p r step found end. (let run = stepper-runs j rs s p right (line-steps j source number cmd s p step) in
      let same : run.0 ≡ r = cc in
      (subst (λ (q : Record). q.serial ≡ s) same run.2, longer r end (subst (λ (q : Record). q.end ≡ None → is_running (length j) q ≡ true) same run.4 end)));
  resting = λ s r found ended. ended-off (length j) (length (more j (Line source number cmd))) (omega (arith, length-more j (Line source number cmd))) r ended (past-at (length j) rs (s - 1) r (all-past j rs right) found);
  stands = stands;
  slots = line-slots told j same rs source number cmd delays delays' w w' os right queue asks kept;
}
  where
    numbers : (s : ℕ) (r : Record) → record_of rs s ≡ Some r → r.serial ≡ s → (0 < s) × (s ≤ length rs)
    numbers s r found own =
        let numbered : r.serial ≡ suc (s - 1) = serial-at j (s - 1) r (ap (λ l. slice_get l (s - 1)) (sym right.records_are) ∙ found) in
        let within : s - 1 < length rs = slice_get_within rs (s - 1) r found in
        (omega (arith, numbered, own), omega (arith, within, numbered, own))

    longer : (r : Record) → r.end ≡ None → is_running (length j) r ≡ true → is_running (length (more j (Line source number cmd))) r ≡ true
    longer r end runs = still-runs (length j) (length (more j (Line source number cmd))) (omega (arith, length-more j (Line source number cmd))) r runs end

no-step : (j : Journal) (source number : ℕ) (cmd : Cmd) (s : ℕ) → step_at (more j (Line source number cmd)) s (length j) ≡ false
no-step j source number cmd s = (λ i. option_map_or (λ y. option_map_or (λ t. nat_eq t.serial s) (step_of y) false) (get-last j (Line source number cmd) i) false)

-- LAW: behind a line the ready pairs before it agree, but for the runs of delays that are over and of waits that ended there
pub line-agrees : (told : CallEnds) (j : Journal) (same : (p : ℕ) → p < length j → told p ≡ ends_at j p) (rs : Records) (source number : ℕ) (cmd : Cmd) (delays : List Timer) (w w' : Waits) (os : List (Option Frames)) → Right j rs → TellsEnds w j → TellsEnds w' (more j (Line source number cmd))
    → ((s : ℕ) → AsksKept w w' s) → ((s : ℕ) → EndsGrow w w' s) → SlotsKept (ends_at j) j delays w rs os
    → AgreesBut told (touched (more j (Line source number cmd)) (due_places (now (more j (Line source number cmd))) delays ++ wait_places (fresh w'))) rs (more j (Line source number cmd)) (ready rs j)
line-agrees told j same rs source number cmd delays w w' os right stood stands asks grow kept =
    let k = more j (Line source number cmd) in
    agree-first told (touched k (due_places (now k) delays ++ wait_places (fresh w'))) rs j k right
    (λ s low high none. untouched-stays told j (Line source number cmd) same delays w w' rs os right stood stands kept s low (asks s) (grow s) (no-step j source number cmd s) none)
