-- The records of a step, from those before it.
use Rattle.std.proofs.Common.{◌≡◌, ℕ, zero, suc, ◌+◌, ◌-◌, ◌^◌, ◌<◌, ◌≤◌, ◌⊎◌, inl, inr, List, [], ◌∷◌, length, Bool, true, false, refl, sym, ap, subst, ◌∙◌, rules, arith}
use Rattle.std.proofs.lemmas.Bool.Decides.{nat_tests}
use Rattle.std.specs.Prelude.{Option, Some, None, not, ◌&&◌, ◌||◌, nat_eq, nat_le, nat_lt, fold, count_by, slice_get, option_map, option_and_then, if◌then◌else◌}
use Rattle.std.specs.List.{list_any}
use Rattle.std.specs.Option.{option_map_or}
use Rattle.std.proofs.lemmas.Option.{slice_get_within}
use Rattle.std.specs.Global.{Vec}
use Rattle.ha_model.specs.declared.record.EndCause.{EndCause}
use Rattle.ha_journal.specs.declared.entry.Entry.{Entry}
use Rattle.ha_journal.specs.declared.entry.Entry.TheVariants.{Step}
use Rattle.ha_sight.specs.declared.item.Item.{Item}
use Rattle.ha_model.specs.declared.record.Record.{Record}
use Rattle.ha_sight.specs.declared.steps.Progress.{Progress}
use Rattle.ha_sight.specs.Items.{is_call}
use Rattle.ha_journal.specs.Journal.{Journal, IsJournal, automations, last_place, more}
use Rattle.ha_model.specs.Lawful.{Right, record_of}
use Rattle.ha_model.specs.NextPlace.{next_end}
use Rattle.ha_model.specs.Records.{CallEnds, Records, calls_of, is_call_of, spots}
use Rattle.ha_journal.specs.Attempts.{passing}
use Rattle.ha_model.specs.RecordSteps.{records_after}
use Rattle.ha_sight.specs.Scripts.{Branch}
use Rattle.ha_model.proofs.LawfulLaws.{right-more}
use Rattle.ha_journal.proofs.MoreLemmas.{length-more}
use Rattle.ha_model.proofs.StepLaws.{numbered-of, Numbered}
use Rattle.ha_model.proofs.FoldLaws.{records-more, records-passes}
use Rattle.ha_model.proofs.Passes.{ended, with_begins}
use Rattle.ha_ready.specs.Agree.{step_at}
use Rattle.ha_ready.specs.RestedFlags.{RestedKept}
use Rattle.ha_ready.proofs.RunPast.{all-past, past-at}
use Rattle.run_laws.proofs.EntryLaws.{by-calls}
use Rattle.run_modes.specs.Calls.{AreTurned, all_tried, call_counted, own_ended, step_end, steps_done, stop_turned, stops_done}
use Rattle.run_modes.specs.Fits.{AreNumbered}
use Rattle.run_modes.specs.Table.{HasBegun, called_on, stopped}
use Rattle.run_modes.proofs.ChangeLaws.{called-record}
use Rattle.engine_parts.specs.declared.parts.Parts.{Parts}
use Rattle.engine_parts.specs.Called.{AreAlike, told_by}
use Rattle.engine_parts.specs.Kept.{Going, RunsKept, nobody}
use Rattle.engine_parts.specs.Records.{IsTable}
use Rattle.engine_parts.specs.Runs.{HasEnd}
use Rattle.engine_parts.specs.Stages.{Stopped}
use Rattle.engine_entry.specs.Stepping.{StepEnds, StepTelling, StepTold, cause_of, halts_each, stops_by, stops_each, turned_by, turned_in}
use Rattle.ha_engine.proofs.BeginGoing.{ends-called}
use Rattle.ha_engine.proofs.ConcludeLemmas.{past-more}
use Rattle.engine_entry.proofs.EndLemmas.{called-ended, called-table}
use Rattle.engine_parts.proofs.ToldLemmas.{ended-alike, told-alike}
use Rattle.engine_parts.proofs.CalledLemmas.{calls-alike}
use Rattle.engine_parts.proofs.GoneLemmas.{gone-ended}
use Rattle.engine_entry.proofs.QueuedLemmas.{queued-nowhere, step-where}
use Rattle.engine_parts.proofs.SlotLemmas.{ended-off}
use Rattle.engine_parts.proofs.SteppersRun.{stepper-runs}

-- ---- the stops

-- LAW: of each target in turn
pub each-turned : (p : ℕ) (targets : List (ℕ × Bool × Bool)) (rs : Records) → stops_each p targets rs ≡ fold (stop_turned p EndCause.SwitchedOff) rs (turned_in targets)
each-turned p [] rs = refl
each-turned p (t ∷ ts) rs = by (not t.1 && t.2) (λ l. each-turned p ts l)
  where
    by : (c : Bool) → ((l : Records) → stops_each p ts l ≡ fold (stop_turned p EndCause.SwitchedOff) l (turned_in ts))
        → stops_each p ts (if c then stopped (Some t.0) p EndCause.SwitchedOff rs else rs) ≡ fold (stop_turned p EndCause.SwitchedOff) rs (if c then t.0 ∷ turned_in ts else turned_in ts)
    by true rec = rec (stopped (Some t.0) p EndCause.SwitchedOff rs)
    by false rec = rec rs

each-halted : (p : ℕ) (scripts : List ℕ) (rs : Records) → halts_each p scripts rs ≡ fold (stop_turned p EndCause.SwitchedOff) rs scripts
each-halted p [] rs = refl
each-halted p (s ∷ ss) rs = each-halted p ss (stopped (Some s) p EndCause.SwitchedOff rs)

stops-is : (p w s : ℕ) (b : Branch) (item : Item) (rs : Records) → stops_by p item rs ≡ stops_done p (Step w s b item) (turned_by item) rs
stops-is p w s b (Item.Switched targets) rs = each-turned p targets rs
stops-is p w s b Item.Nothing rs = refl
stops-is p w s b (Item.Call service target fields) rs = refl
stops-is p w s b (Item.Fired kind pairs) rs = refl
stops-is p w s b (Item.Triggered automations skip) rs = refl
stops-is p w s b (Item.Failed code) rs = refl
stops-is p w s b (Item.Started scripts fields waits) rs = refl
stops-is p w s b (Item.Halted scripts) rs = each-halted p scripts rs
stops-is p w s b (Item.Helped changes) rs = refl

any-turned : (a : ℕ) (targets : List (ℕ × Bool × Bool)) → list_any (λ t. nat_eq t.0 a && not t.1 && t.2) targets ≡ list_any (λ b. nat_eq b a) (turned_in targets)
any-turned a [] = refl
any-turned a (t ∷ ts) = by (nat_eq t.0 a) (not t.1) t.2 refl (any-turned a ts)
  where
    by : (c d e : Bool) → nat_eq t.0 a ≡ c → list_any (λ t. nat_eq t.0 a && not t.1 && t.2) ts ≡ list_any (λ b. nat_eq b a) (turned_in ts)
        → ((c && d && e) || list_any (λ t. nat_eq t.0 a && not t.1 && t.2) ts) ≡ list_any (λ b. nat_eq b a) (if d && e then t.0 ∷ turned_in ts else turned_in ts)
    by true true true q rec = (λ i. sym q i || list_any (λ b. nat_eq b a) (turned_in ts))
    by true true false q rec = rec
    by true false e q rec = rec
    by false true true q rec = rec ∙ (λ i. sym q i || list_any (λ b. nat_eq b a) (turned_in ts))
    by false true false q rec = rec
    by false false e q rec = rec

flipped : (a b : ℕ) → nat_eq a b ≡ nat_eq b a
flipped a b = grind (arith, nat_tests)

any-halted : (a : ℕ) (scripts : List ℕ) → list_any (nat_eq a) scripts ≡ list_any (λ b. nat_eq b a) scripts
any-halted a [] = refl
any-halted a (s ∷ ss) = (λ i. flipped a s i || any-halted a ss i)

or-false : (b : Bool) → (b || false) ≡ b
or-false true = refl
or-false false = refl

are-turned : (j : Journal) (w s : ℕ) (b : Branch) (item : Item) → AreTurned j (Step w s b item) (turned_by item)
are-turned j w s b (Item.Switched targets) a lt = or-false (list_any (λ t. nat_eq t.0 a && not t.1 && t.2) targets || false) ∙ or-false (list_any (λ t. nat_eq t.0 a && not t.1 && t.2) targets) ∙ any-turned a targets
are-turned j w s b Item.Nothing a lt = refl
are-turned j w s b (Item.Call service target fields) a lt = refl
are-turned j w s b (Item.Fired kind pairs) a lt = refl
are-turned j w s b (Item.Triggered rules skip) a lt = refl
are-turned j w s b (Item.Failed code) a lt = refl
are-turned j w s b (Item.Started scripts fields waits) a lt = refl
are-turned j w s b (Item.Halted scripts) a lt = or-false (list_any (nat_eq a) scripts) ∙ any-halted a scripts
are-turned j w s b (Item.Helped changes) a lt = refl

-- ---- the calls of a run

fold-most : {X : Type 0} (p : X → Bool) (n : ℕ) (xs : List X) → fold (λ a x. a + (if p x then 1 else 0)) n xs ≤ n + length xs
fold-most p n [] = omega arith
fold-most p n (x ∷ xs) = by (p x) (λ m. fold-most p m xs)
  where
    by : (c : Bool) → ((m : ℕ) → fold (λ a y. a + (if p y then 1 else 0)) m xs ≤ m + length xs) → fold (λ a y. a + (if p y then 1 else 0)) (n + (if c then 1 else 0)) xs ≤ n + suc (length xs)
    by true rec = omega (arith, rec (n + 1))
    by false rec = omega (arith, rec (n + 0))

count-most : {X : Type 0} (p : X → Bool) (xs : List X) → count_by p xs ≤ length xs
count-most p xs = omega (arith, fold-most p 0 xs)

calls-at : (j : Journal) (before rs : Records) (i : ℕ) (r : Record) → slice_get (with_begins j before rs) i ≡ Some r → r.calls ≤ length j
calls-at j before [] i r e = absurd (let bad : ◌≡◌ {A = Option Record} None (Some r) = e in cc)
calls-at j before (x ∷ rs) zero r e = omega (arith, count-most (is_call_of x.serial) j, calls e)
  where
    calls : slice_get (with_begins j before (x ∷ rs)) zero ≡ Some r → calls_of j x.serial ≡ r.calls
    calls f = ap (λ o. option_map_or (λ (y : Record). y.calls) o 0) f
calls-at j before (x ∷ rs) (suc i) r e = calls-at j (x ∷ before) rs i r e

numbered-as : (n : ℕ) (rs : Records) → Numbered n rs → AreNumbered n rs
unfolding Numbered
numbered-as n [] h = tt
numbered-as n (r ∷ rs) h = (h.0, numbered-as (suc n) rs h.1)

module _ (k : Journal) (rs : Records) (p : Parts) (progress : Progress) (serial : ℕ) (item : Item) (h : StepTelling k rs p progress serial item) where
  abbrev j : Journal
  j = h.told.j

  abbrev x : Entry
  x = Step h.told.worker h.told.serial h.told.branch h.told.out.item

  abbrev run : Record
  run = h.told.picked.run

  size : length k ≡ suc (length j)
  size = ap length h.told.journal_is ∙ length-more j x

  found : record_of rs serial ≡ Some run
  found = ap (record_of rs) (sym h.serial_is) ∙ h.told.picked.found

  own : run.serial ≡ serial
  own = h.told.own ∙ h.serial_is

  pub high : serial ≤ length rs
  high = (let within : serial - 1 < length rs = slice_get_within rs (serial - 1) run found in omega (arith, within, h.told.low, h.serial_is))

  -- LAW: its calls fit 64 bits
  pub few-calls : run.calls < 2 ^ 64 - 1
  few-calls =
      (let few : run.calls ≤ length j = calls-at j [] (ended j) (serial - 1) run (ap (λ (l : Records). slice_get l (serial - 1)) (sym (h.told.right.records_are ∙ records-passes j)) ∙ found) in omega (arith, few, h.told.room))

  pub run-counts : (r : Record) × (record_of rs serial ≡ Some r) × (r.serial ≡ serial) × (r.calls < 2 ^ 64 - 1)
  run-counts = (run, found, own, few-calls)

  no-end : run.end ≡ None
  no-end = by run.end refl
    where
      by : (o : Option (ℕ × EndCause)) → run.end ≡ o → o ≡ None
      by None e = refl
      by (Some e) f =
          absurd (let bad : ◌≡◌ {A = Bool} true false
          = sym h.told.picked.running ∙ ended-off (length j) (length j) (omega arith) run (subst HasEnd (sym f) tt) (past-at (length j) rs (h.told.serial - 1) run (all-past j rs h.told.right) h.told.picked.found) in cc)

  has-begun : HasBegun run.begin
  has-begun = by run.begin refl
    where
      by : (o : Option ℕ) → run.begin ≡ o → HasBegun o
      by None e =
          absurd (let bad : ◌≡◌ {A = Bool} false true
          = (λ i. option_map_or (λ b. nat_lt b (length j)) (sym e i) false && option_map_or (λ y. nat_le (length j) y.0) run.end true) ∙ h.told.picked.running in cc)
      by (Some b) e = tt

  -- LAW: it has begun and is live, with its call counted too
  pub run-lives : (made : Bool) → (r : Record) × (record_of (call_counted made serial rs) serial ≡ Some r) × (r.serial ≡ serial) × HasBegun r.begin × (r.end ≡ None)
  run-lives false = (run, found, own, has-begun, no-end)
  run-lives true = (record run { calls = suc run.calls }, called-record serial serial rs ∙ ap (option_map (λ (r : Record). if nat_eq r.serial serial then record r { calls = suc r.calls } else r)) found ∙ (λ i. Some (if mine i then record run { calls = suc run.calls } else run)), own, has-begun, no-end)
    where
      mine : nat_eq run.serial serial ≡ true
      mine = is-so run.serial serial own
        where
          is-so : (a b : ℕ) → a ≡ b → nat_eq a b ≡ true
          is-so a b e = search (rules, e)

  table : IsTable k rs
  table = record {
    numbered = numbered-as 0 rs (subst (Numbered 0) (sym h.told.right.records_are) (numbered-of j));
    past = past-more (length j) (length k) rs (omega (arith, size)) (all-past j rs h.told.right);
    unstepped = λ s q behind. ap (λ (i : Journal). step_at i s q) h.told.journal_is ∙ none s q behind (step_at (more j x) s q) refl;
  }
    where
      none : (s q : ℕ) → length rs < s → (b : Bool) → step_at (more j x) s q ≡ b → step_at (more j x) s q ≡ false
      none s q behind false e = e
      none s q behind true e = absurd (refuted (step-where h.told.worker h.told.serial h.told.branch h.told.out.item j s q e))
        where
          refuted : (step_at j s q ≡ true) ⊎ (h.told.serial ≡ s) → ⊥
          refuted (inl step) =
              (let run' = stepper-runs j rs s q h.told.right step in
              let within : s - 1 < length rs = slice_get_within rs (s - 1) run'.0 run'.1 in
              omega (arith, within, behind))
          refuted (inr same) = omega (arith, same, h.serial_is, high, behind)

  ends-plain : StepEnds k rs serial
  ends-plain = record {
    table = table;
    some = omega (arith, size);
    low = omega (arith, h.told.low, h.serial_is);
    high = high;
    nowhere = λ q r e begin end apart.
        ap (λ (i : Journal). spots i q) h.told.journal_is
        ∙ queued-nowhere j rs h.told.worker h.told.serial h.told.branch h.told.out.item q r h.told.right e begin end (λ same. apart (sym h.serial_is ∙ same));
  }

  -- LAW: what the end of the run asks for
  pub step-ends : (made : Bool) → StepEnds k (call_counted made serial rs) serial
  step-ends true = ends-called k rs serial ends-plain
  step-ends false = ends-plain

  counted-alike : AreAlike nobody (last_place k) rs (called_on serial rs)
  counted-alike = ended-alike nobody (last_place k) rs (called_on serial rs) (called-ended (last_place k) serial rs)

  -- LAW: all runs are kept where the call was counted
  pub going-counted : (made : Bool) → Going nobody k (call_counted made serial rs) p
  going-counted false = h.told.going
  going-counted true =
      (let g = h.told.going in
      record {
        sees = g.sees;
        triggers_stand = g.triggers_stand;
        waits_stand = g.waits_stand;
        owned = g.owned;
        keys_early = g.keys_early;
        runs_kept = subst (λ (told : CallEnds). RunsKept told nobody k (called_on serial rs) p.delays p.waits p.frames.items p.ready.pairs.items) (told-alike nobody k rs (called_on serial rs) counted-alike)
            (gone-ended (told_by nobody k rs) nobody (last_place k) k p.delays p.waits rs (called_on serial rs) p.frames.items p.ready.pairs.items (called-table serial k rs table).past table.numbered (called-ended (last_place k) serial rs) g.runs_kept);
        calls_kept = calls-alike nobody k rs (called_on serial rs) p.delays p.waits p.frames.items p.calls table.numbered counted-alike g.runs_kept.slots g.calls_kept;
      })

  pub journal-right : Right k (records_after j rs x)
  journal-right = subst (λ (i : Journal). Right i (records_after j rs x)) (sym h.told.journal_is) (right-more j rs x h.told.right (λ boot. boot) h.told.fair)

  cause-is : step_end j rs (record { worker = h.told.worker; serial = h.told.serial; branch = h.told.branch; item = h.told.out.item }) ≡ cause_of progress
  cause-is = ap (λ o. option_and_then (λ r. next_end j r h.told.branch) o) h.told.picked.found ∙ sym h.told.end_is

  -- LAW: the records behind the calls, of which the attempts make those behind the entry
  pub told-stopped : (rs' : Records) (p' : Parts) → rs' ≡ stops_by (length k - 1) item (own_ended (length k - 1) serial (cause_of progress) (call_counted (is_call item) serial rs))
      → IsTable k rs' → Going nobody k rs' p' → RestedKept j rs p'.rested.items → Stopped k rs' p'
  told-stopped rs' p' is table' going rested = record {
    j = j;
    x = x;
    before = rs;
    journal_is = h.told.journal_is;
    known = tt;
    right = h.told.right;
    right_behind = journal-right;
    table = table';
    records =
        ap (λ (l : Records). all_tried k l (passing k)) (is ∙ same)
        ∙ ap (λ (i : Journal). all_tried i (stops_done (length j) x (turned_by h.told.out.item) (steps_done j rs x)) (passing i)) h.told.journal_is
        ∙ by-calls j rs x (turned_by h.told.out.item) h.told.right (λ boot. boot) h.told.fair (are-turned j h.told.worker h.told.serial h.told.branch h.told.out.item)
        ∙ records-more j x
        ∙ ap (λ (l : Records). records_after j l x) (sym h.told.right.records_are);
    going = going;
    rested_is = rested;
  }
    where
      last : length k - 1 ≡ length j
      last = omega (arith, size)

      same : stops_by (length k - 1) item (own_ended (length k - 1) serial (cause_of progress) (call_counted (is_call item) serial rs)) ≡ stops_done (length j) x (turned_by h.told.out.item) (steps_done j rs x)
      same =
          (λ i. stops_by (last i) (sym h.item_is i) (own_ended (last i) (sym h.serial_is i) (sym cause-is i) (call_counted (is_call (sym h.item_is i)) (sym h.serial_is i) rs)))
          ∙ stops-is (length j) h.told.worker h.told.serial h.told.branch h.told.out.item (steps_done j rs x)

-- LAW: the journal with a step is one
pub told-journal : (k : Journal) (rs : Records) (p : Parts) (progress : Progress) → StepTold k rs p progress → IsJournal k
told-journal k rs p progress h =
    (let x : Entry = Step h.worker h.serial h.branch h.out.item in
    subst IsJournal (sym h.journal_is) (right-more h.j rs x h.right (λ boot. boot) h.fair).journal)

-- LAW: what was told stands for the same records and parts
pub told-again : (k : Journal) (rs rs' : Records) (p p' : Parts) (progress : Progress) → StepTold k rs p progress → rs' ≡ rs → Going nobody k rs p' → p'.rested ≡ p.rested → StepTold k rs' p' progress
told-again k rs rs' p p' progress h same going rested =
    subst (λ (l : Records). StepTold k l p' progress) (sym same)
    (record {
      j = h.j;
      worker = h.worker;
      serial = h.serial;
      branch = h.branch;
      out = h.out;
      journal_is = h.journal_is;
      room = h.room;
      right = h.right;
      fair = h.fair;
      picked = h.picked;
      own = h.own;
      low = h.low;
      end_is = h.end_is;
      going = going;
      rested_is = subst (λ (v : Vec Bool). RestedKept h.j rs v.items) (sym rested) h.rested_is;
    })
