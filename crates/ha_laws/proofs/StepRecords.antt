-- What a Step does to the records, where all units are of mode single and no attempt passes.
use Rattle.std.proofs.Common.{◌≡◌, ℕ, zero, suc, ◌+◌, ◌-◌, ◌%◌, ◌<◌, ◌≤◌, List, [], ◌∷◌, length, set, Bool, true, false, cond, refl, sym, subst, ◌∙◌, rules, arith, Option}
use Rattle.std.specs.Prelude.{Some, None, not, option_and_then, nat_eq, slice_get, ◌&&◌, if◌then◌else◌}
use Rattle.ha_sight.specs.declared.item.Item.{Item}
use Rattle.ha_journal.specs.declared.entry.Entry.{Entry}
use Rattle.ha_journal.specs.declared.entry.Entry.TheVariants.{Step}
use Rattle.ha_model.specs.declared.record.EndCause.{EndCause}
use Rattle.ha_model.specs.declared.record.Record.{Record}
use Rattle.ha_journal.specs.Force.{force, has_unit}
use Rattle.ha_journal.specs.Journal.{Journal, last_place, more, HasEntry, units}
use Rattle.ha_sight.specs.Scripts.{Branch}
use Rattle.ha_model.specs.Records.{Records, own_cause, script_end, ran, is_step_of, stops, next_place, calls_of}
use Rattle.ha_journal.specs.Attempts.{passing}
use Rattle.ha_config.specs.Words.{or_else}
use Rattle.ha_journal.specs.Entries.{is_reload, is_restart}
use Rattle.ha_sight.specs.Items.{is_call}
use Rattle.ha_model.specs.RecordSteps.{records_after}
use Rattle.ha_laws.specs.SingleMode.{AllSingle, EndsNone, with_step, step_all}
use Rattle.ha_model.specs.NextPlace.{next_item, next_end}
use Rattle.ha_model.specs.Lawful.{Right, Running, record_of, ready, pick, is_rested}
use Rattle.std.proofs.lemmas.Option.{slice_get_within}
use Rattle.ha_model.proofs.RecordLaws.{at_place, ended-more}
use Rattle.ha_journal.proofs.MoreLemmas.{length-more, has-entry}
use Rattle.ha_model.proofs.RecordGrowth.{AllBelow, below-bare}
use Rattle.ha_model.proofs.RunLaws.{below-ends, is-below}
use Rattle.ha_config.proofs.ListLemmas.{none-some, some-same}
use Rattle.ha_model.proofs.LawfulLaws.{running-more}
use Rattle.ha_model.proofs.StepLaws.{ran-step, picked-right, Numbered, numbered-of, ready-found}
use Rattle.ha_model.proofs.FoldLaws.{records-more, records-passes}
use Rattle.ha_model.proofs.Passes.{own_end, replaced, bare, ended, end_now, admit_now}
use Rattle.ha_model.proofs.LastEntry.{last-is, calls-more, or-none}
use Rattle.ha_laws.proofs.PlainLine.{single-replaced, single-more, single-begins, filled}

eq-of : (a b : ℕ) → nat_eq a b ≡ true → a ≡ b
eq-of a b e = search (rules, e)

module _ (j : Journal) (h : HasEntry j) (single : AllSingle j) (w s : ℕ) (branch : Branch) (item : Item) (plain : EndsNone item) where
  abbrev x : Entry
  x = Step w s branch item

  abbrev k : Journal
  k = more j x

  -- the cause that this Step gives a record
  cause-of : (r : Record) → own_cause k r ≡ (if nat_eq s r.serial then next_end j r branch else None)
  cause-of r =
      (λ i. or_else (if last-is (is_step_of r.serial) j x i then option_and_then (λ o. script_end o.status) (ran k r) else None)
      (if last-is (stops (units k) r.automation) j x i then Some EndCause.SwitchedOff
      else if last-is is_restart j x i then Some EndCause.Restarted
      else if last-is is_reload j x i && not (has_unit (force k) r.automation) then Some EndCause.Reloaded
      else None))
      ∙ (λ i. or_else (if nat_eq s r.serial then option_and_then (λ o. script_end o.status) (ran k r) else None) (quiet item plain i))
      ∙ or-none (if nat_eq s r.serial then option_and_then (λ o. script_end o.status) (ran k r) else None)
      ∙ by (nat_eq s r.serial) refl
    where
      quiet : (item : Item) → EndsNone item → (if stops (units k) r.automation (Step w s branch item) then Some EndCause.SwitchedOff
          else if is_restart (Step w s branch item) then Some EndCause.Restarted
          else if is_reload (Step w s branch item) && not (has_unit (force k) r.automation) then Some EndCause.Reloaded
          else None) ≡ None
      quiet Item.Nothing p = refl
      quiet (Item.Call service target fields) p = refl
      quiet (Item.Fired kind pairs) p = refl
      quiet (Item.Switched targets) p = absurd p
      quiet (Item.Triggered chosen skip) p = refl
      quiet (Item.Failed code) p = refl
      quiet (Item.Started scripts fields waits) p = refl
      quiet (Item.Halted scripts) p = absurd p
      quiet (Item.Helped changes) p = refl

      by : (b : Bool) → nat_eq s r.serial ≡ b → (if b then option_and_then (λ o. script_end o.status) (ran k r) else None) ≡ (if b then next_end j r branch else None)
      by true e = (λ i. option_and_then (λ o. script_end o.status) (ran-step j w s branch item r h (sym (eq-of s r.serial e)) i))
      by false e = refl

  one-step : (r : Record) (next : Option ℕ) → r.place < length j
      → record r { begin = Some r.place; end = or_else r.end (at_place (last_place k) (or_else (own_end k r) (replaced k r next))); calls = calls_of k r.serial }
      ≡ (if nat_eq s r.serial then with_step j branch item (record r { begin = Some r.place; calls = calls_of j r.serial }) else record r { begin = Some r.place; calls = calls_of j r.serial })
  one-step r next lt =
      let place : last_place k ≡ length j = omega (arith, length-more j x) in
      let own : own_end k r ≡ own_cause k r = (let e = is-below r.place (last_place k) (omega arith) in λ i. if e i then own_cause k r else None) in
      let cause : or_else (own_end k r) (replaced k r next) ≡ (if nat_eq s r.serial then next_end j r branch else None)
      = (λ i. or_else (own i) (single-replaced k (single-more j x h refl single) r next i)) ∙ or-none (own_cause k r) ∙ cause-of r in
      (λ i. record r { begin = Some r.place; end = or_else r.end (at_place (place i) (cause i)); calls = calls-more j x r.serial i })
      ∙ by (nat_eq s r.serial)
    where
      zero-more : (m : ℕ) → m + 0 ≡ m
      zero-more m = omega arith

      by : (b : Bool) → record r { begin = Some r.place; end = or_else r.end (at_place (length j) (if b then next_end j r branch else None)); calls = calls_of j r.serial + cond (b && is_call item) 1 0 }
          ≡ (if b then with_step j branch item (record r { begin = Some r.place; calls = calls_of j r.serial }) else record r { begin = Some r.place; calls = calls_of j r.serial })
      by true = refl
      by false = (λ i. record r { begin = Some r.place; end = or-none r.end i; calls = zero-more (calls_of j r.serial) i })

  all-steps : (rs : Records) → AllBelow (length j) rs → filled k (end_now k rs) ≡ step_all j s branch item (filled j rs)
  all-steps [] below = refl
  all-steps (r ∷ rs) below = (λ i. one-step r (next_place r.automation rs) below.0 i ∷ all-steps rs below.1 i)

-- LAW: such a Step changes the record of its run alone
pub step-records : (j : Journal) (rs : Records) (w s : ℕ) (branch : Branch) (item : Item) → Right j rs → AllSingle j → EndsNone item → [] ≡ passing (more j (Step w s branch item))
    → records_after j rs (Step w s branch item) ≡ step_all j s branch item rs
step-records j rs w s branch item right single plain passes =
    let x : Entry = Step w s branch item in
    let k = more j x in
    let h = has-entry j right.journal in
    (λ i. records_after j (right.records_are i) x)
    ∙ sym (records-more j x)
    ∙ records-passes k
    ∙ single-begins k (single-more j x h refl single) [] (ended k)
    ∙ (λ i. filled k (ended-more j x i))
    ∙ (λ i. filled k (admit_now k (end_now k (ended j)) (sym passes i)))
    ∙ all-steps j h single w s branch item plain (ended j) (below-ends j (length j) (bare j) (below-bare j (length j) (length j) (omega arith) (omega arith)))
    ∙ (λ i. step_all j s branch item (sym (right.records_are ∙ records-passes j ∙ single-begins j single [] (ended j)) i))

equal-self : (a b : ℕ) → a ≡ b → nat_eq a b ≡ true
equal-self a b e = search (rules, e)

not-equal : (a b : ℕ) → a < b → nat_eq a b ≡ false
not-equal a b lt = search rules

not-equal-above : (a b : ℕ) → b < a → nat_eq a b ≡ false
not-equal-above a b lt = search rules

-- no record of these has the serial
past-step : (j : Journal) (s : ℕ) (branch : Branch) (item : Item) (n : ℕ) (rs : Records) → Numbered n rs → s ≤ n → step_all j s branch item rs ≡ rs
unfolding Numbered
past-step j s branch item n [] h le = refl
past-step j s branch item n (y ∷ ys) h le =
    let other : nat_eq s y.serial ≡ false = not-equal s y.serial (omega (arith, h.0)) in
    (λ i. (if other i then with_step j branch item y else y) ∷ past-step j s branch item (suc n) ys h.1 (omega arith) i)

-- the record at index i, which alone has this serial, is the one that changes
set-step : (j : Journal) (s : ℕ) (branch : Branch) (item : Item) (n : ℕ) (rs : Records) (i : ℕ) (r : Record) → Numbered n rs → slice_get rs i ≡ Some r → s ≡ suc (n + i)
    → step_all j s branch item rs ≡ set rs i (with_step j branch item r)
unfolding Numbered
set-step j s branch item n [] i r h e at = absurd (none-some r e)
set-step j s branch item n (y ∷ ys) zero r h e at =
    let own : nat_eq s y.serial ≡ true = equal-self s y.serial (omega (arith, h.0, at)) in
    (λ i. (if own i then with_step j branch item (some-same y r e i) else y) ∷ past-step j s branch item (suc n) ys h.1 (omega (arith, at)) i)
set-step j s branch item n (y ∷ ys) (suc i) r h e at =
    let other : nat_eq s y.serial ≡ false = not-equal-above s y.serial (omega (arith, h.0, at)) in
    (λ i. (if other i then with_step j branch item y else y) ∷ step_all j s branch item ys)
    ∙ (λ q. y ∷ set-step j s branch item (suc n) ys i r h.1 e (omega (arith, at)) q)

-- the record of a pair that may step
pub picked-found : (j : Journal) (rs : Records) (k serial : ℕ) (branch : Branch) → Right j rs → pick k (ready rs j) ≡ Some (serial, branch) → (1 ≤ serial) × (r : Record) × (slice_get rs (serial - 1) ≡ Some r)
picked-found j rs k serial branch right picked = ready-found j rs k serial branch right picked

-- LAW: so the code that appends such a Step, and changes that record, keeps the journal lawful
pub step-kept : (j j' : Journal) (rs rs' : Records) (w s : ℕ) (branch : Branch) (item : Item) → Running j rs → AllSingle j → EndsNone item → [] ≡ passing (more j (Step w s branch item))
    → pick w (ready rs j) ≡ Some (s, branch) → is_rested rs w j ≡ false → ((r : Record) → record_of rs s ≡ Some r → next_item j r branch ≡ Some item)
    → j' ≡ more j (Step w s branch item) → ((r : Record) → record_of rs s ≡ Some r → rs' ≡ set rs (s - 1) (with_step j branch item r)) → Running j' rs'
step-kept j j' rs rs' w s branch item run single plain passes picked busy gives journal_is records_are =
    let x : Entry = Step w s branch item in
    let right = run.lawful.right in
    let found = picked-found j rs w s branch right picked in
    let some : 0 < length (ready rs j) = within-some (ready rs j) (w % length (ready rs j)) (s, branch) picked in
    let kept = running-more j rs x run (λ h. h) (picked-right j rs w s branch item right picked gives) (some, picked) busy in
    let numbered : Numbered 0 rs = subst (Numbered 0) (sym right.records_are) (numbered-of j) in
    let same : records_after j rs x ≡ rs' = step-records j rs w s branch item right single plain passes ∙ set-step j s branch item 0 rs (s - 1) found.1 numbered found.2 (omega (arith, found.0)) ∙ sym (records_are found.1 found.2) in
    subst (λ l. Running l rs') (sym journal_is) (subst (Running (more j x)) same kept)
  where
    within-some : (l : List (ℕ × Branch)) (i : ℕ) (y : ℕ × Branch) → slice_get l i ≡ Some y → 0 < length l
    within-some l i y e = omega (arith, slice_get_within l i y e)
