-- What is known behind a step: whose ready pairs stay, and that the others may be listed anew.
use Rattle.std.proofs.Common.{◌≡◌, ℕ, zero, suc, ◌-◌, ◌<◌, ◌≤◌, ◌⊎◌, inl, inr, List, [], ◌∷◌, ◌++◌, length, set, Bool, true, false, refl, sym, ap, subst, ◌∙◌, rules, arith}
use Rattle.std.specs.Prelude.{Option, Some, None, nat_eq, slice_get, ◌||◌}
use Rattle.std.specs.Option.{option_map_or}
use Rattle.std.proofs.lemmas.Option.{slice_get_within}
use Rattle.timer_queue.specs.Timers.{Timer}
use Rattle.ha_journal.specs.declared.entry.Entry.{Entry}
use Rattle.ha_journal.specs.declared.entry.Entry.TheVariants.{Step}
use Rattle.ha_sight.specs.declared.item.Item.{Item}
use Rattle.ha_model.specs.declared.record.Record.{Record}
use Rattle.ha_journal.specs.Entries.{step_of}
use Rattle.ha_journal.specs.Journal.{Journal, now, more}
use Rattle.ha_sight.specs.Scripts.{Branch}
use Rattle.ha_model.specs.Records.{Records, CallEnds, actions_of}
use Rattle.ha_model.specs.Lawful.{Right, record_of, is_running, ready}
use Rattle.ha_journal.proofs.ForceLaws.{units-more}
use Rattle.ha_journal.proofs.MoreLemmas.{has-entry, length-more}
use Rattle.ha_config.proofs.ListLemmas.{get-last}
use Rattle.ha_model.proofs.StepLaws.{serial-at, Numbered, numbered-of}
use Rattle.script_step.specs.declared.frames.Frames.{Frames}
use Rattle.engine_parts.specs.Waiting.{TellsEnds, fresh}
use Rattle.wait_set.specs.Asked.{WaitTable as Waits}
use Rattle.ha_ready.specs.Picked.{IsPicked}
use Rattle.engine_parts.specs.Runs.{LiveKept, SlotKept, SlotsKept, Waking}
use Rattle.engine_parts.specs.Stepped.{OthersTold}
use Rattle.ha_ready.specs.Agree.{step_at, touched, AgreesBut}
use Rattle.engine_parts.specs.Touched.{due_places, wait_places, QueueKept}
use Rattle.ha_ready.proofs.AgreeLemmas.{agree-first}
use Rattle.ha_ready.proofs.RunPast.{all-past, past-at}
use Rattle.engine_parts.proofs.SlotLemmas.{slots-set, slot-more, no-spot, ended-off, untouched-stays}
use Rattle.engine_parts.proofs.SteppersRun.{stepper-runs, still-runs}
use Rattle.ha_ready.specs.ReadyPairs.{ends_at}

eq-of : (a b : ℕ) → nat_eq a b ≡ true → a ≡ b
eq-of a b e = search (rules, e)

or-left : (a b : Bool) → (a || b) ≡ false → a ≡ false
or-left true b h = absurd (let bad : ◌≡◌ {A = Bool} true false = h in cc)
or-left false b h = refl

or-right : (a b : Bool) → (a || b) ≡ false → b ≡ false
or-right true b h = absurd (let bad : ◌≡◌ {A = Bool} true false = h in cc)
or-right false b h = h

module _ (told : CallEnds) (j : Journal) (same : (p : ℕ) → p < length j → told p ≡ ends_at j p) (rs : Records) (k s : ℕ) (b : Branch) (item : Item) (delays delays' : List Timer) (w w' : Waits) (os : List (Option Frames))
    (right : Right j rs) (others : OthersTold w w' s) where
  abbrev x : Entry
  x = Step k s b item

  abbrev j' : Journal
  j' = more j x

  -- the last place is a Step of this run, and of no other
  last-step : (q : ℕ) → step_at j' q (length j) ≡ nat_eq s q
  last-step q = (λ i. option_map_or (λ y. option_map_or (λ t. nat_eq t.serial q) (step_of y) false) (get-last j x i) false)

  other-of : (q : ℕ) → nat_eq s q ≡ false → nat_eq q s ≡ false
  other-of q e = false-of (nat_eq q s) (λ same. let bad : ◌≡◌ {A = Bool} true false = sym (self-of s q (sym (eq-of q s same))) ∙ e in cc)
    where
      false-of : (c : Bool) → (c ≡ true → ⊥) → c ≡ false
      false-of true h = absurd (h refl)
      false-of false h = refl

      self-of : (a c : ℕ) → a ≡ c → nat_eq a c ≡ true
      self-of a c same = search (rules, same)

  -- LAW: behind a step the ready pairs before it agree, but for its own run and those of delays that are over and of waits that ended there
  pub step-agrees : TellsEnds w j → TellsEnds w' j' → SlotsKept (ends_at j) j delays w rs os → AgreesBut told (touched j' (length j ∷ (due_places (now j') delays ++ wait_places (fresh w')))) rs j' (ready rs j)
  step-agrees stood stands kept =
      let left : List ℕ = due_places (now j') delays ++ wait_places (fresh w') in
      agree-first told (touched j' (length j ∷ left)) rs j j' right
      (λ q low high none.
      (let no_step : step_at j' q (length j) ≡ false = or-left (step_at j' q (length j)) (touched j' left q) none in
      let apart : nat_eq q s ≡ false = other-of q (sym (last-step q) ∙ no_step) in
      untouched-stays told j x same delays w w' rs os right stood stands kept q low (others.asks q apart) (others.grow q apart) no_step (or-right (step_at j' q (length j)) (touched j' left q) none)))

  -- a Step of the longer journal is one before it, or this one
  step-where : (i : Journal) (q p : ℕ) → step_at (more i x) q p ≡ true → (step_at i q p ≡ true) ⊎ (s ≡ q)
  step-where [] q zero h = inr (eq-of s q h)
  step-where [] q (suc p) h = absurd (let bad : ◌≡◌ {A = Bool} false true = h in cc)
  step-where (e ∷ es) q zero h = inl h
  step-where (e ∷ es) q (suc p) h = step-where es q p h

  numbers : (q : ℕ) (r : Record) → record_of rs q ≡ Some r → r.serial ≡ q → (0 < q) × (q ≤ length rs)
  numbers q r found own =
      let numbered : r.serial ≡ suc (q - 1) = serial-at j (q - 1) r (ap (λ l. slice_get l (q - 1)) (sym right.records_are) ∙ found) in
      let within : q - 1 < length rs = slice_get_within rs (q - 1) r found in
      (omega (arith, numbered, own), omega (arith, within, numbered, own))

  false-of : (c : Bool) → (c ≡ true → ⊥) → c ≡ false
  false-of true h = absurd (h refl)
  false-of false h = refl

  self-of : (a c : ℕ) → a ≡ c → nat_eq a c ≡ true
  self-of a c same = search (rules, same)

  turned : (q : ℕ) → nat_eq q s ≡ false → nat_eq s q ≡ false
  turned q e = false-of (nat_eq s q) (λ same. let bad : ◌≡◌ {A = Bool} true false = sym (self-of q s (sym (eq-of s q same))) ∙ e in cc)

  -- LAW: the slots are kept, where the frames of the run that made the step are
  pub step-slots : (picked : IsPicked rs j s b) → picked.run.serial ≡ s → (f : Frames) → QueueKept (now j') delays delays' → SlotsKept (ends_at j) j delays w rs os → LiveKept told j' delays' w' picked.run f
      → SlotsKept told j' delays' w' rs (set os (s - 1) (Some f))
  step-slots picked own f queue kept live =
      slots-set (SlotKept (ends_at j) j delays w) (SlotKept told j' delays' w') s 0 (s - 1)
      (λ r o apart h. slot-more (ends_at j) told j x same delays delays' w w' (has-entry j right.journal) queue r o (λ i. actions_of (units-more j x (has-entry j right.journal) refl i) r.automation) (no-spot j x r.serial (last-step r.serial ∙ turned r.serial apart)) (others.asks r.serial apart) h)
      rs os picked.run (Some f) (subst (Numbered 0) (sym right.records_are) (numbered-of j)) kept picked.found (omega (arith, (numbers s picked.run picked.found own).0)) live

  -- LAW: and the branches of runs may be listed anew, where the frames of the run that made the step are kept
  pub step-waking : (picked : IsPicked rs j s b) → picked.run.serial ≡ s → (f : Frames) (at : ℕ) → at ≡ now j' → QueueKept (now j') delays delays' → TellsEnds w' j' → SlotsKept (ends_at j) j delays w rs os
      → LiveKept told j' delays' w' picked.run f → Waking told rs j' w' (set os (s - 1) (Some f)) at
  step-waking picked own f at is queue stands kept live = record {
    delays = delays';
    now_is = is;
    numbered = λ q p step. by-number q p (step-where j q p step);
    running = λ q p r step found end. by-run q p r found end (step-where j q p step);
    resting = λ q r found ended. ended-off (length j) (length j') (omega (arith, length-more j x)) r ended (past-at (length j) rs (q - 1) r (all-past j rs right) found);
    stands = stands;
    slots = step-slots picked own f queue kept live;
  }
    where
      longer : (r : Record) → r.end ≡ None → is_running (length j) r ≡ true → is_running (length j') r ≡ true
      longer r end runs = still-runs (length j) (length j') (omega (arith, length-more j x)) r runs end

      by-number : (q p : ℕ) → (step_at j q p ≡ true) ⊎ (s ≡ q) → (0 < q) × (q ≤ length rs)
      by-number q p (inl before) = (let run = stepper-runs j rs q p right before in numbers q run.0 run.1 run.2)
      by-number q p (inr same) = subst (λ n. (0 < n) × (n ≤ length rs)) same (numbers s picked.run picked.found own)

      by-run : (q p : ℕ) (r : Record) → record_of rs q ≡ Some r → r.end ≡ None → (step_at j q p ≡ true) ⊎ (s ≡ q) → (r.serial ≡ q) × (is_running (length j') r ≡ true)
      by-run q p r found end (inl before) =
          (let run = stepper-runs j rs q p right before in
          let same : run.0 ≡ r = cc in
          (subst (λ (y : Record). y.serial ≡ q) same run.2, longer r end (subst (λ (y : Record). y.end ≡ None → is_running (length j) y ≡ true) same run.4 end)))
      by-run q p r found end (inr here) =
          (let found' : record_of rs s ≡ Some r = ap (record_of rs) here ∙ found in
          let same : picked.run ≡ r = (let e = sym picked.found ∙ found' in cc) in
          (subst (λ (y : Record). y.serial ≡ s) same own ∙ here, longer r end (subst (λ (y : Record). is_running (length j) y ≡ true) same picked.running)))
