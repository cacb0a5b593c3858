-- What one entry more keeps of a rehearsal.
use Rattle.std.proofs.Common.{◌≡◌, inl, inr, ◌+◌, ◌∙◌, ◌≤◌, ◌<◌, ℕ, suc, [], ◌∷◌, ◌++◌, Bool, true, false, Some, ap, arith, refl, sym, subst, lit<}
use Rattle.std.specs.Prelude.{◌↔◌, Result, Ok, Err}
use Rattle.std.specs.Prelude.{◌||◌}
use Rattle.std.proofs.lemmas.Bool.{false≢true}
use Rattle.ha_whole.specs.declared.faults.CoreFault.{CoreFault}
use Rattle.ha_config.specs.declared.command.Cmd.{Cmd}
use Rattle.ha_journal.specs.declared.entry.Entry.{Entry}
use Rattle.ha_journal.specs.declared.entry.Entry.TheVariants.{Line, Step}
use Rattle.ha_sight.specs.declared.item.Item.{Item}
use Rattle.ha_journal.specs.Commands.{ArePutFrom, put_as}
use Rattle.ha_config.specs.Fair.{shuts_source}
use Rattle.ha_journal.specs.Entries.{restarts}
use Rattle.ha_journal.specs.Journal.{Journal, more}
use Rattle.ha_journal.proofs.ReloadLemmas.{put-lets}
use Rattle.ha_model.specs.Lawful.{pick}
use Rattle.ha_whole.specs.Whole.{IsFull, LacksRoom, Lawful, Right, Running, appended, is_quiet, is_rested, put, ready}
use Rattle.ha_model.specs.Records.{Records}
use Rattle.ha_sight.specs.Scripts.{Branch}
use Rattle.whole_laws.proofs.ClosingLemmas.{put-step, right-closes}
use Rattle.whole_laws.proofs.LiftLemmas.{right-runs}
use Rattle.whole_laws.proofs.PutLemmas.{line-put, put-appends, step-is-put}
use Rattle.whole_laws.proofs.RestLemmas.{quiet-rested}
use Rattle.flow_line.specs.Command.{cmd_of}
use Rattle.rehearsal.specs.Generated.{line_at}
use Rattle.ha_rehearse.specs.Puts.{Closing, Failed, HasNoRoom, On, Put, cmds}
use Rattle.ha_worker.proofs.CmdLemmas.{read_open}
use Rattle.ha_rehearse.proofs.EntryLemmas.{line_number, line_puts, line_shuts, one_more, one_put, picked_some, step_number, step_puts, step_shuts}

-- a source that is not rested has runs that can go on
pub unrested_busy : (rs : Records) (j : Journal) → Right j rs → is_rested rs 0 j ≡ false → is_quiet rs j ≡ false
unrested_busy rs j right busy = by (is_quiet rs j) (quiet-rested j rs 0 right.journal.entries)
  where
    by : (b : Bool) → (b ≡ true → is_rested rs 0 j ≡ true) → b ≡ false
    by true h = absurd (false≢true (sym busy ∙ h refl))
    by false h = refl

-- ---- a step

step_running : (j : Journal) (serial : ℕ) (branch : Branch) (item : Item) (rs rs' : Records) → pick 0 (ready rs j) ≡ Some (serial, branch) → Right (more j (Step 0 serial branch item)) rs'
    → is_rested rs 0 j ≡ false → Running j rs → Running (more j (Step 0 serial branch item)) rs'
step_running j serial branch item rs rs' picked right busy running =
    let x : Entry = Step 0 serial branch item in
    let one : put j x ≡ more j x = put-step j 0 serial branch item in
    subst (λ (k : Journal). Running k rs') one
    (right-runs j rs rs' x running (step-is-put 0 serial branch item) (subst (λ (k : Journal). Right k rs') (sym one) right) (picked_some 0 (ready rs j) (serial, branch) picked, picked) busy)

module _ (boot : Entry) (n : ℕ) (j : Journal) (serial : ℕ) (branch : Branch) (item : Item) where
  abbrev step : Entry
  step = Step 0 serial branch item

  put_step : Put boot n j → Put boot n (more j step)
  put_step p = record {
    later = p.later ++ step ∷ [];
    begins = ap (λ (k : Journal). more k step) p.begins;
    alone = one_more j step p.alone refl;
    puts = step_puts j 0 serial branch item (cmds n) p.puts;
    number = step_number j 0 serial branch item ∙ p.number;
    unshut = step_shuts j 0 serial branch item ∙ p.unshut;
  }

  module _ (rs rs' : Records) (picked : pick 0 (ready rs j) ≡ Some (serial, branch)) (right : Right (more j step) rs') where
    pub step_on : is_rested rs 0 j ≡ false → On boot n j rs → On boot n (more j step) rs'
    step_on busy o = record { running = step_running j serial branch item rs rs' picked right busy o.running; put = put_step o.put }

    pub step_closing : Closing boot n j rs → Closing boot n (more j step) rs'
    step_closing o = record { lawful = right-closes j rs rs' serial branch item o.lawful right (picked_some 0 (ready rs j) (serial, branch) picked, picked); put = put_step o.put }

-- ---- a line

pub one_more_is : (n : ℕ) → n + 1 ≡ suc n
one_more_is n = omega arith

module _ (boot : Entry) (n : ℕ) (j : Journal) (c : Cmd) (rs rs' : Records) (read : c ≡ cmd_of (line_at n)) where
  abbrev line : Entry
  line = Line 0 n (put_as j c)

  pub line_on : is_rested rs 0 j ≡ true → Right (put j line) rs' → On boot n j rs → On boot (suc n) (put j line) rs'
  line_on rested right o =
      let p = o.put in
      record {
        running = right-runs j rs rs' line o.running (line-put 0 n (put_as j c)) right (lit< tt, rested, sym p.number, p.unshut, put-lets j c) tt;
        put = record {
          later = p.later ++ appended j line;
          begins = put-appends j line ∙ ap (λ (k : Journal). k ++ appended j line) p.begins;
          alone = one_put j line p.alone refl;
          puts = subst (λ (d : Cmd). ArePutFrom 0 (put j line) (cmds n ++ d ∷ [])) read (line_puts j n c (cmds n) p.puts);
          number = line_number j n (put_as j c) ∙ ap (λ m. m + 1) p.number ∙ one_more_is n;
          unshut = line_shuts j n c ∙ ap (λ (b : Bool). b || shuts_source c) p.unshut ∙ ap shuts_source read ∙ read_open (line_at n);
        };
      }

-- ---- where it ends

pub on_closing : (boot : Entry) (n : ℕ) (j : Journal) (rs : Records) → On boot n j rs → Closing boot n j rs
on_closing boot n j rs o = record { lawful = o.running.lawful; put = o.put }

-- a step lacks room in a full journal alone
step_full : (j : Journal) → LacksRoom j false → IsFull j
step_full j (inl full) = full
step_full j (inr (never, lacks)) = absurd (false≢true never)

-- a step was due, and none was put
pub step_failed : (boot : Entry) (n : ℕ) (fault : CoreFault) (j : Journal) (rs : Records) → (fault ≡ CoreFault.Full → LacksRoom j false) → is_quiet rs j ≡ false
    → Closing boot n j rs → Failed boot n fault j rs
step_failed boot n fault j rs full busy o = record { n = n; within = omega arith; closing = o; due = λ e. inl (busy, step_full j (full e)) }

-- a line was due, and none was put
pub line_failed : (boot : Entry) (n most : ℕ) (fault : CoreFault) (j : Journal) (rs : Records) → (fault ≡ CoreFault.Full → LacksRoom j (restarts (cmd_of (line_at n)))) → n < most
    → Closing boot n j rs → Failed boot most fault j rs
line_failed boot n most fault j rs full more_due o = record { n = n; within = omega (arith, more_due); closing = o; due = λ e. inr (more_due, full e) }

-- of more lines
pub failed_more : (boot : Entry) (n most : ℕ) (fault : CoreFault) (j : Journal) (rs : Records) → n ≤ most → Failed boot n fault j rs → Failed boot most fault j rs
failed_more boot n most fault j rs le f = record {
  n = f.n;
  within = omega (arith, le, f.within);
  closing = f.closing;
  due = λ e. by (f.due e);
}
  where
    by : HasNoRoom f.n n j rs → HasNoRoom f.n most j rs
    by (inl h) = inl h
    by (inr h) = inr (omega (arith, h.0, le), h.1)

-- as they were
pub same_on : (boot : Entry) (n : ℕ) (j j' : Journal) (rs rs' : Records) → j' ≡ j → rs' ≡ rs → On boot n j rs → On boot n j' rs'
same_on boot n j j' rs rs' e f o = subst (λ k. On boot n k rs') (sym e) (subst (λ k. On boot n j k) (sym f) o)

pub same_closing : (boot : Entry) (n : ℕ) (j j' : Journal) (rs rs' : Records) → j' ≡ j → rs' ≡ rs → Closing boot n j rs → Closing boot n j' rs'
same_closing boot n j j' rs rs' e f o = subst (λ k. Closing boot n k rs') (sym e) (subst (λ k. Closing boot n j k) (sym f) o)

-- ---- the core's answers

-- a put that was not refused spends nothing
pub fresh : (spent : Bool) (r : Result (Unit {0}) CoreFault) (u : Unit {0}) → ((spent ≡ true) ↔ (r ≡ Err CoreFault.Memory)) → r ≡ Ok u → spent ≡ false
fresh false r u h e = refl
fresh true r u h e = absurd (let bad : ◌≡◌ {A = Result (Unit {0}) CoreFault} (Ok u) (Err CoreFault.Memory) = sym e ∙ h.0 refl in cc)

-- a step of worker 0 that was put
abbrev pub Stepped : Journal → Records → Journal → Type 0
Stepped j rs j' = (serial : ℕ) × (branch : Branch) × (item : Item) × (pick 0 (ready rs j) ≡ Some (serial, branch)) × (j' ≡ more j (Step 0 serial branch item))

module _ (j j' : Journal) (rs rs' : Records) (s : Stepped j rs j') (right : Right j' rs') where
  abbrev there : Right (more j (Step 0 s.0 s.1 s.2)) rs'
  there = subst (λ (k : Journal). Right k rs') s.4 right

  pub stepped_on : is_rested rs 0 j ≡ false → (boot : Entry) (n : ℕ) → On boot n j rs → On boot n j' rs'
  stepped_on busy boot n o = subst (λ (k : Journal). On boot n k rs') (sym s.4) (step_on boot n j s.0 s.1 s.2 rs rs' s.3 there busy o)

  pub stepped_running : is_rested rs 0 j ≡ false → Running j rs → Running j' rs'
  stepped_running busy running =
      subst (λ (k : Journal). Running k rs') (sym s.4) (step_running j s.0 s.1 s.2 rs rs' s.3 there busy running)

  pub stepped_closing : (boot : Entry) (n : ℕ) → Closing boot n j rs → Closing boot n j' rs'
  stepped_closing boot n o = subst (λ (k : Journal). Closing boot n k rs') (sym s.4) (step_closing boot n j s.0 s.1 s.2 rs rs' s.3 there o)

  pub stepped_lawful : Lawful j rs → Lawful j' rs'
  stepped_lawful lawful =
      subst (λ (k : Journal). Lawful k rs') (sym s.4) (right-closes j rs rs' s.0 s.1 s.2 lawful there (picked_some 0 (ready rs j) (s.0, s.1) s.3, s.3))

-- a step that was refused, where one was due
pub step_refused : (j j' : Journal) (rs rs' : Records) (fault : CoreFault) → (fault ≡ CoreFault.Full → LacksRoom j false) → (j' ≡ j) × (rs' ≡ rs) → is_quiet rs j ≡ false
    → (boot : Entry) (n : ℕ) → Closing boot n j rs → Failed boot n fault j' rs'
step_refused j j' rs rs' fault full same busy boot n o =
    subst (λ (k : Journal). Failed boot n fault k rs') (sym same.0) (subst (λ (k : Records). Failed boot n fault j k) (sym same.1) (step_failed boot n fault j rs full busy o))

-- a line that was refused
pub line_refused : (j j' : Journal) (rs rs' : Records) (fault : CoreFault) (n most : ℕ) (c : Cmd) → n < most → c ≡ cmd_of (line_at n) → (fault ≡ CoreFault.Full → LacksRoom j (restarts c)) → (j' ≡ j) × (rs' ≡ rs)
    → (boot : Entry) → On boot n j rs → Failed boot most fault j' rs'
line_refused j j' rs rs' fault n most c more_due read full same boot o =
    subst (λ (k : Journal). Failed boot most fault k rs') (sym same.0)
    (subst (λ (k : Records). Failed boot most fault j k) (sym same.1) (line_failed boot n most fault j rs (λ e. subst (λ (d : Cmd). LacksRoom j (restarts d)) read (full e)) more_due (on_closing boot n j rs o)))

-- a line that was put
pub lined_on : (j j' : Journal) (rs rs' : Records) (n number : ℕ) (c : Cmd) → number ≡ n → c ≡ cmd_of (line_at n) → is_rested rs 0 j ≡ true → Right j' rs'
    → j' ≡ put j (Line 0 number (put_as j c)) → (boot : Entry) → On boot n j rs → On boot (n + 1) j' rs'
lined_on j j' rs rs' n number c same read rested right e boot o =
    let f : j' ≡ put j (Line 0 n (put_as j c)) = e ∙ ap (λ (m : ℕ). put j (Line 0 m (put_as j c))) same in
    subst (λ (m : ℕ). On boot m j' rs') (sym (one_more_is n))
    (subst (λ (k : Journal). On boot (suc n) k rs') (sym f) (line_on boot n j c rs rs' read rested (subst (λ (k : Journal). Right k rs') f right) o))

-- memory ran out before a line was put
pub memory_failed : (boot : Entry) (n most : ℕ) (fault : CoreFault) (j : Journal) (rs : Records) → fault ≡ CoreFault.Memory → n ≤ most → On boot n j rs → Failed boot most fault j rs
memory_failed boot n most fault j rs memory le o = record {
  n = n;
  within = le;
  closing = on_closing boot n j rs o;
  due = λ full. absurd (let bad : ◌≡◌ {A = CoreFault} CoreFault.Memory CoreFault.Full = sym memory ∙ full in cc);
}
