-- What the tests and the puts of a line come to.
use Rattle.std.proofs.Common.{◌≡◌, ◌∙◌, ap, sym, subst, refl, inl, inr, ℕ, ◌+◌, ◌-◌, ◌/◌, ◌%◌, ◌<◌, ◌≤◌, ◌^◌, List, [], ◌∷◌, ◌++◌, length, Bool, true, false, rules, arith, length-append}
use Rattle.std.proofs.lemmas.Bool.Decides.{nat_tests}
use Rattle.std.proofs.lemmas.Fmt.{decimal_digit, decimal_step}
use Rattle.std.proofs.lemmas.List.Sums.{count_by-le-length}
use Rattle.std.specs.Prelude.{None, Option, Some, Err, IfSome, IsTrue, ◌||◌, codes, decimal, is_some, not, slice_get, count_by, nat_lt}
use Rattle.ha_config.specs.declared.config.Config.{Config}
use Rattle.ha_config.specs.declared.command.Cmd.{Cmd}
use Rattle.ha_sight.specs.declared.item.Item.{Item}
use Rattle.ha_journal.specs.declared.entry.Entry.{Entry}
use Rattle.ha_journal.specs.declared.entry.Entry.TheVariants.{Boot, Line, Step, Again}
use Rattle.ha_config.specs.Words.{Text, same}
use Rattle.ha_config.specs.Fair.{as_read, prepared}
use Rattle.ha_journal.specs.Journal.{Journal, more, helpers}
use Rattle.ha_config.specs.Helpers.{is_helper}
use Rattle.ha_journal.specs.Commands.{IsFair, IsReadEntry, has_automation, lets_reload, put_as}
use Rattle.ha_journal.specs.Entries.{is_restart, reloads_to, restarts}
use Rattle.ha_journal.proofs.ReloadLemmas.{put-lets, read-restarts}
use Rattle.ha_sight.specs.Scripts.{Branch}
use Rattle.ha_model.specs.Records.{Records}
use Rattle.ha_model.specs.Lawful.{is_line_of, pick}
use Rattle.ha_whole.specs.Trace.{names}
use Rattle.ha_whole.specs.declared.faults.CoreFault.{CoreFault}
use Rattle.ha_whole.specs.Segments.{segment}
use Rattle.ha_whole.specs.Whole.{HasRoom, IsFull, LacksRoom, Lawful, Right, again_of, ends_segment, is_quiet, is_rested, most_entries, most_in_segment, put, ready, records_of}
use Rattle.whole_laws.proofs.ClosingLemmas.{put-step}
use Rattle.whole_laws.proofs.PutLemmas.{put-on, put-restarts}
use Rattle.whole_laws.proofs.TextLemmas.{names-stepped}
use Rattle.ha_config.specs.CheckText.{as_line}
use Rattle.ha_journal.specs.EntryText.{trace_line}
use Rattle.ha_config.proofs.EqualLemmas.{same-sound, same-refl}
use Rattle.ha_config.proofs.ListLemmas.{true-false}
use Rattle.ha_texts.specs.Lines.{AreDated}
use Rattle.flow_printed.specs.declared.line.PrintedLine.{PrintedLine}
use Rattle.flow_printed.specs.Printed.{IsFairButForName, IsPrintOfLine, line_text}
use Rattle.flow_printed.proofs.FairLemmas.{fair_once_put}
use Rattle.ha_replay.specs.Digits.{digit_of, number_before_comma}
use Rattle.ha_replay.specs.declared.fault.TraceFault.{TraceFault}
use Rattle.ha_replay.specs.Traces.{Answers, HasNoRoom, IsAgainDue, IsEnd, IsFrontOf, IsNext, IsNoNext, IsUnfit, Reached, Stands, Takes, reached, told}
use Rattle.ha_replay.specs.Steps.{IsAllowed, IsNextLine, IsOf, IsOnlyPrint, fault_of, is_reload_line, reloads}
use Rattle.ha_replay.proofs.CmdLemmas.{fair-but, fair-named, is-true, of-true, put-fair, put-shown, read-text, reload-goes-on, reloads-read, restart-is}
use Rattle.ha_replay.proofs.TextLemmas.{no-source-line, no-step-line, same-line}
use Rattle.ha_replay.proofs.NextLemmas.{LineFacts, StepFacts, last-same, line-lawful, line-restarts, line-stands, nothing-next, one-step, step-stands}
use Rattle.ha_replay.proofs.SeamLemmas.{AgainLast, again-behind, again-last, behind-of, told-put}

-- ---- small tests

-- an equality of texts, as it is tested
pub same-iff : (r : Bool) (a b : Text) → r ≡ same a b → (IsTrue r → a ≡ b) × (a ≡ b → IsTrue r)
same-iff r a b e = ((λ t. same-sound a b (sym e ∙ of-true r t)), (λ is. is-true r (e ∙ (λ i. same (is i) b) ∙ same-refl b)))

-- a line compared with what stands before the last byte of another
pub same-answer : (shown text line : Text) (end : ℕ) (r : Bool) → shown ≡ text ++ (end ∷ []) → end ≡ 10 → r ≡ same text line → (IsTrue r → as_line line ≡ shown) × (as_line line ≡ shown → IsTrue r)
same-answer shown text line end r is ten e =
    let shown_is : shown ≡ as_line text = is ∙ (λ i. text ++ (ten i ∷ [])) in (
      (λ t. (λ i. as_line (sym ((same-iff r text line e).0 t) i)) ∙ sym shown_is),
      (λ h. (same-iff r text line e).1 (sym (same-line line text (h ∙ shown_is)))),
    )

pub end-answer : (j : Journal) (rs : Records) (line shown : Text) (r : Bool) → ends_segment j ≡ false → is_quiet rs j ≡ true → shown ≡ codes "{\"end\":" ++ (decimal (length j) ++ 125 ∷ []) → r ≡ same line shown
    → (IsTrue r → IsEnd j rs line) × (IsEnd j rs line → IsTrue r)
end-answer j rs line shown r opened quiet is e = (
  (λ t. record { opened = opened; quiet = quiet; line_is = ap as_line ((same-iff r line shown e).0 t ∙ is) }),
  (λ end. (same-iff r line shown e).1 (same-line line (codes "{\"end\":" ++ (decimal (length j) ++ 125 ∷ [])) end.line_is ∙ sym is)),
)

-- a line that begins otherwise is no end line
pub no-end : (j : Journal) (rs : Records) (line : Text) (r : Bool) → ((rest : Text) → line ≡ codes "{\"end\":" ++ rest → r ≡ true) → r ≡ false → IsEnd j rs line → ⊥
no-end j rs line r begins e end =
    let text : Text = decimal (length j) ++ 125 ∷ [] in
    absurd (let same = sym e ∙ begins text (same-line line (codes "{\"end\":" ++ text) end.line_is) in cc)

-- ---- the number of a worker

digit-is : (d : ℕ) → d < 10 → digit_of (48 + d) ≡ Some d
digit-is d lt = grind (arith, nat_tests)

teen : (d : ℕ) (rest : Text) → d < 10 → number_before_comma (49 ∷ (48 + d) ∷ 44 ∷ rest) ≡ Some (10 + d)
teen d rest few = grind (arith, nat_tests)

pub number-found : (k : ℕ) (rest : Text) → k < 16 → number_before_comma (decimal k ++ 44 ∷ rest) ≡ Some k
number-found k rest lt = by (nat_lt k 10) refl
  where
    by : (b : Bool) → nat_lt k 10 ≡ b → number_before_comma (decimal k ++ 44 ∷ rest) ≡ Some k
    by true e = (let few : k < 10 = search (rules, e) in (λ i. number_before_comma (decimal_digit k few i ++ 44 ∷ rest)) ∙ digit-is k few)
    by false e =
        let many : 10 ≤ k = search (rules, e) in
        let tens : k / 10 ≡ 1 = omega (arith, many, lt) in
        let ones : k % 10 < 10 = omega arith in
        let sum : 10 + k % 10 ≡ k = omega (arith, many, lt) in
        let shown : decimal k ≡ 49 ∷ (48 + k % 10) ∷ [] = decimal_step k many (omega (arith, lt)) ∙ (λ i. decimal (tens i) ++ ((48 + k % 10) ∷ [])) ∙ (λ i. decimal_digit 1 (omega arith) i ++ ((48 + k % 10) ∷ [])) in
        (λ i. number_before_comma (shown i ++ 44 ∷ rest)) ∙ teen (k % 10) rest ones ∙ ap Some sum

-- ---- the last entry

at-end : (j : Journal) (x : Entry) → slice_get (more j x) (length j) ≡ Some x
at-end [] x = refl
at-end (y ∷ j) x = at-end j x

pub last-is : (j : Journal) (x : Entry) → slice_get (more j x) (length (more j x) - 1) ≡ Some x
last-is j x = (let e : length (more j x) - 1 ≡ length j = omega (arith, length-append j (x ∷ [])) in λ i. slice_get (more j x) (e i)) ∙ at-end j x

pub step-dated : (k j : Journal) (worker serial : ℕ) (branch : Branch) (item : Item) → k ≡ more j (Step worker serial branch item) → IfSome (slice_get k (length k - 1)) AreDated
step-dated k j worker serial branch item is = subst (λ l. IfSome (slice_get l (length l - 1)) AreDated) (sym is) (subst (λ o. IfSome o AreDated) (sym (last-is j (Step worker serial branch item))) tt)

-- ---- no line that may stand next

not-both : (a m : ℕ) → a < m → a ≡ m → ⊥
not-both a m lt e = omega (arith, lt, e)

pub not-full : (j : Journal) (b : Bool) → HasRoom j b → IsFull j → ⊥
not-full j b room (inl e) = not-both (length (segment j)) most_in_segment room.segment_room e
not-full j b room (inr e) = not-both (length j) most_entries room.room e

-- a Restart reads no text
pub restart-read : (read : Text → Option Config) (x : Entry) → is_restart x ≡ true → IsReadEntry read x
restart-read read (Boot text config stored start zone carry) e = tt
restart-read read (Again number start stored carry) e = tt
restart-read read (Step worker serial branch item) e = tt
restart-read read (Line source number cmd) e =
    let is : cmd ≡ Cmd.Restart = restart-is cmd (sym (line-restarts source number cmd) ∙ e) in
    subst (λ (c : Cmd). prepared read c ≡ c) (sym is) refl

-- a line that may not stand next is refused where there is room
pub refused : (read : Text → Option Config) (r : Reached) (line : Text) → (IsFull r.journal → ⊥) → IsNoNext read (told r) line → HasNoRoom line r → ⊥
refused read r line room no_next (inl full) = room full.0
refused read r line room no_next (inr restart) =
    let next = restart.1.next in
    no_next restart.1.entry restart.1.records (record { lawful = next.lawful; read_is = restart-read read restart.1.entry restart.1.restarts; line_is = next.line_is })

-- what a line comes to that is neither
pub unfit-answer : (read : Text → Option Config) (r after : Reached) (line : Text) (fault : TraceFault) → IsUnfit r.journal fault → (IsEnd (told r) r.records line → ⊥) → IsNoNext read (told r) line → (IsAgainDue r line → ⊥)
    → Answers read line r after (Err fault)
unfit-answer read r after line TraceFault.Refused unfit no_end no_next no_again = (refused read r line unfit no_next, no_end, no_next)
unfit-answer read r after line TraceFault.Full unfit no_end no_next no_again = inl (unfit, no_end, no_again)
unfit-answer read r after line TraceFault.Memory unfit no_end no_next no_again = tt

-- no Again is due
pub none-due : (j : Journal) (rs : Records) (c : Bool) (line : Text) → IsAgainDue (reached j rs c false) line → ⊥
none-due j rs c line due = true-false (sym due.due)

-- ---- a source's line

counted-few : (r : Reached) → length r.journal < 2 ^ 64 → (k n : ℕ) → n ≡ count_by (is_line_of k) r.journal → n < 2 ^ 64
counted-few r short k n e = (let most = count_by-le-length (is_line_of k) r.journal in omega (arith, e, most, short))

-- a line that may stand next is printed as its command is read
shown-read : (read : Text → Option Config) (r : Reached) (text : Text) (k n : ℕ) (cmd : Cmd) → LineFacts read r text k n cmd → IsPrintOfLine text (record { source = k; number = n; cmd = as_read cmd })
shown-read read r text k n cmd f = record { fair = fair-but r.journal cmd f.fair; text_is = f.line_is ∙ ap (line_text k n) (sym (read-text cmd)) }

module _ (read : Text → Option Config) (r : Reached) (text : Text) (l : PrintedLine) (stands : Stands r) (print : IsPrintOfLine text l) (only : IsOnlyPrint text l) (short : length r.journal < 2 ^ 64) where
  -- so it is the one that was read
  read-same : (k n : ℕ) (cmd : Cmd) → LineFacts read r text k n cmd → l ≡ record { source = k; number = n; cmd = as_read cmd }
  read-same k n cmd f =
      only (record { source = k; number = n; cmd = as_read cmd }) (omega (arith, f.known)) (counted-few r short k n f.next) (shown-read read r text k n cmd f)

  no-steps : (k serial : ℕ) (branch : Branch) (item : Item) (rs' : Records) → IsNext read r.journal text (Step k serial branch item) rs' → StepFacts r text k serial branch → ⊥
  no-steps k serial branch item rs' next f = no-step-line text k l.source l.number _ f.line_is print.text_is

  pub no-source : (IsNextLine r l → ⊥) → IsNoNext read r.journal text
  no-source no_next = nothing-next read r text stands lines no-steps
    where
      lines : (k n : ℕ) (cmd : Cmd) → LineFacts read r text k n cmd → ⊥
      lines k n cmd f =
          no_next (subst (IsNextLine r) (sym (read-same k n cmd f))
          (record { is_open = f.is_open; known = f.known; rested = f.rested; next = f.next; unshut = f.unshut; named = fair-named r.journal cmd f.fair }))

  -- a reload that is put as a refusal has the line of no entry
  pub reload-refused : reloads l.cmd ≡ true → reloads (put_as r.journal (prepared read l.cmd)) ≡ false → IsNoNext read r.journal text
  reload-refused reload refuses = nothing-next read r text stands lines no-steps
    where
      lines : (k n : ℕ) (cmd : Cmd) → LineFacts read r text k n cmd → ⊥
      lines k n cmd f =
          let same = read-same k n cmd f in
          let is : put_as r.journal (prepared read l.cmd) ≡ cmd = (λ i. put_as r.journal (prepared read ((same i).cmd))) ∙ put-fair read r.journal cmd f.fair f.read_is in
          true-false (sym (sym (reloads-read cmd) ∙ (λ i. reloads ((sym same i).cmd)) ∙ reload) ∙ (λ i. reloads (sym is i)) ∙ refuses)

-- what is put for a source's line
module _ (read : Text → Option Config) (j : Journal) (source number : ℕ) (cmd : Cmd) where
  abbrev pub put-cmd : Cmd
  put-cmd = put_as j (prepared read cmd)

  made-restarts : is_restart (Line source number put-cmd) ≡ restarts cmd
  made-restarts = put-restarts j source number (prepared read cmd) ∙ read-restarts read cmd

  -- a reload is put once
  reload-put : (k : Journal) → k ≡ put j (Line source number put-cmd) → reloads cmd ≡ true → k ≡ more j (Line source number put-cmd)
  reload-put k is reload = is ∙ put-on j (Line source number put-cmd) (made-restarts ∙ reload-goes-on cmd reload)

  -- what was seen of the last entry: whether it is the refusal of a reload
  module _ (k : Journal) (is : k ≡ put j (Line source number put-cmd)) (b seen : Bool) (b_is : b ≡ reloads cmd)
      (sees : b ≡ true → (d : Journal) (x : Entry) → k ≡ more d x → seen ≡ not (is_reload_line x)) where
    pub not-refused : seen ≡ false → reloads cmd ≡ true → reloads put-cmd ≡ true
    not-refused e reload = by (reloads put-cmd) (sym e ∙ sees (b_is ∙ reload) j (Line source number put-cmd) (reload-put k is reload))
      where
        by : (d : Bool) → false ≡ not d → d ≡ true
        by true e = refl
        by false e = absurd (true-false (sym e))

    pub was-refused : (b ≡ false → seen ≡ false) → seen ≡ true → (reloads cmd ≡ true) × (reloads put-cmd ≡ false)
    was-refused other e = by b refl
      where
        neither : (d : Bool) → true ≡ not d → d ≡ false
        neither true e = absurd (true-false e)
        neither false e = refl

        by : (d : Bool) → b ≡ d → (reloads cmd ≡ true) × (reloads put-cmd ≡ false)
        by false off = absurd (true-false (sym e ∙ other off))
        by true on = (sym b_is ∙ on, neither (reloads put-cmd) (sym e ∙ sees on j (Line source number put-cmd) (reload-put k is (sym b_is ∙ on))))

    pub refused-front : (b ≡ false → seen ≡ false) → seen ≡ true → IsFrontOf j k
    refused-front other e = inr (Line source number put-cmd, reload-put k is (was-refused other e).0)

-- the line of a source that the core put
module _ (read : Text → Option Config) (j : Journal) (rs : Records) (c : Bool) (text : Text) (source number : ℕ) (cmd : Cmd) (stands : Stands (reached j rs c false))
    (print : IsPrintOfLine text (record { source = source; number = number; cmd = cmd }))
    (next : IsNextLine (reached j rs c false) (record { source = source; number = number; cmd = cmd })) where
  abbrev cmd' : Cmd
  cmd' = put-cmd read j source number cmd

  pub line-taken : (k : Journal) (rs' : Records) (b : Bool) → b ≡ restarts cmd → HasRoom j (restarts cmd) → (reloads cmd ≡ true → reloads cmd' ≡ true) → k ≡ put j (Line source number cmd') → Right k rs'
      → Takes text (reached j rs c false) (reached k rs' c b)
  line-taken k rs' b b_is room reload is right =
      let x : Entry = Line source number cmd' in
      let restart : is_restart x ≡ b = made-restarts read j source number cmd ∙ sym b_is in
      let stood = line-stands (reached j rs c false) source number cmd' rs' stands next.is_open (subst (λ l. Right l rs') is right)
      (next.known, next.rested, next.next, next.unshut, put-lets j (prepared read cmd)) in
      record {
        entry = x;
        room = inr (subst (HasRoom j) (sym (made-restarts read j source number cmd)) room);
        journal = (λ i. told (reached (is i) rs' c b)) ∙ told-put j x b restart;
        line_is = ap as_line (print.text_is ∙ ap (line_text source number) (sym (put-shown read j cmd next.named reload)));
        stands = subst (λ (l : Journal). Stands (reached l rs' c b)) (sym is)
            (subst (λ (d : Bool). Stands (reached (put j x) rs' c d)) (sym (line-restarts source number cmd') ∙ restart) stood);
      }

  -- the line of a refused reload is that of no entry
  pub refused-answer : (k : Journal) (is : k ≡ put j (Line source number cmd')) (b seen : Bool) (b_is : b ≡ reloads cmd)
      (sees : b ≡ true → (d : Journal) (x : Entry) → k ≡ more d x → seen ≡ not (is_reload_line x)) → (b ≡ false → seen ≡ false) → seen ≡ true → (after : Reached) → HasRoom j (restarts cmd)
      → IsOnlyPrint text (record { source = source; number = number; cmd = cmd }) → (IsEnd j rs text → ⊥) → Answers read text (reached j rs c false) after (Err TraceFault.Refused)
  refused-answer k is b seen b_is sees other e after room only no_end =
      let w = was-refused read j source number cmd k is b seen b_is sees other e in
      let no_next = reload-refused read (reached j rs c false) text (record { source = source; number = number; cmd = cmd }) stands print only (omega (arith, room.room)) w.0 w.1 in
      (refused read (reached j rs c false) text (not-full j (restarts cmd) room) no_next, no_end, no_next)

  -- there was no room for it
  lacks-it : (after : Reached) (fault : CoreFault) → (IsEnd j rs text → ⊥) → (fault ≡ CoreFault.Full → LacksRoom j (restarts cmd)) → Answers read text (reached j rs c false) after (Err (fault_of fault))
  lacks-it after CoreFault.Memory no_end lacks = tt
  lacks-it after CoreFault.Full no_end lacks = by (lacks refl)
    where
      by : LacksRoom j (restarts cmd) → Answers read text (reached j rs c false) after (Err TraceFault.Full)
      by (inl full) = inl (full, no_end, none-due j rs c text)
      by (inr cannot) =
          let is : cmd ≡ Cmd.Restart = restart-is cmd cannot.0 in
          let fair : IsFair j cmd = subst (IsFair j) (sym is) tt in
          let lets : is_some (reloads_to cmd) ≡ true → lets_reload j ≡ true = subst (λ (d : Cmd). is_some (reloads_to d) ≡ true → lets_reload j ≡ true) (sym is) (λ h. absurd (true-false (sym h))) in
          inr (
            cannot.1,
            record {
              entry = Line source number cmd;
              records = records_of (put j (Line source number cmd));
              restarts = line-restarts source number cmd ∙ cannot.0;
              next = record {
                lawful = line-lawful (reached j rs c false) source number cmd stands next.is_open fair (next.known, next.rested, next.next, next.unshut, lets);
                read_is = restart-read (λ text. None) (Line source number cmd) (line-restarts source number cmd ∙ cannot.0);
                line_is = ap as_line print.text_is;
              };
            },
          )

  pub line-lacks : (after : Reached) (fault : CoreFault) (given : TraceFault) → given ≡ fault_of fault → (IsEnd j rs text → ⊥) → (fault ≡ CoreFault.Full → LacksRoom j (restarts cmd))
      → Answers read text (reached j rs c false) after (Err given)
  line-lacks after fault given is no_end lacks = subst (λ (f : TraceFault). Answers read text (reached j rs c false) after (Err f)) (sym is) (lacks-it after fault no_end lacks)

-- ---- a worker's step

module _ (read : Text → Option Config) (r : Reached) (line : Text) (worker : ℕ) (stands : Stands r) (begins : (rest : Text) × (line ≡ codes "{\"worker\":" ++ rest)) (whose : (k : ℕ) → k < 16 → IsOf line k → k ≡ worker) where
  no-lines : (k n : ℕ) (cmd : Cmd) → LineFacts read r line k n cmd → ⊥
  no-lines k n cmd f = no-source-line line begins.0 k n _ begins.1 f.line_is

  pub no-worker : (IsAllowed r worker → ⊥) → IsNoNext read r.journal line
  no-worker refused = nothing-next read r line stands no-lines (λ k serial branch item rs' next f. refused (subst (IsAllowed r) (whose k f.known f.line_is) f.allowed))

  pub other-step : (serial : ℕ) (branch : Branch) (item : Item) (rs' : Records) (closed : Bool) → Stands (reached (more r.journal (Step worker serial branch item)) rs' closed false)
      → (as_line line ≡ trace_line (names r.journal) (Step worker serial branch item) → ⊥) → IsNoNext read r.journal line
  other-step serial branch item rs' closed stood other = nothing-next read r line stands no-lines steps
    where
      steps : (k s : ℕ) (b : Branch) (i : Item) (rs : Records) → IsNext read r.journal line (Step k s b i) rs → StepFacts r line k s b → ⊥
      steps k s b i rs next f =
          let put_is : put r.journal (Step k s b i) ≡ more r.journal (Step k s b i) = put-step r.journal k s b i in
          let mine : Lawful (more r.journal (Step worker s b i)) rs = subst (λ q. Lawful (more r.journal (Step q s b i)) rs) (whose k f.known f.line_is) (subst (λ l. Lawful l rs) put_is next.lawful) in
          let same = one-step r.journal rs' rs worker serial s branch b item i stands.lawful.right.journal stood.lawful mine in
          other (next.line_is ∙ (λ h. trace_line (names r.journal) (Step (whose k f.known f.line_is h) s b i)) ∙ (λ h. trace_line (names r.journal) (sym same h)))

-- what the core made of the worker's turn
pub record Made (r : Reached) (worker : ℕ) (k : Journal) (rs' : Records) (closed : Bool) : Type 0 where
  pub serial : ℕ
  pub branch : Branch
  pub item : Item
  pub journal : k ≡ more r.journal (Step worker serial branch item)
  pub stands : Stands (reached (more r.journal (Step worker serial branch item)) rs' closed false)

pub made-step : (r : Reached) (worker : ℕ) (k : Journal) (rs' : Records) (closed : Bool) → Stands r → IsAllowed r worker
    → (serial : ℕ) × (branch : List ℕ) × (item : Item) × (pick worker (ready r.records r.journal) ≡ Some (serial, branch)) × (k ≡ more r.journal (Step worker serial branch item))
    → Right k rs' → closed ≡ (r.closing || is_rested r.records worker r.journal) → Made r worker k rs' closed
made-step r worker k rs' closed stands allowed put right e = record {
  serial = put.0;
  branch = put.1;
  item = put.2;
  journal = put.4;
  stands = subst (λ c. Stands (reached (more r.journal (Step worker put.0 put.1 put.2)) rs' c false)) (sym e) (step-stands r worker put.0 put.1 put.2 rs' stands allowed put.3 (subst (λ l. Right l rs') put.4 right));
}

pub step-taken : (j : Journal) (rs : Records) (c : Bool) (line : Text) (worker : ℕ) (k : Journal) (rs' : Records) (closed : Bool) (m : Made (reached j rs c false) worker k rs' closed)
    → Stands (reached j rs c false) → HasRoom j false
    → as_line line ≡ trace_line (names (more j (Step worker m.serial m.branch m.item))) (Step worker m.serial m.branch m.item) → Takes line (reached j rs c false) (reached k rs' closed false)
step-taken j rs c line worker k rs' closed m stands room is = record {
  entry = Step worker m.serial m.branch m.item;
  room = inr room;
  journal = m.journal;
  line_is = is ∙ (λ i. trace_line (sym (names-stepped j worker m.serial m.branch m.item) i) (Step worker m.serial m.branch m.item));
  stands = subst (λ (l : Journal). Stands (reached l rs' closed false)) (sym m.journal) m.stands;
}

-- there was no room for it
step-lacks-it : (read : Text → Option Config) (j : Journal) (rs : Records) (c : Bool) (line : Text) (after : Reached) (fault : CoreFault) → (IsEnd j rs line → ⊥) → (fault ≡ CoreFault.Full → LacksRoom j false)
    → Answers read line (reached j rs c false) after (Err (fault_of fault))
step-lacks-it read j rs c line after CoreFault.Memory no_end lacks = tt
step-lacks-it read j rs c line after CoreFault.Full no_end lacks = by (lacks refl)
  where
    by : LacksRoom j false → Answers read line (reached j rs c false) after (Err TraceFault.Full)
    by (inl full) = inl (full, no_end, none-due j rs c line)
    by (inr cannot) = absurd (true-false (sym cannot.0))

pub step-lacks : (read : Text → Option Config) (j : Journal) (rs : Records) (c : Bool) (line : Text) (after : Reached) (fault : CoreFault) (made : TraceFault) → made ≡ fault_of fault → (IsEnd j rs line → ⊥) → (fault ≡ CoreFault.Full → LacksRoom j false)
    → Answers read line (reached j rs c false) after (Err made)
step-lacks read j rs c line after fault made is no_end lacks = subst (λ (f : TraceFault). Answers read line (reached j rs c false) after (Err f)) (sym is) (step-lacks-it read j rs c line after fault no_end lacks)

pub fair-put : (read : Text → Option Config) (j : Journal) (cmd : Cmd) → IsFairButForName cmd → IsFair j (put_as j (prepared read cmd))
fair-put read j cmd fair = fair_once_put (has_automation j) (is_helper (helpers j)) (lets_reload j) read cmd fair

-- ---- a line that is neither

pub no-reader : (read : Text → Option Config) (r : Reached) (line : Text) → Stands r → length r.journal < 2 ^ 64 → ((k : ℕ) → k < 16 → IsOf line k → ⊥)
    → ((l : PrintedLine) → l.source < 2 ^ 32 → l.number < 2 ^ 64 → IsPrintOfLine line l → ⊥) → IsNoNext read r.journal line
no-reader read r line stands short no_worker no_print = nothing-next read r line stands lines (λ k serial branch item rs' next f. no_worker k f.known f.line_is)
  where
    lines : (k n : ℕ) (cmd : Cmd) → LineFacts read r line k n cmd → ⊥
    lines k n cmd f = no_print (record { source = k; number = n; cmd = as_read cmd }) (omega (arith, f.known)) (counted-few r short k n f.next) (shown-read read r line k n cmd f)

-- ---- an Again that is due

pub again-dated : (j : Journal) (rs : Records) (c a : Bool) → Stands (reached j rs c a) → a ≡ true → IfSome (slice_get j (length j - 1)) AreDated
again-dated j rs c a stands due =
    let last = again-last j stands.lawful.right.journal.entries (stands.again due) in
    subst (λ l. IfSome (slice_get l (length l - 1)) AreDated) (sym last.is) (subst (λ o. IfSome o AreDated) (sym (last-is last.front (again_of last.front))) tt)

module _ (read : Text → Option Config) (j : Journal) (rs : Records) (c : Bool) (line : Text) (same : Bool) (stands : Stands (reached j rs c true))
    (shown : (d : Journal) (x : Entry) → j ≡ more d x → (IsTrue same → as_line line ≡ trace_line (names (more d x)) x) × (as_line line ≡ trace_line (names (more d x)) x → IsTrue same)) where
  abbrev last : AgainLast j
  last = again-last j stands.lawful.right.journal.entries (stands.again refl)

  abbrev due : Entry
  due = again_of last.front

  told-is : told (reached j rs c true) ≡ last.front
  told-is = last.front_is

  is-more : j ≡ more (told (reached j rs c true)) due
  is-more = last.is ∙ (λ i. more (sym told-is i) due)

  pub again-taken : IsTrue same → Takes line (reached j rs c true) (reached j rs c false)
  again-taken holds = record {
    entry = due;
    room = inl refl;
    journal = is-more;
    line_is = (shown last.front due last.is).0 holds;
    stands = record { lawful = stands.lawful; closing = stands.closing; again = λ bad. absurd (true-false (sym bad)) };
  }

  -- what may stand here is the Again alone
  only-due : (y : Entry) (rs' : Records) → Lawful (put last.front y) rs' → y ≡ due
  only-due y rs' lawful = again-behind last.front y last.ends (behind-of last.front y last.has lawful.right.journal.entries)

  not-shown : (IsTrue same → ⊥) → (y : Entry) → y ≡ due → as_line line ≡ trace_line (names last.front) y → ⊥
  not-shown fails y is e = fails ((shown last.front due last.is).1 (e ∙ (λ i. trace_line (names last.front) (is i))))

  pub again-refused : (IsTrue same → ⊥) → (after : Reached) (fault : TraceFault) → IsUnfit j fault → Answers read line (reached j rs c true) after (Err fault)
  again-refused fails after fault unfit = unfit-answer read (reached j rs c true) after line fault unfit no_end no_next no_again
    where
      no_end : IsEnd (told (reached j rs c true)) rs line → ⊥
      no_end end = true-false (sym last.ends ∙ (λ i. ends_segment (sym told-is i)) ∙ end.opened)

      at_front : (d : Journal) → d ≡ last.front → IsNoNext read d line
      at_front d e y rs' next = not-shown fails y (only-due y rs' (subst (λ l. Lawful (put l y) rs') e next.lawful)) (next.line_is ∙ (λ i. trace_line (names (e i)) y))

      no_next : IsNoNext read (told (reached j rs c true)) line
      no_next = at_front (told (reached j rs c true)) told-is

      no_again : IsAgainDue (reached j rs c true) line → ⊥
      no_again d =
          let is : more (told (reached j rs c true)) d.entry ≡ more (told (reached j rs c true)) due = sym d.is ∙ is-more in
          let same-due : d.entry ≡ due = last-same (told (reached j rs c true)) d.entry due is in
          not-shown fails d.entry same-due
          (d.line_is ∙ (λ i. trace_line (names j) (same-due i)) ∙ (λ i. trace_line (names last.front) (sym same-due i)))
