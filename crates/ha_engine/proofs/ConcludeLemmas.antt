-- The records of a line that changes no switch, and what is kept behind it.
use Rattle.std.proofs.Common.{◌≡◌, ℕ, suc, rules, ◌-◌, ◌<◌, ◌≤◌, List, [], ◌∷◌, length, Bool, true, false, refl, sym, ap, subst, ◌∙◌, arith}
use Rattle.std.specs.Prelude.{Option, Some, None, filter, nat_eq, slice_get, if◌then◌else◌}
use Rattle.std.specs.List.{enumerate_from}
use Rattle.std.specs.Option.{option_map_or}
use Rattle.ha_value.specs.declared.value.EntityId.{EntityId}
use Rattle.ha_config.specs.declared.command.Cmd.{Cmd}
use Rattle.ha_journal.specs.declared.entry.Entry.{Entry}
use Rattle.ha_journal.specs.declared.entry.Entry.TheVariants.{Line}
use Rattle.ha_journal.specs.Attempts.{Attempt, attempts_of, fired, passes, passing}
use Rattle.ha_config.specs.Fair.{IsPlain}
use Rattle.ha_journal.specs.Commands.{IsFair}
use Rattle.ha_journal.specs.Journal.{Journal, last_place, more}
use Rattle.ha_config.specs.Words.{Text, Pairs}
use Rattle.ha_journal.specs.Entries.{step_of}
use Rattle.ha_model.specs.Records.{CallEnds, Records, call_end}
use Rattle.ha_model.specs.RecordSteps.{records_after}
use Rattle.ha_model.specs.Lawful.{Right}
use Rattle.ha_model.proofs.LawfulLaws.{right-more}
use Rattle.ha_journal.proofs.MoreLemmas.{length-more}
use Rattle.ha_config.proofs.ListLemmas.{get-last}
use Rattle.ha_model.proofs.StepLaws.{Numbered, numbered-of}
use Rattle.ha_model.proofs.FoldLaws.{records-more}
use Rattle.run_modes.specs.Calls.{AreTurned, all_tried, stops_done}
use Rattle.run_modes.specs.Fits.{AreNumbered}
use Rattle.run_laws.proofs.EntryLaws.{by-calls}
use Rattle.ha_ready.specs.RunPast.{AllPast, BeginBefore, EndBefore}
use Rattle.ha_model.specs.declared.record.EndCause.{EndCause}
use Rattle.script_calls.specs.Waiting.{caller_of}
use Rattle.engine_parts.specs.declared.parts.Parts.{Parts}
use Rattle.engine_parts.specs.Called.{told_after, told_by}
use Rattle.engine_parts.specs.Kept.{Going, GoingWith, nobody}
use Rattle.engine_parts.specs.Records.{IsTable}
use Rattle.engine_parts.proofs.ToldLemmas.{told-whole}
use Rattle.engine_parts.proofs.CalledLemmas.{none-waits}
use Rattle.engine_parts.proofs.EndedCallLemmas.{calls-after}
use Rattle.engine_parts.proofs.WokenLemmas.{unwoken-runs}
use Rattle.ha_ready.specs.Agree.{step_at}
use Rattle.ha_ready.proofs.RunPast.{all-past}
use Rattle.engine_parts.proofs.SteppersRun.{line-steps, stepper-runs}
use Rattle.std.proofs.lemmas.Option.{slice_get_within}

-- LAW: behind a plain line its attempts alone change the records
pub plain-records : (j : Journal) (rs : Records) (source number : ℕ) (cmd : Cmd) → Right j rs → IsPlain cmd → IsFair j cmd
    → all_tried (more j (Line source number cmd)) rs (passing (more j (Line source number cmd))) ≡ records_after j rs (Line source number cmd)
plain-records j rs source number cmd right plain fair =
    let x : Entry = Line source number cmd in
    same-stops cmd plain
    ∙ by-calls j rs x [] right (λ boot. boot) fair (none-turned cmd plain) ∙ records-more j x ∙ ap (λ l. records_after j l x) (sym right.records_are)
  where
    none-turned : (c : Cmd) → IsPlain c → AreTurned j (Line source number c) []
    none-turned (Cmd.Report entity text attributes) h a lt = refl
    none-turned (Cmd.Gone entity) h a lt = refl
    none-turned (Cmd.Event kind pairs) h a lt = refl
    none-turned (Cmd.Moment at) h a lt = refl
    none-turned (Cmd.Switch name on stop) h a lt = absurd h
    none-turned (Cmd.Trigger name skip) h a lt = refl
    none-turned Cmd.Restart h a lt = absurd h
    none-turned (Cmd.Reload text config) h a lt = absurd h
    none-turned (Cmd.Refused code) h a lt = refl
    none-turned Cmd.Lost h a lt = refl
    none-turned Cmd.TooLong h a lt = refl

    same-stops : (c : Cmd) → IsPlain c → all_tried (more j (Line source number cmd)) rs (passing (more j (Line source number cmd))) ≡ all_tried (more j (Line source number cmd)) (stops_done (length j) (Line source number c) [] rs) (passing (more j (Line source number cmd)))
    same-stops (Cmd.Report entity text attributes) h = refl
    same-stops (Cmd.Gone entity) h = refl
    same-stops (Cmd.Event kind pairs) h = refl
    same-stops (Cmd.Moment at) h = refl
    same-stops (Cmd.Switch name on stop) h = absurd h
    same-stops (Cmd.Trigger name skip) h = refl
    same-stops Cmd.Restart h = absurd h
    same-stops (Cmd.Reload text config) h = absurd h
    same-stops (Cmd.Refused code) h = refl
    same-stops Cmd.Lost h = refl
    same-stops Cmd.TooLong h = refl

numbered-as : (n : ℕ) (rs : Records) → Numbered n rs → AreNumbered n rs
unfolding Numbered
numbered-as n [] h = tt
numbered-as n (r ∷ rs) h = (h.0, numbered-as (suc n) rs h.1)

pub past-more : (n m : ℕ) (rs : Records) → n ≤ m → AllPast n rs → AllPast m rs
past-more n m [] le h = tt
past-more n m (r ∷ rs) le h = (record { place = omega (arith, h.0.place, le); begin = begins r.begin h.0.begin; end = ends r.end h.0.end }, past-more n m rs le h.1)
  where
    begins : (b : Option ℕ) → BeginBefore n b → BeginBefore m b
    begins None g = tt
    begins (Some b) g = omega (arith, g, le)

    ends : (e : Option (ℕ × EndCause)) → EndBefore n e → EndBefore m e
    ends None g = tt
    ends (Some e) g = omega (arith, g, le)

-- LAW: the records before a line are a table behind it
pub line-table : (j : Journal) (rs : Records) (source number : ℕ) (cmd : Cmd) → Right j rs → IsTable (more j (Line source number cmd)) rs
line-table j rs source number cmd right = record {
  numbered = numbered-as 0 rs (subst (Numbered 0) (sym right.records_are) (numbered-of j));
  past = past-more (length j) (length (more j (Line source number cmd))) rs (omega (arith, length-more j (Line source number cmd))) (all-past j rs right);
  unstepped = λ s p behind. none s p behind (step_at (more j (Line source number cmd)) s p) refl;
}
  where
    none : (s p : ℕ) → length rs < s → (b : Bool) → step_at (more j (Line source number cmd)) s p ≡ b → b ≡ false
    none s p behind false e = refl
    none s p behind true e =
        (let run = stepper-runs j rs s p right (line-steps j source number cmd s p e) in
        let within : s - 1 < length rs = slice_get_within rs (s - 1) run.0 run.1 in
        absurd (omega (arith, within, behind)))

-- LAW: the journal with the line is right with them
pub plain-right : (j : Journal) (rs : Records) (source number : ℕ) (cmd : Cmd) → Right j rs → IsFair j cmd → Right (more j (Line source number cmd)) (records_after j rs (Line source number cmd))
plain-right j rs source number cmd right fair = right-more j rs (Line source number cmd) right (λ boot. boot) fair

-- LAW: a report at which nothing fired asks for no run
pub none-passing : (k j : Journal) (source number : ℕ) (entity : EntityId) (text : Text) (attributes : Pairs)
    → k ≡ more j (Line source number (Cmd.Report entity text attributes)) → [] ≡ fired k (last_place k) → passing k ≡ []
none-passing k j source number entity text attributes is none =
    let x : Entry = Line source number (Cmd.Report entity text attributes) in
    let p : ℕ = last_place k in
    let at : p ≡ length j = omega (arith, ap length is, length-more j x) in
    let entry : slice_get k p ≡ Some x = (λ i. slice_get (is i) (at i)) ∙ get-last j x in
    ap (λ o. filter (λ y. passes k p y.1) (enumerate_from 0 (option_map_or (attempts_of k p) o []))) entry
    ∙ ap (λ (l : List Attempt). filter (λ y. passes k p y.1) (enumerate_from 0 l)) (sym none)

-- LAW: behind a plain line that asks for no run the records are those before it
pub none-told : (k j : Journal) (rs : Records) (source number : ℕ) (cmd : Cmd) → k ≡ more j (Line source number cmd) → Right j rs → IsPlain cmd → IsFair j cmd
    → passing k ≡ [] → rs ≡ records_after j rs (Line source number cmd)
none-told k j rs source number cmd is right plain fair none =
    ap (all_tried k rs) (sym none) ∙ ap (λ (i : Journal). all_tried i rs (passing i)) is ∙ plain-records j rs source number cmd right plain fair

-- LAW: behind a line nobody waits for a run that would come next, so all is told
pub line-whole : (k j : Journal) (rs : Records) (source number : ℕ) (cmd : Cmd) (p : Parts) → k ≡ more j (Line source number cmd) → Right j rs → Going nobody k rs p → GoingWith (call_end rs) nobody k rs p
line-whole k j rs source number cmd p is right going =
    let table : IsTable k rs = subst (λ (i : Journal). IsTable i rs) (sym is) (line-table j rs source number cmd right) in
    let last : last_place k ≡ length j = omega (arith, ap length is, length-more j (Line source number cmd)) in
    let plain : (s : ℕ) → step_at k s (last_place k) ≡ false = λ s. ap (λ (i : Journal). step_at i s (last_place k)) is ∙ ap (step_at (more j (Line source number cmd)) s) last
    ∙ (λ i. option_map_or (λ y. option_map_or (λ t. nat_eq t.serial s) (step_of y) false) (get-last j (Line source number cmd) i) false) in
    let none : caller_of (suc (length rs)) p.calls ≡ None = none-waits k rs p.delays p.waits p.frames.items p.calls table.numbered plain going.runs_kept.slots going.calls_kept in
    let so : told_after (suc (length rs)) (last_place k) (told_by nobody k rs) rs ≡ call_end rs = told-whole k rs table.numbered in
    subst (λ (told : CallEnds). GoingWith told nobody k rs p) so (record {
      sees = going.sees;
      triggers_stand = going.triggers_stand;
      waits_stand = going.waits_stand;
      owned = going.owned;
      keys_early = going.keys_early;
      runs_kept = unwoken-runs nobody (told_by nobody k rs) k rs table (suc (length rs)) (last_place k) p.calls p.delays p.waits p.waits p.frames.items going.runs_kept.slots going.calls_kept none
          p.ready.pairs.items going.runs_kept.pairs_are going.runs_kept.held refl;
      calls_kept = calls-after (told_by nobody k rs) k rs (suc (length rs)) (last_place k) p.calls p.calls (λ c. unwaited c none) p.frames.items going.calls_kept;
    })
  where
    unwaited : (c : ℕ) → caller_of (suc (length rs)) p.calls ≡ None → caller_of c p.calls ≡ (if nat_eq (suc (length rs)) c then None else caller_of c p.calls)
    unwaited c none = by (nat_eq (suc (length rs)) c) refl
      where
        same : (a b : ℕ) → nat_eq a b ≡ true → a ≡ b
        same a b e = search (rules, e)

        by : (t : Bool) → nat_eq (suc (length rs)) c ≡ t → caller_of c p.calls ≡ (if t then None else caller_of c p.calls)
        by true e = ap (λ n. caller_of n p.calls) (sym (same (suc (length rs)) c e)) ∙ none
        by false e = refl
