-- What a line that is taken, or refused, makes of what was found so far.
use Rattle.std.proofs.Common.{◌≡◌, ◌∙◌, ap, sym, subst, refl, ℕ, ◌+◌, ◌<◌, ◌≤◌, inl, inr, [], ◌∷◌, ◌++◌, length, Bool, true, false, arith, append_assoc, append-nil, length-append}
use Rattle.std.specs.Prelude.{◌⊎◌, Ok, Err, Option}
use Rattle.ha_io.specs.Told.{Takes}
use Rattle.ha_io.specs.Whole.{IsFrontTaken}
use Rattle.ha_io.proofs.ToldLemmas.{Takes-Takes, Takes-nothing}
use Rattle.ha_journal.specs.declared.entry.Entry.{Entry}
use Rattle.ha_journal.specs.declared.entry.Entry.TheVariants.{Boot, Line, Step, Again}
use Rattle.ha_config.specs.Words.{Text}
use Rattle.ha_journal.specs.Entries.{is_restart}
use Rattle.ha_journal.specs.Commands.{AreRead, IsReadEntry}
use Rattle.ha_journal.specs.Journal.{HasEntry, Journal, more}
use Rattle.conf_auto.specs.Config.{config_in}
use Rattle.ha_model.specs.Records.{Records}
use Rattle.ha_config.specs.CheckText.{as_line}
use Rattle.ha_journal.specs.EntryText.{end_line, error_text, error_text_of, texts_after, trace_line}
use Rattle.ha_config.proofs.ListLemmas.{true-false}
use Rattle.ha_laws.proofs.TextLemmas.{errors-more, texts-more, trace-more}
use Rattle.ha_whole.specs.Trace.{call_text, call_text_of, names, trace_text}
use Rattle.ha_whole.specs.Whole.{AreEntries, CannotRestart, HasRoom, IsBehind, IsFull as IsFullJournal, IsWithin, Lawful, Right, again_of, ends_segment, opened}
use Rattle.whole_laws.proofs.PutLemmas.{within-put}
use Rattle.ha_status.specs.declared.status.Status.{Status}
use Rattle.ha_replay.specs.declared.fault.TraceFault.{TraceFault}
use Rattle.ha_replay.specs.Traces.{Answers, HasNoRoom as HasNoRoomFor, IsAgainDue, IsEnd, IsNext, IsNoNext, Reached, Stands, Takes as TakesEntry, reached, told}
use Rattle.ha_replay.proofs.AnswerLemmas.{restart-read}
use Rattle.ha_replay.proofs.SeamLemmas.{again-behind, behind-of}
use Rattle.replay_file.specs.declared.front.FrontEnd.{FrontEnd}
use Rattle.trace_laws.specs.Lines.{Cuts, is_one_line}
use Rattle.trace_laws.specs.Runs.{Begins, GoesOn, IsFirst, IsRun, line_count}
use Rattle.trace_laws.specs.Tells.{HasNoRoom}
use Rattle.trace_laws.proofs.EntryLemmas.{no_end}
use Rattle.trace_laws.proofs.FrontLemmas.{opened_on}
use Rattle.trace_laws.proofs.RunLemmas.{first_plain, none_full}
use Rattle.replay_file.specs.Boot.{IsBooted, IsUnbooted}
use Rattle.replay_file.specs.Steps.{IsReady}
use Rattle.replay_file.specs.Judged.{IsAt, IsCutShort, IsTaken, Judged}
use Rattle.replay_file.proofs.StopLemmas.{cut_status, follows, front_taken, goes_next, is_next, journal_full, judged_here, line_refused, nothing_at, run_more, same_cut}
use Rattle.replay_file.proofs.ToldLemmas.{AgainLine, Grown, OnePut, again_of_told, calls_grown, few_lines, grown, opened_told, told_behind, told_ends, told_front, told_has, told_line, told_read}

-- ---- a line that is taken

-- a line that was left stands behind the trace
behind_trace : (text trace line behind shown : Text) → text ≡ trace ++ (line ++ (10 ∷ behind)) → as_line line ≡ shown → text ≡ (trace ++ shown) ++ behind
behind_trace text trace line behind shown is e =
    is ∙ ap (λ z. trace ++ z) (sym (append_assoc line (10 ∷ []) behind)) ∙ sym (append_assoc trace (as_line line) behind) ∙ (λ i. (trace ++ e i) ++ behind)

-- the end line
pub end_taken : (text line behind : Text) (j : Journal) (rs : Records) (o o' e e' : Option Text) → HasEntry j → IsEnd j rs line
    → IsAt text j rs false (line ++ (10 ∷ behind)) o o' e e' → IsAt text j rs true behind o o' e e'
end_taken text line behind j rs o o' e e' has end at = record {
  begins = record {
    run = at.begins.run;
    room = at.begins.room;
    ends = λ _. (has, end.opened, end.quiet);
    text_is = behind_trace text (trace_text j false) line behind (end_line (length j)) at.begins.text_is end.line_is
        ∙ (λ i. (append-nil (texts_after (λ before x. trace_line (names before) x) [] j) i ++ end_line (length j)) ++ behind);
  };
  calls_taken = at.calls_taken;
  errors_taken = at.errors_taken;
}

-- an entry
module _ (text line behind : Text) (r r' : Reached) (t : TakesEntry line r r') (stands : Stands r) where
  abbrev way : Grown r r' t.entry
  way = grown r r' t.entry stands t.stands t.journal

  pub calls_now : call_text (told r') r'.records ≡ call_text (told r) r.records ++ call_text_of r'.records (told r) t.entry
  calls_now =
      ap (λ l. call_text l r'.records) t.journal ∙ texts-more (call_text_of r'.records) [] (told r) t.entry
      ∙ ap (λ z. z ++ call_text_of r'.records (told r) t.entry) (sym (calls_grown r r' t.entry stands t.stands way))

  pub errors_now : error_text (told r') ≡ error_text (told r) ++ error_text_of t.entry
  errors_now = ap error_text t.journal ∙ errors-more (told r) t.entry

  -- it had room
  pub within_now : IsWithin r.journal → IsWithin r'.journal
  within_now within = by way t.room
    where
      by : Grown r r' t.entry → (r.again ≡ true) ⊎ HasRoom r.journal (is_restart t.entry) → IsWithin r'.journal
      by (AgainLine due same records) room = subst IsWithin (sym same) within
      by (OnePut open_run all p is) (inl due) = absurd (true-false (sym due ∙ open_run))
      by (OnePut open_run all p is) (inr room) = subst IsWithin (sym is) (within-put r.journal t.entry p.none within room)

  pub begins_now : AreRead config_in r'.journal → Begins text (told r) r.records false (line ++ (10 ∷ behind)) → Begins text (told r') r'.records false behind
  begins_now read b = record {
    run = run_more (told r) (told r') r.records r'.records t.entry (told_has r stands) t.journal b.run (subst (λ l. Lawful l r'.records) (sym (opened_told r' t.stands)) t.stands.lawful) (told_read r' read);
    room = subst IsWithin (sym (opened_told r' t.stands)) (within_now (subst IsWithin (opened_told r stands) b.room));
    ends = λ bad. absurd (true-false (sym bad));
    text_is = behind_trace text (trace_text (told r) false) line behind (trace_line (names (told r)) t.entry) b.text_is (t.line_is ∙ told_line r t.entry stands (told_behind r r' t.entry stands t.stands t.journal))
        ∙ (λ i. sym (trace-more names (told r) t.entry) i ++ behind) ∙ (λ i. trace_text (sym t.journal i) false ++ behind);
  }

  module _ (o o' o'' e e' e'' : Option Text) (at : IsAt text (told r) r.records false (line ++ (10 ∷ behind)) o o' e e') (read : AreRead config_in r'.journal) where
    pub entry_taken : Takes o' (call_text_of r'.records (told r) t.entry) o'' → Takes e' (error_text_of t.entry) e'' → IsAt text (told r') r'.records false behind o o'' e e''
    entry_taken calls errors = record {
      begins = begins_now read at.begins;
      calls_taken = subst (λ z. Takes o z o'') (sym calls_now) (Takes-Takes o o' o'' _ _ at.calls_taken calls);
      errors_taken = subst (λ z. Takes e z e'') (sym errors_now) (Takes-Takes e e' e'' _ _ at.errors_taken errors);
    }

    pub entry_cut : (end : FrontEnd) (s : Status) → IsCutShort s → IsFrontTaken o' (call_text_of r'.records (told r) t.entry) o'' → IsFrontTaken e' (error_text_of t.entry) e''
        → Judged text end s (λ z. IsTaken s z o o'') (λ z. IsTaken s z e e'')
    entry_cut end s cut calls errors = record {
      journal = told r';
      records = r'.records;
      ended = false;
      left = behind;
      begins = begins_now read at.begins;
      status_is = cut_status text end (told r') r'.records false behind s cut;
      calls = subst (λ z. IsTaken s z o o'') (sym calls_now) (front_taken s _ _ o o' o'' cut at.calls_taken calls);
      errors = subst (λ z. IsTaken s z e e'') (sym errors_now) (front_taken s _ _ e e' e'' cut at.errors_taken errors);
    }

-- ---- further lines

pub at_same : (text : Text) (r r' : Reached) (b b' : Bool) (left : Text) (o o' e e' : Option Text) → r' ≡ r → b' ≡ b → IsAt text (told r) r.records b left o o' e e' → IsAt text (told r') r'.records b' left o o' e e'
at_same text r r' b b' left o o' e e' same closed at =
    subst (λ (z : Bool). IsAt text (told r') r'.records z left o o' e e') (sym closed) (subst (λ (z : Reached). IsAt text (told z) z.records b left o o' e e') (sym same) at)

pub ready_ended : (r r' : Reached) (spent spent' : Bool) (lines : ℕ) → r' ≡ r → spent' ≡ false → IsReady r spent false lines → IsReady r' spent' true (lines + 1)
ready_ended r r' spent spent' lines same usable h =
    let n = ap (λ (z : Reached). length (told z)) same in
    let m = h.counted in
    let counted : lines + 1 ≡ line_count (told r') true = omega (arith, n, m) in
    let room = subst (λ (z : Reached). IsWithin z.journal) (sym same) h.room in
    record { usable = usable; stands = subst Stands (sym same) h.stands; counted = counted; few = few_lines r' true (lines + 1) counted room; room = room }

pub ready_taken : (line : Text) (r r' : Reached) (spent spent' : Bool) (lines : ℕ) → TakesEntry line r r' → spent' ≡ false → IsReady r spent false lines → IsReady r' spent' false (lines + 1)
ready_taken line r r' spent spent' lines t usable h =
    let n = ap length t.journal ∙ length-append (told r) (t.entry ∷ []) in
    let m = h.counted in
    let counted : lines + 1 ≡ line_count (told r') false = omega (arith, n, m) in
    let room = within_now [] line [] r r' t h.stands h.room in
    record { usable = usable; stands = t.stands; counted = counted; few = few_lines r' false (lines + 1) counted room; room = room }

-- what the core says of a line that it took
pub end_of : (line : Text) (r r' : Reached) (b : Bool) → b ≡ true → Answers config_in line r r' (Ok b) → IsEnd (told r) r.records line × (r' ≡ r)
end_of line r r' b is h = subst (λ (z : Bool). Answers config_in line r r' (Ok z)) is h

pub entry_of : (line : Text) (r r' : Reached) (b : Bool) → b ≡ false → Answers config_in line r r' (Ok b) → TakesEntry line r r'
entry_of line r r' b is h = subst (λ (z : Bool). Answers config_in line r r' (Ok z)) is h

-- ---- a line that the core did not take

-- where an Again is due, the line of what stands next is its
again_due : (r : Reached) (line : Text) (x : Entry) (rs' : Records) → Stands r → ends_segment (told r) ≡ true → GoesOn (told r) line x rs' → IsAgainDue r line
again_due r line x rs' stands ends goes =
    let due = told_ends r stands ends in
    let last = again_of_told r stands due in
    let front = told_front r stands due in
    let next = is_next (told r) line x rs' (told_has r stands) goes in
    let again : x ≡ again_of (told r) = again-behind (told r) x ends (behind-of (told r) x (told_has r stands) next.lawful.right.journal.entries) in
    record {
      due = due;
      entry = x;
      is = last.is ∙ (λ i. more (sym front i) (again_of (sym front i))) ∙ (λ i. more (told r) (sym again i));
      line_is = next.line_is ∙ sym (told_line r x stands (behind-of (told r) x (told_has r stands) next.lawful.right.journal.entries));
    }

-- what was told ends with a Restart where an Again is due
told_due : (r : Reached) → Stands r → r.again ≡ true → ends_segment (told r) ≡ true
told_due r stands due = (λ i. ends_segment (told_front r stands due i)) ∙ (again_of_told r stands due).ends

-- an Again reads no text
again_read : (d : Journal) (x : Entry) → x ≡ again_of d → IsReadEntry config_in x
again_read d x is = subst (IsReadEntry config_in) (sym is) tt

-- and the other way round
due_next : (r : Reached) (line : Text) → Stands r → IsAgainDue r line → (x : Entry) × (rs' : Records) × IsNext config_in (told r) line x rs'
due_next r line stands d =
    let whole : r.journal ≡ opened (more (told r) d.entry) = sym (opened_on r.journal stands.lawful.right.journal.opened) ∙ ap opened d.is in
    let due : ends_segment (told r) ≡ true = told_due r stands d.due in
    let behind : IsBehind (told r) d.entry = behind-of (told r) d.entry (told_has r stands) (subst AreEntries whole stands.lawful.right.journal.entries) in (
      d.entry,
      r.records,
      record {
        lawful = subst (λ l. Lawful l r.records) whole stands.lawful;
        read_is = again_read (told r) d.entry (again-behind (told r) d.entry due behind);
        line_is = d.line_is ∙ told_line r d.entry stands behind;
      },
    )

module _ (line behind : Text) (r : Reached) (stands : Stands r) (one : is_one_line line ≡ true) where
  -- a line that is refused had room
  room_there : (HasNoRoomFor line r → ⊥) → (IsEnd (told r) r.records line → ⊥) → IsNoNext config_in (told r) line → HasNoRoom (told r) (line ++ (10 ∷ behind)) → ⊥
  room_there room unended no_next (inl full) =
      room (inl (subst IsFullJournal (opened_told r stands) full, unended, (λ due. let next = due_next r line stands due in no_next next.0 next.1 next.2)))
  room_there room unended no_next (inr cannot) =
      let n = cannot.1 in
      let same : line ≡ n.line = same_cut line behind n.line n.behind one n.cuts in
      no_next n.entry n.records (is_next (told r) line n.entry n.records (told_has r stands) (subst (λ l. GoesOn (told r) l n.entry n.records) (sym same) n.goes_on))

  -- where there is no room, there is none for the file's next line, which is neither the end line nor that of an Again that is due
  no_room_there : IsRun (told r) r.records → HasNoRoomFor line r → HasNoRoom (told r) (line ++ (10 ∷ behind))
  no_room_there run (inl full) = inl (subst IsFullJournal (sym (opened_told r stands)) full.0)
  no_room_there run (inr cannot) =
      let n = cannot.1 in
      inr (
        subst CannotRestart (sym (opened_told r stands)) cannot.0,
        record {
          line = line;
          behind = behind;
          cuts = record { text_is = refl; one_line = one };
          entry = n.entry;
          records = n.records;
          restarts = n.restarts;
          goes_on = goes_next (told r) line r.records n.entry n.records (told_has r stands) run (record { lawful = n.next.lawful; read_is = restart-read config_in n.entry n.restarts; line_is = n.next.line_is });
        },
      )

  no_end_there : HasNoRoomFor line r → IsEnd (told r) r.records line → ⊥
  no_end_there (inl full) end = full.1 end
  no_end_there (inr cannot) end = no_end (names (told r)) cannot.1.entry (length (told r)) (sym cannot.1.next.line_is ∙ end.line_is)

  no_again_there : HasNoRoomFor line r → (x : Entry) (rs' : Records) → ends_segment (told r) ≡ true → GoesOn (told r) line x rs' → ⊥
  no_again_there (inl full) x rs' ends goes = full.2 (again_due r line x rs' stands ends goes)
  no_again_there (inr cannot) x rs' ends goes =
      let n = cannot.1 in
      let again : n.entry ≡ again_of (told r) = again-behind (told r) n.entry ends (behind-of (told r) n.entry (told_has r stands) n.next.lawful.right.journal.entries) in
      true-false (sym n.restarts ∙ ap is_restart again)

module _ (text line behind : Text) (end : FrontEnd) (r r' : Reached) (lines : ℕ) (o o' e e' : Option Text) where
  pub not_taken : is_one_line line ≡ true → IsAt text (told r) r.records false (line ++ (10 ∷ behind)) o o' e e' → Stands r → lines ≡ line_count (told r) false
      → (fault : TraceFault) → Answers config_in line r r' (Err fault)
      → (s : Status) → (fault ≡ TraceFault.Refused → s ≡ Status.TraceRefused (lines + 1)) → (fault ≡ TraceFault.Full → s ≡ Status.JournalFull) → (fault ≡ TraceFault.Memory → s ≡ Status.Memory)
      → Judged text end s (λ t. IsTaken s t o o') (λ t. IsTaken s t e e')
  not_taken one at stands counted TraceFault.Refused never s refused full memory =
      line_refused text line behind end (told r) r.records lines o o' e e' one at counted (room_there line behind r stands one never.0 never.1 never.2)
      (follows (told r) r.records line (told_has r stands) never.1 never.2) s (refused refl)
  not_taken one at stands counted TraceFault.Full never s refused full memory =
      journal_full text line behind end (told r) r.records lines o o' e e' one at (no_room_there line behind r stands one at.begins.run never) (no_end_there line behind r stands one never)
      (no_again_there line behind r stands one never) s (full refl)
  not_taken one at stands counted TraceFault.Memory never s refused full memory =
      judged_here text end (told r) r.records false (line ++ (10 ∷ behind)) o o' e e' at s (cut_status text end (told r) r.records false (line ++ (10 ∷ behind)) s (subst IsCutShort (sym (memory refl)) tt))

-- ---- the first line

-- the journal of a first entry alone is lawful, and has no closing step
first_stands : (first : Entry) (rs : Records) → IsFirst first → Right (first ∷ []) rs → Stands (reached (first ∷ []) rs false false)
first_stands (Boot text config stored start zone carry) rs is right =
    record { lawful = record { right = right; turns = (tt, tt); closed = (tt, tt) }; closing = (tt, tt); again = λ bad. absurd (true-false (sym bad)) }
first_stands (Again number start stored carry) rs is right = absurd is
first_stands (Line source number cmd) rs is right = absurd is
first_stands (Step worker serial branch item) rs is right = absurd is

first_read : (first : Entry) → IsFirst first → AreRead config_in (first ∷ [])
first_read (Boot text config stored start zone carry) is = (tt, tt)
first_read (Again number start stored carry) is = absurd is
first_read (Line source number cmd) is = absurd is
first_read (Step worker serial branch item) is = absurd is

first_within : (first : Entry) → IsFirst first → IsWithin (first ∷ [])
first_within (Boot text config stored start zone carry) is = record { segment_room = (omega arith, tt); room = omega arith; segments_room = omega arith }
first_within (Again number start stored carry) is = absurd is
first_within (Line source number cmd) is = absurd is
first_within (Step worker serial branch item) is = absurd is

pub booted_ready : (line : Text) (j : Journal) (rs : Records) (spent : Bool) → IsBooted line j rs → spent ≡ false → IsReady (reached j rs false false) spent false 1
booted_ready line j rs spent b usable =
    let n = ap length b.journal in
    record {
      usable = usable;
      stands = subst (λ (l : Journal). Stands (reached l rs false false)) (sym b.journal) (first_stands b.first rs b.is_first (subst (λ l. Right l rs) b.journal b.right));
      counted = omega (arith, n);
      few = omega arith;
      room = subst IsWithin (sym b.journal) (first_within b.first b.is_first);
    }

no_calls : (first : Entry) (rs : Records) → IsFirst first → call_text (first ∷ []) rs ≡ []
no_calls (Boot text config stored start zone carry) rs is = refl
no_calls (Again number start stored carry) rs is = absurd is
no_calls (Line source number cmd) rs is = absurd is
no_calls (Step worker serial branch item) rs is = absurd is

no_errors : (first : Entry) → IsFirst first → error_text (first ∷ []) ≡ []
no_errors (Boot text config stored start zone carry) is = refl
no_errors (Again number start stored carry) is = absurd is
no_errors (Line source number cmd) is = absurd is
no_errors (Step worker serial branch item) is = absurd is

pub booted_at : (text line behind : Text) (j : Journal) (rs : Records) (o e : Option Text) → IsBooted line j rs → Cuts text line behind → IsAt text j rs false behind o o e e
booted_at text line behind j rs o e b cuts =
    let first = b.first in
    let right : Right (first ∷ []) rs = subst (λ l. Right l rs) b.journal b.right in
    let one : opened (first ∷ []) ≡ first ∷ [] = opened_on (first ∷ []) right.journal.opened in
    subst (λ l. IsAt text l rs false behind o o e e) (sym b.journal) (record {
      begins = record {
        run = (b.is_first, subst (λ l. Lawful l rs) (sym one) (first_stands first rs b.is_first right).lawful, first_read first b.is_first);
        room = subst IsWithin (sym one) (first_within first b.is_first);
        ends = λ bad. absurd (true-false (sym bad));
        text_is = behind_trace text [] line behind (trace_line (names []) first) cuts.text_is b.line_is
            ∙ ap (λ z. z ++ behind) (sym (append-nil (trace_line (names []) first)) ∙ sym (append-nil (trace_line (names []) first ++ [])));
      };
      calls_taken = subst (λ t. Takes o t o) (sym (no_calls first rs b.is_first)) (Takes-nothing o);
      errors_taken = subst (λ t. Takes e t e) (sym (no_errors first b.is_first)) (Takes-nothing e);
    })

-- ---- several lines

pub no_longer : (left line behind : Text) → Cuts left line behind → length behind < length left
no_longer left line behind cuts = (let n = ap length cuts.text_is in omega (arith, n, length-append line (10 ∷ behind)))

pub line_within : (left line behind : Text) (most : ℕ) → Cuts left line behind → length left ≤ most → length line ≤ most
line_within left line behind most cuts low = (let n = ap length cuts.text_is in omega (arith, n, low, length-append line (10 ∷ behind)))

-- there is room for a first line
pub room_first : (left : Text) → HasNoRoom [] left → ⊥
room_first left (inl full) = none_full full
room_first left (inr cannot) = first_plain cannot.1.entry cannot.1.goes_on.run.0 cannot.1.restarts

-- the first line was refused
pub unbooted_judged : (text line behind : Text) (end : FrontEnd) (o e : Option Text) → Cuts text line behind → (fault : TraceFault) → IsUnbooted line fault
    → (s : Status) → (fault ≡ TraceFault.Refused → s ≡ Status.TraceRefused (0 + 1)) → (fault ≡ TraceFault.Memory → s ≡ Status.Memory) → Judged text end s (λ t. IsTaken s t o o) (λ t. IsTaken s t e e)
unbooted_judged text line behind end o e cuts TraceFault.Refused never s refused memory =
    let all : Text = line ++ (10 ∷ behind) in
    subst (λ (z : Text). Judged z end s (λ t. IsTaken s t o o) (λ t. IsTaken s t e e)) (sym cuts.text_is)
    (line_refused all line behind end [] [] 0 o o e e cuts.one_line (nothing_at all o e) refl (room_first all) never s (refused refl))
unbooted_judged text line behind end o e cuts TraceFault.Full never s refused memory = absurd never
unbooted_judged text line behind end o e cuts TraceFault.Memory never s refused memory =
    judged_here text end [] [] false text o o e e (nothing_at text o e) s (cut_status text end [] [] false text s (subst IsCutShort (sym (memory refl)) tt))

pub left_as : (text left left' : Text) (j : Journal) (rs : Records) (ended : Bool) (o o' e e' : Option Text) → left ≡ left' → IsAt text j rs ended left o o' e e' → IsAt text j rs ended left' o o' e e'
left_as text left left' j rs ended o o' e e' same at = subst (λ z. IsAt text j rs ended z o o' e e') same at
