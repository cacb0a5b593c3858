-- A text that goes no further: what a line that is not taken, or the end of the bytes, makes of what was found so far.
use Rattle.std.proofs.Common.{◌≡◌, ◌≢◌, ◌∙◌, ap, sym, subst, refl, ℕ, suc, ◌+◌, inl, inr, [], ◌∷◌, ◌++◌, take, drop, length, Bool, true, false, arith, append_assoc, append-nil}
use Rattle.std.proofs.lemmas.Bool.Decides.{nat_tests}
use Rattle.std.specs.Prelude.{◌&&◌, ◌==◌, Option, Some}
use Rattle.std.specs.List.{list_all}
use Rattle.std.proofs.lemmas.List.{nil_from_length, take-append-drop}
use Rattle.std.proofs.lemmas.List.Folds.{list_all-append}
use Rattle.ha_io.specs.Told.{Takes}
use Rattle.ha_io.specs.Whole.{IsFrontTaken}
use Rattle.ha_io.proofs.ToldLemmas.{Takes-Takes, Takes-nothing}
use Rattle.ha_journal.specs.declared.entry.Entry.{Entry}
use Rattle.ha_config.specs.Words.{Text}
use Rattle.ha_journal.specs.Commands.{AreRead}
use Rattle.ha_journal.specs.Journal.{HasEntry, Journal, more}
use Rattle.ha_model.specs.Records.{Records}
use Rattle.ha_journal.specs.EntryText.{error_text}
use Rattle.ha_model.proofs.ReadLaws.{read-more}
use Rattle.conf_auto.specs.Config.{config_in}
use Rattle.ha_config.proofs.ListLemmas.{true-false}
use Rattle.ha_whole.specs.Trace.{call_text, trace_text}
use Rattle.ha_whole.specs.Whole.{IsFull as IsFullJournal, IsWithin, Lawful, ends_segment, opened, put}
use Rattle.ha_status.specs.declared.status.Status.{Status}
use Rattle.ha_replay.specs.Traces.{IsEnd, IsNext, IsNoNext}
use Rattle.replay_file.specs.declared.front.FrontEnd.{FrontEnd}
use Rattle.trace_laws.specs.Lines.{Cuts, is_one_line}
use Rattle.trace_laws.specs.Runs.{Begins, GoesOn, IsRun, MayFollow, line_count}
use Rattle.trace_laws.specs.Tells.{GoesNoFurther, HasNoAgain, HasNoEnd, HasNoRoom, IsFarthest, IsNoTrace}
use Rattle.trace_laws.proofs.CutLemmas.{no_feed, one_cut}
use Rattle.trace_laws.proofs.EntryLemmas.{no_end}
use Rattle.trace_laws.proofs.RunLemmas.{full_further, no_further, no_trace, read_next}
use Rattle.replay_file.specs.Fronts.{IsFrontOf}
use Rattle.replay_file.specs.Judged.{IsAt, IsCutShort, IsFull, IsJudged, IsRefused, IsStatusOf, IsTaken, Judged, OfFile}

-- ---- lines

and_false : (b : Bool) → (b && false) ≡ false
and_false true = refl
and_false false = refl

pub has_line : (line behind : Text) → is_one_line (line ++ (10 ∷ behind)) ≡ false
has_line line behind = list_all-append no_feed line (10 ∷ behind) ∙ and_false (list_all no_feed line)

pub is_left : (line behind : Text) → line ++ (10 ∷ behind) ≢ []
is_left line behind e = true-false (sym (ap is_one_line e) ∙ has_line line behind)

pub same_cut : (line behind line' behind' : Text) → is_one_line line ≡ true → Cuts (line ++ (10 ∷ behind)) line' behind' → line ≡ line'
same_cut line behind line' behind' one cuts = (one_cut line behind line' behind' one cuts.one_line cuts.text_is).0

pub empty_is : (text : Text) (r : Bool) → r ≡ (length text == 0) → r ≡ true → text ≡ []
empty_is text r is yes_it_is = nil_from_length text (let none : (length text == 0) ≡ true = sym is ∙ yes_it_is in grind (arith, nat_tests))

-- a text without an LF has no whole line
pub no_cut : (left line behind : Text) → is_one_line left ≡ true → Cuts left line behind → ⊥
no_cut left line behind one cuts = true-false (sym one ∙ ap is_one_line cuts.text_is ∙ has_line line behind)

-- ---- runs

has_more : (j : Journal) (x : Entry) → HasEntry (more j x)
has_more [] x = tt
has_more (first ∷ behind) x = tt

-- one more entry, with which the journal is lawful, opened where it is a Restart, and read
pub run_more : (j k : Journal) (rs rs' : Records) (x : Entry) → HasEntry j → k ≡ more j x → IsRun j rs → Lawful (opened k) rs' → AreRead config_in k → IsRun k rs'
run_more [] k rs rs' x h e run lawful read = absurd h
run_more (first ∷ behind) k rs rs' x h e run lawful read =
    subst (λ l. IsRun l rs') (sym e) (run.0, subst (λ l. Lawful (opened l) rs') e lawful, subst (AreRead config_in) e read)

lawful_next : (j : Journal) (x : Entry) (rs : Records) → HasEntry j → IsRun (more j x) rs → Lawful (put j x) rs
lawful_next [] x rs h run = absurd h
lawful_next (first ∷ behind) x rs h run = run.1

run_read : (j : Journal) (rs : Records) → HasEntry j → IsRun j rs → AreRead config_in j
run_read [] rs h run = absurd h
run_read (first ∷ behind) rs h run = run.2

-- a run goes on with the entry of a line that is the next one
pub is_next : (j : Journal) (line : Text) (x : Entry) (rs : Records) → HasEntry j → GoesOn j line x rs → IsNext config_in j line x rs
is_next j line x rs h g = record { lawful = lawful_next j x rs h g.run; read_is = read_next j x rs h g.run; line_is = g.line_is }

pub goes_next : (j : Journal) (line : Text) (rs : Records) (x : Entry) (rs' : Records) → HasEntry j → IsRun j rs → IsNext config_in j line x rs' → GoesOn j line x rs'
goes_next j line rs x rs' h run next = record {
  run = run_more j (more j x) rs rs' x h refl run next.lawful (read-more config_in j x (run_read j rs h run) next.read_is);
  line_is = next.line_is;
}

-- a line that may follow is the next lawful entry's, or the end
pub follows : (j : Journal) (rs : Records) (line : Text) → HasEntry j → (IsEnd j rs line → ⊥) → IsNoNext config_in j line → MayFollow j rs line → ⊥
follows j rs line h no_end no_next (inl end) = no_end end.1
follows j rs line h no_end no_next (inr next) = no_next next.0 next.1 (is_next j line next.0 next.1 h next.2)

-- ---- what is written

pub whole_taken : (s : Status) (t : Text) (a b : Option Text) → Takes a t b → IsTaken s t a b
whole_taken s t a b took = record { rest = []; took = record { front = t; text_is = sym (append-nil t); took = took }; all = inr refl }

pub front_taken : (s : Status) (t u : Text) (a b c : Option Text) → IsCutShort s → Takes a t b → IsFrontTaken b u c → IsTaken s (t ++ u) a c
front_taken s t u a b c cut took front = record {
  rest = drop front.0 u;
  took = record {
    front = t ++ take front.0 u;
    text_is = ap (λ z. t ++ z) (sym (take-append-drop front.0 u)) ∙ sym (append_assoc t (take front.0 u) (drop front.0 u));
    took = Takes-Takes a b c t (take front.0 u) took front.1.1;
  };
  all = inl cut;
}

-- ---- a text that goes no further

-- what a file has behind what was read of it: nothing, where it was read whole
front_rest : (text : Text) (end : FrontEnd) (bytes : Text) → IsFrontOf text end bytes → (rest : Text) × (bytes ≡ text ++ rest) × (end ≡ FrontEnd.Whole → rest ≡ [])
front_rest text FrontEnd.Whole bytes is = ([], is ∙ sym (append-nil text), λ _. refl)
front_rest text FrontEnd.Failed bytes is = (is.0, is.1, λ bad. absurd cc)
front_rest text FrontEnd.TooLong bytes is = (is.1.0, is.1.2, λ bad. absurd cc)

begins_more : (text rest bytes : Text) (j : Journal) (rs : Records) (ended : Bool) (left : Text) → bytes ≡ text ++ rest → Begins text j rs ended left → Begins bytes j rs ended (left ++ rest)
begins_more text rest bytes j rs ended left e b = record {
  run = b.run;
  room = b.room;
  ends = b.ends;
  text_is = e ∙ ap (λ z. z ++ rest) b.text_is ∙ append_assoc (trace_text j ended) left rest;
}

-- there is none either with what the file has behind it
room_behind : (j : Journal) (left rest : Text) → HasNoRoom j left → HasNoRoom j (left ++ rest)
room_behind j left rest (inl full) = inl full
room_behind j left rest (inr cannot) =
    let n = cannot.1 in
    inr (
      cannot.0,
      record {
        line = n.line;
        behind = n.behind ++ rest;
        cuts = record { text_is = ap (λ z. z ++ rest) n.cuts.text_is ∙ append_assoc n.line (10 ∷ n.behind) rest; one_line = n.cuts.one_line };
        entry = n.entry;
        records = n.records;
        restarts = n.restarts;
        goes_on = n.goes_on;
      },
    )

module _ (text : Text) (end : FrontEnd) (j : Journal) (rs : Records) (ended : Bool) (left : Text) (begins : Begins text j rs ended left) where
  -- what is left, whatever the file has behind it
  abbrev OfRest : (Text → Type 0) → Type 0
  OfRest P = (rest : Text) → (end ≡ FrontEnd.Whole → rest ≡ []) → P (left ++ rest)

  stops_there : OfRest (GoesNoFurther j rs ended) → OfFile text end (λ bytes. IsFarthest bytes (line_count j ended))
  stops_there stops bytes is =
      let f = front_rest text end bytes is in
      no_further bytes j rs ended (left ++ f.0) (begins_more text f.0 bytes j rs ended left f.1 begins) (stops f.0 f.2)

  is_full_there : OfRest (HasNoRoom j) → OfRest (HasNoEnd j rs) → OfRest (HasNoAgain j) → OfFile text end (λ bytes. IsFarthest bytes (line_count j ended))
  is_full_there full no_end no_again bytes is =
      let f = front_rest text end bytes is in
      full_further bytes j rs ended (left ++ f.0) (begins_more text f.0 bytes j rs ended left f.1 begins) (full f.0 f.2) (no_end f.0 f.2) (no_again f.0 f.2)

  is_none : OfRest (λ after. ended ≡ true → after ≢ []) → OfFile text end (λ bytes. IsFarthest bytes (line_count j ended)) → OfFile text end IsNoTrace
  is_none unfinished far bytes is =
      let f = front_rest text end bytes is in
      no_trace bytes j rs ended (left ++ f.0) (begins_more text f.0 bytes j rs ended left f.1 begins) (unfinished f.0 f.2) (far bytes is)

  refused_there : (line : ℕ) → line ≡ suc (line_count j ended) → IsJudged end left → (ended ≡ false → HasNoRoom j left → ⊥) → OfRest (λ after. ended ≡ true → after ≢ []) → OfRest (GoesNoFurther j rs ended)
      → IsRefused text end j rs ended left line
  refused_there line is judged room unfinished stops = (let far = stops_there stops in record { line_is = is; judged = judged; room = room; farthest = far; no_trace = is_none unfinished far })

  -- no room for what stands next, and neither the end line nor that of an Again is left
  full_there : ended ≡ false → HasNoRoom j left → OfRest (HasNoEnd j rs) → OfRest (HasNoAgain j) → IsJudged end left → IsFull text end j ended left
  full_there open_run full no_end no_again judged =
      let far = is_full_there (λ rest nothing. room_behind j left rest full) no_end no_again in
      record {
        unended = open_run;
        full = full;
        judged = judged;
        farthest = far;
        no_trace = is_none (λ rest nothing bad. absurd (true-false (sym bad ∙ open_run))) far;
      }

-- where a whole text has no whole line left, none is left with what the file has behind it
no_cut_behind : (left rest line behind : Text) → rest ≡ [] → is_one_line left ≡ true → Cuts (left ++ rest) line behind → ⊥
no_cut_behind left rest line behind nothing one cuts = no_cut left line behind one (subst (λ z. Cuts z line behind) (ap (λ z. left ++ z) nothing ∙ append-nil left) cuts)

-- a line that is left is so with what the file has behind it
same_cut_behind : (line behind rest line' behind' : Text) → is_one_line line ≡ true → Cuts ((line ++ (10 ∷ behind)) ++ rest) line' behind' → line ≡ line'
same_cut_behind line behind rest line' behind' one cuts = same_cut line (behind ++ rest) line' behind' one (subst (λ z. Cuts z line' behind') (append_assoc line (10 ∷ behind) rest) cuts)

-- the text as it stands, for a status
module _ (text : Text) (end : FrontEnd) (j : Journal) (rs : Records) (ended : Bool) (left : Text) (o o' e e' : Option Text) (at : IsAt text j rs ended left o o' e e') where
  pub judged_here : (s : Status) → IsStatusOf text end j rs ended left s → Judged text end s (λ t. IsTaken s t o o') (λ t. IsTaken s t e e')
  judged_here s is = record {
    journal = j;
    records = rs;
    ended = ended;
    left = left;
    begins = at.begins;
    status_is = is;
    calls = whole_taken s (call_text j rs) o o' at.calls_taken;
    errors = whole_taken s (error_text j) e e' at.errors_taken;
  }

  -- ---- no whole line is left

  pub read_failed : end ≡ FrontEnd.Failed → is_one_line left ≡ true → Judged text end (Status.ReadFault (Some 0)) (λ t. IsTaken (Status.ReadFault (Some 0)) t o o') (λ t. IsTaken (Status.ReadFault (Some 0)) t e e')
  read_failed is one = judged_here (Status.ReadFault (Some 0)) (refl, is, one)

  pub too_long : end ≡ FrontEnd.TooLong → is_one_line left ≡ true → Judged text end (Status.SourceTooLong 0) (λ t. IsTaken (Status.SourceTooLong 0) t o o') (λ t. IsTaken (Status.SourceTooLong 0) t e e')
  too_long is one = judged_here (Status.SourceTooLong 0) (refl, is, one)

  pub finished : end ≡ FrontEnd.Whole → ended ≡ true → left ≡ [] → Judged text end Status.Ok (λ t. IsTaken Status.Ok t o o') (λ t. IsTaken Status.Ok t e e')
  finished is closed none = judged_here Status.Ok (is, closed, none)

  pub full_at_end : end ≡ FrontEnd.Whole → ended ≡ false → IsFullJournal (opened j) → is_one_line left ≡ true
      → Judged text end Status.JournalFull (λ t. IsTaken Status.JournalFull t o o') (λ t. IsTaken Status.JournalFull t e e')
  full_at_end is unended full one = judged_here Status.JournalFull
      (full_there text end j rs ended left at.begins unended (inl full) (λ rest nothing line behind cuts. absurd (no_cut_behind left rest line behind (nothing is) one cuts))
      (λ rest nothing line behind x rs' cuts. absurd (no_cut_behind left rest line behind (nothing is) one cuts)) (inr is))

  pub refused_at_end : (lines : ℕ) → end ≡ FrontEnd.Whole → (ended ≡ true → left ≢ []) → (ended ≡ false → IsFullJournal (opened j) → ⊥) → is_one_line left ≡ true → lines ≡ line_count j ended
      → (s : Status) → s ≡ Status.TraceRefused (lines + 1) → Judged text end s (λ t. IsTaken s t o o') (λ t. IsTaken s t e e')
  refused_at_end lines is unfinished room one counted s same = judged_here s (subst (IsStatusOf text end j rs ended left) (sym same)
      (refused_there text end j rs ended left at.begins (lines + 1) (omega (arith, counted)) (inr is) (λ open_run. has_room (room open_run))
      (λ rest nothing closed none. unfinished closed (sym (ap (λ z. left ++ z) (nothing is) ∙ append-nil left) ∙ none))
      (λ rest nothing line behind cuts. absurd (no_cut_behind left rest line behind (nothing is) one cuts))))
    where
      has_room : (IsFullJournal (opened j) → ⊥) → HasNoRoom j left → ⊥
      has_room room (inl full) = room full
      has_room room (inr cannot) = no_cut left cannot.1.line cannot.1.behind one cannot.1.cuts

-- ---- a line that is not taken

module _ (text line behind : Text) (end : FrontEnd) (j : Journal) (rs : Records) (lines : ℕ) (o o' e e' : Option Text) (one : is_one_line line ≡ true) where
  abbrev left : Text
  left = line ++ (10 ∷ behind)

  pub line_refused : IsAt text j rs false left o o' e e' → lines ≡ line_count j false → (HasNoRoom j (line ++ (10 ∷ behind)) → ⊥) → (MayFollow j rs line → ⊥)
      → (s : Status) → s ≡ Status.TraceRefused (lines + 1) → Judged text end s (λ t. IsTaken s t o o') (λ t. IsTaken s t e e')
  line_refused at counted room never s same = judged_here text end j rs false left o o' e e' at s (subst (IsStatusOf text end j rs false left) (sym same)
      (refused_there text end j rs false left at.begins (lines + 1) (omega (arith, counted)) (inl (has_line line behind)) (λ _. room) (λ rest nothing bad. absurd (true-false (sym bad)))
      (λ rest nothing line' behind' cuts. inr (λ m. never (subst (MayFollow j rs) (sym (same_cut_behind line behind rest line' behind' one cuts)) m)))))

  pub behind_end : IsAt text j rs true left o o' e e' → lines ≡ line_count j true
      → (s : Status) → s ≡ Status.TraceRefused (lines + 1) → Judged text end s (λ t. IsTaken s t o o') (λ t. IsTaken s t e e')
  behind_end at counted s same = judged_here text end j rs true left o o' e e' at s (subst (IsStatusOf text end j rs true left) (sym same)
      (refused_there text end j rs true left at.begins (lines + 1) (omega (arith, counted)) (inl (has_line line behind)) (λ bad. absurd (true-false bad))
      (λ rest nothing _ none. is_left line (behind ++ rest) (sym (append_assoc line (10 ∷ behind) rest) ∙ none)) (λ rest nothing line' behind' cuts. inl refl)))

  pub journal_full : IsAt text j rs false left o o' e e' → HasNoRoom j (line ++ (10 ∷ behind)) → (IsEnd j rs line → ⊥) → ((x : Entry) (rs' : Records) → ends_segment j ≡ true → GoesOn j line x rs' → ⊥)
      → (s : Status) → s ≡ Status.JournalFull → Judged text end s (λ t. IsTaken s t o o') (λ t. IsTaken s t e e')
  journal_full at full no_end no_again s same = judged_here text end j rs false left o o' e e' at s (subst (IsStatusOf text end j rs false left) (sym same)
      (full_there text end j rs false left at.begins refl full (λ rest nothing line' behind' cuts is. no_end (subst (IsEnd j rs) (sym (same_cut_behind line behind rest line' behind' one cuts)) is))
      (λ rest nothing line' behind' x rs' cuts ends goes. no_again x rs' ends (subst (λ l. GoesOn j l x rs') (sym (same_cut_behind line behind rest line' behind' one cuts)) goes))
      (inl (has_line line behind))))

none_within : IsWithin []
none_within = record { segment_room = (omega arith, tt); room = omega arith; segments_room = omega arith }

-- nothing was taken yet
pub nothing_at : (text : Text) (o e : Option Text) → IsAt text [] [] false text o o e e
nothing_at text o e = record {
  begins = record { run = refl; room = none_within; ends = λ bad. absurd (true-false (sym bad)); text_is = refl };
  calls_taken = Takes-nothing o;
  errors_taken = Takes-nothing e;
}

-- a command that was cut short may end so at any line
pub cut_status : (text : Text) (end : FrontEnd) (j : Journal) (rs : Records) (ended : Bool) (rest : Text) (s : Status) → IsCutShort s → IsStatusOf text end j rs ended rest s
cut_status text end j rs ended rest (Status.WriteFault zero) cut = tt
cut_status text end j rs ended rest Status.Memory cut = tt
cut_status text end j rs ended rest Status.Ok cut = absurd cut
cut_status text end j rs ended rest Status.Usage cut = absurd cut
cut_status text end j rs ended rest (Status.ConfigRefused line code) cut = absurd cut
cut_status text end j rs ended rest (Status.OpenFault name) cut = absurd cut
cut_status text end j rs ended rest (Status.ReadFault source) cut = absurd cut
cut_status text end j rs ended rest Status.KeepFault cut = absurd cut
cut_status text end j rs ended rest Status.JournalFull cut = absurd cut
cut_status text end j rs ended rest (Status.SourceTooLong source) cut = absurd cut
cut_status text end j rs ended rest (Status.StoreRefused code) cut = absurd cut
cut_status text end j rs ended rest (Status.TraceRefused line) cut = absurd cut
