-- The trace of a run is what a replay takes, and its calls are the run's.
use Rattle.std.proofs.Common.{◌≡◌, ◌∙◌, ap, refl, sym, subst, inl, inr, true, Bool, List, [], map, append-nil}
use Rattle.std.proofs.lemmas.Str.{is_utf8-from_IsUtf8}
use Rattle.std.specs.Prelude.{Option, Some, None, IfSome, IsSomeAnd, if◌then◌else◌}
use Rattle.ha_config.specs.Words.{Text}
use Rattle.ha_config.proofs.OrderLemmas.{moments-kept, moments-named}
use Rattle.ha_journal.specs.Commands.{AreRead}
use Rattle.ha_journal.specs.Journal.{HasEntry, Journal, more}
use Rattle.ha_whole.specs.Trace.{call_text, trace_text}
use Rattle.ha_whole.specs.Whole.{IsWithin, Lawful, again_of, opened}
use Rattle.ha_model.specs.Records.{Records}
use Rattle.ha_journal.specs.EntryText.{error_text}
use Rattle.bus_turn.specs.Buses.{HasTaken}
use Rattle.bus_turn.specs.States.{SinkState}
use Rattle.ha_status.specs.declared.status.Status.{Status}
use Rattle.ha_status.specs.Causes.{OneRose}
use Rattle.ha_status.specs.Files.{Files}
use Rattle.ha_words.specs.declared.plan.RunWords.{RunWords}
use Rattle.conf_auto.specs.Config.{config_in}
use Rattle.ha_run.specs.Served.{Feed}
use Rattle.ha_run.specs.Stands.{RanThrough, Scene, StandsAt, Writings}
use Rattle.trace_laws.specs.Runs.{Begins, IsRun}
use Rattle.trace_laws.specs.Tells.{IsTraceOf}
use Rattle.trace_laws.proofs.RunLemmas.{one_run}
use Rattle.replay_file.specs.declared.front.FrontEnd.{FrontEnd}
use Rattle.replay_file.specs.Fronts.{IsReadFrom, IsReadOf}
use Rattle.replay_file.specs.Judged.{AreErrorsTaken, IsStatusOf, IsTaken}
use Rattle.replay_file.specs.Replays.{IsReplay, Replayed as ReplayedFile}
use Rattle.ha_top.specs.Views.{After, Before}
use Rattle.ha_top.specs.Written.{written}
use Rattle.ha_top.specs.Answered.{Answered, IsBooted, scene}
use Rattle.ha_top.specs.Program.{Replayed}
use Rattle.top_laws.specs.Traced.{HasEnded, IsHeld, IsTraced}
use Rattle.top_laws.proofs.BootTexts.{config-utf8, stored-ordered, stored-utf8}

-- ---- the trace of a run

some_same : (a b : Text) → ◌≡◌ {A = Option Text} (Some a) (Some b) → a ≡ b
some_same a b e = cc

-- what the sink of the trace took
took_is : (trace : Option SinkState) (whole text : Text) → IfSome trace (HasTaken whole) → IsSomeAnd trace (λ s. s.took ≡ Some text) → text ≡ whole
took_is None whole text all told = absurd told
took_is (Some s) whole text all told = by s.took told all
  where
    by : (took : Option Text) → took ≡ Some text → IfSome took (λ t. t ≡ whole) → text ≡ whole
    by None told all = absurd cc
    by (Some t) told all = sym (some_same t text told) ∙ all

-- a lawful journal ends with no Restart
opened_own : (j : Journal) (rs : Records) → Lawful j rs → opened j ≡ j
opened_own j rs lawful = (λ i. if lawful.right.journal.opened i then more j (again_of j) else j)

-- what is booted may stand first in a trace
booted_run : (words : RunWords) (b : Before) (j : Journal) (rs : Records) → IsBooted words b j → Lawful j rs → AreRead config_in j → HasEntry j × IsRun j rs
booted_run words b j rs boot lawful read =
    let known = moments-kept boot.config.automations boot.last boot.last_is_sound in
    let P : Journal → Type 0 = λ z. HasEntry z × IsRun z rs in
    subst P (sym boot.boots) (
      tt,
      (
        (
          record {
            config_is = boot.config_is;
            start = boot.runnable.in_time;
            zone = boot.runnable.zoned;
            ordered = stored-ordered boot.stored boot.stored_is_sound;
            last_ordered = known.ordered;
            last_in_time = known.in_time;
            known = moments-named boot.config.automations boot.last;
            utf8 = record {
              text = config-utf8 boot.text boot.config boot.config_is;
              names = stored-utf8 boot.stored boot.stored_is_sound;
              zone = is_utf8-from_IsUtf8 words.zone boot.runnable.zone_is_text;
              last_names = known.utf8;
            };
          },
          refl,
        ),
        subst (λ z. Lawful (opened z) rs) boot.boots (subst (λ z. Lawful z rs) (sym (opened_own j rs lawful)) lawful),
        subst (AreRead config_in) boot.boots read,
      ),
    )

-- a run that came to its end wrote all, and is through
module _ (B : Journal → Type 0) (s : Scene) (w : Writings) where
  pub ran_to_end : (status : Status) → HasEnded status → StandsAt config_in B s w status → w.Ended × ((feeds : List Feed) × RanThrough config_in B s feeds)
  ran_to_end Status.Ok ended h = (h.0, (h.1.0, h.1.1))
  ran_to_end (Status.ReadFault (Some source)) ended h = (h.0, (h.1.0, h.1.1))
  ran_to_end (Status.SourceTooLong source) ended h = (h.0, (h.1.0, h.1.1))
  ran_to_end (Status.ReadFault None) ended h = absurd ended
  ran_to_end Status.Usage ended h = absurd ended
  ran_to_end (Status.ConfigRefused line code) ended h = absurd ended
  ran_to_end (Status.OpenFault name) ended h = absurd ended
  ran_to_end (Status.WriteFault zero) ended h = absurd ended
  ran_to_end Status.KeepFault ended h = absurd ended
  ran_to_end Status.JournalFull ended h = absurd ended
  ran_to_end (Status.StoreRefused code) ended h = absurd ended
  ran_to_end Status.Memory ended h = absurd ended
  ran_to_end (Status.TraceRefused line) ended h = absurd ended

pub run-traced : (words : RunWords) (b : Before) (a : After) (text : Text) → Answered words b a → IsTraced a text → IsTraceOf text a.journal a.records
run-traced words b a text x t =
    let end = ran_to_end (IsBooted words b) (scene words b a) (written b a) a.status t.ended x.stands in
    let through = end.1.1 in
    let run = booted_run words b a.journal a.records through.ran.begins through.ran.lawful through.ran.read in
    record {
      run = run.1;
      room = subst IsWithin (sym (opened_own a.journal a.records through.ran.lawful)) through.ran.room;
      ends = λ _. (run.0, through.ran.lawful.right.journal.opened, through.quiet);
      text_is = took_is a.trace (trace_text a.journal true) text end.0.texts.trace t.told ∙ sym (append-nil (trace_text a.journal true));
    }

-- ---- a replay of it

held_text : (files : Option Files) (name text text' : Text) (lefts : List (Option Text)) → IsSomeAnd files (λ f. f name ≡ Some text) → IsReadOf files name text' FrontEnd.Whole lefts → text ≡ text'
held_text None name text text' lefts held read = absurd held
held_text (Some f) name text text' lefts held read = by (f name) held read.2
  where
    by : (file : Option Text) → file ≡ Some text → IsSomeAnd file (IsReadFrom text' FrontEnd.Whole read.0) → text ≡ text'
    by None held read' = absurd read'
    by (Some bytes) held read' = sym (some_same bytes text held) ∙ read'.1

-- the bytes that were judged well are the trace of the journal that was found
judged_trace : (text : Text) (end : FrontEnd) (j : Journal) (rs : Records) (ended : Bool) (left : Text) → Begins text j rs ended left → IsStatusOf text end j rs ended left Status.Ok → IsTraceOf text j rs
judged_trace text end j rs ended left begins is =
    subst (λ (z : Bool). Begins text j rs z []) is.1 (subst (λ (z : Text). Begins text j rs ended z) is.2 begins)

module _ (files : Option Files) (name text : Text) (lefts : List (Option Text)) (C E : Text → Type 0) (j : Journal) (rs : Records) (held : IsSomeAnd files (λ f. f name ≡ Some text)) (trace : IsTraceOf text j rs) where
  same_run : (h : ReplayedFile files name lefts Status.Ok C E) → C (call_text j rs) × E (error_text j)
  same_run h =
      let read : IsReadOf files name h.text FrontEnd.Whole lefts = subst (λ (z : FrontEnd). IsReadOf files name h.text z lefts) h.judged.status_is.0 h.read in
      let found = judged_trace h.text h.end h.judged.journal h.judged.records h.judged.ended h.judged.left h.judged.begins h.judged.status_is in
      let moved : IsTraceOf text h.judged.journal h.judged.records = subst (λ (z : Text). IsTraceOf z h.judged.journal h.judged.records) (sym (held_text files name text h.text lefts held read)) found in
      let same = one_run text h.judged.journal j h.judged.records rs moved trace in
      (subst C (λ i. call_text (same.0 i) (same.1 i)) h.judged.calls, subst E (ap error_text same.0) h.judged.errors)

  replayed_well : IsReplay files name lefts Status.Ok C E → C (call_text j rs) × E (error_text j)
  replayed_well (inl none) = absurd none.0
  replayed_well (inr h) = same_run h

pub trace-replayed : (name text : Text) (b : Before) (a : After) (j : Journal) (rs : Records) → Replayed name b a → IsHeld b name text → IsTraceOf text j rs → a.status ≡ Status.Ok
    → IsTaken a.status (call_text j rs) b.out.took a.out.took
    × AreErrorsTaken (OneRose b.err.faults a.err.faults b.err.zeros a.err.zeros) a.status (error_text j) b.err.took a.err.took
trace-replayed name text b a j rs x held trace ok =
    replayed_well b.place.files name text (map (λ y. y.left) a.sources) (λ t. IsTaken a.status t b.out.took a.out.took) (λ t. AreErrorsTaken (OneRose b.err.faults a.err.faults b.err.zeros a.err.zeros) a.status t b.err.took a.err.took) j rs held trace
    (subst (λ (s : Status). IsReplay b.place.files name (map (λ y. y.left) a.sources) s (λ t. IsTaken a.status t b.out.took a.out.took) (λ t. AreErrorsTaken (OneRose b.err.faults a.err.faults b.err.zeros a.err.zeros) a.status t b.err.took a.err.took)) ok x.replay)
