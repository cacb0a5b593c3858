-- What the program answers for where memory ran out before it began: whatever its words ask for.
use Rattle.std.proofs.Common.{◌≡◌, ◌⊎◌, inl, inr, ◌∙◌, ◌≤◌, ℕ, List, [], ◌∷◌, map, Option, Some, None, ap, sym, subst}
use Rattle.std.proofs.Math.Nat.{le_refl}
use Rattle.std.specs.Prelude.{is_some}
use Rattle.ha_io.specs.declared.place.Opening.{Opening}
use Rattle.ha_io.specs.Counts.{Rose}
use Rattle.ha_io.specs.Told.{IsAskedSome, Takes}
use Rattle.ha_config.specs.Words.{Text}
use Rattle.ha_status.specs.declared.status.Status.{Status}
use Rattle.ha_status.specs.Causes.{KeepCause, NeverFall, OneRose, OpenCause, ReadCause, WriteCause}
use Rattle.ha_status.specs.Files.{IsHandedBack, IsTextFault}
use Rattle.ha_words.specs.declared.plan.Plan.{Plan}
use Rattle.ha_words.specs.declared.plan.RunWords.{RunWords}
use Rattle.bus_turn.specs.States.{KeeperState}
use Rattle.conf_auto.specs.Config.{config_in}
use Rattle.ha_run.specs.Core.{IsHandedOn}
use Rattle.ha_run.specs.Served.{AreOpened}
use Rattle.ha_run.specs.Stands.{StandsAt}
use Rattle.ha_check.specs.Checked.{IsAnswerOf, IsCheckStatus, IsOutput}
use Rattle.ha_check.specs.Configured.{RefusedCause}
use Rattle.ha_rehearse.specs.Rehearsed.{IsCounted, IsRehearseStatus}
use Rattle.ha_io.proofs.AskedLemmas.{asked_none}
use Rattle.ha_io.proofs.ToldLemmas.{Takes-nothing}
use Rattle.replay_file.specs.Replays.{IsUnread}
use Rattle.replay_file.proofs.StopLemmas.{whole_taken}
use Rattle.ha_top.specs.Views.{After, Before}
use Rattle.ha_top.specs.Written.{AreTheSame, LineBehind, NoneWritten, written}
use Rattle.ha_top.specs.Answered.{Answered, IsBooted, IsStore, IsStoreFault, IsTaken, IsTraceOf, RunOpenCause, StopsAt, StoreCause, WriteFailed, WriteTookNone, opens, scene}
use Rattle.ha_top.specs.Program.{AnsweredBy, Checked, HasNoJournal, Rehearsed, Replayed, Unplanned}
use Rattle.ha_top.proofs.AskedLemmas.{asked_early}
use Rattle.ha_top.proofs.EarlyLemmas.{if_all, sink_same}
use Rattle.ha_top.proofs.ToldLemmas.{memory_handed, still_told}

answer_of : (file : Option Text) → IsAnswerOf file Status.Memory
answer_of None = tt
answer_of (Some text) = tt

-- what is left: nothing but the status line, and the sinks, the place and the keeper as they were
pub record IsLeft (b : Before) (a : After) : Type 0 where
  pub status_is : (a.status ≡ Status.Memory) ⊎ (a.status ≡ Status.Memory)
  pub no_entry : a.journal ≡ []
  pub no_record : a.records ≡ []
  pub no_source : a.sources ≡ []
  pub no_trace : a.trace ≡ None
  pub same_out : a.out ≡ b.out
  pub same_keep : a.keep ≡ b.keep
  pub same_place : a.place ≡ b.place
  pub line : LineBehind b a b.err.took
  pub counts : NeverFall b.err.faults a.err.faults b.err.zeros a.err.zeros
  pub same_name : a.err.name ≡ b.err.name

one : {P : Type 0} → P ⊎ P → P
one (inl h) = h
one (inr h) = h

module _ (b : Before) (a : After) (l : IsLeft b a) where
  at : (P : Status → Type 0) → P Status.Memory → P a.status
  at P h = subst P (sym (one l.status_is)) h

  same_store : a.keep.kept ≡ b.keep.kept
  same_store = ap (λ (k : KeeperState). k.kept) l.same_keep

  nothing : HasNoJournal b a
  nothing = record { no_entry = l.no_entry; no_record = l.no_record; no_trace = l.no_trace; no_store = same_store }

  none : NoneWritten b a
  none = record { no_call = ap (λ s. s.took) l.same_out; no_trace = l.no_trace; no_store = same_store; line = l.line }

  unasked : (calls : List _) → IsAskedSome b.place.asked calls a.place.asked
  unasked calls = subst (λ p. IsAskedSome b.place.asked calls p.asked) (sym l.same_place) (asked_none b.place.asked calls)

  still : AreTheSame b a
  still = record {
    out = sink_same b.out a.out l.same_out;
    err = record {
      told = ap is_some l.line.took ∙ still_told b.err.took l.line.line;
      faults = l.counts.faults_stay;
      zeros = l.counts.zeros_stay;
      same_name = l.same_name;
    };
    keep = record { told = ap is_some same_store; faults = subst (λ (k : KeeperState). b.keep.faults ≤ k.faults) (sym l.same_keep) (le_refl b.keep.faults) };
  }

  unread : (words : RunWords) → Answered words b a
  unread words = record {
    stops = at (λ s. StopsAt words b.place.files a.journal a.sources b.place.asked a.place.asked s) tt;
    handed = at (λ s. IsHandedOn a.kept_back s) (memory_handed a.kept_back);
    stands = at (λ s. StandsAt config_in (IsBooted words b) (scene words b a) (written b a) s) (inl (
      none,
      inl (record {
        no_entry = l.no_entry;
        no_record = l.no_record;
        opened = subst (AreOpened words.sources) (sym l.no_source) tt;
      }),
    ));
    traced = subst (λ j. IsTraceOf words.trace j a.trace) (sym l.no_entry) l.no_trace;
    asked = asked_early (opens words) a.journal b.place.asked a.place.asked l.no_entry (unasked (opens words));
    same = still;
    refused = at (λ s. RefusedCause b.place.files words.config s) tt;
    config_first = if_all b.place.files (λ f. (IsTaken (f words.config) → ⊥) → IsTextFault words.config a.status) (λ f never. at (λ s. IsTextFault words.config s) tt);
    store_refused = at (λ s. StoreCause b.keep.kept s) tt;
    store_next = if_all b.keep.kept (λ kept. (IsStore kept → ⊥) → IsTextFault words.config a.status ⊎ IsStoreFault a.status)
        (λ kept never. inl (at (λ s. IsTextFault words.config s) tt));
    unopened = at (λ s. RunOpenCause words b.place.faults a.place.faults a.place.last s) tt;
    unread = at (λ s. ReadCause words.config words.sources (map (λ x. x.faults) a.sources) (map (λ x. x.name) a.sources) s) tt;
    unwritten = at (λ s. WriteCause (WriteFailed b a) (WriteTookNone b a) s) tt;
    unkept = at (λ s. KeepCause b.keep.faults a.keep.faults s) tt;
  }

  pub unchecked : (name : Text) → Checked name b a
  unchecked name = record {
    answer = at (λ s. IsCheckStatus name s) tt;
    of_file = if_all b.place.files (λ f. IsAnswerOf (f name) a.status) (λ f. at (λ s. IsAnswerOf (f name) s) (answer_of (f name)));
    refused = at (λ s. RefusedCause b.place.files name s) tt;
    asked = unasked ((name, Opening.Reading) ∷ []);
    output = at (λ s. IsOutput b.place.files name s b.out.took a.out.took) (inl (ap (λ s. s.took) l.same_out));
    line = l.line;
    nothing = nothing;
    handed_back = at (λ s. IsHandedBack name (map (λ x. x.name) a.sources) s) tt;
    at_end = λ told ok. absurd (let clash : ◌≡◌ {A = Status} Status.Memory Status.Ok = sym (one l.status_is) ∙ ok in cc);
    unopened = at (λ s. OpenCause (name ∷ []) b.place.faults a.place.faults a.place.last s) tt;
    unread = at (λ s. ReadCause name [] (map (λ x. x.faults) a.sources) (map (λ x. x.name) a.sources) s) tt;
    unwritten = at (λ s. WriteCause (Rose b.out.faults a.out.faults) (Rose b.out.zeros a.out.zeros) s) tt;
  }

  unrehearsed : (lines : ℕ) → Rehearsed lines b a
  unrehearsed lines = record {
    answer = at (λ s. IsRehearseStatus lines s) tt;
    output = at (λ s. IsCounted lines s b.out.took a.out.took) (inl (ap (λ s. s.took) l.same_out));
    line = l.line;
    nothing = nothing;
    no_source = l.no_source;
    same_place = l.same_place;
    unwritten = at (λ s. WriteCause (Rose b.out.faults a.out.faults) (Rose b.out.zeros a.out.zeros) s) tt;
  }

  out_took : a.out.took ≡ b.out.took
  out_took = ap (λ s. s.took) l.same_out

  pub unreplayed : (name : Text) → Replayed name b a
  unreplayed name = record {
    replay = inl (
      at IsUnread tt,
      whole_taken a.status [] b.out.took a.out.took (subst (Takes b.out.took []) (sym out_took) (Takes-nothing b.out.took)),
      record { between = b.err.took; errors_taken = whole_taken a.status [] b.err.took b.err.took (Takes-nothing b.err.took); line_taken = l.line },
    );
    asked = unasked ((name, Opening.Reading) ∷ []);
    nothing = nothing;
    handed_back = at (λ s. IsHandedBack name (map (λ x. x.name) a.sources) s) tt;
    at_end = λ told ok. absurd (let clash : ◌≡◌ {A = Status} Status.Memory Status.Ok = sym (one l.status_is) ∙ ok in cc);
    unopened = at (λ s. OpenCause (name ∷ []) b.place.faults a.place.faults a.place.last s) tt;
    unread = at (λ s. ReadCause name (name ∷ []) (map (λ x. x.faults) a.sources) (map (λ x. x.name) a.sources) s) tt;
    unwritten = at (λ s. WriteCause (OneRose b.out.faults a.out.faults b.err.faults a.err.faults) (OneRose b.out.zeros a.out.zeros b.err.zeros a.err.zeros) s) tt;
  }

  unplanned : Unplanned b a
  unplanned = record { status_is = inr (one l.status_is); nothing = nothing; written = none; no_source = l.no_source; same_place = l.same_place }

  pub unanswered : (plan : Option Plan) → AnsweredBy plan b a
  unanswered None = unplanned
  unanswered (Some (Plan.Run words)) = unread words
  unanswered (Some (Plan.Check name)) = unchecked name
  unanswered (Some (Plan.Replay name)) = unreplayed name
  unanswered (Some (Plan.Rehearse lines)) = unrehearsed lines
