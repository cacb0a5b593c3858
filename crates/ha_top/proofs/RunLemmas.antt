-- What a run answers for that was booted.
use Rattle.std.proofs.Common.{◌≡◌, ◌⊎◌, inl, inr, ◌∙◌, ◌≤◌, ◌<◌, ℕ, zero, suc, Bool, true, false, List, [], ◌∷◌, map, Option, Some, None, ap, refl, sym, subst, arith}
use Rattle.std.specs.Prelude.{IfSome, IsSomeAnd, Ok, is_some, slice_get}
use Rattle.ha_io.specs.Told.{Call}
use Rattle.ha_config.specs.declared.config.Config.{Config}
use Rattle.ha_journal.specs.declared.entry.Entry.{Entry}
use Rattle.ha_journal.specs.declared.entry.Entry.TheVariants.{Boot}
use Rattle.ha_journal.specs.Entries.{first_carry}
use Rattle.ha_config.specs.Names.{of_automations}
use Rattle.ha_config.specs.Sound.{AreSoundMoments, IsSoundStore}
use Rattle.ha_config.specs.Words.{Text}
use Rattle.ha_model.specs.Records.{Records}
use Rattle.store_text.specs.Store.{Moments, Switches}
use Rattle.ha_status.specs.declared.status.Status.{Status}
use Rattle.ha_status.specs.Causes.{IsUnread, KeepCause, ReadCause, WriteCause}
use Rattle.ha_status.specs.Files.{Files, HoldsText, IsTextFault}
use Rattle.ha_words.specs.declared.plan.RunWords.{RunWords}
use Rattle.ha_words.specs.PlanOf.{IsRunnable}
use Rattle.bus_turn.specs.declared.fault.BusFault.{BusFault}
use Rattle.bus_turn.specs.Buses.{HasCause, HoldsStore, SinkFailed}
use Rattle.bus_turn.specs.Growth.{SinkGrows}
use Rattle.bus_turn.specs.Shown.{BusView}
use Rattle.bus_turn.specs.States.{KeeperState, Outside, SinkState, outside}
use Rattle.ha_worker.specs.Courses.{Course, SourceState}
use Rattle.ha_run.specs.Core.{BeginsWith, CoreRan, IsPartWritten, OutCause, SameSink, SameTrace, view_of, writings}
use Rattle.ha_run.specs.Opened.{AreNew}
use Rattle.ha_run.specs.Served.{AreServed, Feed, IsFirst}
use Rattle.ha_run.specs.Stands.{IsCutShort, Scene, StandsAt, Writings}
use Rattle.ha_run.proofs.TellLemmas.{stands_in}
use Rattle.conf_auto.specs.Config.{config_in, config_of}
use Rattle.ha_check.specs.Configured.{RefusedCause}
use Rattle.ha_top.specs.Views.{After, Before}
use Rattle.ha_top.specs.Written.{handed, seen}
use Rattle.ha_top.specs.Answered.{IsBooted, IsNamedTrace, IsStored, IsStoreFault, IsTraceOf, RunOpenCause, StopsAt, StoreCause, WriteFailed, WriteTookNone, scene}
use Rattle.ha_top.specs.Booted.{RanOrNot}
use Rattle.ha_top.specs.Opening.{IsOpenFault}
use Rattle.ha_top.specs.Lived.{Lived, unlined}
use Rattle.ha_top.proofs.EarlyLemmas.{config_taken, lived_open, store_taken}
use Rattle.ha_top.proofs.OpenLemmas.{opened_all}

-- ---- the statuses of a run

module _ (B : List Entry → Type 0) (s : Scene) (w : Writings) (never : w.Nothing → ⊥) where
  begins_short : IsCutShort config_in B s w → B s.journal
  begins_short (inl h) = h.1.ran.begins
  begins_short (inr h) = h.1.1.ran.begins

  begins_so : (x : Status) → StandsAt config_in B s w x → B s.journal
  begins_so Status.Ok h = h.1.1.ran.begins
  begins_so Status.Usage h = absurd h
  begins_so (Status.ConfigRefused line code) h = absurd (never h.0)
  begins_so (Status.OpenFault name) h = absurd (never h.0)
  begins_so (Status.ReadFault None) h = absurd (never h.0)
  begins_so (Status.ReadFault (Some k)) h = h.1.1.ran.begins
  begins_so (Status.WriteFault z) h = begins_short h
  begins_so Status.KeepFault (inl h) = absurd (never h.0)
  begins_so Status.KeepFault (inr h) = h.1.ran.begins
  begins_so Status.JournalFull h = h.1.ran.begins
  begins_so (Status.SourceTooLong k) h = h.1.1.ran.begins
  begins_so (Status.StoreRefused code) h = absurd (never h.0)
  begins_so Status.Memory (inl h) = absurd (never h.0)
  begins_so Status.Memory (inr h) = begins_short h
  begins_so (Status.TraceRefused line) h = absurd h

  -- what follows a boot
  module _ (P : Status → Type 0) (write : (z : Bool) → P (Status.WriteFault z)) (keeps : P Status.KeepFault)
      (lost : (k : ℕ) (feeds : List Feed) → AreServed config_in s.files s.journal 0 s.names s.sources feeds → IsFirst Course.Fails k feeds → P (Status.ReadFault (Some k)))
      (ok : P Status.Ok) (full : P Status.JournalFull) (memory : P Status.Memory) (long : (k : ℕ) → P (Status.SourceTooLong k)) where
    run_cases : (x : Status) → StandsAt config_in B s w x → P x
    run_cases Status.Ok h = ok
    run_cases Status.Usage h = absurd h
    run_cases (Status.ConfigRefused line code) h = absurd (never h.0)
    run_cases (Status.OpenFault name) h = absurd (never h.0)
    run_cases (Status.ReadFault None) h = absurd (never h.0)
    run_cases (Status.ReadFault (Some k)) h = lost k h.1.0 h.1.1.ran.served h.1.2
    run_cases (Status.WriteFault z) h = write z
    run_cases Status.KeepFault h = keeps
    run_cases Status.JournalFull h = full
    run_cases (Status.SourceTooLong k) h = long k
    run_cases (Status.StoreRefused code) h = absurd (never h.0)
    run_cases Status.Memory h = memory
    run_cases (Status.TraceRefused line) h = absurd h

-- what was opened before a boot concerns no run that was booted, or for which memory did not suffice
pub ran_stops : (words : RunWords) (files : Option Files) (names : List Text) (boot : Entry) (old : Outside) (opened : List SourceState) (status : Status) (journal : List Entry) (records : Records)
    (sources : List SourceState) (out : Outside) (before after : Option (List Call)) → AreNew files names opened → RanOrNot boot old opened status journal records sources out
    → StopsAt words files journal sources before after status
ran_stops words files names boot old opened status journal records sources out before after new (inl u) =
    subst (λ z. StopsAt words files journal sources before after z) (sym u.status_is) tt
ran_stops words files names boot old opened status journal records sources out before after new (inr r) =
    let s : Scene = record { files = files; names = names; journal = journal; records = records; sources = sources } in
    let w = writings old (view_of journal records out) in
    let stands = r.stands files names new in
    let begins = begins_so (BeginsWith boot) s w (λ u. u) status stands in
    let never : journal ≡ [] → ⊥ = λ e. let bad : ◌≡◌ {A = List Entry} [] (boot ∷ begins.0) = sym e ∙ begins.1 in cc in
    run_cases (BeginsWith boot) s w (λ u. u) (λ z. StopsAt words files journal sources before after z) (λ z. tt) (λ e. absurd (never e)) (λ k feeds served first. tt) tt tt tt (λ k. tt) status stands

-- ---- the sources

abbrev counts : List SourceState → List ℕ
counts sources = map (λ (x : SourceState). x.faults) sources

abbrev names_of : List SourceState → List (Option Text)
names_of sources = map (λ (x : SourceState). x.name) sources

abbrev Lost : List Text → List SourceState → ℕ → Type 0
Lost names sources k = (name : Text) × (slice_get names k ≡ Some name) × IsUnread name k (counts sources) (names_of sources)

lost_later : (n : Text) (names : List Text) (s : SourceState) (sources : List SourceState) (k : ℕ) → Lost names sources k → Lost (n ∷ names) (s ∷ sources) (suc k)
lost_later n names s sources k (name, is, u) =
    (name, is, record { count = u.count; told = u.told; count_is = u.count_is; failed = u.failed; told_is = u.told_is; name_is = u.name_is })

-- the first source that failed is there, and its count tells
lost_source : (files : Option Files) (j : List Entry) (from k : ℕ) (names : List Text) (sources : List SourceState) (feeds : List Feed) → AreServed config_in files j from names sources feeds
    → IsFirst Course.Fails k feeds → Lost names sources k
lost_source files j from k names sources [] h first = absurd first
lost_source files j from k [] [] (f ∷ feeds) h first = absurd h
lost_source files j from k [] (s ∷ sources) (f ∷ feeds) h first = absurd h
lost_source files j from k (n ∷ names) [] (f ∷ feeds) h first = absurd h
lost_source files j from zero (n ∷ names) (s ∷ sources) (f ∷ feeds) h first =
    (n, refl, record { count = s.faults; told = s.name; count_is = refl; failed = h.0.failed first; told_is = refl; name_is = h.0.named })
lost_source files j from (suc k) (n ∷ names) (s ∷ sources) (f ∷ feeds) h first =
    lost_later n names s sources k (lost_source files j (suc from) k names sources feeds h.1 first.1)

-- ---- the sinks and the keeper

-- what the sinks and the keeper were before the run
pub record IsNew (b : Before) : Type 0 where
  pub out_faults : b.out.faults ≡ 0
  pub out_zeros : b.out.zeros ≡ 0
  pub err_faults : b.err.faults ≡ 0
  pub err_zeros : b.err.zeros ≡ 0
  pub keep_faults : b.keep.faults ≡ 0

sink_grows : (s s' : SinkState) → s.faults ≡ 0 → s.zeros ≡ 0 → SameSink s s' → SinkGrows s s'
sink_grows s s' faults zeros h = record { told = h.told; faults = omega (arith, faults); zeros = omega (arith, zeros); same_name = h.same_name }

named_still : (name : Option Text) (t t' : Option SinkState) → SameTrace t t' → IsNamedTrace name t → IsNamedTrace name t'
named_still None None None h n = tt
named_still None None (Some t') h n = absurd h
named_still None (Some t) t' h n = absurd n
named_still (Some name) None t' h n = absurd n
named_still (Some name) (Some t) None h n = absurd h
named_still (Some name) (Some t) (Some t') h n = (let P : Option Text → Type 0 = λ z. IfSome z (λ told. told ≡ name) in subst P (sym h.same_name) n)

rose : (n m : ℕ) → n ≡ 0 → 0 < m → n < m
rose n m e h = omega (arith, e, h)

trace_failed : (t : Option SinkState) → IsSomeAnd t (SinkFailed (BusFault.Write false)) → IsSomeAnd t (λ s. 0 < s.faults)
trace_failed None h = absurd h
trace_failed (Some s) h = h

trace_took_none : (t : Option SinkState) → IsSomeAnd t (SinkFailed (BusFault.Write true)) → IsSomeAnd t (λ s. 0 < s.zeros)
trace_took_none None h = absurd h
trace_took_none (Some s) h = h

-- a write failed, or took no byte
wrote_not : (b : Before) (a : After) (z : Bool) → IsNew b → HasCause (BusFault.Write z) (outside a.out a.err a.trace a.keep) → WriteCause (WriteFailed b a) (WriteTookNone b a) (Status.WriteFault z)
wrote_not b a false new (inl h) = inl (inl (inl (rose b.out.faults a.out.faults new.out_faults h)))
wrote_not b a false new (inr (inl h)) = inl (inr (inl (rose b.err.faults a.err.faults new.err_faults h)))
wrote_not b a false new (inr (inr (inl h))) = inr (trace_failed a.trace h)
wrote_not b a false new (inr (inr (inr h))) = absurd h
wrote_not b a true new (inl h) = inl (inl (inl (rose b.out.zeros a.out.zeros new.out_zeros h)))
wrote_not b a true new (inr (inl h)) = inl (inr (inl (rose b.err.zeros a.err.zeros new.err_zeros h)))
wrote_not b a true new (inr (inr (inl h))) = inr (trace_took_none a.trace h)
wrote_not b a true new (inr (inr (inr h))) = absurd h

no_keeper : (t : Option SinkState) → IsSomeAnd t (SinkFailed BusFault.Keep) → ⊥
no_keeper None h = h
no_keeper (Some s) h = h

-- the keeper failed
kept_above : (o : Outside) → HasCause BusFault.Keep o → 0 < o.keep.faults
kept_above o (inl h) = absurd h
kept_above o (inr (inl h)) = absurd h
kept_above o (inr (inr (inl h))) = absurd (no_keeper o.trace h)
kept_above o (inr (inr (inr h))) = h

-- ---- a run

module _ (words : RunWords) (b : Before) (a : After) (keep : KeeperState) (text : Text) (config : Config) (stored : Option Switches) (last : Moments) (opened : List SourceState) (trace : Option SinkState)
    (new : IsNew b) (held : HoldsText b.place.files words.config text) (read : config_of text ≡ Ok config) (kept : IfSome b.keep.kept (λ k. IsStored k stored last))
    (sound : IsSoundStore stored) (sound_last : AreSoundMoments last) (runnable : IsRunnable words) (new_sources : AreNew b.place.files words.sources opened) (named : IsNamedTrace words.trace trace) (same_kept : keep.kept ≡ b.keep.kept) where
  abbrev boot : Entry
  boot = Boot text config stored words.start words.zone (first_carry (of_automations config.automations last))

  abbrev old : Outside
  old = outside b.out b.err trace keep

  abbrev left : Outside
  left = outside a.out a.err a.trace a.keep

  abbrev view : BusView
  view = view_of a.journal a.records left

  module _ (r : CoreRan config_in boot old opened a.status a.journal a.records a.sources left) where
    from_core : StandsAt config_in (BeginsWith boot) (scene words b a) (writings old view) a.status
    from_core = r.stands b.place.files words.sources new_sources

    begins : BeginsWith boot a.journal → IsBooted words b a.journal
    begins h = record {
      text = text;
      config = config;
      stored = stored;
      last = last;
      later = h.0;
      text_is = held;
      config_is = read;
      stored_is = kept;
      stored_is_sound = sound;
      last_is_sound = sound_last;
      runnable = runnable;
      boots = h.1;
    }

    part : IsPartWritten old view → IsPartWritten (handed b) (seen a a.err.took)
    part (inl w) = inl w
    part (inr w) = inr (record { cut = w.cut; store = λ h. by (w.store h) })
      where
        by : (a.keep.kept ≡ keep.kept) ⊎ HoldsStore a.journal a.keep → (a.keep.kept ≡ b.keep.kept) ⊎ HoldsStore a.journal a.keep
        by (inl h) = inl (h ∙ same_kept)
        by (inr h) = inr h

    by_status : (P : Status → Type 0) → ((z : Bool) → P (Status.WriteFault z)) → P Status.KeepFault
        → ((k : ℕ) (feeds : List Feed) → AreServed config_in b.place.files a.journal 0 words.sources a.sources feeds → IsFirst Course.Fails k feeds → P (Status.ReadFault (Some k)))
        → P Status.Ok → P Status.JournalFull → P Status.Memory → ((k : ℕ) → P (Status.SourceTooLong k)) → P a.status
    by_status P write keeps lost ok full memory long =
        run_cases (BeginsWith boot) (scene words b a) (writings old view) (λ u. u) P write keeps lost ok full memory long a.status from_core

    free : (P : Status → Type 0) → ((z : Bool) → P (Status.WriteFault z)) → P Status.KeepFault → ((k : ℕ) → P (Status.ReadFault (Some k)))
        → P Status.Ok → P Status.JournalFull → P Status.Memory → ((k : ℕ) → P (Status.SourceTooLong k)) → P a.status
    free P write keeps lost = by_status P write keeps (λ k feeds h f. lost k)

    traced : (later : List Entry) → a.journal ≡ boot ∷ later → IsTraceOf words.trace a.journal a.trace
    traced later is = subst (λ j. IsTraceOf words.trace j a.trace) (sym is) (named_still words.trace trace a.trace r.same.trace named)

    -- the run as it is before its status line
    lived_run : Lived words b a
    lived_run = record {
      stands = stands_in config_in (BeginsWith boot) (IsBooted words b) (scene words b a) begins (writings old view) (unlined b a) (λ w. w) (λ w. w) (λ w. w) part (λ u. absurd u) a.status from_core;
      traced = (let h = begins_so (BeginsWith boot) (scene words b a) (writings old view) (λ u. u) a.status from_core in traced h.0 h.1);
      same = record {
        out = sink_grows b.out a.out new.out_faults new.out_zeros r.same.calls;
        err = sink_grows b.err a.err new.err_faults new.err_zeros r.same.errors;
        keep = record { told = r.same.keep ∙ ap is_some same_kept; faults = omega (arith, new.keep_faults) };
      };
      refused = free (λ z. RefusedCause b.place.files words.config z) (λ z. tt) tt (λ k. tt) tt tt tt (λ k. tt);
      config_first = config_taken b.place.files words.config text config (IsTextFault words.config a.status) held read;
      store_refused = free (λ z. StoreCause b.keep.kept z) (λ z. tt) tt (λ k. tt) tt tt tt (λ k. tt);
      store_next = store_taken b.keep.kept stored last (IsTextFault words.config a.status ⊎ IsStoreFault a.status) kept;
      unopened = free (λ z. RunOpenCause words b.place.faults a.place.faults a.place.last z) (λ z. tt) tt (λ k. tt) tt tt tt (λ k. tt);
      unread = by_status (λ z. ReadCause words.config words.sources (counts a.sources) (names_of a.sources) z) (λ z. tt) tt
          (λ k feeds h f. lost_source b.place.files a.journal 0 k words.sources a.sources feeds h f) tt tt tt (λ k. tt);
      unwritten = free (λ z. OutCause z left → WriteCause (WriteFailed b a) (WriteTookNone b a) z) (λ z h. wrote_not b a z new h) (λ h. tt) (λ k h. tt) (λ h. tt) (λ h. tt) (λ h. tt) (λ k h. tt) r.cause;
      unkept = free (λ z. OutCause z left → KeepCause b.keep.faults a.keep.faults z) (λ z h. tt) (λ h. inl (rose b.keep.faults a.keep.faults new.keep_faults (kept_above left h)))
          (λ k h. tt) (λ h. tt) (λ h. tt) (λ h. tt) (λ k h. tt) r.cause;
    }

  -- a run that was booted, or for which memory did not suffice
  pub ran_lived : b.keep.faults ≤ keep.faults → RanOrNot boot old opened a.status a.journal a.records a.sources left → Lived words b a
  ran_lived stay (inr r) = lived_run r
  ran_lived stay (inl u) =
      let same_keep : a.keep ≡ keep = ap (λ (o : Outside). o.keep) u.same in
      lived_open words b a
      (record {
        untouched = record {
          no_call = ap (λ (o : Outside). o.calls) u.same;
          no_error = ap (λ (o : Outside). o.errors) u.same;
          no_trace = ap (λ (o : Outside). o.trace) u.same;
          no_store = ap (λ (k : KeeperState). k.kept) same_keep ∙ same_kept;
        };
        no_entry = u.no_entry;
        no_record = u.no_record;
        faults = subst (λ (k : KeeperState). b.keep.faults ≤ k.faults) (sym same_keep) stay;
      })
      text config stored last held read kept (subst IsOpenFault (sym u.status_is) tt)
      (subst (λ z. RunOpenCause words b.place.faults a.place.faults a.place.last z) (sym u.status_is) tt)
      (opened_all b.place.files words.sources a.sources (subst (λ z. AreNew b.place.files words.sources z) (sym u.handed_back) new_sources))
