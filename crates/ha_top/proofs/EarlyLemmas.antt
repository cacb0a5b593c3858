-- What a run answers for that ended before the boot.
use Rattle.std.proofs.Common.{◌≡◌, ◌⊎◌, inl, inr, ◌≤◌, ℕ, zero, suc, List, [], ◌∷◌, map, Option, Some, None, ap, refl, sym, subst, arith}
use Rattle.std.proofs.Math.Nat.{le_refl}
use Rattle.std.specs.Prelude.{Contains, IfSome, IsOk, Ok, is_some}
use Rattle.ha_io.specs.declared.place.Opening.{Opening}
use Rattle.ha_config.specs.declared.config.Config.{Config}
use Rattle.ha_journal.specs.declared.entry.Entry.{Entry}
use Rattle.ha_config.specs.Words.{Text}
use Rattle.store_text.specs.Store.{Moments, Switches}
use Rattle.ha_status.specs.declared.status.Status.{Status}
use Rattle.ha_status.specs.Causes.{KeepCause, OpenCause, ReadCause, WriteCause}
use Rattle.ha_status.specs.Files.{Files, HoldsText, IsTextFault}
use Rattle.ha_words.specs.declared.plan.RunWords.{RunWords}
use Rattle.bus_turn.specs.Growth.{SinkGrows}
use Rattle.bus_turn.specs.States.{SinkState}
use Rattle.ha_run.specs.Served.{AreOpened}
use Rattle.ha_run.specs.Stands.{OpenedNone, RanNothing, StandsAt}
use Rattle.ha_top.specs.Opening.{IsOpenFault, TraceOpenCause}
use Rattle.conf_auto.specs.Config.{config_in, config_of}
use Rattle.ha_check.specs.Configured.{RefusedCause}
use Rattle.ha_top.specs.Views.{After, Before}
use Rattle.ha_top.specs.Written.{AreTheSame}
use Rattle.ha_top.specs.Answered.{IsBooted, IsStore, IsStored, IsStoreFault, IsTaken, IsTraceOf, RunOpenCause, StoreCause, WriteFailed, WriteTookNone, scene}
use Rattle.ha_top.specs.Lived.{Lived, Untouched, unlined}
use Rattle.ha_status.proofs.CauseLemmas.{unopened_within}

pub if_all : {X : Type 0} (o : Option X) (P : X → Type 0) → ((x : X) → P x) → IfSome o P
if_all None P h = tt
if_all (Some x) P h = h x

-- nothing was booted
pub record IsEarly (b : Before) (a : After) : Type 0 where
  pub untouched : Untouched b a
  pub no_entry : a.journal ≡ []
  pub no_record : a.records ≡ []
  pub faults : b.keep.faults ≤ a.keep.faults

pub sink_same : (s s' : SinkState) → s' ≡ s → SinkGrows s s'
sink_same s s' e = subst (SinkGrows s) (sym e) (record { told = refl; faults = le_refl s.faults; zeros = le_refl s.zeros; same_name = refl })

pub same_of : (b : Before) (a : After) → IsEarly b a → AreTheSame b a
same_of b a e = record {
  out = sink_same b.out a.out e.untouched.no_call;
  err = sink_same b.err a.err e.untouched.no_error;
  keep = record { told = ap is_some e.untouched.no_store; faults = e.faults };
}

-- a file whose configuration was taken
pub taken_of : (f : Files) (name text : Text) (config : Config) → f name ≡ Some text → config_of text ≡ Ok config → IsTaken (f name)
taken_of f name text config held read = subst IsTaken (sym held) (subst IsOk (sym read) refl)

pub config_taken : (files : Option Files) (name text : Text) (config : Config) (P : Type 0) → HoldsText files name text → config_of text ≡ Ok config
    → IfSome files (λ f. (IsTaken (f name) → ⊥) → P)
config_taken None name text config P held read = tt
config_taken (Some f) name text config P held read = λ never. absurd (never (taken_of f name text config held read))

pub store_taken : (kept : Option (Option Text)) (stored : Option Switches) (last : Moments) (P : Type 0) → IfSome kept (λ k. IsStored k stored last) → IfSome kept (λ k. (IsStore k → ⊥) → P)
store_taken None stored last P h = tt
store_taken (Some k) stored last P h = λ never. absurd (never (stored, last, h))

-- ---- a source or the trace was not opened

pub open_cases : (P : Status → Type 0) (s : Status) → IsOpenFault s → ((name : Text) → P (Status.OpenFault name)) → P Status.Memory → P s
open_cases P (Status.OpenFault name) h unopened memory = unopened name
open_cases P Status.Memory h unopened memory = memory
open_cases P Status.KeepFault h unopened memory = absurd h
open_cases P (Status.StoreRefused c) h unopened memory = absurd h
open_cases P (Status.ReadFault k) h unopened memory = absurd h
open_cases P (Status.ConfigRefused l c) h unopened memory = absurd h
open_cases P Status.Ok h unopened memory = absurd h
open_cases P Status.Usage h unopened memory = absurd h
open_cases P (Status.WriteFault z) h unopened memory = absurd h
open_cases P Status.JournalFull h unopened memory = absurd h
open_cases P (Status.SourceTooLong k) h unopened memory = absurd h
open_cases P (Status.TraceRefused l) h unopened memory = absurd h

pub contains_behind : (first : Text) (names : List Text) (name : Text) → Contains names name → Contains (first ∷ names) name
contains_behind first names name h = (suc h.0, omega (arith, h.1), h.2)

-- ---- the store was not taken

pub store_cases : (P : Status → Type 0) (s : Status) → IsStoreFault s → P Status.KeepFault → ((code : ℕ) → P (Status.StoreRefused code)) → P Status.Memory → P s
store_cases P Status.KeepFault h kept refused memory = kept
store_cases P (Status.StoreRefused code) h kept refused memory = refused code
store_cases P Status.Memory h kept refused memory = memory
store_cases P (Status.OpenFault name) h kept refused memory = absurd h
store_cases P (Status.ReadFault k) h kept refused memory = absurd h
store_cases P (Status.ConfigRefused l code) h kept refused memory = absurd h
store_cases P Status.Ok h kept refused memory = absurd h
store_cases P Status.Usage h kept refused memory = absurd h
store_cases P (Status.WriteFault z) h kept refused memory = absurd h
store_cases P Status.JournalFull h kept refused memory = absurd h
store_cases P (Status.SourceTooLong k) h kept refused memory = absurd h
store_cases P (Status.TraceRefused l) h kept refused memory = absurd h

-- a source of the words, in a longer call
pub source_cause : (words : RunWords) (first before after : ℕ) (last : Option (Option (Text × Opening))) (s : Status) → IsOpenFault s → first ≤ before
    → OpenCause words.sources before after last s → RunOpenCause words first after last s
source_cause words first before after last s fault low =
    open_cases (λ z. OpenCause words.sources before after last z → RunOpenCause words first after last z) s fault
    (λ name u. inl (contains_behind words.config words.sources name u.0, unopened_within name Opening.Reading first before after last low u.1)) (λ u. tt)

-- the trace of the words, in a longer call
pub trace_cause : (words : RunWords) (first before after : ℕ) (last : Option (Option (Text × Opening))) (s : Status) → IsOpenFault s → first ≤ before
    → TraceOpenCause words.trace before after last s → RunOpenCause words first after last s
trace_cause words first before after last s fault low =
    open_cases (λ z. TraceOpenCause words.trace before after last z → RunOpenCause words first after last z) s fault
    (λ name u. inr (u.0, unopened_within name Opening.Writing first before after last low u.1)) (λ u. tt)

-- the configuration of the words
pub config_cause : (words : RunWords) (before after : ℕ) (last : Option (Option (Text × Opening))) (s : Status) → OpenCause (words.config ∷ []) before after last s
    → RunOpenCause words before after last s
config_cause words before after last (Status.OpenFault name) u = inl (alone words.config words.sources name u.0, u.1)
  where
    alone : (x : Text) (xs : List Text) (n : Text) → Contains (x ∷ []) n → Contains (x ∷ xs) n
    alone x xs n (zero, low, is) = (0, omega arith, is)
    alone x xs n (suc i, low, is) = absurd (omega (arith, low))
config_cause words before after last (Status.ConfigRefused l k) u = tt
config_cause words before after last (Status.ReadFault k) u = tt
config_cause words before after last (Status.WriteFault z) u = tt
config_cause words before after last (Status.SourceTooLong k) u = tt
config_cause words before after last (Status.StoreRefused k) u = tt
config_cause words before after last (Status.TraceRefused l) u = tt
config_cause words before after last Status.Ok u = tt
config_cause words before after last Status.Usage u = tt
config_cause words before after last Status.KeepFault u = tt
config_cause words before after last Status.JournalFull u = tt
config_cause words before after last Status.Memory u = tt

no_trace_yet : (name : Option Text) (journal : List Entry) (trace : Option SinkState) → journal ≡ [] → trace ≡ None → IsTraceOf name journal trace
no_trace_yet name journal trace none is = subst (λ j. IsTraceOf name j trace) (sym none) is

module _ (words : RunWords) (b : Before) (a : After) (e : IsEarly b a) where
  abbrev Stood : Status → Type 0
  Stood = StandsAt config_in (IsBooted words b) (scene words b a) (unlined b a)

  abbrev Counts : List ℕ
  Counts = map (λ s. s.faults) a.sources

  abbrev Names : List (Option Text)
  Names = map (λ s. s.name) a.sources

  pub untraced : IsTraceOf words.trace a.journal a.trace
  untraced = no_trace_yet words.trace a.journal a.trace e.no_entry e.untouched.no_trace

  -- a source or the trace was not opened, or memory ran out before the boot
  pub lived_open : (text : Text) (config : Config) (stored : Option Switches) (last : Moments) → HoldsText b.place.files words.config text → config_of text ≡ Ok config
      → IfSome b.keep.kept (λ kept. IsStored kept stored last) → IsOpenFault a.status
      → RunOpenCause words b.place.faults a.place.faults a.place.last a.status → AreOpened words.sources a.sources → Lived words b a
  lived_open text config stored last held read kept fault unopened opened = record {
    stands = open_cases Stood a.status fault (λ name. (e.untouched, there)) (inl (e.untouched, inl there));
    traced = untraced;
    same = same_of b a e;
    refused = open_cases (λ s. RefusedCause b.place.files words.config s) a.status fault (λ name. tt) tt;
    config_first = config_taken b.place.files words.config text config (IsTextFault words.config a.status) held read;
    store_refused = open_cases (λ s. StoreCause b.keep.kept s) a.status fault (λ name. tt) tt;
    store_next = store_taken b.keep.kept stored last (IsTextFault words.config a.status ⊎ IsStoreFault a.status) kept;
    unopened = unopened;
    unread = open_cases (λ s. ReadCause words.config words.sources Counts Names s) a.status fault (λ name. tt) tt;
    unwritten = open_cases (λ s. WriteCause (WriteFailed b a) (WriteTookNone b a) s) a.status fault (λ name. tt) tt;
    unkept = open_cases (λ s. KeepCause b.keep.faults a.keep.faults s) a.status fault (λ name. tt) tt;
  }
    where
      there : RanNothing (scene words b a)
      there = record { no_entry = e.no_entry; no_record = e.no_record; opened = opened }

  -- the store was not loaded, or its text was refused
  pub lived_store : (text : Text) (config : Config) → HoldsText b.place.files words.config text → config_of text ≡ Ok config → IsStoreFault a.status → StoreCause b.keep.kept a.status
      → KeepCause b.keep.faults a.keep.faults a.status → a.sources ≡ [] → Lived words b a
  lived_store text config held read fault refused kept none = record {
    stands = store_cases Stood a.status fault (inl (e.untouched, nothing)) (λ code. (e.untouched, nothing)) (inl (e.untouched, inl there));
    traced = untraced;
    same = same_of b a e;
    refused = store_cases (λ s. RefusedCause b.place.files words.config s) a.status fault tt (λ code. tt) tt;
    config_first = config_taken b.place.files words.config text config (IsTextFault words.config a.status) held read;
    store_refused = refused;
    store_next = if_all b.keep.kept (λ k. (IsStore k → ⊥) → IsTextFault words.config a.status ⊎ IsStoreFault a.status) (λ k never. inr fault);
    unopened = store_cases (λ s. RunOpenCause words b.place.faults a.place.faults a.place.last s) a.status fault tt (λ code. tt) tt;
    unread = store_cases (λ s. ReadCause words.config words.sources Counts Names s) a.status fault tt (λ code. tt) tt;
    unwritten = store_cases (λ s. WriteCause (WriteFailed b a) (WriteTookNone b a) s) a.status fault tt (λ code. tt) tt;
    unkept = kept;
  }
    where
      nothing : OpenedNone (scene words b a)
      nothing = record { no_entry = e.no_entry; no_record = e.no_record; no_source = none }

      there : RanNothing (scene words b a)
      there = record { no_entry = e.no_entry; no_record = e.no_record; opened = subst (AreOpened words.sources) (sym none) tt }

pub early_from : (b : Before) (a : After) → a.out ≡ b.out → a.err ≡ b.err → a.trace ≡ None → a.keep.kept ≡ b.keep.kept → b.keep.faults ≤ a.keep.faults → a.journal ≡ [] → a.records ≡ [] → IsEarly b a
early_from b a out err trace kept faults journal records = record {
  untouched = record { no_call = out; no_error = err; no_trace = trace; no_store = kept };
  no_entry = journal;
  no_record = records;
  faults = faults;
}

pub not_more : {K : Type 0} (faults : K → ℕ) (first : ℕ) (k k' : K) → k' ≡ k → first ≤ faults k → first ≤ faults k'
not_more faults first k k' e h = subst (λ z. first ≤ faults z) (sym e) h
