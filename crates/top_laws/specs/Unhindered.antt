-- What hinders a command: none of this.
use Rattle.std.specs.Prelude.{ℕ, ◌≡◌, ◌≤◌, true, length, Option, IfSome, IsSomeAnd}
use Rattle.ha_io.specs.Counts.{Rose}
use Rattle.ha_config.specs.Words.{Text}
use Rattle.ha_journal.specs.Journal.{Journal}
use Rattle.ha_model.specs.Records.{Records}
use Rattle.ha_whole.specs.Whole.{HasRoom}
use Rattle.ha_words.specs.declared.plan.RunWords.{RunWords}
use Rattle.bus_turn.specs.States.{SinkState}
use Rattle.ha_worker.specs.Courses.{SourceState, most_bytes}
use Rattle.ha_run.specs.Served.{Each}
use Rattle.trace_laws.specs.Tells.{IsTraceOf}
use Rattle.replay_file.specs.Fronts.{most_bytes as most_trace_bytes}
use Rattle.ha_rehearse.specs.Rehearsed.{RehearsedFull}
use Rattle.ha_top.specs.Views.{After, Before}
use Rattle.ha_top.specs.Answered.{IsStore, IsTaken}

-- no write to the sink failed, and none took no byte
pub record IsWell (before after : SinkState) : Type 0 where
  pub no_fault : Rose before.faults after.faults → ⊥
  pub no_zero : Rose before.zeros after.zeros → ⊥

-- so of a sink that was made in the call
pub record IsNewWell (made : SinkState) : Type 0 where
  pub no_fault : made.faults ≡ 0
  pub no_zero : made.zeros ≡ 0

-- no read of it failed
abbrev pub IsRead : SourceState → Type 0
IsRead source = source.faults ≡ 0

-- a file that has no more bytes than a source gives
abbrev pub IsWithin : Option Text → Type 0
IsWithin file = IfSome file (λ text. length text ≤ most_bytes)

-- The file is a configuration, the place tells its files and did not fail, and neither did the output and the sources.
pub record IsUnhinderedCheck (name : Text) (b : Before) (a : After) : Type 0 where
  pub taken : IsSomeAnd b.place.files (λ f. IsTaken (f name))
  pub opened : Rose b.place.faults a.place.faults → ⊥
  pub out_well : IsWell b.out a.out
  pub read : Each IsRead a.sources

-- Likewise, and the keeper holds nothing or a store's text; neither it nor the errors nor the trace failed; each source keeps within its
-- bound; and there was room for one put more, a Restart too.
pub record IsUnhinderedRun (words : RunWords) (b : Before) (a : After) : Type 0 where
  pub like_check : IsUnhinderedCheck words.config b a
  pub stored : IsSomeAnd b.keep.kept IsStore
  pub kept : Rose b.keep.faults a.keep.faults → ⊥
  pub err_well : IsWell b.err a.err
  pub trace_well : IfSome a.trace IsNewWell
  pub within : IfSome b.place.files (λ f. Each (λ name. IsWithin (f name)) words.sources)
  pub room : HasRoom a.journal true

-- the trace of a finished run, within the bound on a trace's bytes
pub record IsWholeTrace (text : Text) : Type 0 where
  pub journal : Journal
  pub records : Records
  pub trace : IsTraceOf text journal records
  pub within : length text ≤ most_trace_bytes

-- the place did not fail, and neither did the outputs and the source
pub record IsWellReplay (b : Before) (a : After) : Type 0 where
  pub opened : Rose b.place.faults a.place.faults → ⊥
  pub out_well : IsWell b.out a.out
  pub err_well : IsWell b.err a.err
  pub read : Each IsRead a.sources

-- The file is the trace of a finished run, the place tells its files, and nothing failed.
pub record IsUnhinderedReplay (name : Text) (b : Before) (a : After) : Type 0 where
  pub traced : IsSomeAnd b.place.files (λ f. IsSomeAnd (f name) IsWholeTrace)
  pub well : IsWellReplay b a

-- There is room for the journal of so many lines, and the output did not fail.
pub record IsUnhinderedRehearsal (lines : ℕ) (b : Before) (a : After) : Type 0 where
  pub room : RehearsedFull lines → ⊥
  pub out_well : IsWell b.out a.out
