-- What is found in the bytes of a trace, and how far its calls and errors are written.
use Rattle.std.specs.Prelude.{ℕ, suc, ◌≡◌, ◌⊎◌, Bool, true, false, [], Option, Some}
use Rattle.ha_config.specs.Words.{Text}
use Rattle.ha_journal.specs.Journal.{Journal}
use Rattle.ha_model.specs.Records.{Records}
use Rattle.ha_journal.specs.EntryText.{error_text}
use Rattle.ha_io.specs.Told.{Takes}
use Rattle.ha_status.specs.declared.status.Status.{Status}
use Rattle.ha_status.specs.Written.{TookBut, TookLine}
use Rattle.replay_file.specs.declared.front.FrontEnd.{FrontEnd}
use Rattle.replay_file.specs.Fronts.{IsFrontOf}
use Rattle.trace_laws.specs.Lines.{is_one_line}
use Rattle.trace_laws.specs.Runs.{Begins, line_count}
use Rattle.trace_laws.specs.Tells.{HasNoRoom, IsFarthest, IsNoTrace}
use Rattle.ha_whole.specs.Trace.{call_text}

-- ---- the status

-- a whole line is left
abbrev pub HasLine : Text → Type 0
HasLine left = is_one_line left ≡ false

-- What comes next was judged: a whole line that is left, or at the end of the bytes that there is none.
abbrev pub IsJudged : FrontEnd → Text → Type 0
IsJudged end left = HasLine left ⊎ (end ≡ FrontEnd.Whole)

-- the fact holds of the bytes of each file of which this was read so
abbrev pub OfFile : Text → FrontEnd → (Text → Type 0) → Type 0
OfFile text end P = (bytes : Text) → IsFrontOf text end bytes → P bytes

-- The line, counted from 1, is the first at which the file departs from every trace: the lines before it are those of a run, but the file
-- begins with the trace of no run that has more lines, and is the whole trace of no finished run.
pub record IsRefused (text : Text) (end : FrontEnd) (j : Journal) (rs : Records) (ended : Bool) (left : Text) (line : ℕ) : Type 0 where
  pub line_is : line ≡ suc (line_count j ended)
  pub judged : IsJudged end left
  pub room : ended ≡ false → HasNoRoom j left → ⊥
  pub farthest : OfFile text end (λ bytes. IsFarthest bytes (line_count j ended))
  pub no_trace : OfFile text end IsNoTrace

-- There is no room for what stands next, and the file begins with the trace of no run that has more lines.
pub record IsFull (text : Text) (end : FrontEnd) (j : Journal) (ended : Bool) (left : Text) : Type 0 where
  pub unended : ended ≡ false
  pub full : HasNoRoom j left
  pub judged : IsJudged end left
  pub farthest : OfFile text end (λ bytes. IsFarthest bytes (line_count j ended))
  pub no_trace : OfFile text end IsNoTrace

-- The status where the bytes begin with the trace of this run, and this is left. A failed read and too many bytes come only where no whole
-- line is left. Failed writes and want of memory may come at each line.
abbrev pub IsStatusOf : Text → FrontEnd → Journal → Records → Bool → Text → Status → Type 0
IsStatusOf text end j rs ended left Status.Ok = (end ≡ FrontEnd.Whole) × (ended ≡ true) × (left ≡ [])
IsStatusOf text end j rs ended left (Status.TraceRefused line) = IsRefused text end j rs ended left line
IsStatusOf text end j rs ended left Status.JournalFull = IsFull text end j ended left
IsStatusOf text end j rs ended left (Status.SourceTooLong n) = (n ≡ 0) × (end ≡ FrontEnd.TooLong) × (is_one_line left ≡ true)
IsStatusOf text end j rs ended left (Status.ReadFault (Some n)) = (n ≡ 0) × (end ≡ FrontEnd.Failed) × (is_one_line left ≡ true)
IsStatusOf text end j rs ended left (Status.WriteFault zero) = Unit {0}
IsStatusOf text end j rs ended left Status.Memory = Unit {0}
IsStatusOf text end j rs ended left _ = ⊥

-- ---- what is written

-- writing failed, or memory ran out
abbrev pub IsCutShort : Status → Type 0
IsCutShort (Status.WriteFault zero) = Unit {0}
IsCutShort Status.Memory = Unit {0}
IsCutShort _ = ⊥

-- the sink took the text: all of it, or a front of it where the command was cut short
pub record IsTaken (status : Status) (text : Text) (before after : Option Text) : Type 0 where
  pub rest : Text
  pub took : TookBut rest text before after
  pub all : IsCutShort status ⊎ (rest ≡ [])

-- so the error lines, and then the status line
pub record AreErrorsTaken (faulted : Type 0) (status : Status) (errors : Text) (before after : Option Text) : Type 0 where
  pub between : Option Text
  pub errors_taken : IsTaken status errors before between
  pub line_taken : TookLine faulted status between after

-- ---- all of it

-- the bytes were judged so, and the calls and errors are those of the run that they begin with
pub record Judged (text : Text) (end : FrontEnd) (status : Status) (Calls Errors : Text → Type 0) : Type 0 where
  pub journal : Journal
  pub records : Records
  pub ended : Bool
  pub left : Text
  pub begins : Begins text journal records ended left
  pub status_is : IsStatusOf text end journal records ended left status
  pub calls : Calls (call_text journal records)
  pub errors : Errors (error_text journal)

-- ---- between two lines

-- the text begins so, and the calls and errors of that run are written
pub record IsAt (text : Text) (j : Journal) (rs : Records) (ended : Bool)
    (left : Text) (calls calls' errors errors' : Option Text) : Type 0 where
  pub begins : Begins text j rs ended left
  pub calls_taken : Takes calls (call_text j rs) calls'
  pub errors_taken : Takes errors (error_text j) errors'
