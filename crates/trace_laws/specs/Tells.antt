-- What the bytes of a trace tell of its run.
use Rattle.std.specs.Prelude.{ℕ, ◌≡◌, ◌≤◌, ◌⊎◌, Bool, true, []}
use Rattle.ha_config.specs.Words.{Text}
use Rattle.ha_journal.specs.declared.entry.Entry.{Entry}
use Rattle.ha_journal.specs.Entries.{is_restart}
use Rattle.ha_journal.specs.Journal.{Journal}
use Rattle.ha_model.specs.Records.{Records}
use Rattle.ha_whole.specs.Whole.{CannotRestart, IsFull, ends_segment, opened}
use Rattle.ha_replay.specs.Traces.{IsEnd}
use Rattle.trace_laws.specs.Lines.{Cuts}
use Rattle.trace_laws.specs.Runs.{Begins, GoesOn, MayFollow, line_count}

-- the text is the whole trace of a finished run
abbrev pub IsTraceOf : Text → Journal → Records → Type 0
IsTraceOf text j rs = Begins text j rs true []

-- it is that of no finished run
abbrev pub IsNoTrace : Text → Type 0
IsNoTrace text = (j : Journal) (rs : Records) → IsTraceOf text j rs → ⊥

-- the text begins with the trace of no run so far, or finished run, that has more than n lines
abbrev pub IsFarthest : Text → ℕ → Type 0
IsFarthest text n = (j : Journal) (rs : Records) (ended : Bool) (left : Text) → Begins text j rs ended left → line_count j ended ≤ n

-- the line that is left, if one is, may not stand next; nothing may behind the end
abbrev pub GoesNoFurther : Journal → Records → Bool → Text → Type 0
GoesNoFurther j rs ended left = (line behind : Text) → Cuts left line behind → (ended ≡ true) ⊎ (MayFollow j rs line → ⊥)

-- and it is not the end line
abbrev pub HasNoEnd : Journal → Records → Text → Type 0
HasNoEnd j rs left = (line behind : Text) → Cuts left line behind → IsEnd j rs line → ⊥

-- nor that of an Again that is due
abbrev pub HasNoAgain : Journal → Text → Type 0
HasNoAgain j left = (line behind : Text) (x : Entry) (rs' : Records) → Cuts left line behind → ends_segment j ≡ true → GoesOn j line x rs' → ⊥

-- the line that is left is that of a Restart with which the run goes on
pub record RestartsNext (j : Journal) (left : Text) : Type 0 where
  pub line : Text
  pub behind : Text
  pub cuts : Cuts left line behind
  pub entry : Entry
  pub records : Records
  pub restarts : is_restart entry ≡ true
  pub goes_on : GoesOn j line entry records

-- there is no room for what stands next: the last segment or the journal is full, or it is a Restart, which has no room
abbrev pub HasNoRoom : Journal → Text → Type 0
HasNoRoom j left = IsFull (opened j) ⊎ (CannotRestart (opened j) × RestartsNext j left)
