-- What a line of a trace is behind these entries: the next lawful one, or the end.
use Rattle.std.specs.Prelude.{◌-◌, ◌≡◌, ◌⊎◌, Bool, true, false, None, Option, Result, Ok, Err, length, take, if◌then◌else◌}
use Rattle.ha_journal.specs.declared.entry.Entry.{Entry}
use Rattle.ha_config.specs.declared.config.Config.{Config}
use Rattle.ha_config.specs.Words.{Text}
use Rattle.ha_journal.specs.Commands.{IsReadEntry}
use Rattle.ha_journal.specs.Entries.{is_again, is_restart}
use Rattle.ha_journal.specs.Journal.{Journal, more}
use Rattle.ha_model.specs.Records.{Records, last_is}
use Rattle.ha_config.specs.CheckText.{as_line}
use Rattle.ha_journal.specs.EntryText.{end_line, trace_line}
use Rattle.ha_whole.specs.Trace.{names}
use Rattle.ha_whole.specs.Whole.{CannotRestart, HasRoom, IsFull, IsOpen, Lawful, ends_segment, is_quiet, opened}
use Rattle.ha_replay.specs.declared.fault.TraceFault.{TraceFault}

-- the line, with its LF, is that of the entry, with which the journal stays lawful, opened where the entry is a Restart; a Reload has the
-- configuration that its text is read as. Behind a Restart the entry can be its Again alone
pub record IsNext (read : Text → Option Config) (j : Journal) (line : Text) (x : Entry) (rs : Records) : Type 0 where
  pub lawful : Lawful (opened (more j x)) rs
  pub read_is : IsReadEntry read x
  pub line_is : as_line line ≡ trace_line (names j) x

abbrev pub IsNoNext : (Text → Option Config) → Journal → Text → Type 0
IsNoNext read j line = (x : Entry) (rs : Records) → IsNext read j line x rs → ⊥

-- the line, with its LF, is the end line of the journal, which is quiet and ends with no Restart
pub record IsEnd (j : Journal) (rs : Records) (line : Text) : Type 0 where
  pub opened : ends_segment j ≡ false
  pub quiet : is_quiet rs j ≡ true
  pub line_is : as_line line ≡ end_line (length j)

-- whether the journal has a closing step
abbrev pub TellsClosing : Bool → Records → Journal → Type 0
TellsClosing true rs j = IsOpen rs j → ⊥
TellsClosing false rs j = IsOpen rs j

-- ---- a core that was replayed up to here

-- its journal with its records, whether this has a closing step, and whether its last entry is an Again whose line is still due
pub record Reached : Type 0 where
  pub journal : Journal
  pub records : Records
  pub closing : Bool
  pub again : Bool

abbrev pub reached : Journal → Records → Bool → Bool → Reached
reached journal records closing again = record { journal = journal; records = records; closing = closing; again = again }

-- the entries whose lines were taken
abbrev pub told : Reached → Journal
told r = if r.again then take (length r.journal - 1) r.journal else r.journal

-- the journal is lawful, and it is known whether it has a closing step; an Again that is due is its last entry
pub record Stands (r : Reached) : Type 0 where
  pub lawful : Lawful r.journal r.records
  pub closing : TellsClosing r.closing r.records r.journal
  pub again : r.again ≡ true → last_is is_again r.journal ≡ true

-- one more entry is told, whose line this is: it was put with the Restart before it, or the journal had room for it
pub record Takes (line : Text) (before after : Reached) : Type 0 where
  pub entry : Entry
  pub room : (before.again ≡ true) ⊎ HasRoom before.journal (is_restart entry)
  pub journal : told after ≡ more (told before) entry
  pub line_is : as_line line ≡ trace_line (names before.journal) entry
  pub stands : Stands after

-- the line is that of the Again that is due
pub record IsAgainDue (r : Reached) (line : Text) : Type 0 where
  pub due : r.again ≡ true
  pub entry : Entry
  pub is : r.journal ≡ more (told r) entry
  pub line_is : as_line line ≡ trace_line (names r.journal) entry

-- the line is that of the next lawful Restart, which reads no text
pub record IsRestartNext (r : Reached) (line : Text) : Type 0 where
  pub entry : Entry
  pub records : Records
  pub restarts : is_restart entry ≡ true
  pub next : IsNext (λ text. None) (told r) line entry records

-- There is no room for the line: the last segment or the journal is full, and it is neither the end nor the Again that is due; or it is the
-- next lawful Restart, and a Restart has no room.
abbrev pub HasNoRoom : Text → Reached → Type 0
HasNoRoom line r =
    (IsFull r.journal × (IsEnd (told r) r.records line → ⊥) × (IsAgainDue r line → ⊥)) ⊎ (CannotRestart r.journal × IsRestartNext r line)

-- What a line comes to: false where it is the next lawful entry, true at the end; Full exactly where there is no room for it, and Refused
-- exactly where there is, and it is neither.
abbrev pub Answers : (Text → Option Config) → Text → Reached → Reached → Result Bool TraceFault → Type 0
Answers read line before after (Ok false) = Takes line before after
Answers read line before after (Ok true) = IsEnd (told before) before.records line × (after ≡ before)
Answers read line before after (Err TraceFault.Refused) =
    (HasNoRoom line before → ⊥) × (IsEnd (told before) before.records line → ⊥) × IsNoNext read (told before) line
Answers read line before after (Err TraceFault.Full) = HasNoRoom line before
Answers read line before after (Err TraceFault.Memory) = Unit {0}

-- the fault of a line that may not stand next, by the room that the journal has
abbrev pub IsUnfit : Journal → TraceFault → Type 0
IsUnfit j TraceFault.Refused = IsFull j → ⊥
IsUnfit j TraceFault.Full = IsFull j
IsUnfit j TraceFault.Memory = ⊥

-- the journal stays, or has one more entry
abbrev pub IsFrontOf : Journal → Journal → Type 0
IsFrontOf j k = (k ≡ j) ⊎ ((x : Entry) × (k ≡ more j x))
