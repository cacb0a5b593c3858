-- What becomes of a source: the bytes that it gave, and the commands that these are.
use Rattle.std.specs.Prelude.{ℕ, ◌≡◌, ◌≤◌, List, [], ◌∷◌, ◌++◌, length, map, Option}
use Rattle.std.specs.Io.KnownBytes.{IsAtEnd}
use Rattle.ha_io.specs.Counts.{Rose}
use Rattle.ha_io.specs.Told.{Gives}
use Rattle.ha_config.specs.declared.command.Cmd.{Cmd}
use Rattle.ha_config.specs.declared.config.Config.{Config}
use Rattle.ha_config.specs.Fair.{prepared}
use Rattle.ha_config.specs.Words.{Text}
use Rattle.ha_text.specs.Lines.{lines_of, whole_lines}
use Rattle.flow_line.specs.Command.{cmd_of}

-- how often a source has failed, and, where it is told, what is left in it and its name
pub record SourceState : Type 0 where
  pub faults : ℕ
  pub left : Option Text
  pub name : Option Text

abbrev pub source_state : ℕ → Option Text → Option Text → SourceState
source_state faults left name = record { faults = faults; left = left; name = name }

-- what is seen of a source, by the members of its trait
abbrev pub source_of : {S : Type 0} → (S → ℕ) → (S → Option Text) → (S → Option Text) → S → SourceState
source_of faults left name s = source_state (faults s) (left s) (name s)

-- a source gives at most this many bytes
unfoldable pub most_bytes : ℕ
most_bytes = 67_108_864

-- it goes on, it came to its end, a read failed, or it gave more than its bound
pub data Course : Type 0 where
  Goes : Course
  Ends : Course
  Fails : Course
  Exceeds : Course

-- The commands that a source's bytes are: those of all lines where it came to its end. Else a begun line is dropped, and behind the lines
-- that are whole stands that the source was lost, or that it is too long.
abbrev pub cmds_by : Course → Text → List Cmd
cmds_by Goes bytes = map cmd_of (whole_lines bytes)
cmds_by Ends bytes = map cmd_of (lines_of bytes)
cmds_by Fails bytes = map cmd_of (whole_lines bytes) ++ (Cmd.Lost ∷ [])
cmds_by Exceeds bytes = map cmd_of (whole_lines bytes) ++ (Cmd.TooLong ∷ [])

-- the command of a line, with what the text of a Reload is read as
abbrev pub cmd_read : (Text → Option Config) → Text → Cmd
cmd_read read line = prepared read (cmd_of line)

-- what the source gave: these bytes, at its end nothing further, after a failure whatever there is more, and past its bound one byte more
abbrev pub GaveBytes : Course → Text → SourceState → SourceState → Type 0
GaveBytes Goes bytes old new = Gives old.left bytes new.left
GaveBytes Ends bytes old new = Gives old.left bytes new.left × IsAtEnd new.left
GaveBytes Fails bytes old new = Gives old.left bytes new.left × Rose old.faults new.faults
GaveBytes Exceeds bytes old new = (next : ℕ) × (length bytes ≡ most_bytes) × Gives old.left (bytes ++ (next ∷ [])) new.left

pub record HasGiven (course : Course) (bytes : Text) (old new : SourceState) : Type 0 where
  pub gave : GaveBytes course bytes old new
  pub within : length bytes ≤ most_bytes
  pub faults_stay : old.faults ≤ new.faults
  pub same_name : new.name ≡ old.name
