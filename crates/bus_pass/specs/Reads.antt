-- What was read for the entries of one give.
use Rattle.std.specs.Prelude.{ℕ, ◌-◌, List, Option, None, if◌then◌else◌, map, nat_le, slice_get}
use Rattle.ha_config.specs.declared.command.Cmd.{Cmd}
use Rattle.ha_config.specs.declared.config.Config.{Config}
use Rattle.ha_config.specs.Fair.{prepared}
use Rattle.ha_config.specs.Words.{Text}
use Rattle.ha_journal.specs.declared.entry.Entry.{Entry}
use Rattle.ha_journal.specs.declared.entry.Entry.TheVariants.{Boot, Line, Step, Again}

-- the commands that were read, the number of the line of the first, and the number of the first line that was not put
pub record Reading : Type 0 where
  pub from : ℕ
  pub next : ℕ
  pub cmds : List Cmd

abbrev pub reading : ℕ → ℕ → List Cmd → Reading
reading from next cmds = record { from = from; next = next; cmds = cmds }

-- the commands with what the texts of reloads are read as
abbrev pub prepared_in : (Text → Option Config) → Reading → Reading
prepared_in read r = reading r.from r.next (map (prepared read) r.cmds)

-- of commands that are numbered from here on, the one with this number, where there is one
abbrev pub cmd_at : ℕ → List Cmd → ℕ → Option Cmd
cmd_at from cmds number = if nat_le from number then slice_get cmds (number - from) else None

-- what was read for each entry: for a line the command with its number, for a step none
abbrev pub Reads : Type 0
Reads = Entry → Option Cmd

abbrev pub read_for : ℕ → List Cmd → Reads
read_for from cmds (Boot text config stored start zone carry) = None
read_for from cmds (Again number start stored carry) = None
read_for from cmds (Line source number cmd) = cmd_at from cmds number
read_for from cmds (Step worker serial branch item) = None

abbrev pub reads : Reading → Reads
reads r = read_for r.from r.cmds

-- the first command that was not put, where there is one
abbrev pub due_in : Reading → Option Cmd
due_in r = cmd_at r.from r.cmds r.next
