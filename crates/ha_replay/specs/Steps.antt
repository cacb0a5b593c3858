-- Who may put the next entry, and what a refused put comes to.
use Rattle.std.specs.Prelude.{ℕ, ◌≡◌, ◌<◌, ◌^◌, ◌⊎◌, Bool, true, false, not, nat_eq, count_by, ◌∷◌}
use Rattle.std.specs.Option.{option_map_or}
use Rattle.std.specs.Prelude.{◌++◌, Option, None, Some, codes, decimal, if◌then◌else◌}
use Rattle.std.specs.List.{list_any}
use Rattle.ha_whole.specs.declared.faults.CoreFault.{CoreFault}
use Rattle.ha_config.specs.declared.command.Cmd.{Cmd}
use Rattle.ha_journal.specs.declared.entry.Entry.{Entry}
use Rattle.ha_journal.specs.declared.entry.Entry.TheVariants.{Boot, Line, Step, Again}
use Rattle.ha_config.specs.Words.{Text}
use Rattle.ha_config.specs.Fair.{shuts_source}
use Rattle.ha_config.specs.Helpers.{is_helper}
use Rattle.ha_journal.specs.Entries.{line_of}
use Rattle.ha_journal.specs.Journal.{Journal, helpers}
use Rattle.ha_journal.specs.Commands.{has_automation}
use Rattle.ha_model.specs.Lawful.{is_line_of, shuts}
use Rattle.ha_whole.specs.Whole.{is_quiet, is_rested}
use Rattle.flow_printed.specs.declared.line.PrintedLine.{PrintedLine}
use Rattle.flow_printed.specs.Printed.{IsPrintOfLine}
use Rattle.ha_replay.specs.declared.fault.TraceFault.{TraceFault}
use Rattle.ha_replay.specs.Traces.{Reached}

-- the automation that a command names, if it names one, is there, and the entity that it reports is no helper
abbrev pub is_named : Journal → Cmd → Bool
is_named j (Cmd.Switch name on stop) = has_automation j name
is_named j (Cmd.Trigger name skip) = has_automation j name
is_named j (Cmd.Report entity text attributes) = not (is_helper (helpers j) entity)
is_named j (Cmd.Gone entity) = not (is_helper (helpers j) entity)
is_named j (Cmd.Event kind pairs) = true
is_named j (Cmd.Moment at) = true
is_named j Cmd.Restart = true
is_named j (Cmd.Reload text config) = true
is_named j (Cmd.Refused code) = true
is_named j Cmd.Lost = true
is_named j Cmd.TooLong = true

-- the command reloads, whatever its text is read as
abbrev pub reloads : Cmd → Bool
reloads (Cmd.Reload text config) = true
reloads (Cmd.Report entity text attributes) = false
reloads (Cmd.Gone entity) = false
reloads (Cmd.Event kind pairs) = false
reloads (Cmd.Moment at) = false
reloads (Cmd.Switch name on stop) = false
reloads (Cmd.Trigger name skip) = false
reloads Cmd.Restart = false
reloads (Cmd.Refused code) = false
reloads Cmd.Lost = false
reloads Cmd.TooLong = false

-- the entry is a line that does
abbrev pub is_reload_line : Entry → Bool
is_reload_line x = option_map_or (λ l. reloads l.cmd) (line_of x) false

-- the number of a source's line, and whether it shuts the source
abbrev pub line_by : ℕ → Entry → Option (ℕ × Bool)
line_by source (Boot text config stored start zone carry) = None
line_by source (Again number start stored carry) = None
line_by source (Line k number cmd) = if nat_eq k source then Some (number, shuts_source cmd) else None
line_by source (Step worker serial branch item) = None

-- the source's line stands next: no step closes so far, the source is rested and open, the number is its next one, and the name is there
pub record IsNextLine (r : Reached) (line : PrintedLine) : Type 0 where
  pub is_open : r.closing ≡ false
  pub known : line.source < 16
  pub rested : is_rested r.records line.source r.journal ≡ true
  pub next : line.number ≡ count_by (is_line_of line.source) r.journal
  pub unshut : list_any (shuts line.source) r.journal ≡ false
  pub named : is_named r.journal line.cmd ≡ true

-- the text is the print of no other line, whose numbers are in range
abbrev pub IsOnlyPrint : Text → PrintedLine → Type 0
IsOnlyPrint text line = (other : PrintedLine) → other.source < 2 ^ 32 → other.number < 2 ^ 64 → IsPrintOfLine text other → line ≡ other

-- the worker may step: one that is rested makes closing steps alone, and those are of worker 0
pub record IsAllowed (r : Reached) (worker : ℕ) : Type 0 where
  pub busy : is_quiet r.records r.journal ≡ false
  pub due : (worker ≡ 0) ⊎ ((r.closing ≡ false) × (is_rested r.records worker r.journal ≡ false))

-- the line begins as that of a step of this worker
abbrev pub IsOf : Text → ℕ → Type 0
IsOf line worker = (rest : Text) × (line ≡ codes "{\"worker\":" ++ (decimal worker ++ 44 ∷ rest))

-- the fault of a refused put
abbrev pub fault_of : CoreFault → TraceFault
fault_of CoreFault.Full = TraceFault.Full
fault_of CoreFault.Memory = TraceFault.Memory
