-- Commands, and lines of a trace, by what is printed of them.
use Rattle.std.specs.Prelude.{◌≡◌, ◌<◌, ◌^◌, ℕ, IsTrue, decimal}
use Rattle.std.specs.Prelude.{false, is_none}
use Rattle.std.specs.Str.{is_utf8}
use Rattle.ha_value.specs.Ids.{is_name}
use Rattle.ha_config.specs.declared.command.Cmd.{Cmd}
use Rattle.ha_config.specs.Fair.{IsFairAmong, IsFairReport, IsReportable}
use Rattle.ha_config.specs.CommandText.{cmd_text}
use Rattle.ha_config.specs.Words.{Text}
use Rattle.flow_printed.specs.Line.{shown_line}
use Rattle.flow_printed.specs.declared.line.PrintedLine.{PrintedLine}

-- A command as it is read, which is fair but for whether the automation that it names is there, whether what it reports is a helper, or
-- what the text of a Reload is: that decides what is put for it.
abbrev pub IsFairButForName : Cmd → Type 0
IsFairButForName (Cmd.Report entity text attributes) = IsFairReport entity text attributes
IsFairButForName (Cmd.Gone entity) = IsReportable entity
IsFairButForName (Cmd.Switch name on stop) = IsTrue (is_name name)
IsFairButForName (Cmd.Trigger name skip) = IsTrue (is_name name)
IsFairButForName (Cmd.Reload text config) = IsTrue (is_utf8 text) × IsTrue (is_none config)
IsFairButForName c = IsFairAmong (λ name. false) (λ entity. false) false c

-- the text is the print of that command
pub record IsPrintOf (text : Text) (c : Cmd) : Type 0 where
  pub fair : IsFairButForName c
  pub text_is : text ≡ cmd_text c

-- a line of a trace, without the end of the line, by the print of its command
abbrev pub line_text : ℕ → ℕ → Text → Text
line_text source number shown = shown_line (decimal source) (decimal number) shown

-- a line whose numbers have the sizes of their types
pub record IsSized (l : PrintedLine) : Type 0 where
  pub source : l.source < 2 ^ 32
  pub number : l.number < 2 ^ 64

-- the text is the print of that line
pub record IsPrintOfLine (text : Text) (l : PrintedLine) : Type 0 where
  pub fair : IsFairButForName l.cmd
  pub text_is : text ≡ line_text l.source l.number (cmd_text l.cmd)
