-- The commands that are read of the lines that a cut holds.
use Rattle.std.specs.Prelude.{◌≡◌, false, List, [], ◌∷◌, map, Option}
use Rattle.ha_config.specs.declared.command.Cmd.{Cmd}
use Rattle.ha_config.specs.declared.config.Config.{Config}
use Rattle.ha_journal.specs.Commands.{IsFair, put_as}
use Rattle.ha_config.specs.Fair.{prepared, shuts_source}
use Rattle.ha_journal.specs.Journal.{Journal}
use Rattle.ha_config.specs.Words.{Text}
use Rattle.ha_text.specs.Lines.{whole_lines}
use Rattle.flow_line.specs.Command.{cmd_of}
use Rattle.ha_worker.specs.Taken.{Took}

-- the command may be put on every journal, whatever a Reload's text is read as, and does not say that its source was lost or is too long
abbrev pub IsOpen : Cmd → Type 0
IsOpen c = (shuts_source c ≡ false) × ((read : Text → Option Config) (j : Journal) → IsFair j (put_as j (prepared read c)))

abbrev pub AreOpen : List Cmd → Type 0
AreOpen [] = Unit {0}
AreOpen (c ∷ cs) = IsOpen c × AreOpen cs

-- all whole lines were taken, and these are their commands
pub record AreRead (old : Text) (cmds : List Cmd) (new : Text) : Type 0 where
  pub lines : List Text
  pub took : Took old lines new
  pub none : whole_lines new ≡ []
  pub cmds_are : cmds ≡ map cmd_of lines
