-- What stands while the lines of a rehearsal are put.
use Rattle.std.specs.Prelude.{ℕ, zero, suc, ◌≡◌, ◌≤◌, ◌<◌, ◌⊎◌, false, List, [], ◌∷◌, ◌++◌, count_by}
use Rattle.std.specs.List.{list_any}
use Rattle.ha_whole.specs.declared.faults.CoreFault.{CoreFault}
use Rattle.ha_config.specs.declared.command.Cmd.{Cmd}
use Rattle.ha_journal.specs.declared.entry.Entry.{Entry}
use Rattle.ha_journal.specs.Commands.{ArePutFrom}
use Rattle.ha_journal.specs.Entries.{restarts}
use Rattle.ha_journal.specs.Journal.{Journal}
use Rattle.ha_model.specs.Lawful.{is_line_of, shuts}
use Rattle.ha_model.specs.Records.{Records}
use Rattle.ha_laws.specs.Makers.{OfOne}
use Rattle.ha_whole.specs.Whole.{IsFull, LacksRoom, Lawful, Running, is_quiet}
use Rattle.flow_line.specs.Command.{cmd_of}
use Rattle.rehearsal.specs.Generated.{line_at}

-- the commands of the first n lines
abbrev pub cmds : ℕ → List Cmd
cmds zero = []
cmds (suc n) = cmds n ++ cmd_of (line_at n) ∷ []

-- The journal begins with this entry. All others are of source 0 and its worker, or Agains, and its lines are put from the first n commands.
pub record Put (boot : Entry) (n : ℕ) (j : Journal) : Type 0 where
  pub later : List Entry
  pub begins : j ≡ boot ∷ later
  pub alone : OfOne j
  pub puts : ArePutFrom 0 j (cmds n)
  pub number : count_by (is_line_of 0) j ≡ n
  pub unshut : list_any (shuts 0) j ≡ false

-- so far, without closing steps
pub record On (boot : Entry) (n : ℕ) (j : Journal) (records : Records) : Type 0 where
  pub running : Running j records
  pub put : Put boot n j

-- and with closing steps
pub record Closing (boot : Entry) (n : ℕ) (j : Journal) (records : Records) : Type 0 where
  pub lawful : Lawful j records
  pub put : Put boot n j

-- a step is due, or the next of so many lines, and there is no room for it
abbrev pub HasNoRoom : ℕ → ℕ → Journal → Records → Type 0
HasNoRoom n most j records = ((is_quiet records j ≡ false) × IsFull j) ⊎ ((n < most) × LacksRoom j (restarts (cmd_of (line_at n))))

-- after a fault, some of so many lines stand
pub record Failed (boot : Entry) (most : ℕ) (fault : CoreFault) (j : Journal) (records : Records) : Type 0 where
  pub n : ℕ
  pub within : n ≤ most
  pub closing : Closing boot n j records
  pub due : fault ≡ CoreFault.Full → HasNoRoom n most j records
