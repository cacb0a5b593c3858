-- What a worker puts on a bus that it holds: steps, and the lines of commands, one behind the other.
use Rattle.std.specs.Prelude.{Bool, true, ℕ, ◌≡◌, ◌+◌, ◌⊎◌, List, [], ◌∷◌, ◌++◌, length, count_by, Some, IsSomeAnd, slice_get}
use Rattle.ha_config.specs.declared.command.Cmd.{Cmd}
use Rattle.ha_journal.specs.declared.entry.Entry.{Entry}
use Rattle.ha_journal.specs.declared.entry.Entry.TheVariants.{Boot, Line, Step, Again}
use Rattle.ha_journal.specs.Commands.{put_as}
use Rattle.ha_journal.specs.Journal.{Journal, more}
use Rattle.ha_model.specs.Lawful.{is_line_of}
use Rattle.ha_whole.specs.Whole.{IsFull, Running}
use Rattle.bus_turn.specs.declared.fault.BusFault.{BusFault}
use Rattle.bus_turn.specs.Shown.{BusView}
use Rattle.bus_pass.specs.Journal.{IsRestless}
use Rattle.bus_pass.specs.Origins.{IsStored, origin_of}
use Rattle.bus_pass.specs.Rule.{MayLackRoom}

-- These entries stand behind those before: steps of worker k, and the lines of source k that stand for these commands, in order, each
-- once, with the numbers from n on, with the Agains behind those that restart.
abbrev pub ArePut : ℕ → ℕ → List Cmd → Journal → List Entry → Type 0
ArePut k n cmds before [] = cmds ≡ []
ArePut k n cmds before (Boot text config stored start zone carry ∷ es) = ⊥
ArePut k n cmds before (Again number start stored carry ∷ es) = ArePut k n cmds (more before (Again number start stored carry)) es
ArePut k n cmds before (Line source number cmd ∷ es) = (source ≡ k) × (number ≡ n)
    × ((c : Cmd) × (rest : List Cmd) × (cmds ≡ c ∷ rest) × (cmd ≡ put_as before c)
    × ArePut k (n + 1) rest (more before (Line source number cmd)) es)
ArePut k n cmds before (Step worker serial branch item ∷ es) =
    (worker ≡ k) × ArePut k n cmds (more before (Step worker serial branch item)) es

-- the bus may go back into the channel, and n is the number of the next line of source k
pub record IsAt (n k : ℕ) (b : BusView) : Type 0 where
  pub running : Running b.journal b.records
  pub stored : IsStored b
  pub next : n ≡ count_by (is_line_of k) b.journal

-- worker k put the lines of these commands, numbered from n on, and steps; the number of its next line is m
pub record Came (k n m : ℕ) (cmds : List Cmd) (old new : BusView) : Type 0 where
  pub entries : List Entry
  pub behind : new.journal ≡ old.journal ++ entries
  pub put : ArePut k n cmds old.journal entries
  pub number : m ≡ n + length cmds
  pub origin : origin_of new ≡ origin_of old
  pub at : IsAt m k new

-- it put those of a front of these commands, and some are left; where the bus found no room, its journal is full and a run is ready to
-- step, or a command is left that may have had no room
pub record CameSome (k n m : ℕ) (cmds left : List Cmd) (old new : BusView) : Type 0 where
  pub put : List Cmd
  pub parts : cmds ≡ put ++ left
  pub came : Came k n m put old new
  pub full : new.first ≡ Some BusFault.Full
      → (IsFull new.journal × IsRestless new.journal) ⊎ IsSomeAnd (slice_get left 0) (MayLackRoom new.journal)

-- those of a front were put; where it went well, these others are left
abbrev pub CameUntil : (k n m : ℕ) (cmds : List Cmd) (went_well : Bool) (others : List Cmd) (old new : BusView) → Type 0
CameUntil k n m cmds went_well others old new = (left : List Cmd) × CameSome k n m cmds left old new × (went_well ≡ true → left ≡ others)
