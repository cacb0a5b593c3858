-- What the pass of one worker knows: the worker's list of entries, and the lines among them.
use Rattle.std.specs.Prelude.{ℕ, ◌+◌, ◌≡◌, false, List, [], ◌∷◌, length, Option, Some, None}
use Rattle.std.specs.List.{list_any}
use Rattle.std.specs.Option.{option_map_or}
use Rattle.ha_config.specs.declared.command.Cmd.{Cmd}
use Rattle.ha_journal.specs.Entries.{line_of}
use Rattle.ha_model.specs.Lawful.{shuts}
use Rattle.ha_whole.specs.Whole.{Running}
use Rattle.bus_turn.specs.Shown.{BusView}
use Rattle.bus_pass.specs.Origins.{IsStored, origin_of}
use Rattle.bus_pass.specs.Rule.{IsList, stood}
use Rattle.bus_pass.specs.declared.hand.Given.{Given}
use Rattle.bus_pass.specs.declared.hand.Hand.{Hand}
use Rattle.bus_pass.specs.declared.hand.Stood.{Stood}

abbrev pub first_list : List Stood → List Given
first_list [] = []
first_list (s ∷ ss) = s.given

-- the list of the first worker that the pass stands for
abbrev pub list_of : Hand → List Given
list_of v = first_list v.stands

-- ---- the lines of a list

-- the numbers of its lines, each with the command that was read for it
abbrev pub read_lines : List Given → List (ℕ × Option Cmd)
read_lines [] = []
read_lines (g ∷ gs) = option_map_or (λ l. (l.number, g.read) ∷ read_lines gs) (line_of g.entry) (read_lines gs)

-- these commands, numbered from n on
abbrev pub numbered : ℕ → List Cmd → List (ℕ × Option Cmd)
numbered n [] = []
numbered n (c ∷ cs) = (n, Some c) ∷ numbered (n + 1) cs

-- the lines of the list were read as these commands, and have the numbers from 0 on
abbrev pub HasPut : List Given → List Cmd → Type 0
HasPut gs cmds = read_lines gs ≡ numbered 0 cmds

-- ---- the pass of one worker

-- the pass is not the first, and stands for worker k alone
pub record StandsFor (k : ℕ) (v : Hand) : Type 0 where
  pub later : v.first ≡ false
  pub stands : v.stands ≡ stood k (list_of v) ∷ []

-- and does not hold the bus
pub record IsOne (k : ℕ) (v : Hand) : Type 0 where
  pub one : StandsFor k v
  pub idle : v.taken ≡ None

-- nothing was put yet, and no fault noted
pub record IsFresh (k : ℕ) (v : Hand) : Type 0 where
  pub one : IsOne k v
  pub empty : list_of v ≡ []
  pub unnoted : v.noted ≡ None
  pub undue : v.dues ≡ []

-- the next line of source k has the number n
pub record Sits (n k : ℕ) (v : Hand) : Type 0 where
  pub one : IsOne k v
  pub next : n ≡ length (read_lines (list_of v))

-- and may come: the source was neither lost nor too long
pub record Takes (n k : ℕ) (v : Hand) : Type 0 where
  pub sits : Sits n k v
  pub unshut : list_any (λ (g : Given). shuts k g.entry) (list_of v) ≡ false

-- the pass has taken this bus
pub record Holds (k : ℕ) (b : BusView) (v : Hand) : Type 0 where
  pub one : StandsFor k v
  pub taken : v.taken ≡ Some b.journal
  pub noted : v.noted ≡ b.first
  pub origin : v.origin ≡ Some (origin_of b)
  pub list : IsList b.journal k (list_of v)
  pub running : Running b.journal b.records
  pub stored : IsStored b
