-- What a worker puts, by what its pass knows before and after.
use Rattle.std.specs.Prelude.{ℕ, ◌≡◌, ◌⊎◌, List, [], ◌∷◌, ◌++◌}
use Rattle.std.specs.List.{list_any}
use Rattle.ha_config.specs.declared.command.Cmd.{Cmd}
use Rattle.ha_model.specs.Lawful.{shuts}
use Rattle.bus_pass.specs.declared.hand.Given.{Given}
use Rattle.bus_pass.specs.declared.hand.Hand.{Hand}
use Rattle.ha_worker.specs.Views.{HasPut, list_of, read_lines}

-- steps alone were put, or nothing, and no command was found due
pub record NoLine (old new : Hand) : Type 0 where
  pub lines : read_lines (list_of new) ≡ read_lines (list_of old)
  pub shut : (k : ℕ) → list_any (λ (g : Given). shuts k g.entry) (list_of new) ≡ list_any (λ (g : Given). shuts k g.entry) (list_of old)
  pub dues : new.dues ≡ old.dues

-- the lines of these commands come behind those of the list
abbrev pub Puts : List Cmd → Hand → Hand → Type 0
Puts cmds old new = (done : List Cmd) → HasPut (list_of old) done → HasPut (list_of new) (done ++ cmds)

-- the lines of these commands were put
pub record PutAll (k : ℕ) (cmds : List Cmd) (old new : Hand) : Type 0 where
  pub puts : Puts cmds old new
  pub dues : new.dues ≡ old.dues

-- a command is due only where it is the first of these
abbrev pub IsDue : ℕ → List Cmd → Hand → Hand → Type 0
IsDue k unput old new = (new.dues ≡ old.dues) ⊎ ((c : Cmd) × (rest : List Cmd) × (unput ≡ c ∷ rest) × (new.dues ≡ (k, c) ∷ old.dues))

-- a front of them was put
pub record PutSome (k : ℕ) (cmds : List Cmd) (old new : Hand) : Type 0 where
  pub put : List Cmd
  pub unput : List Cmd
  pub parts : cmds ≡ put ++ unput
  pub puts : Puts put old new
  pub due : IsDue k unput old new

-- the line of the first of them was put, and the rest are left
pub record PutFirst (k : ℕ) (cmds left : List Cmd) (old new : Hand) : Type 0 where
  pub first : Cmd
  pub parts : cmds ≡ first ∷ left
  pub put : PutAll k (first ∷ []) old new
