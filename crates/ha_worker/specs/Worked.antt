-- What a worker's work leaves, by what became of its source.
use Rattle.std.specs.Prelude.{ℕ, ◌≡◌, List, [], ◌∷◌, ◌++◌, Contains, map, Option}
use Rattle.ha_config.specs.declared.command.Cmd.{Cmd}
use Rattle.ha_config.specs.declared.config.Config.{Config}
use Rattle.ha_config.specs.Fair.{prepared}
use Rattle.ha_config.specs.Words.{Text}
use Rattle.bus_pass.specs.declared.hand.Hand.{Hand}
use Rattle.ha_worker.specs.Courses.{Course, HasGiven, SourceState, cmds_by}
use Rattle.ha_worker.specs.Ends.{Notes}
use Rattle.ha_worker.specs.Views.{HasPut, IsOne, list_of}
use Rattle.ha_worker.specs.declared.end.WorkerEnd.{WorkerEnd}

-- the source ended so, and all its commands are put; or the pass notes a fault
abbrev pub EndsAs : WorkerEnd → Course → List Cmd → Hand → Type 0
EndsAs WorkerEnd.Ended course unput v = (course ≡ Course.Ends) × (unput ≡ [])
EndsAs WorkerEnd.Lost course unput v = (course ≡ Course.Fails) × (unput ≡ [])
EndsAs WorkerEnd.TooLong course unput v = (course ≡ Course.Exceeds) × (unput ≡ [])
EndsAs WorkerEnd.Stopped course unput v = Notes WorkerEnd.Stopped v.noted
EndsAs WorkerEnd.Memory course unput v = Notes WorkerEnd.Memory v.noted

-- The pass of worker k knows its lines: they have their numbers in order, each once, and were read as a front of the commands that the
-- source's bytes are, each Reload with what its text is read as; as all of them where it ended, was lost or is too long. A command that it
-- notes as due is the first that was not put.
pub record Worked (read : Text → Option Config) (k : ℕ) (end : WorkerEnd) (v : Hand) (before after : SourceState) : Type 0 where
  pub course : Course
  pub bytes : Text
  pub put : List Cmd
  pub unput : List Cmd
  pub given : HasGiven course bytes before after
  pub cmds_are : cmds_by course bytes ≡ put ++ unput
  pub one : IsOne k v
  pub lines : HasPut (list_of v) (map (prepared read) put)
  pub due : (d : ℕ × Cmd) → Contains v.dues d → (d.0 ≡ k) × ((rest : List Cmd) × (map (prepared read) unput ≡ d.1 ∷ rest))
  pub ends : EndsAs end course unput v
