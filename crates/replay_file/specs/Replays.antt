-- What `replay` of a file comes to.
use Rattle.std.specs.Prelude.{◌≤◌, ◌⊎◌, List, [], Option, length}
use Rattle.ha_config.specs.Words.{Text}
use Rattle.ha_status.specs.declared.status.Status.{Status}
use Rattle.ha_status.specs.Files.{Files}
use Rattle.replay_file.specs.declared.front.FrontEnd.{FrontEnd}
use Rattle.replay_file.specs.Fronts.{IsReadOf, most_bytes}
use Rattle.replay_file.specs.Judged.{Judged}

-- the file was read, all of it but what is left in the source that is handed back, and the bytes that were read were judged
pub record Replayed (files : Option Files) (name : Text) (lefts : List (Option Text)) (status : Status) (Calls Errors : Text → Type 0) : Type 0 where
  pub text : Text
  pub end : FrontEnd
  pub read : IsReadOf files name text end lefts
  pub within : length text ≤ most_bytes
  pub judged : Judged text end status Calls Errors

-- the answers where the file was not read
abbrev pub IsUnread : Status → Type 0
IsUnread (Status.OpenFault name) = Unit {0}
IsUnread Status.Memory = Unit {0}
IsUnread _ = ⊥

-- no calls and no errors where the file was not read, else those of the run that its bytes begin with
abbrev pub IsReplay : Option Files → Text → List (Option Text) → Status → (Text → Type 0) → (Text → Type 0) → Type 0
IsReplay files name lefts status Calls Errors = (IsUnread status × Calls [] × Errors []) ⊎ Replayed files name lefts status Calls Errors
