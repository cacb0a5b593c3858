-- Sources that were opened and not read yet.
use Rattle.std.specs.Prelude.{ℕ, ◌≡◌, List, [], ◌∷◌, Option, IfSome}
use Rattle.ha_io.specs.Told.{HasFile}
use Rattle.ha_config.specs.Words.{Text}
use Rattle.ha_status.specs.Files.{Files}
use Rattle.ha_worker.specs.Courses.{SourceState, source_state}

-- what is seen of a source, by the members of its trait
abbrev pub source_of : {S : Type 0} → (S → ℕ) → (S → Option Text) → (S → Option Text) → S → SourceState
source_of faults left name s = source_state (faults s) (left s) (name s)

-- where files are told, the bytes of this one are left in it; it has this name, where it is told, and has not failed
pub record IsOpened (files : Option Files) (name : Text) (s : SourceState) : Type 0 where
  pub holds : HasFile files name s.left
  pub named : IfSome s.name (λ told. told ≡ name)
  pub new : s.faults ≡ 0

-- so of each, by its name
abbrev pub AreNew : Option Files → List Text → List SourceState → Type 0
AreNew files [] [] = Unit {0}
AreNew files (name ∷ names) (s ∷ sources) = IsOpened files name s × AreNew files names sources
AreNew files names sources = ⊥
