-- What becomes of the sources of a run, and of their lines.
use Rattle.std.specs.Prelude.{ℕ, zero, suc, ◌≡◌, ◌≢◌, ◌<◌, ◌≤◌, ◌⊎◌, true, List, [], ◌∷◌, ◌++◌, length, map, Option, Some, IfSome, IsSomeAnd, slice_get}
use Rattle.ha_config.specs.declared.command.Cmd.{Cmd}
use Rattle.ha_config.specs.declared.config.Config.{Config}
use Rattle.ha_config.specs.Fair.{prepared}
use Rattle.ha_journal.specs.declared.entry.Entry.{Entry}
use Rattle.ha_journal.specs.declared.entry.Entry.TheVariants.{Boot, Line, Step, Again}
use Rattle.ha_journal.specs.Commands.{ArePutFrom}
use Rattle.ha_journal.specs.Entries.{restarts}
use Rattle.ha_config.specs.Words.{Text}
use Rattle.ha_status.specs.Files.{Files}
use Rattle.ha_worker.specs.Courses.{Course, SourceState, cmds_by, most_bytes}

-- the fact holds of each member, and of one of them
abbrev pub Each : {X : Type 0} → (X → Type 0) → List X → Type 0
Each P [] = Unit {0}
Each P (x ∷ xs) = P x × Each P xs

abbrev pub OneOf : {X : Type 0} → (X → Type 0) → List X → Type 0
OneOf P [] = ⊥
OneOf P (x ∷ xs) = P x ⊎ OneOf P xs

-- what became of one source, and those of its commands that were not put
pub record Feed : Type 0 where
  pub course : Course
  pub unput : List Cmd

-- The bytes that were read of a file, by what is left of it in its source: all of it at its end; all but what is left while it goes on and
-- after a failure; and as many as it may give where it has more, of which one byte was taken.
abbrev pub IsReadOf : Course → Text → Option Text → Text → Type 0
IsReadOf Course.Goes bytes left file = (rest : Text) × (left ≡ Some rest) × (file ≡ bytes ++ rest)
IsReadOf Course.Ends bytes left file = (left ≡ Some []) × (file ≡ bytes)
IsReadOf Course.Fails bytes left file = (rest : Text) × (left ≡ Some rest) × (file ≡ bytes ++ rest)
IsReadOf Course.Exceeds bytes left file =
    (length bytes ≡ most_bytes) × ((next : ℕ) × (rest : Text) × (left ≡ Some rest) × (file ≡ bytes ++ next ∷ rest))

-- Of source k, which has this name, these bytes were read, within its bound; its lines in the journal are put from all their commands, in
-- order, each once, each Reload with what its text is read as, but for the last ones, which are not put. At its end nothing is left in it; where a read failed, its count tells.
pub record IsServed (reading : Text → Option Config) (files : Option Files) (journal : List Entry) (k : ℕ) (name : Text) (source : SourceState) (feed : Feed) : Type 0 where
  pub bytes : Text
  pub put : List Cmd
  pub named : IfSome source.name (λ told. told ≡ name)
  pub read : IfSome files (λ f. IsSomeAnd (f name) (IsReadOf feed.course bytes source.left))
  pub within : length bytes ≤ most_bytes
  pub cmds_are : cmds_by feed.course bytes ≡ put ++ feed.unput
  pub puts : ArePutFrom k journal (map (prepared reading) put)
  pub failed : feed.course ≡ Course.Fails → 0 < source.faults
  pub left : feed.course ≡ Course.Ends → IfSome source.left (λ left. left ≡ [])

-- so of each source, by its name, from source k on
abbrev pub AreServed : (Text → Option Config) → Option Files → List Entry → ℕ → List Text → List SourceState → List Feed → Type 0
AreServed reading files journal k [] [] [] = Unit {0}
AreServed reading files journal k (name ∷ names) (source ∷ sources) (feed ∷ feeds) =
    IsServed reading files journal k name source feed × AreServed reading files journal (suc k) names sources feeds
AreServed reading files journal k names sources feeds = ⊥

-- each entry is of one of the first n sources, or of its worker; a Boot and an Again are of none
abbrev pub IsOf : ℕ → Entry → Type 0
IsOf n (Boot text config stored start zone carry) = Unit {0}
IsOf n (Again number start stored carry) = Unit {0}
IsOf n (Line k number cmd) = k < n
IsOf n (Step k serial branch item) = k < n

-- ---- how the sources ended

-- all its commands are put, and it is through
pub record IsThrough (feed : Feed) : Type 0 where
  pub all : feed.unput ≡ []
  pub over : feed.course ≢ Course.Goes

abbrev pub IsEnded : Feed → Type 0
IsEnded feed = feed.course ≡ Course.Ends

-- the first source that did not come to its end is source k, and this became of it
abbrev pub IsFirst : Course → ℕ → List Feed → Type 0
IsFirst course k [] = ⊥
IsFirst course zero (feed ∷ feeds) = feed.course ≡ course
IsFirst course (suc k) (feed ∷ feeds) = IsEnded feed × IsFirst course k feeds

-- a command of one of them is not put
abbrev pub OwesLine : List Feed → Type 0
OwesLine feeds = OneOf (λ (feed : Feed). 0 < length feed.unput) feeds

-- the first command of one of them that is not put is a Restart
abbrev pub OwesRestart : List Feed → Type 0
OwesRestart feeds = OneOf (λ (feed : Feed). IsSomeAnd (slice_get feed.unput 0) (λ c. restarts c ≡ true)) feeds

-- the sources that were opened are those of the first names, in order
abbrev pub AreOpened : List Text → List SourceState → Type 0
AreOpened names [] = Unit {0}
AreOpened [] (source ∷ sources) = ⊥
AreOpened (name ∷ names) (source ∷ sources) = IfSome source.name (λ told. told ≡ name) × AreOpened names sources
