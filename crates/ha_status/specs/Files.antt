-- The file of a configuration, and the answers of a command that did not get its text.
use Rattle.std.specs.Prelude.{ℕ, ◌≡◌, ◌<◌, List, [], ◌∷◌, length, Option, None, Some, IfSome, IsSome}
use Rattle.ha_io.specs.Told.{Call, and_asked}
use Rattle.ha_status.specs.declared.status.Status.{Status}
use Rattle.ha_status.specs.StatusLine.{Text}

-- the bytes under each name, None for a missing file
abbrev pub Files : Type 0
Files = Text → Option Text

-- where files are told, this one holds the text
abbrev pub HoldsText : Option Files → Text → Text → Type 0
HoldsText files name text = IfSome files (λ f. f name ≡ Some text)

-- a configuration has at most this many bytes
abbrev pub most_config_bytes : ℕ
most_config_bytes = 1_048_576

-- the answers where the text of this file was not read
abbrev pub IsTextFault : Text → Status → Type 0
IsTextFault name (Status.OpenFault other) = other ≡ name
IsTextFault name (Status.ReadFault None) = Unit {0}
IsTextFault name (Status.ConfigRefused line code) = Unit {0}
IsTextFault name Status.Memory = Unit {0}
IsTextFault name _ = ⊥

-- A text that is refused before it was read whole: there is one with more bytes, which is this file's where files are told, and the fault
-- is at line 1 with code 12.
abbrev pub LongCause : Option Files → Text → Status → Type 0
LongCause files name (Status.ConfigRefused line code) =
    (line ≡ 1) × (code ≡ 12) × ((text : Text) × HoldsText files name text × (most_config_bytes < length text))
LongCause files name _ = Unit {0}

-- the place was asked for this once, unless memory ran out
abbrev pub AskedAt : Call → Option (List Call) → Option (List Call) → Status → Type 0
AskedAt call before after Status.Memory = Unit {0}
AskedAt call before after _ = after ≡ and_asked before (call ∷ [])

-- a file that was opened and not read is there, where files are told
abbrev pub ThereCause : Option Files → Text → Status → Type 0
ThereCause files name (Status.ReadFault source) = IfSome files (λ f. IsSome (f name))
ThereCause files name _ = Unit {0}

-- the sources that are handed back have just this name, where it is told
abbrev pub IsAlone : Text → List (Option Text) → Type 0
IsAlone name names = (told : Option Text) × (names ≡ told ∷ []) × IfSome told (λ t. t ≡ name)

-- A file that was opened is handed back, whatever the answer but for want of memory; one that was not opened is not.
abbrev pub IsHandedBack : Text → List (Option Text) → Status → Type 0
IsHandedBack name names (Status.OpenFault other) = names ≡ []
IsHandedBack name names Status.Memory = Unit {0}
IsHandedBack name names _ = IsAlone name names
