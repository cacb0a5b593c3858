-- How far a source was read.
use Rattle.std.specs.Prelude.{ℕ, ◌≡◌, ◌<◌, ◌≤◌, List, [], ◌∷◌, ◌++◌, length, Option, None, Some, IfSome, IsSomeAnd}
use Rattle.std.specs.Io.KnownBytes.{IsAtEnd}
use Rattle.ha_io.specs.Told.{Gives}
use Rattle.ha_status.specs.Files.{Files}
use Rattle.replay_file.specs.declared.front.FrontEnd.{FrontEnd}

-- the source gave these bytes: all that it had, or those before it failed, or those within the bound and one more
abbrev pub IsRead : ℕ → Option (List ℕ) → List ℕ → FrontEnd → Option (List ℕ) → Type 0
IsRead bound before text FrontEnd.Whole after = Gives before text after × IsAtEnd after
IsRead bound before text FrontEnd.Failed after = Gives before text after
IsRead bound before text FrontEnd.TooLong after =
    (length text ≡ bound) × ((more : List ℕ) × (length more ≡ 1) × Gives before (text ++ more) after)

-- One read put a piece behind what was read, up to so many bytes in all; or reading ended, at the end or by a fault, and there is no more.
abbrev pub ReadsOn : ℕ → Option (List ℕ) → List ℕ → Option FrontEnd → Option (List ℕ) → List ℕ → Type 0
ReadsOn most before text None after text' =
    (piece : List ℕ) × (text' ≡ text ++ piece) × (0 < length piece) × (length text' ≤ most) × Gives before piece after
ReadsOn most before text (Some FrontEnd.Whole) after text' = (text' ≡ text) × Gives before [] after × IsAtEnd after
ReadsOn most before text (Some FrontEnd.Failed) after text' = (text' ≡ text) × (after ≡ before)
ReadsOn most before text (Some FrontEnd.TooLong) after text' = ⊥

-- ---- the bytes of a file

-- a trace has at most this many bytes
abbrev pub most_bytes : ℕ
most_bytes = 268_435_456

-- what was read of a file's bytes: all of them, a front of them where reading failed, or those within the bound
abbrev pub IsFrontOf : List ℕ → FrontEnd → List ℕ → Type 0
IsFrontOf text FrontEnd.Whole bytes = bytes ≡ text
IsFrontOf text FrontEnd.Failed bytes = (rest : List ℕ) × (bytes ≡ text ++ rest)
IsFrontOf text FrontEnd.TooLong bytes = (length text ≡ most_bytes) × ((rest : List ℕ) × (0 < length rest) × (bytes ≡ text ++ rest))

-- So by what is left in its source: nothing at its end, and all that was not read where reading failed. Of a longer file one byte more was
-- taken.
abbrev pub IsReadFrom : List ℕ → FrontEnd → Option (List ℕ) → List ℕ → Type 0
IsReadFrom text FrontEnd.Whole left bytes = (left ≡ Some []) × (bytes ≡ text)
IsReadFrom text FrontEnd.Failed left bytes = (rest : List ℕ) × (left ≡ Some rest) × (bytes ≡ text ++ rest)
IsReadFrom text FrontEnd.TooLong left bytes =
    (length text ≡ most_bytes) × ((next : ℕ) × (rest : List ℕ) × (left ≡ Some rest) × (bytes ≡ text ++ next ∷ rest))

-- where files are told, this one was read so, and its source, in which this is left, is the only one
abbrev pub IsReadOf : Option Files → List ℕ → List ℕ → FrontEnd → List (Option (List ℕ)) → Type 0
IsReadOf files name text end lefts =
    IfSome files (λ f. (left : Option (List ℕ)) × (lefts ≡ left ∷ []) × IsSomeAnd (f name) (IsReadFrom text end left))
