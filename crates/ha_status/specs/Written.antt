-- What the sinks took.
use Rattle.std.specs.Prelude.{◌≡◌, ◌⊎◌, [], ◌++◌, Option}
use Rattle.ha_io.specs.Told.{Takes}
use Rattle.ha_status.specs.declared.status.Status.{Status}
use Rattle.ha_status.specs.StatusLine.{Text, status_line}

-- the sink took a front of the text: all but this rest
pub record TookBut (rest text : Text) (before after : Option Text) : Type 0 where
  pub front : Text
  pub text_is : text ≡ front ++ rest
  pub took : Takes before front after

-- the text was written as far as the command came: all of it at Ok
pub record IsWritten (status : Status) (text : Text) (before after : Option Text) : Type 0 where
  pub rest : Text
  pub took : TookBut rest text before after
  pub all : status ≡ Status.Ok → rest ≡ []

-- ---- the status line

-- the line begins so
abbrev pub IsFront : Text → Text → Type 0
IsFront front line = (rest : Text) × (line ≡ front ++ rest)

-- what was written of a status line: all of it, or a front where the sink faulted, or where memory ran out a front of any one
abbrev pub IsLineOf : Type 0 → Status → Text → Type 0
IsLineOf faulted status line =
    (line ≡ status_line status) ⊎
    ((faulted × IsFront line (status_line status)) ⊎ ((status ≡ Status.Memory) × ((other : Status) × IsFront line (status_line other))))

-- the sink took the status line
pub record TookLine (faulted : Type 0) (status : Status) (before after : Option Text) : Type 0 where
  pub line : Text
  pub line_is : IsLineOf faulted status line
  pub took : Takes before line after

-- what the error sink took: these lines, as far as the command came, and then the status line
pub record AreErrorsWritten (faulted : Type 0) (status : Status) (errors : Text) (before after : Option Text) : Type 0 where
  pub between : Option Text
  pub errors_took : IsWritten status errors before between
  pub line_took : TookLine faulted status between after
