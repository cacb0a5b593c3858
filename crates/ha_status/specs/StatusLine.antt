-- What a status gives outside: the last line on the error sink, which says why the program did not end as wanted, and the number
-- that the process ends with.
use Rattle.std.specs.Prelude.{ℕ, List, [], ◌∷◌, ◌++◌, Some, None, decimal, codes}
use Rattle.ha_status.specs.declared.status.Status.{Status}

-- a text by its bytes
abbrev pub Text : Type 0
Text = List ℕ

-- a line ends by LF
abbrev pub ended : Text → Text
ended text = text ++ 10 ∷ []

-- the line of a status; none where all went as wanted
unfoldable pub status_line : Status → Text
status_line Status.Ok = []
status_line Status.Usage =
    ended (codes "hearth: usage: run --config F --start MOMENT [--zone Z] [--trace F] SOURCE.. | check F | replay F | rehearse N")
status_line (Status.ConfigRefused line code) = ended (codes "hearth: config line " ++ decimal line ++ codes ": C" ++ decimal code)
status_line (Status.OpenFault name) = ended (codes "hearth: cannot open " ++ name)
status_line (Status.ReadFault None) = ended (codes "hearth: config failed")
status_line (Status.ReadFault (Some source)) = ended (codes "hearth: source " ++ decimal source ++ codes " failed")
status_line (Status.WriteFault zero) = ended (codes "hearth: write failed")
status_line Status.KeepFault = ended (codes "hearth: store failed")
status_line Status.JournalFull = ended (codes "hearth: journal full")
status_line (Status.SourceTooLong source) = ended (codes "hearth: source " ++ decimal source ++ codes " too long")
status_line (Status.StoreRefused code) = ended (codes "hearth: store refused S" ++ decimal code)
status_line Status.Memory = ended (codes "hearth: no memory")
status_line (Status.TraceRefused line) = ended (codes "hearth: trace line " ++ decimal line ++ codes ": T")

-- the number of a status
unfoldable pub status_number : Status → ℕ
status_number Status.Ok = 0
status_number Status.Usage = 1
status_number (Status.ConfigRefused line code) = 2
status_number (Status.OpenFault name) = 3
status_number (Status.ReadFault source) = 4
status_number (Status.WriteFault zero) = 5
status_number Status.KeepFault = 6
status_number Status.JournalFull = 7
status_number (Status.SourceTooLong source) = 8
status_number (Status.StoreRefused code) = 9
status_number Status.Memory = 10
status_number (Status.TraceRefused line) = 11
