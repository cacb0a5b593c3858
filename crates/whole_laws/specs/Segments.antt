-- The segments of a journal, each read alone.
use Rattle.std.specs.Prelude.{◌≡◌, false, List, [], ◌∷◌, None}
use Rattle.ha_journal.specs.Entries.{again_in, is_restart}
use Rattle.ha_journal.specs.Journal.{Journal}
use Rattle.ha_model.specs.Records.{records_of}
use Rattle.ha_model.specs.Lawful.{Right}

-- each is right with its own records
abbrev pub EachRight : List Journal → Type 0
EachRight [] = Unit {0}
EachRight (s ∷ ss) = Right s (records_of s) × EachRight ss

-- no Again stands in it
abbrev pub HasNoAgain : Journal → Type 0
HasNoAgain [] = Unit {0}
HasNoAgain (x ∷ xs) = (again_in x ≡ None) × HasNoAgain xs

-- nor a Restart
abbrev pub HasNoRestart : Journal → Type 0
HasNoRestart [] = Unit {0}
HasNoRestart (x ∷ xs) = (is_restart x ≡ false) × HasNoRestart xs
