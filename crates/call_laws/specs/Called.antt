-- Scripts that are called by name: what is attempted, and where callers go on.
use Rattle.std.specs.Prelude.{ℕ, ◌≡◌, Bool, true, List, [], ◌∷◌, ◌++◌, take, Option, Some, None}
use Rattle.ha_config.specs.Words.{Pairs}
use Rattle.ha_sight.specs.declared.item.Item.{Item}
use Rattle.ha_sight.specs.Items.{awaits_end}
use Rattle.ha_sight.specs.Scripts.{Spot}
use Rattle.ha_journal.specs.declared.entry.Entry.{Entry}
use Rattle.ha_journal.specs.declared.entry.Entry.TheVariants.{Boot, Line, Step, Again}
use Rattle.ha_journal.specs.Attempts.{Attempt, by_hand}
use Rattle.ha_journal.specs.Journal.{Journal, scripts}
use Rattle.ha_model.specs.Records.{call_end, records_of}
use Rattle.script_laws.specs.Stands.{NamesNoScript, next_in}

-- the attempt of a script that an entry starts with these variables
abbrev pub called_with : Pairs → ℕ → Attempt
called_with fields a = record { automation = a; env = by_hand ++ fields; skip = true }

-- the entries before place n tell that the run has ended that was called at place p, or that it was not admitted
abbrev pub HasEndedBefore : Journal → ℕ → ℕ → Type 0
HasEndedBefore j n p = (q : ℕ) × (call_end (records_of (take n j)) p ≡ Some q)

-- the caller's next place, where it called at place p; only a script that is open may have none yet
abbrev pub GoesOnBehind : Journal → Bool → ℕ → Option Spot → Type 0
GoesOnBehind j unended p None = unended ≡ true
GoesOnBehind j unended p (Some s) = HasEndedBefore j s.place p

-- so it is behind each call that waits, on these places of a run with their items
abbrev pub CallersWait : Journal → Bool → List Spot → List Item → Type 0
CallersWait j unended [] items = Unit {0}
CallersWait j unended (p ∷ ps) [] = Unit {0}
CallersWait j unended (p ∷ ps) (item ∷ items) =
    (awaits_end item ≡ true → GoesOnBehind j unended p.place (next_in p.branch ps)) × CallersWait j unended ps items

-- no configuration that was in force has scripts
abbrev pub HasNoScripts : Journal → Type 0
HasNoScripts j = (n : ℕ) → scripts (take n j) ≡ []

-- an entry that neither starts nor ends runs of scripts
abbrev pub NamesNone : Entry → Type 0
NamesNone (Step worker serial branch item) = NamesNoScript item
NamesNone (Line source number cmd) = Unit {0}
NamesNone (Boot text config stored start zone carry) = Unit {0}
NamesNone (Again number start stored carry) = Unit {0}
