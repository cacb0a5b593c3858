-- The places of a run where no script was in force: they know of no runs that were called.
use Rattle.std.specs.Prelude.{ℕ, List, [], ◌∷◌, ◌++◌, length, nat_eq, Option, if◌then◌else◌}
use Rattle.std.specs.Option.{option_map_or}
use Rattle.ha_sight.specs.Scripts.{Branch, Outcome, Spot}
use Rattle.ha_journal.specs.declared.entry.Entry.{Entry}
use Rattle.ha_journal.specs.Entries.{step_of}
use Rattle.ha_journal.specs.Journal.{Journal, units}
use Rattle.ha_journal.specs.Moves.{sight}
use Rattle.ha_journal.specs.Waits.{wait_end}
use Rattle.ha_model.specs.declared.record.Record.{Record}
use Rattle.ha_model.specs.Records.{actions_of}
use Rattle.script_laws.specs.Plain.{plain_script}

-- the next place of a journal, with the ends of waits alone
abbrev pub plain_spot : Journal → Branch → Spot
plain_spot j b = record { place = length j; branch = b; sight = sight j (length j); wait_end = wait_end j }

abbrev pub plain_spot_of : ℕ → Journal → Entry → List Spot
plain_spot_of serial before x = option_map_or (λ s. if nat_eq s.serial serial then plain_spot before s.branch ∷ [] else []) (step_of x) []

abbrev pub plain_spots_from : ℕ → Journal → Journal → List Spot
plain_spots_from serial before [] = []
plain_spots_from serial before (x ∷ xs) = plain_spot_of serial before x ++ plain_spots_from serial (before ++ (x ∷ [])) xs

abbrev pub plain_spots : Journal → ℕ → List Spot
plain_spots j serial = plain_spots_from serial [] j

-- what a run gives on them
abbrev pub plain_ran : Journal → Record → Option Outcome
plain_ran j r = plain_script (actions_of (units j) r.automation) r.env (plain_spots j r.serial)
