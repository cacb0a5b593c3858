-- The passes of a turn.
use Rattle.std.specs.Prelude.{◌≡◌}
use Rattle.atomic_table.specs.declared.badge.Badge.{Badge}
use Rattle.crossbeam_channel.specs.declared.flavors.array.Key.{Key}
use Rattle.crossbeam_channel.specs.declared.flavors.array.Doing.{Doing}
use Rattle.crossbeam_channel.specs.declared.flavors.array.Rows.{Rows}
use Rattle.crossbeam_channel.specs.declared.flavors.array.ruled.Sending.{Sending}
use Rattle.crossbeam_channel.specs.declared.flavors.array.ruled.Receiving.{Receiving}
use Rattle.crossbeam_channel.specs.Claims.{Pass, IsSeatAt}
use Rattle.crossbeam_channel.specs.Ends.{sends_on, receives_on}
use Rattle.bus_pass.specs.declared.turn.Ends.{Ends}

abbrev pub Ring : Type 0 → Type 0 → Type 0 → Type 0 → Type 0 → Type 0 → Type 0
Ring X V Q M L A = Rows (Badge (Key X)) (Doing X V) Q M (Key X) L A

-- the pass is of this turn
abbrev pub IsPassOf : {X V Q M L A B : Type 0} → Ends (Sending (Ring X V Q M L A) B) (Receiving (Ring X V Q M L A) B) → Pass X V → Type 0
IsPassOf turn pass = IsSeatAt (sends_on turn.to) pass × (receives_on turn.from ≡ sends_on turn.to)
