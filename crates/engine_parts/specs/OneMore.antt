-- What one more entry leaves of the fronts of a run.
use Rattle.std.specs.Prelude.{◌≡◌, [], ◌∷◌}
use Rattle.ha_journal.specs.Journal.{Journal}
use Rattle.ha_sight.specs.Scripts.{Branch}
use Rattle.script_step.specs.Gates.{Gate, Fronts, opens}
use Rattle.ha_model.specs.Records.{CallEnds, spot_with}

-- a gate that opens after journal k where it opens after j, where called runs ended so by the one and by the other
abbrev pub StaysAt : CallEnds → CallEnds → Journal → Journal → Branch × Gate → Type 0
StaysAt told told' j k x = opens x.1 (spot_with told' k x.0) ≡ opens x.1 (spot_with told j x.0)

abbrev pub FrontsStay : CallEnds → CallEnds → Journal → Journal → Fronts → Type 0
FrontsStay told told' j k [] = Unit {0}
FrontsStay told told' j k (x ∷ xs) = StaysAt told told' j k x × FrontsStay told told' j k xs
