-- The branches that may step of a run that stays the same.
use Rattle.std.proofs.Common.{◌≡◌, ℕ, List, [], ◌∷◌, ◌++◌, length, filter, Bool, true, false}
use Rattle.std.specs.Prelude.{nat_lt, nat_le, is_some, ◌&&◌, if◌then◌else◌}
use Rattle.std.specs.Option.{option_map_or}
use Rattle.ha_model.specs.declared.record.Record.{Record}
use Rattle.ha_config.specs.Words.{Pairs}
use Rattle.ha_journal.specs.Journal.{Journal, units}
use Rattle.ha_sight.specs.Scripts.{Branch, whole}
use Rattle.ha_sight.specs.Branches.{branches_of}
use Rattle.ha_model.specs.Records.{actions_of, spots, CallEnds, spot_with}
use Rattle.ha_ready.specs.ReadyPairs.{ready_with}
use Rattle.engine_parts.specs.Changes.{SameRun}

-- by the parts of a record that its branches look at
abbrev branches_by : CallEnds → Journal → ℕ → ℕ → Pairs → Bool → List Branch
branches_by told k serial automation env running =
    if running then filter (λ b. is_some (whole (actions_of (units k) automation) env (spots k serial ++ (spot_with told k b ∷ [])))) (branches_of (actions_of (units k) automation)) else []

-- LAW: the same run has the same branches
pub same-branches : (told : CallEnds) (k : Journal) (r r' : Record) → SameRun r r' → ready_with told k r ≡ ready_with told k r'
same-branches told k r r' same =
    (λ i. branches_by told k (same.script.serial i) (same.script.automation i) (same.script.env i) (option_map_or (λ b. nat_lt b (length k)) (same.begin i) false && option_map_or (λ e. nat_le (length k) e.0) (same.end i) true))
