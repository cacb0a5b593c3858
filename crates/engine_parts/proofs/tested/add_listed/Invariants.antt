use Rattle.std.proofs.Common.{ℕ, All, false, take}
use Rattle.ha_value.specs.declared.value.EntityId.{EntityId}
use Rattle.trig_set.specs.Next.{lists}
use Rattle.wait_set.specs.Concern.{has}
use Rattle.wait_set.specs.Tested.{TestedOrSpared}
use Rattle.engine_parts.proofs.tested.add_listed.Given as goal

abbrev pub invariant-loop-at : goal.invariant-loop-at
invariant-loop-at l =
    (from : ℕ) → All (TestedOrSpared from (λ (e : EntityId). false) (has l.initial.tested)) l.waits.asks → All (TestedOrSpared from (lists (take l.at l.before)) (has l.tested)) l.waits.asks
