use Rattle.std.proofs.Common.{◌+◌, All, false, subst}
use Rattle.ha_value.specs.declared.value.EntityId.{EntityId}
use Rattle.wait_set.specs.Concern.{has}
use Rattle.wait_set.specs.Tested.{TestedOrSpared}
use Rattle.engine_parts.specs.Runs.{first_wait}
use Rattle.engine_parts.proofs.tested.first_tested.Goals as goal

pub returns : goal.returns
returns c =
    subst (λ n. All (TestedOrSpared (first_wait + n) (λ (e : EntityId). false) (has c.in_ok-tested.tested)) c.args.waits.now.asks) c.place.ensures.place c.in_ok-tested.ensures
