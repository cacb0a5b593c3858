use Rattle.std.proofs.Common.{All, ap, false, subst, ◌∙◌}
use Rattle.ha_value.specs.declared.value.EntityId.{EntityId}
use Rattle.wait_set.specs.Concern.{has}
use Rattle.wait_set.specs.Tested.{TestedOrSpared}
use Rattle.wait_set.proofs.waits.Waits.tested.Goals as goal

pub returns : goal.returns
returns c =
    subst (λ asks. All (TestedOrSpared c.args.from (λ (e : EntityId). false) (has c.in_ok-tested.tested)) asks) (c.as_slice.ensures.value ∙ ap (λ t. t.asks) c.self.view_is) c.in_ok-tested.ensures
