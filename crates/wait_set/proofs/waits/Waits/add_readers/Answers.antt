use Rattle.std.proofs.Common.{All, Bool, List, ap, subst, ◌∙◌, ℕ}
use Rattle.std.specs.Prelude.{◌||◌}
use Rattle.ha_value.specs.declared.value.EntityId.{EntityId}
use Rattle.ha_config.specs.Words.{same_entity}
use Rattle.wait_set.specs.declared.asked.Asked.{Asked}
use Rattle.wait_set.specs.Concern.{has}
use Rattle.wait_set.specs.Tested.{TestedOrSpared}
use Rattle.wait_set.proofs.waits.Waits.add_readers.Goals as goal

pub returns : goal.returns
returns c =
    subst (λ (asks : List Asked). (from : ℕ) (changes : EntityId → Bool) → All (TestedOrSpared from changes (has c.args.tested.now)) asks
    → All (TestedOrSpared from (λ e. same_entity c.args.entity.now e || changes e) (has c.add_readers.new.tested)) asks)
    (c.as_slice.ensures.value ∙ ap (λ t. t.asks) c.self.view_is) c.in_ok-add_readers.ensures
