use Rattle.std.proofs.Common.{◌≡◌, ℕ, take, false}
use Rattle.std.specs.Prelude.{nat_eq, not, ◌&&◌}
use Rattle.std.specs.List.{list_any}
use Rattle.ha_value.specs.declared.value.EntityId.{EntityId}
use Rattle.ha_config.specs.Words.{same_entity}
use Rattle.event_bus.specs.Lists.{has_for}
use Rattle.event_bus.proofs.lists.take_each.Given as goal

abbrev pub invariant-loop-at : goal.invariant-loop-at
invariant-loop-at l = record {
  own : (e : EntityId) → has_for l.lists e l.number ≡ (not (list_any (λ f. same_entity f e) (take l.at l.entities)) && has_for l.initial.lists e l.number);
  others : (e : EntityId) (n : ℕ) → nat_eq l.number n ≡ false → has_for l.lists e n ≡ has_for l.initial.lists e n;
}
