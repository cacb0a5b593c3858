use Rattle.std.proofs.Common.{◌≡◌, ◌≤◌, Option, drop, length}
use Rattle.ha_value.specs.declared.value.EntityId.{EntityId}
use Rattle.ha_config.specs.Words.{Text, or_else}
use Rattle.trig_set.specs.Table.{number_among, number_at}
use Rattle.trig_set.proofs.numbers.Numbers.changed.Given as goal

abbrev pub invariant-changes : goal.invariant-changes
invariant-changes l = record {
  fits : l.left ≤ length l.changes;
  given : (e : EntityId) (name : Option Text) → number_at l.self e name ≡ or_else (number_among e name (drop l.left l.changes)) (number_at l.initial.self e name);
}

abbrev pub decreases-changes : goal.decreases-changes
decreases-changes l = l.left
