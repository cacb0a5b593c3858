-- The value of a part of a variable, however it is kept.
use Rattle.std.specs.Prelude.{Some}
use Rattle.ha_value.specs.declared.value.Value.{Value}
use Rattle.ha_value.specs.declared.value.Value.TheVariants.{Pairs as Map}
use Rattle.ha_sight.specs.declared.part.Part.{Part}
use Rattle.ha_sight.specs.TriggerValues.{shown_value}
use Rattle.ha_sight.specs.Rules.{event_pairs}

abbrev pub part_value : Part → Value
part_value (Part.Lent value) = value.now
part_value (Part.Made value) = value
part_value (Part.Trigger trigger) = trigger.now
part_value (Part.State entity state) = shown_value entity.now (Some state.now)
part_value (Part.Event kind pairs) = Map (event_pairs (kind.now, pairs.now))
part_value (Part.Pairs pairs) = Map pairs.now
