-- The value of a variable, wherever it is kept.
use Rattle.ha_value.specs.declared.value.Value.{Value}
use Rattle.ha_sight.specs.declared.env.Seen.{Seen}

abbrev pub seen_value : Seen → Value
seen_value (Seen.Value value) = value.now
seen_value (Seen.Trigger trigger) = trigger.now
