-- The least and the greatest of numbers, one after the other.
use Rattle.std.specs.Prelude.{Bool, Option, Some, None, if◌then◌else◌}
use Rattle.ha_value.specs.declared.value.Num.{Num}
use Rattle.ha_config.specs.Numbers.{less}
use Rattle.tpl_fns.specs.declared.lists.Side.{Side}

-- the new number is better than the one so far
abbrev pub beats : Side → Num → Num → Bool
beats Side.Least new so_far = less new so_far
beats Side.Greatest new so_far = less so_far new

-- the better one, and the earlier where neither is
abbrev pub better : Side → Option Num → Num → Num
better side None new = new
better side (Some n) new = if beats side new n then new else n
