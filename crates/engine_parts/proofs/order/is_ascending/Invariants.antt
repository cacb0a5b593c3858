use Rattle.std.proofs.Common.{◌≡◌, ◌≤◌, ◌^◌, drop}
use Rattle.engine_parts.specs.Numbers.{ascends_from, is_ascending}
use Rattle.engine_parts.proofs.order.is_ascending.Given as goal

-- those so far ascend
abbrev pub invariant-numbers : goal.invariant-numbers
invariant-numbers l = record { left : is_ascending l.numbers ≡ ascends_from l.least (drop l.at l.numbers); small : l.least ≤ 2 ^ 32 }
