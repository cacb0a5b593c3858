use Rattle.std.proofs.Common.{◌≡◌, ◌++◌, filter, take}
use Rattle.std.specs.Prelude.{nat_eq}
use Rattle.engine_parts.proofs.order.add_own.Given as goal

abbrev pub invariant-firings : goal.invariant-firings
invariant-firings l = l.made ≡ l.initial.made ++ filter (λ f. nat_eq f.owner l.owner) (take l.at l.fired)
