use Rattle.std.proofs.Common.{◌≡◌, take}
use Rattle.engine_parts.specs.Owners.{as_configured}
use Rattle.engine_parts.proofs.order.as_configured.Given as goal

abbrev pub invariant-rules : goal.invariant-rules
invariant-rules l = l.made ≡ as_configured (take l.at l.numbers) l.fired
