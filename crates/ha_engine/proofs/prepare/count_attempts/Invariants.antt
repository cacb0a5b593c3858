use Rattle.std.proofs.Common.{◌≡◌, ◌≤◌, length, take}
use Rattle.engine_parts.specs.Owners.{attempts_by}
use Rattle.ha_engine.proofs.prepare.count_attempts.Given as goal

abbrev pub invariant-firings : goal.invariant-firings
invariant-firings l = record { counted : l.count ≡ length (attempts_by (take l.firing-index l.fired)); small : l.count ≤ l.firing-index }
