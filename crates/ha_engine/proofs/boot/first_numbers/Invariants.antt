use Rattle.std.proofs.Common.{◌≡◌, ◌≤◌}
use Rattle.ha_config.specs.Words.{up_to}
use Rattle.ha_engine.proofs.boot.first_numbers.Given as goal

abbrev pub invariant-each : goal.invariant-each
invariant-each l = (l.numbers ≡ up_to l.at) × (l.at ≤ l.count)
