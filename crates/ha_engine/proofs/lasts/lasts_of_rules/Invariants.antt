use Rattle.std.proofs.Common.{◌≡◌, map, take}
use Rattle.std.specs.Prelude.{None, slice_get, unwrap_or}
use Rattle.named_runs.specs.Named.{first_in}
use Rattle.ha_engine.proofs.lasts.lasts_of_rules.Given as goal

abbrev pub invariant-numbers : goal.invariant-numbers
invariant-numbers l = l.made.items ≡ map (λ n. unwrap_or (slice_get l.lasts (first_in l.firsts n)) None) (take l.at l.numbers)
