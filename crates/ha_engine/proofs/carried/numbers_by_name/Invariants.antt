use Rattle.std.proofs.Common.{◌≡◌, map, take}
use Rattle.std.specs.Prelude.{unwrap_or}
use Rattle.ha_whole.specs.Named.{named}
use Rattle.ha_engine.proofs.carried.numbers_by_name.Given as goal

abbrev pub invariant-names : goal.invariant-names
invariant-names l = l.made ≡ map (λ name. unwrap_or (named name l.carried) 0) (take l.at l.names)
