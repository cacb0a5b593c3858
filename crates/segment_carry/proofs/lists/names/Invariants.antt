use Rattle.std.proofs.Common.{◌≡◌, take}
use Rattle.ha_config.specs.Units.{units_of}
use Rattle.ha_config.specs.Names.{names_of}
use Rattle.segment_carry.proofs.lists.names.Given as goal

abbrev pub invariant-units : goal.invariant-units
invariant-units l = l.names ≡ take l.at (names_of (units_of l.config))
