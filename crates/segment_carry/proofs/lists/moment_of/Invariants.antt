use Rattle.std.proofs.Common.{◌≡◌, drop}
use Rattle.ha_whole.specs.Named.{named}
use Rattle.segment_carry.proofs.lists.moment_of.Given as goal

abbrev pub invariant-loop-pair : goal.invariant-loop-pair
invariant-loop-pair l = named l.name l.moments ≡ named l.name (drop l.pair-index l.moments)
