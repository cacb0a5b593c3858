use Rattle.std.proofs.Common.{◌≡◌, drop}
use Rattle.ha_whole.specs.Named.{named}
use Rattle.ha_engine.proofs.lasts.moment_of.Given as goal

abbrev pub invariant-moments : goal.invariant-moments
invariant-moments l = named l.name (drop l.pair-index l.moments) ≡ named l.name l.moments
