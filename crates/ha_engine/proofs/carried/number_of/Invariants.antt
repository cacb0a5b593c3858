use Rattle.std.proofs.Common.{◌≡◌, drop}
use Rattle.ha_whole.specs.Named.{named}
use Rattle.ha_engine.proofs.carried.number_of.Given as goal

abbrev pub invariant-numbers : goal.invariant-numbers
invariant-numbers l = named l.name (drop l.pair-index l.numbers) ≡ named l.name l.numbers
