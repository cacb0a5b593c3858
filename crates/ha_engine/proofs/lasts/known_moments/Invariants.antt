use Rattle.std.proofs.Common.{◌≡◌, take}
use Rattle.ha_config.specs.Names.{of_automations}
use Rattle.ha_engine.proofs.lasts.known_moments.Given as goal

abbrev pub invariant-moments : goal.invariant-moments
invariant-moments l = l.kept ≡ of_automations l.automations (take l.pair-index l.last)
