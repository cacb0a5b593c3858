use Rattle.std.proofs.Common.{◌≡◌, take}
use Rattle.ha_engine.specs.Noted.{known_lasts}
use Rattle.ha_engine.proofs.lasts.lasts_by_name.Given as goal

abbrev pub invariant-names : goal.invariant-names
invariant-names l = l.lasts.items ≡ known_lasts l.known (take l.at l.names) l.carried
