use Rattle.std.proofs.Common.{◌≡◌}
use Rattle.ha_engine.specs.Begun.{trues}
use Rattle.ha_engine.proofs.boot.all_rested.Given as goal

abbrev pub invariant-sources : goal.invariant-sources
invariant-sources l = l.flags.items ≡ trues l._at
