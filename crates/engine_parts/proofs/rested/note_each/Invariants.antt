use Rattle.std.proofs.Common.{◌≡◌, ◌++◌, take, drop}
use Rattle.ha_ready.specs.RestedFlags.{flags_from}
use Rattle.engine_parts.proofs.rested.note_each.Given as goal

abbrev pub invariant-sources : goal.invariant-sources
invariant-sources l = l.flags ≡ flags_from l.source l.quiet 0 (take l.i l.initial.flags) ++ drop l.i l.initial.flags
