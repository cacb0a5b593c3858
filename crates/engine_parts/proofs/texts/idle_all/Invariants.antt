use Rattle.std.proofs.Common.{◌≡◌, map, take}
use Rattle.engine_parts.specs.Texts.{idle_change}
use Rattle.engine_parts.proofs.texts.idle_all.Given as goal

abbrev pub invariant-loop-place : goal.invariant-loop-place
invariant-loop-place l = l.changes ≡ map idle_change (take l.place l.entities)
