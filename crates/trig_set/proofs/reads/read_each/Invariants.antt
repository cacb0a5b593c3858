use Rattle.std.proofs.Common.{◌≡◌, map, take}
use Rattle.event_bus.specs.Subjects.{read_of}
use Rattle.trig_set.proofs.reads.read_each.Given as goal

abbrev pub invariant-loop-place : goal.invariant-loop-place
invariant-loop-place l = l.reads ≡ map (λ t. read_of t.rule) (take l.place l.triggers)
