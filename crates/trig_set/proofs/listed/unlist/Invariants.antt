use Rattle.std.proofs.Common.{◌≡◌, ℕ, take, false}
use Rattle.std.specs.Prelude.{nat_eq, not, ◌&&◌}
use Rattle.std.specs.List.{list_any}
use Rattle.event_bus.specs.Subjects.{Subject, knows}
use Rattle.trig_set.specs.Known.{heeds}
use Rattle.trig_set.specs.Reads.{AreRead}
use Rattle.trig_set.proofs.listed.unlist.Given as goal

abbrev pub invariant-loop-place : goal.invariant-loop-place
invariant-loop-place l = record {
  own : AreRead l.triggers l.reads → (s : Subject) → knows l.index s l.owner ≡ (not (list_any (λ t. heeds t.rule s) (take l.place l.triggers)) && knows l.initial.index s l.owner);
  others : (s : Subject) (n : ℕ) → nat_eq l.owner n ≡ false → knows l.index s n ≡ knows l.initial.index s n;
}
