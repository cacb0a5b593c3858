use Rattle.std.proofs.Common.{◌≡◌, ℕ, take, false}
use Rattle.std.specs.Prelude.{Some, nat_eq, not, ◌&&◌}
use Rattle.std.specs.List.{list_any}
use Rattle.event_bus.specs.Subjects.{Subject, concerns, knows}
use Rattle.trig_set.proofs.listed.unlist_entities.Given as goal

abbrev pub invariant-loop-place : goal.invariant-loop-place
invariant-loop-place l = record {
  own : (s : Subject) → knows l.index s l.owner ≡ (not (list_any (λ e. concerns l.rule (Some e) s) (take l.place l.entities)) && knows l.initial.index s l.owner);
  others : (s : Subject) (n : ℕ) → nat_eq l.owner n ≡ false → knows l.index s n ≡ knows l.initial.index s n;
}
