use Rattle.std.proofs.Common.{◌≡◌, ℕ, take, false}
use Rattle.std.specs.Prelude.{nat_eq, not, ◌&&◌}
use Rattle.ha_config.specs.Words.{Text, one_of}
use Rattle.event_bus.specs.Lists.{has_at}
use Rattle.event_bus.proofs.index.take_names.Given as goal

abbrev pub invariant-loop-at : goal.invariant-loop-at
invariant-loop-at l = record {
  own : (q : Text) → has_at l.lists q l.number ≡ (not (one_of q (take l.at l.names)) && has_at l.initial.lists q l.number);
  others : (q : Text) (n : ℕ) → nat_eq l.number n ≡ false → has_at l.lists q n ≡ has_at l.initial.lists q n;
}
