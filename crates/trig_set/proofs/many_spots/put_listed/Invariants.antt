use Rattle.std.proofs.Common.{◌≡◌, ℕ, false, nat_cmp}
use Rattle.std.specs.List.{list_any}
use Rattle.std.specs.BTreeMap.{is_at}
use Rattle.event_bus.specs.Lists.{has}
use Rattle.trig_set.proofs.many_spots.put_listed.Given as goal

abbrev pub invariant-places : goal.invariant-places
invariant-places l = record {
  kept : (n : ℕ) → has l.places n ≡ false → has l.initial.places n ≡ false;
  aside : (n : ℕ) → has l.places n ≡ false → has l.listed n ≡ list_any (is_at (nat_cmp n)) l.place-iterator;
}
