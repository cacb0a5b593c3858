use Rattle.std.proofs.Common.{◌≡◌, ℕ, false, nat_cmp}
use Rattle.std.specs.List.{list_any}
use Rattle.std.specs.BTreeMap.{is_at}
use Rattle.event_bus.specs.Lists.{has}
use Rattle.trig_set.specs.Concerned.{OfOthers}
use Rattle.trig_set.proofs.concerned.put_places.Given as goal

abbrev pub invariant-owners : goal.invariant-owners
invariant-owners l = record {
  kept : (n : ℕ) → has l.places n ≡ false → has l.initial.places n ≡ false;
  aside : OfOthers l.owners l.places (λ m. has l.listed m ≡ list_any (is_at (nat_cmp m)) l.owner-iterator);
}
