use Rattle.std.proofs.Common.{◌≡◌, ℕ, false, drop, nat_eq}
use Rattle.std.specs.List.{list_any}
use Rattle.wait_set.specs.Concern.{OfOthers, has}
use Rattle.wait_set.proofs.concern.put_due.Given as goal

abbrev pub invariant-owners : goal.invariant-owners
invariant-owners l = record {
  kept : (n : ℕ) → has l.places n ≡ false → has l.initial.places n ≡ false;
  aside : OfOthers (λ a. list_any (nat_eq a.owner) l.owners ≡ list_any (nat_eq a.owner) (drop l.owner-index l.owners)) l.places l.asks;
}
