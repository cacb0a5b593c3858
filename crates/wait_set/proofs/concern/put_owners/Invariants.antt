use Rattle.std.proofs.Common.{◌≡◌, ℕ, false, nat_cmp}
use Rattle.std.specs.List.{list_any}
use Rattle.std.specs.BTreeMap.{is_at}
use Rattle.wait_set.specs.Concern.{OfOthers, has}
use Rattle.wait_set.proofs.concern.put_owners.Given as goal

abbrev pub invariant-owners : goal.invariant-owners
invariant-owners l = record {
  kept : (n : ℕ) → has l.places n ≡ false → has l.initial.places n ≡ false;
  aside : OfOthers (λ a. has l.owners a.owner ≡ list_any (is_at (nat_cmp a.owner)) l.owner-iterator) l.places l.asks;
}
