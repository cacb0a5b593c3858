use Rattle.std.proofs.Common.{◌≡◌, ℕ, false, nat_cmp}
use Rattle.std.specs.List.{list_any}
use Rattle.std.specs.BTreeMap.{is_at}
use Rattle.wait_set.specs.Concern.{has}
use Rattle.wait_set.proofs.readers.put_all.Given as goal

abbrev pub invariant-more : goal.invariant-more
invariant-more l = record {
  kept : (n : ℕ) → has l.owners n ≡ false → has l.initial.owners n ≡ false;
  added : (n : ℕ) → has l.owners n ≡ false → has l.more n ≡ list_any (is_at (nat_cmp n)) l.owner-iterator;
}
