use Rattle.std.proofs.Common.{◌≡◌, ◌+◌, drop}
use Rattle.conf_field.specs.Sizes.{size, total}
use Rattle.conf_auto.specs.Sizes.{pair_size}
use Rattle.conf_auto.proofs.size.+size.Given as goal

abbrev pub invariant-behind_items-items : goal.invariant-behind_items-items
invariant-behind_items-items l = l.rest + total size l.items ≡ l.left + total size (drop l.i l.items)

abbrev pub invariant-behind_pairs-pairs : goal.invariant-behind_pairs-pairs
invariant-behind_pairs-pairs l = l.rest + total pair_size l.pairs ≡ l.left + total pair_size (drop l.i l.pairs)
