use Rattle.std.proofs.Common.{◌≡◌, drop}
use Rattle.tpl_eval.specs.Sizes.{items_size, left_of, pairs_size}
use Rattle.tpl_eval.proofs.sizes.+size.Given as goal

abbrev pub invariant-take_items-loop-i : goal.invariant-take_items-loop-i
invariant-take_items-loop-i l = left_of l.left (items_size l.items) ≡ left_of l.rest (items_size (drop l.i l.items))

abbrev pub invariant-take_pairs-loop-i : goal.invariant-take_pairs-loop-i
invariant-take_pairs-loop-i l = left_of l.left (pairs_size l.pairs) ≡ left_of l.rest (pairs_size (drop l.i l.pairs))
