use Rattle.std.proofs.Common.{◌≡◌, drop, length}
use Rattle.tpl_eval.specs.Operators as operators
use Rattle.tpl_eval.proofs.equal.+equal.Given as goal

abbrev pub invariant-equal_items-loop-i : goal.invariant-equal_items-loop-i
invariant-equal_items-loop-i l = record {
  long : length l.left ≡ length l.right;
  known : operators.equal_items l.left l.right ≡ operators.equal_items (drop l.i l.left) (drop l.i l.right);
}

abbrev pub invariant-equal_pairs-loop-i : goal.invariant-equal_pairs-loop-i
invariant-equal_pairs-loop-i l = record {
  long : length l.left ≡ length l.right;
  known : operators.equal_pairs l.left l.right ≡ operators.equal_pairs (drop l.i l.left) (drop l.i l.right);
}
