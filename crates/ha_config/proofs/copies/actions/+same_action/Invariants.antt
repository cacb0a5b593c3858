use Rattle.std.proofs.Common.{◌≡◌, take, length}
use Rattle.ha_config.proofs.copies.actions.+same_action.Given as goal

abbrev pub invariant-same_actions-loop-i : goal.invariant-same_actions-loop-i
invariant-same_actions-loop-i l = record { long : length l.left ≡ length l.right; same_front : take l.i l.left ≡ take l.i l.right }

abbrev pub invariant-same_lists-loop-i : goal.invariant-same_lists-loop-i
invariant-same_lists-loop-i l = record { long : length l.left ≡ length l.right; same_front : take l.i l.left ≡ take l.i l.right }

abbrev pub invariant-same_lists-loop-j : goal.invariant-same_lists-loop-j
invariant-same_lists-loop-j l = record { long : length l.a ≡ length l.b; same_front : take l.j l.a ≡ take l.j l.b }

abbrev pub invariant-same_kind-loop-i : goal.invariant-same_kind-loop-i
invariant-same_kind-loop-i l = record { long : length l.left_items ≡ length l.right_items; same_front : take l.i l.left_items ≡ take l.i l.right_items }

abbrev pub invariant-same_kind-loop-j : goal.invariant-same_kind-loop-j
invariant-same_kind-loop-j l = record { long : length l.a ≡ length l.b; same_front : take l.j l.a ≡ take l.j l.b }
