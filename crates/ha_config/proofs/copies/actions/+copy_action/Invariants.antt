use Rattle.std.proofs.Common.{◌≡◌, take}
use Rattle.ha_config.proofs.copies.actions.+copy_action.Given as goal

abbrev pub invariant-copy_actions-loop-i : goal.invariant-copy_actions-loop-i
invariant-copy_actions-loop-i l = l.all ≡ take l.i l.actions

abbrev pub invariant-copy_lists-loop-i : goal.invariant-copy_lists-loop-i
invariant-copy_lists-loop-i l = l.all ≡ take l.i l.lists

abbrev pub invariant-copy_lists-loop-j : goal.invariant-copy_lists-loop-j
invariant-copy_lists-loop-j l = l.one ≡ take l.j l.list

abbrev pub invariant-copy_kind-loop-i : goal.invariant-copy_kind-loop-i
invariant-copy_kind-loop-i l = l.all ≡ take l.i l.items

abbrev pub invariant-copy_kind-loop-j : goal.invariant-copy_kind-loop-j
invariant-copy_kind-loop-j l = l.one ≡ take l.j l.list
