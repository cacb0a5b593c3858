use Rattle.std.proofs.Common.{◌≡◌, List, drop}
use Rattle.yaml_scan.specs.Answers.{Gives}
use Rattle.conf_field.specs.Readings.{Read, each, each_behind, kept, kept_behind}
use Rattle.conf_script.specs.Actions.{one_action, one_branch, option}
use Rattle.conf_script.proofs.actions.+actions.Given as goal

-- what was found so far, with the items that are left, is the whole
abbrev pub invariant-each_of-items : goal.invariant-each_of-items
invariant-each_of-items l =
    (before : Read (List _)) × (Gives before l.found) × (kept_behind one_action before (drop l.i l.items) ≡ kept one_action l.items)

abbrev pub invariant-each_option-items : goal.invariant-each_option-items
invariant-each_option-items l =
    (before : Read (List _)) × (Gives before l.found) × (each_behind option before (drop l.i l.items) ≡ each option l.items)

abbrev pub invariant-each_branch-items : goal.invariant-each_branch-items
invariant-each_branch-items l =
    (before : Read (List _)) × (Gives before l.found) × (kept_behind one_branch before (drop l.i l.items) ≡ kept one_branch l.items)
