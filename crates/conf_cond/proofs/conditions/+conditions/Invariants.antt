use Rattle.std.proofs.Common.{◌≡◌, List, drop, false}
use Rattle.yaml_scan.specs.Answers.{Gives}
use Rattle.conf_field.specs.Readings.{Read, kept, kept_behind}
use Rattle.conf_cond.specs.Conditions.{condition}
use Rattle.conf_cond.proofs.conditions.+conditions.Given as goal

abbrev pub invariant-each_of-items : goal.invariant-each_of-items
invariant-each_of-items l =
    (before : Read (List _)) × (Gives before l.found)
    × (kept_behind (condition false) before (drop l.i l.items) ≡ kept (condition false) l.items)
