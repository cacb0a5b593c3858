use Rattle.std.proofs.Common.{◌≡◌, List, drop}
use Rattle.yaml_scan.specs.Answers.{Gives}
use Rattle.conf_field.specs.Readings.{Read, each, each_behind}
use Rattle.conf_script.specs.Forms.{part_at}
use Rattle.conf_script.proofs.forms.parts_of.Given as goal

abbrev pub invariant-rows : goal.invariant-rows
invariant-rows l =
    (before : Read (List _)) × (Gives before l.found) × (each_behind (part_at l.pairs) before (drop l.i l.rows) ≡ each (part_at l.pairs) l.rows)
