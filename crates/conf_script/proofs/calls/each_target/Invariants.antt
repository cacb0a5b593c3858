use Rattle.std.proofs.Common.{◌≡◌, List, [], Ok, drop}
use Rattle.ha_config.specs.declared.template.Template.{Template}
use Rattle.yaml_scan.specs.Answers.{Gives}
use Rattle.conf_field.specs.Readings.{Read}
use Rattle.conf_script.specs.Calls.{targets_behind}
use Rattle.conf_script.proofs.calls.each_target.Given as goal

abbrev pub invariant-items : goal.invariant-items
invariant-items l = (before : Read (List Template)) × (Gives before l.found) × (targets_behind before (drop l.i l.items) ≡ targets_behind (Ok []) l.items)
