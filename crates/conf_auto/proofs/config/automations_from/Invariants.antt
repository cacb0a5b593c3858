use Rattle.std.proofs.Common.{◌≡◌, List, [], Ok, drop}
use Rattle.ha_config.specs.declared.config.Automation.{Automation}
use Rattle.yaml_scan.specs.Answers.{Gives}
use Rattle.conf_field.specs.Readings.{Read}
use Rattle.conf_auto.specs.Config.{automations_from}
use Rattle.conf_auto.proofs.config.automations_from.Given as goal

abbrev pub invariant-items : goal.invariant-items
invariant-items l = (before : Read (List Automation)) × (Gives before l.found) × (automations_from before (drop l.i l.items) ≡ automations_from (Ok []) l.items)
