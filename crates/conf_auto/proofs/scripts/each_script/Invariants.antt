use Rattle.std.proofs.Common.{◌≡◌, List, drop}
use Rattle.ha_config.specs.declared.config.Script.{Script}
use Rattle.yaml_scan.specs.Answers.{Gives}
use Rattle.conf_field.specs.Readings as readings
use Rattle.conf_auto.specs.Scripts.{script}
use Rattle.conf_auto.proofs.scripts.each_script.Given as goal

abbrev pub invariant-pairs : goal.invariant-pairs
invariant-pairs l = (before : readings.Read (List Script)) × (Gives before l.found)
    × (readings.each_behind script before (drop l.i l.pairs) ≡ readings.each script l.pairs)
