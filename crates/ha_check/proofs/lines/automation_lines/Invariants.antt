use Rattle.std.proofs.Common.{◌≡◌, map, take}
use Rattle.std.specs.List.{concat}
use Rattle.ha_config.specs.CheckText.{check_line}
use Rattle.ha_check.proofs.lines.automation_lines.Given as goal

abbrev pub invariant-loop-automation : goal.invariant-loop-automation
invariant-loop-automation l = l.lines.items ≡ concat (map check_line (take l.automation-index l.automations))
