use Rattle.ha_check.proofs.LineLemmas.{lines_more}
use Rattle.ha_check.proofs.lines.automation_lines.Goals as goal

pub loop-automation-preserved : goal.loop-automation-preserved
loop-automation-preserved c =
    lines_more c.args.automations.now c.loop-automation.automation-index _ _ _ c.loop-automation-test.true c.automation-item.is c.loop-automation.invariant c.in_ok-push_line.ensures
