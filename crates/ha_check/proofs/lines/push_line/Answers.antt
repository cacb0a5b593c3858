use Rattle.std.proofs.Common.{◌∙◌}
use Rattle.ha_check.proofs.LineLemmas.{line_written}
use Rattle.ha_check.proofs.lines.push_line.Goals as goal

pub returns : goal.returns
returns c = line_written c.args.automation.now c.args.lines.now.items _ _ _ _ c.in_ok-extend_from_slice.ensures.items
    (c.as_bytes.ensures.value ∙ c.in_ok-head.ensures) c.in_ok-extend_from_slice-2.ensures.items (c.as_bytes-2.ensures.value ∙ c.in_ok-counts.ensures)
