use Rattle.ha_texts.proofs.LineLemmas.{report_appended}
use Rattle.ha_texts.proofs.command.push_report.Goals as goal

pub returns : goal.returns
returns c =
    report_appended c.args.entity.now c.args.state.now c.args.attributes.now _ _ _ _ _ _ _ c.in_ok-push_str.ensures.ok c.in_ok-push_bare_id.ensures
    c.in_ok-push_str-2.ensures.ok (rw c.as_str.ensures.value at c.in_ok-push_chars.ensures) c.in_ok-push_map.ensures c.in_ok-push_byte.ensures.ok
