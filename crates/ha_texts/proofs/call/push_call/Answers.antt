use Rattle.ha_texts.proofs.LineLemmas.{call_appended}
use Rattle.ha_texts.proofs.call.push_call.Goals as goal

pub returns : goal.returns
returns c =
    call_appended c.args.service.now c.args.target.now c.args.fields.now _ _ _ _ _ _ c.in_ok-push_str.ensures.ok (rw c.as_str.ensures.value at c.in_ok-push_chars.ensures)
    c.in_ok-push_str-2.ensures.ok c.in_ok-push_ids.ensures c.in_ok-push_map.ensures
