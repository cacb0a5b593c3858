use Rattle.std.proofs.Common.{◌∙◌, sym}
use Rattle.ha_texts.proofs.LineLemmas.{last_appended, last_none}
use Rattle.ha_texts.proofs.trace.push_last.Goals as goal

pub returns-then-is_empty : goal.returns-then-is_empty
returns-then-is_empty c = last_none c.args.last.now c.args.text.now (sym c.is_empty.ensures ∙ c.if-is_empty.true)

pub returns : goal.returns
returns c = last_appended c.args.last.now _ _ _ (sym c.is_empty.ensures ∙ c.if-is_empty.false) c.in_ok-push_str.ensures.ok c.in_ok-push_moments.ensures
