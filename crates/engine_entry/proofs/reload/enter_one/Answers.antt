use Rattle.std.proofs.Common.{◌∙◌, refl, sym}
use Rattle.ha_config.proofs.ListLemmas.{true-false}
use Rattle.engine_entry.proofs.reload.enter_one.Goals as goal

pub returns-then-is_same-clause-changed : goal.returns-then-is_same-clause-changed
returns-then-is_same-clause-changed c other = absurd (true-false (sym (sym c.is_same.ensures ∙ c.if-is_same.true) ∙ other))

pub returns-then-is_same-clause-same : goal.returns-then-is_same-clause-same
returns-then-is_same-clause-same c alike = (refl, refl)

pub returns-clause-changed : goal.returns-clause-changed
returns-clause-changed c other = (c.in_ok-see_switch.ensures.changes, c.in_ok-see_switch.ensures.listed)

pub returns-clause-same : goal.returns-clause-same
returns-clause-same c alike = absurd (true-false (sym alike ∙ sym c.is_same.ensures ∙ c.if-is_same.false))
