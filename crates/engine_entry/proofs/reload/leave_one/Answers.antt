use Rattle.std.proofs.Common.{◌∙◌, refl, sym}
use Rattle.ha_config.proofs.ListLemmas.{true-false}
use Rattle.engine_entry.proofs.reload.leave_one.Goals as goal

pub returns-then-has_name-clause-left : goal.returns-then-has_name-clause-left
returns-then-has_name-clause-left c none = absurd (true-false (sym (sym c.has_name.ensures ∙ c.if-has_name.true) ∙ none))

pub returns-then-has_name-clause-same : goal.returns-then-has_name-clause-same
returns-then-has_name-clause-same c there = (refl, refl)

pub returns-clause-left : goal.returns-clause-left
returns-clause-left c none = (c.in_ok-see_left.ensures.changes, c.in_ok-see_left.ensures.listed)

pub returns-clause-same : goal.returns-clause-same
returns-clause-same c there = absurd (true-false (sym there ∙ sym c.has_name.ensures ∙ c.if-has_name.false))
