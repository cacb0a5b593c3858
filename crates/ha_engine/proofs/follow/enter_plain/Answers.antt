use Rattle.std.proofs.Common.{sym, subst, ◌∙◌}
use Rattle.ha_config.specs.Fair.{IsPlain}
use Rattle.engine_parts.specs.Stages.{IsOther}
use Rattle.ha_engine.proofs.follow.enter_plain.Goals as goal

pub returns-in_ok-before-in-Report-clause-entered : goal.returns-in_ok-before-in-Report-clause-entered
returns-in_ok-before-in-Report-clause-entered c k rs h is plain = c.in_ok-before-in-Report.ensures.entered k rs h (is ∙ c.in-Report.is)

pub returns-in_ok-before-in-Gone-clause-entered : goal.returns-in_ok-before-in-Gone-clause-entered
returns-in_ok-before-in-Gone-clause-entered c k rs h is plain = c.in_ok-before-in-Gone.ensures.entered k rs h (is ∙ c.in-Gone.is)

pub returns-in_ok-before-in-Moment-clause-entered : goal.returns-in_ok-before-in-Moment-clause-entered
returns-in_ok-before-in-Moment-clause-entered c k rs h is plain = c.in_ok-before-in-Moment.ensures.entered k rs h (is ∙ c.in-Moment.is)

pub returns-in-Event-clause-entered : goal.returns-in-Event-clause-entered
returns-in-Event-clause-entered c k rs h is plain = c.enter_other.ensures.entered k rs h (subst IsOther (sym (is ∙ c.in-Event.is)) tt)

pub returns-in-Switch-clause-entered : goal.returns-in-Switch-clause-entered
returns-in-Switch-clause-entered c k rs h is plain = absurd (subst IsPlain c.in-Switch.is plain)

pub returns-in-Trigger-clause-entered : goal.returns-in-Trigger-clause-entered
returns-in-Trigger-clause-entered c k rs h is plain = c.enter_other-in-Trigger.ensures.entered k rs h (subst IsOther (sym (is ∙ c.in-Trigger.is)) tt)

pub returns-in-Restart-clause-entered : goal.returns-in-Restart-clause-entered
returns-in-Restart-clause-entered c k rs h is plain = absurd (subst IsPlain c.in-Restart.is plain)

pub returns-in-Reload-clause-entered : goal.returns-in-Reload-clause-entered
returns-in-Reload-clause-entered c k rs h is plain = absurd (subst IsPlain c.in-Reload.is plain)

pub returns-in-Refused-clause-entered : goal.returns-in-Refused-clause-entered
returns-in-Refused-clause-entered c k rs h is plain = c.enter_other-in-Refused.ensures.entered k rs h (subst IsOther (sym (is ∙ c.in-Refused.is)) tt)

pub returns-in-Lost-clause-entered : goal.returns-in-Lost-clause-entered
returns-in-Lost-clause-entered c k rs h is plain = c.enter_other-in-Lost.ensures.entered k rs h (subst IsOther (sym (is ∙ c.in-Lost.is)) tt)

pub returns-in-TooLong-clause-entered : goal.returns-in-TooLong-clause-entered
returns-in-TooLong-clause-entered c k rs h is plain = c.enter_other-in-TooLong.ensures.entered k rs h (subst IsOther (sym (is ∙ c.in-TooLong.is)) tt)
