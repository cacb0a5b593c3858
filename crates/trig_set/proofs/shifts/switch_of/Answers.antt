use Rattle.std.proofs.Common.{◌∙◌, sym}
use Rattle.trig_set.proofs.ShiftLemmas.{automation-seen}
use Rattle.trig_set.proofs.shifts.switch_of.Goals as goal

pub is_on-requires : goal.is_on-requires
is_on-requires g c = automation-seen (g.A.Answers.sight c.args.answers.now).automations c.args.entity.now c.in-Some.automation (sym c.automation.ensures ∙ c.in-Some.is)
