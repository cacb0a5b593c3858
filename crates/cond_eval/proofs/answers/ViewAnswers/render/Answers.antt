use Rattle.std.proofs.Common.{refl}
use Rattle.cond_eval.specs.Seen.{seen}
use Rattle.ha_sight.specs.Templates.{rendered}
use Rattle.cond_eval.proofs.CaseLemmas.{given-fault, given-text}
use Rattle.cond_eval.proofs.answers.ViewAnswers.render.Goals as goal

pub returns-clause-text : goal.returns-clause-text
returns-clause-text c = given-text c.render.result (rendered (seen c.args.self.now) c.args.template.now c.args.env.now) (c.render.ensures.seen (seen c.args.self.now) (λ e. refl))

pub returns-clause-fault : goal.returns-clause-fault
returns-clause-fault c = given-fault c.render.result (rendered (seen c.args.self.now) c.args.template.now c.args.env.now) (c.render.ensures.seen (seen c.args.self.now) (λ e. refl))
