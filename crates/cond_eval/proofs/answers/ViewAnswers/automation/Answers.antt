use Rattle.std.proofs.Common.{◌∙◌, refl, sym}
use Rattle.std.specs.Prelude.{zip}
use Rattle.ha_config.specs.Names.{named_among}
use Rattle.cond_eval.specs.Seen.{rules_in}
use Rattle.cond_eval.proofs.NameLemmas.{is-there, not-there}
use Rattle.cond_eval.proofs.answers.ViewAnswers.automation.Goals as goal

pub returns-then-has_domain : goal.returns-then-has_domain
returns-then-has_domain c =
    c.number_named.ensures ∙ (λ i. named_among (zip (c.as_slice-numbers.ensures i) (c.as_slice-automations.ensures i)) (c.object.ensures i))
    ∙ is-there c.args.self.now.states.now (rules_in c.args.self.now.numbers.now c.args.self.now.config.now) c.args.id.now c.args.id.now.domain refl (sym c.if-has_domain.true ∙ c.has_domain.ensures)

pub returns-else-has_domain : goal.returns-else-has_domain
returns-else-has_domain c =
    not-there c.args.self.now.states.now (rules_in c.args.self.now.numbers.now c.args.self.now.config.now) c.args.id.now c.args.id.now.domain refl (sym c.if-has_domain.false ∙ c.has_domain.ensures)
