use Rattle.std.proofs.Common.{◌≡◌, ◌∙◌, sym, subst, Bool, true, false, Option}
use Rattle.std.specs.Prelude.{IsSome, zip}
use Rattle.ha_sight.specs.Sight.{switch_at, switch_seen}
use Rattle.cond_eval.specs.Seen.{seen, shown_of}
use Rattle.cond_eval.proofs.answers.ViewAnswers.is_on.Goals as goal

pub returns-in-Some : goal.returns-in-Some
returns-in-Some c =
    sym (c.shown_at.ensures ∙ (λ i. switch_at (shown_of c.args.self.now.states.now (zip (c.as_slice-numbers.ensures i) (c.as_slice-automations.ensures i))) c.args.automation))
    ∙ c.in-Some.is

pub returns-in-None : goal.returns-in-None
returns-in-None c =
    let told : switch_seen (seen c.args.self.now) c.args.automation ≡ c.shown_at.result
    = sym (c.shown_at.ensures ∙ (λ i. switch_at (shown_of c.args.self.now.states.now (zip (c.as_slice-numbers.ensures i) (c.as_slice-automations.ensures i))) c.args.automation)) in
    absurd (let bad : ◌≡◌ {A = Bool} false true = subst (λ (o : Option Bool). IsSome o) (told ∙ c.in-None.is) c.requires in cc)
