use Rattle.std.proofs.Common.{ap, sym, subst, ◌∙◌}
use Rattle.std.specs.Prelude.{IfSome, IsTrue}
use Rattle.std.specs.Option.{option_copied}
use Rattle.ha_config.specs.Sound.{IsSoundConfig, are_sound_actions, is_sound_automation}
use Rattle.unit_book.proofs.BookLemmas.{sound-rule, sound-script}
use Rattle.unit_book.proofs.places.unit_by.Goals as goal

pub returns-in-Some-clause-rule : goal.returns-in-Some-clause-rule
returns-in-Some-clause-rule c sound =
    let here = subst (λ o. IfSome o IsSoundConfig) (sym c.config_at.ensures ∙ ap option_copied c.in-Some.is) sound in
    subst (λ o. IfSome o (λ a. IsTrue (is_sound_automation a))) (sym c.rule_at.ensures) (sound-rule c.in-Some.config.now here c.args.origin.1)

pub returns-in-Some-clause-script : goal.returns-in-Some-clause-script
returns-in-Some-clause-script c sound =
    let here = subst (λ o. IfSome o IsSoundConfig) (sym c.config_at.ensures ∙ ap option_copied c.in-Some.is) sound in
    subst (λ o. IfSome o (λ s. IsTrue (are_sound_actions s.actions))) (sym c.script_at.ensures) (sound-script c.in-Some.config.now here c.args.origin.1)
