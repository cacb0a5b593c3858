use Rattle.std.proofs.Common.{◌≡◌, ℕ, true, sym, ap, subst, ◌∙◌}
use Rattle.std.specs.Prelude.{Option, Some, None, option_map}
use Rattle.ha_config.specs.Sound.{are_sound_actions}
use Rattle.ha_journal.specs.Journal.{units}
use Rattle.ha_model.specs.declared.record.Record.{Record}
use Rattle.ha_model.specs.Records.{actions_of}
use Rattle.ha_engine.specs.Admits.{has_action}
use Rattle.ha_engine.proofs.step_end.acts.Goals as goal

pub returns-in-Some-clause-value : goal.returns-in-Some-clause-value
returns-in-Some-clause-value c r is =
    let k = c.args.journal.now in
    let found : Some c.in-Some.automation ≡ Some r.automation = sym c.in-Some.is ∙ c.automation.ensures ∙ ap (option_map (λ (q : Record). q.automation)) is in
    let same : c.in-Some.automation ≡ r.automation = cc in
    c.has_some.ensures ∙ ap has_action c.script_of.ensures.script ∙ (λ i. has_action (actions_of (units k) (same i)))

pub returns-in-Some-clause-sound : goal.returns-in-Some-clause-sound
returns-in-Some-clause-sound c r is =
    let k = c.args.journal.now in
    let found : Some c.in-Some.automation ≡ Some r.automation = sym c.in-Some.is ∙ c.automation.ensures ∙ ap (option_map (λ (q : Record). q.automation)) is in
    let same : c.in-Some.automation ≡ r.automation = cc in
    subst (λ (a : ℕ). are_sound_actions (actions_of (units k) a) ≡ true) same c.script_of.ensures.sound

pub returns-in-None-clause-value : goal.returns-in-None-clause-value
returns-in-None-clause-value c r is =
    let found : ◌≡◌ {A = Option ℕ} None (Some r.automation) = sym c.in-None.is ∙ c.automation.ensures ∙ ap (option_map (λ (q : Record). q.automation)) is in
    absurd (cc)

pub returns-in-None-clause-sound : goal.returns-in-None-clause-sound
returns-in-None-clause-sound c r is =
    let found : ◌≡◌ {A = Option ℕ} None (Some r.automation) = sym c.in-None.is ∙ c.automation.ensures ∙ ap (option_map (λ (q : Record). q.automation)) is in
    absurd (cc)
