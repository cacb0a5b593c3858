use Rattle.std.proofs.Common.{◌≡◌, true, subst}
use Rattle.ha_config.specs.Equality.{same_automation, same_script}
use Rattle.ha_config.proofs.EqualityLemmas.{rule-refl, rule-sound, script-refl, script-sound}
use Rattle.conf_reload.proofs.laws.the_same_is_equal.Goals as goal

pub returns-clause-automations : goal.returns-clause-automations
returns-clause-automations c x y = (rule-sound x y, λ e. subst (λ z. same_automation x z ≡ true) e (rule-refl x))

pub returns-clause-scripts : goal.returns-clause-scripts
returns-clause-scripts c x y = (script-sound x y, λ e. subst (λ z. same_script x z ≡ true) e (script-refl x))
