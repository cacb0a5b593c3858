use Rattle.std.proofs.Common.{◌∙◌, ap, sym}
use Rattle.std.specs.List.{list_any}
use Rattle.ha_config.specs.declared.config.Automation.{Automation}
use Rattle.ha_config.specs.Words.{same}
use Rattle.ha_replay.specs.Steps.{is_named as is_named_lem}
use Rattle.ha_replay.proofs.CmdLemmas.{has-by}
use Rattle.ha_replay.proofs.last.is_named.Goals as goal

pub returns-in-Switch : goal.returns-in-Switch
returns-in-Switch g c =
    c.has_automation.ensures ∙ (λ i. list_any (λ (a : Automation). same a.name c.in-Switch.name) ((c.as_slice-all.ensures ∙ c.config.ensures.automations) i))
    ∙ sym (has-by (g.C.Core.entries c.args.core.now) c.in-Switch.name) ∙ ap (is_named_lem (g.C.Core.entries c.args.core.now)) (sym c.in-Switch.is)

pub returns-in-Trigger : goal.returns-in-Trigger
returns-in-Trigger g c =
    c.has_automation-in-Trigger.ensures ∙ (λ i. list_any (λ (a : Automation). same a.name c.in-Trigger.name) ((c.as_slice-all.ensures ∙ c.config.ensures.automations) i))
    ∙ sym (has-by (g.C.Core.entries c.args.core.now) c.in-Trigger.name) ∙ ap (is_named_lem (g.C.Core.entries c.args.core.now)) (sym c.in-Trigger.is)
