use Rattle.std.proofs.Common.{List, ap, ◌∙◌}
use Rattle.std.specs.Prelude.{is_some}
use Rattle.ha_config.specs.declared.config.Automation.{Automation}
use Rattle.ha_config.specs.Names.{automation_named}
use Rattle.engine_entry.proofs.names.has_name.Goals as goal

pub returns : goal.returns
returns c = c.is_automation.ensures ∙ ap (λ (l : List Automation). is_some (automation_named l c.args.name.now)) c.as_slice.ensures
