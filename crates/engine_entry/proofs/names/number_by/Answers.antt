use Rattle.std.proofs.Common.{List, ap, ◌∙◌}
use Rattle.std.specs.Prelude.{option_and_then, slice_get}
use Rattle.ha_config.specs.declared.config.Automation.{Automation}
use Rattle.ha_config.specs.Names.{automation_named}
use Rattle.engine_entry.proofs.names.number_by.Goals as goal

pub returns : goal.returns
returns c =
    c.number_at.ensures ∙ ap (option_and_then (λ n. slice_get c.args.numbers.now n)) (c.place_named-at.ensures ∙ ap (λ (l : List Automation). automation_named l c.args.name.now) c.as_slice.ensures)
