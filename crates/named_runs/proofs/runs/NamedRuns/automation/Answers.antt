use Rattle.std.proofs.Common.{◌∙◌}
use Rattle.std.specs.Prelude.{option_map}
use Rattle.ha_model.specs.declared.record.Record.{Record}
use Rattle.ha_model.specs.Lawful.{record_of}
use Rattle.named_runs.proofs.runs.NamedRuns.automation.Goals as goal

pub returns : goal.returns
returns c = c.automation.ensures ∙ (λ i. option_map (λ (r : Record). r.automation) (record_of (c.self.view_is i).list c.args.serial))
