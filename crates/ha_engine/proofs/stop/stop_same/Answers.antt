use Rattle.std.proofs.Common.{◌∙◌}
use Rattle.std.specs.Prelude.{nat_eq, if◌then◌else◌}
use Rattle.ha_model.specs.declared.record.EndCause.{EndCause}
use Rattle.run_modes.specs.Calls.{stop_turned}
use Rattle.ha_engine.proofs.stop.stop_same.Goals as goal

pub returns-clause-list : goal.returns-clause-list
returns-clause-list c =
    c.stop_if.ensures.list
    ∙ (λ i. if (c.is_unit-same.ensures ∙ (λ k. nat_eq (c.first_unit.ensures k) c.args.first)) i then stop_turned c.args.place EndCause.SwitchedOff c.args.runs.now.list c.args.unit else c.args.runs.now.list)
