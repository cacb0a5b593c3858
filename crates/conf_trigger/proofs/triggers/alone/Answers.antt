use Rattle.std.proofs.Common.{List, [], Ok, sym, subst, ap}
use Rattle.ha_config.specs.declared.config.Trigger.{Trigger}
use Rattle.yaml_scan.specs.Answers.{Gives}
use Rattle.conf_field.specs.Readings as readings
use Rattle.conf_field.specs.Readings.{Read}
use Rattle.conf_trigger.specs.Triggers as triggers
use Rattle.conf_trigger.proofs.Lists.{within_limit}
use Rattle.conf_trigger.proofs.triggers.alone.Goals as goal

pub returns : goal.returns
unfolding triggers.triggers_from
returns c =
    let one : Read (List Trigger) = readings.keep (Ok []) (triggers.trigger 0 c.args.node.now) in
    let P : Read (List Trigger) → Type 0 = λ r. Gives r c.keep.result in
    subst P (sym (within_limit one)) (c.keep.ensures (Ok []) (triggers.trigger 0 c.args.node.now) (sym (ap Ok c.make.ensures)) c.trigger.ensures)
