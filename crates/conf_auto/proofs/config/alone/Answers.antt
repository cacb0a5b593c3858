use Rattle.std.proofs.Common.{List, [], Ok, sym, subst, ap}
use Rattle.ha_config.specs.declared.config.Automation.{Automation}
use Rattle.yaml_scan.specs.Answers.{Gives}
use Rattle.conf_field.specs.Readings.{Read}
use Rattle.conf_auto.specs.Automations.{automation}
use Rattle.conf_auto.specs.Config as config
use Rattle.conf_auto.specs.Names.{joined}
use Rattle.conf_auto.proofs.Lists.{within_limit}
use Rattle.conf_auto.proofs.config.alone.Goals as goal

pub returns : goal.returns
unfolding config.automations_from
returns c =
    let one : Read (List Automation) = joined (Ok []) (automation c.args.node.now) in
    let P : Read (List Automation) → Type 0 = λ r. Gives r c.joined.result in
    subst P (sym (within_limit one)) (c.joined.ensures (Ok []) (automation c.args.node.now) (sym (ap Ok c.make.ensures)) c.automation.ensures)
