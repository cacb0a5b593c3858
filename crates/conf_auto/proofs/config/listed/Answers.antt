use Rattle.std.proofs.Common.{Option, Ok, [], subst}
use Rattle.yaml_scan.specs.Answers.{Gives}
use Rattle.yaml_scan.specs.declared.fault.Fault.{Fault}
use Rattle.conf_field.specs.Readings.{both, unless}
use Rattle.conf_auto.specs.Config as config
use Rattle.conf_auto.proofs.config.listed.Goals as goal

pub returns : goal.returns
returns c =
    let P : Option Fault → Type 0 = λ f. Gives (unless f) c.unless.result in
    let limit = unless (config.at_most 1_024 c.args.items.now) in
    let all = config.automations_from (Ok []) c.args.items.now in
    c.behind_limit.ensures (both limit all) (c.both.ensures limit all (subst P c.at_most.ensures c.unless.ensures) c.automations_from.ensures)
