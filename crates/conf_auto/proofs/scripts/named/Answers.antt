use Rattle.std.proofs.Common.{Option, subst}
use Rattle.yaml_scan.specs.Answers.{Gives}
use Rattle.yaml_scan.specs.declared.fault.Fault.{Fault}
use Rattle.conf_field.specs.Readings.{both, each, unless}
use Rattle.conf_auto.specs.Scripts as scripts
use Rattle.conf_auto.proofs.scripts.named.Goals as goal

pub returns : goal.returns
returns c =
    let P : Option Fault → Type 0 = λ f. Gives (unless f) c.unless.result in
    let limit = unless (scripts.at_most 1_024 c.args.pairs.now) in
    let all = each scripts.script c.args.pairs.now in
    c.behind_limit.ensures (both limit all) (c.both.ensures limit all (subst P c.at_most.ensures c.unless.ensures) c.each_script.ensures)
