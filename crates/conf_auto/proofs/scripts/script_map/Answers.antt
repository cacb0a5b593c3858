use Rattle.conf_field.specs.declared.key.Key.TheVariants as key
use Rattle.conf_field.specs.Readings.{both}
use Rattle.conf_field.specs.Fields.{get, keys, need}
use Rattle.conf_auto.specs.Automations as a
use Rattle.conf_auto.specs.Scripts as scripts
use Rattle.conf_auto.proofs.scripts.script_map.Goals as goal

pub returns : goal.returns
returns c =
    let pairs = c.args.pairs.now in
    let known = keys scripts.rows pairs in
    let actions = need key.Sequence c.args.line pairs a.actions_in in
    let mode = get key.Mode pairs a.mode in
    let max = get key.Max pairs a.most_runs in
    let settings = both mode max in
    c.made_script.ensures (both known (both actions settings))
    (c.both-2.ensures known (both actions settings) c.keys-known.ensures
    (c.both.ensures actions settings c.needed-actions.ensures
    (c.both-settings.ensures mode max c.optional-mode.ensures c.optional-max.ensures)))
