use Rattle.conf_field.specs.declared.key.Key.TheVariants as key
use Rattle.conf_field.specs.Readings.{both}
use Rattle.conf_field.specs.Fields.{get, keys, need}
use Rattle.conf_auto.specs.Config as config
use Rattle.conf_auto.specs.HelperMaps.{helpers_in}
use Rattle.conf_auto.specs.Scripts as scripts
use Rattle.conf_auto.proofs.config.root_map.Goals as goal

pub returns : goal.returns
returns c =
    let pairs = c.args.pairs.now in
    let known = keys config.root_rows pairs in
    let all = need key.Automation c.args.line pairs config.automations in
    let named = get key.Script pairs scripts.scripts in
    let helpers = helpers_in pairs in
    let others = both named helpers in
    c.made_root.ensures (both known (both all others))
    (c.both-2.ensures known (both all others) c.keys-known.ensures
    (c.both.ensures all others c.needed-automations.ensures
    (c.both-others.ensures named helpers c.optional-scripts.ensures c.helpers_in-helpers.ensures)))
