use Rattle.conf_field.specs.declared.key.Key.TheVariants as key
use Rattle.conf_field.specs.Readings.{both}
use Rattle.conf_field.specs.Fields.{field, get, keys, needed, optional}
use Rattle.conf_field.specs.Kinds as kinds
use Rattle.conf_auto.specs.Automations as a
use Rattle.conf_auto.proofs.automations.automation_map.Goals as goal

pub returns : goal.returns
returns c =
    let line = c.args.line in
    let pairs = c.args.pairs.now in
    let known = keys a.rows pairs in
    let alias = get key.Alias pairs kinds.text in
    let id = get key.Id pairs kinds.text in
    let triggers = needed a.triggers_in line (field a.trigger_row pairs) in
    let tests = optional a.conditions_in (field a.condition_row pairs) in
    let actions = needed a.actions_in line (field a.action_row pairs) in
    let mode = get key.Mode pairs a.mode in
    let max = get key.Max pairs a.most_runs in
    let initial = get key.InitialState pairs kinds.flag in
    let settings = both mode (both max initial) in
    let script = both tests (both actions settings) in
    let rest = both alias (both id (both triggers script)) in
    c.made_automation.ensures (both known rest)
    (c.both-6.ensures known rest c.keys-known.ensures
    (c.both-5.ensures alias (both id (both triggers script)) c.optional-alias.ensures
    (c.both-4.ensures id (both triggers script) c.optional-id.ensures
    (c.both-3.ensures triggers script c.needed-triggers.ensures
    (c.both-script.ensures tests (both actions settings) c.optional-tests.ensures
    (c.both-2.ensures actions settings c.needed-actions.ensures
    (c.both-settings.ensures mode (both max initial) c.optional-mode.ensures
    (c.both.ensures max initial c.optional-max.ensures c.optional-initial.ensures))))))))
