use Rattle.conf_field.specs.Fields as fields
use Rattle.conf_field.specs.declared.key.Key.TheVariants as key
use Rattle.conf_field.specs.Readings.{both}
use Rattle.conf_field.specs.Fields.{keys}
use Rattle.conf_field.specs.Kinds as kinds
use Rattle.conf_trigger.specs.Triggers as triggers
use Rattle.conf_trigger.proofs.triggers.of_kind.Goals as goal

pub returns : goal.returns
returns c =
    let pairs = c.args.pairs.now in
    let known = keys (triggers.rows c.args.kind) pairs in
    let id = fields.get key.Id pairs kinds.text in
    let enabled = fields.get key.Enabled pairs kinds.flag in
    let rule = triggers.rule c.args.kind c.args.line pairs in
    c.made_trigger.ensures (both known (both id (both enabled rule)))
    (c.both-3.ensures known (both id (both enabled rule)) c.keys_of-known.ensures
    (c.both-2.ensures id (both enabled rule) c.optional-id.ensures
    (c.both.ensures enabled rule c.optional-enabled.ensures c.rule-rule.ensures)))
