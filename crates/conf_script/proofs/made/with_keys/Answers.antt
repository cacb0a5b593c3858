use Rattle.std.proofs.Common.{List, ◌++◌, subst}
use Rattle.yaml_scan.specs.Answers.{Gives}
use Rattle.conf_field.specs.declared.key.Key.TheVariants as key
use Rattle.conf_field.specs.declared.table.Row.{Row}
use Rattle.conf_field.specs.Readings.{both}
use Rattle.conf_field.specs.Fields.{get, keys}
use Rattle.conf_field.specs.Kinds as kinds
use Rattle.conf_script.specs.Actions as actions
use Rattle.conf_script.proofs.made.with_keys.Goals as goal

pub returns : goal.returns
returns c = λ m h.
    let pairs = c.args.pairs.now in
    let P : List Row → Type 0 = λ rs. Gives (keys (actions.common_rows ++ rs) pairs) c.keys-known.result in
    let known = keys (actions.common_rows ++ actions.kind_rows c.args.name) pairs in
    let goes_on = get key.ContinueOnError pairs kinds.flag in
    let enabled = get key.Enabled pairs kinds.flag in
    c.made_action.ensures (both known (both goes_on (both enabled m)))
    (c.both-3.ensures known (both goes_on (both enabled m)) (subst P c.kind_rows.ensures c.keys-known.ensures)
    (c.both-2.ensures goes_on (both enabled m) c.optional-goes_on.ensures
    (c.both.ensures enabled m c.optional-enabled.ensures h)))
