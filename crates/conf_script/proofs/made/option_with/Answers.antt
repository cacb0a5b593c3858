use Rattle.conf_field.specs.declared.key.Key.TheVariants as key
use Rattle.conf_field.specs.Readings.{both}
use Rattle.conf_field.specs.Fields.{keys, need}
use Rattle.conf_script.specs.Actions as actions
use Rattle.conf_script.proofs.made.option_with.Goals as goal

pub returns : goal.returns
returns c = λ m h.
    let pairs = c.args.pairs.now in
    let known = keys actions.option_rows pairs in
    let tests = need key.Conditions c.args.line pairs actions.conditions in
    c.made_option.ensures (both known (both tests m))
    (c.both-2.ensures known (both tests m) c.keys-known.ensures (c.both.ensures tests m c.needed-tests.ensures h))
