use Rattle.conf_field.specs.declared.key.Key.TheVariants as key
use Rattle.conf_field.specs.Readings.{both}
use Rattle.conf_field.specs.Fields.{need}
use Rattle.conf_script.specs.Actions as actions
use Rattle.conf_script.proofs.made.if_with.Goals as goal

pub returns : goal.returns
returns c = λ m n h k.
    let tests = need key.If c.args.line c.args.pairs.now actions.conditions in
    c.made_if.ensures (both tests (both m n)) (c.both-2.ensures tests (both m n) c.needed-tests.ensures (c.both.ensures m n h k))
