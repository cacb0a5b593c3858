use Rattle.std.proofs.Common.{subst, Option}
use Rattle.yaml_scan.specs.Answers.{Gives}
use Rattle.conf_field.specs.Readings.{both}
use Rattle.conf_field.specs.Fields.{keys}
use Rattle.conf_script.specs.declared.name.RepeatName.{RepeatName}
use Rattle.conf_script.specs.Actions as actions
use Rattle.conf_script.proofs.made.turns_with.Goals as goal

pub returns : goal.returns
returns c = λ m h.
    let pairs = c.args.pairs.now in
    let name = actions.repeat_name pairs in
    let known = keys (actions.repeat_rows name) pairs in
    let kind = actions.repeat_by c.args.line pairs name in
    let Named : Option RepeatName → Type 0 = λ k. Gives (actions.repeat_by c.args.line pairs k) c.repeat_by-kind.result in
    c.made_turns.ensures (both known (both kind m))
    (c.both-2.ensures known (both kind m) c.repeat_keys-known.ensures
    (c.both.ensures kind m (subst Named c.repeat_name.ensures c.repeat_by-kind.ensures) h))
