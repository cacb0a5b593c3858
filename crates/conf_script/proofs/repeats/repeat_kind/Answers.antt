use Rattle.std.proofs.Common.{sym, subst}
use Rattle.yaml_scan.specs.Answers.{Gives}
use Rattle.conf_field.specs.declared.key.Key.TheVariants as key
use Rattle.conf_field.specs.Fields.{need, needed}
use Rattle.conf_script.specs.declared.name.RepeatName.{RepeatName}
use Rattle.conf_script.specs.Forms as forms
use Rattle.conf_script.specs.Actions as actions
use Rattle.conf_script.proofs.repeats.repeat_kind.Goals as goal

pub returns-in-ByCount : goal.returns-in-ByCount
returns-in-ByCount c =
    let P : RepeatName → Type 0 = λ k. Gives (actions.repeat_kind c.args.line c.args.pairs.now k) c.made_count.result in
    subst P (sym c.in-ByCount.is) (c.made_count.ensures (need key.Count c.args.line c.args.pairs.now forms.digits) c.needed.ensures)

pub returns-in-ByWhile : goal.returns-in-ByWhile
returns-in-ByWhile c =
    let P : RepeatName → Type 0 = λ k. Gives (actions.repeat_kind c.args.line c.args.pairs.now k) c.made_while.result in
    subst P (sym c.in-ByWhile.is) (c.made_while.ensures (need key.While c.args.line c.args.pairs.now actions.conditions) c.needed-in-ByWhile.ensures)

pub returns-in-ByUntil : goal.returns-in-ByUntil
returns-in-ByUntil c =
    let P : RepeatName → Type 0 = λ k. Gives (actions.repeat_kind c.args.line c.args.pairs.now k) c.made_until.result in
    subst P (sym c.in-ByUntil.is) (c.made_until.ensures (need key.Until c.args.line c.args.pairs.now actions.conditions) c.needed-in-ByUntil.ensures)

pub returns-in-ByEach : goal.returns-in-ByEach
returns-in-ByEach c =
    let P : RepeatName → Type 0 = λ k. Gives (actions.repeat_kind c.args.line c.args.pairs.now k) c.made_each.result in
    subst P (sym c.in-ByEach.is) (c.made_each.ensures (need key.ForEach c.args.line c.args.pairs.now actions.forms) c.needed-in-ByEach.ensures)
