use Rattle.std.proofs.Common.{◌∙◌, ◌+◌, sym, subst, drop, List, Option}
use Rattle.ha_value.specs.declared.value.Value.{Value}
use Rattle.ha_config.specs.Words.{Text}
use Rattle.ha_sight.specs.Templates.{data_of}
use Rattle.ha_sight.specs.Calls.{forms_of, fields_of}
use Rattle.script_step.specs.Fields.{Gives}
use Rattle.script_step.proofs.EachLemmas.{goes-fault, goes-more, goes-all, drop-at, drop-past, fault-gives}
use Rattle.script_step.proofs.FormLemmas.{data-items, data-pairs, fields-each, field_value}
use Rattle.script_step.proofs.forms.+data.Goals as goal

pub data_of-returns-in-Items : goal.data_of-returns-in-Items
data_of-returns-in-Items g t c =
    let sight = g.A.Answers.sight c.args.answers.now in
    let env = c.args.env.now in
    let e = data-items sight env c.args.form.now c.in-Items.forms c.as_slice.result.now c.in-Items.is c.as_slice.ensures in
    subst (λ (o : Option Value). Gives c.listed.result o) (sym e) (c.listed.ensures (forms_of sight env c.as_slice.result.now) c.forms_of.ensures)

pub data_of-returns-in-Pairs : goal.data_of-returns-in-Pairs
data_of-returns-in-Pairs g t c =
    let sight = g.A.Answers.sight c.args.answers.now in
    let env = c.args.env.now in
    let e = data-pairs sight env c.args.form.now c.in-Pairs.fields c.as_slice-in-Pairs.result.now c.in-Pairs.is c.as_slice-in-Pairs.ensures in
    subst (λ (o : Option Value). Gives c.mapped.result o) (sym e) (c.mapped.ensures (fields_of sight env c.as_slice-in-Pairs.result.now) c.fields_of.ensures)

pub fields_of-returns-in-Err : goal.fields_of-returns-in-Err
fields_of-returns-in-Err g t c =
    let sight = g.A.Answers.sight c.args.answers.now in
    let env = c.args.env.now in
    let ps = c.args.fields.now in
    let i = c.loop-i.i in
    let x = c.index-fields-i.result in
    fault-gives (Text × Value) (List (Text × Value)) c.in-Err.fault c.loop-i.all c.add.new.all (field_value sight env x) (fields_of sight env ps)
    (c.in-Err.ensures (field_value sight env x) (c.paired.ensures (data_of sight x.1 env) c.data_of.ensures))
    (λ none. fields-each sight env ps ∙ goes-fault (field_value sight env) ps (drop i ps) (drop (i + 1) ps) c.loop-i.all x c.loop-i.invariant (drop-at ps i x c.loop-i-test.true c.index-fields-i.is) none)

pub fields_of-loop-i-preserved : goal.fields_of-loop-i-preserved
fields_of-loop-i-preserved g t c =
    let sight = g.A.Answers.sight c.args.answers.now in
    let env = c.args.env.now in
    let ps = c.args.fields.now in
    let i = c.loop-i.i in
    let x = c.index-fields-i.result in
    goes-more (field_value sight env) ps (drop i ps) (drop (i + 1) ps) c.loop-i.all c.add.new.all x c.loop-i.invariant (drop-at ps i x c.loop-i-test.true c.index-fields-i.is)
    (c.in-Ok.ensures (field_value sight env x) (c.paired.ensures (data_of sight x.1 env) c.data_of.ensures))

pub fields_of-returns : goal.fields_of-returns
fields_of-returns g t c =
    let sight = g.A.Answers.sight c.args.answers.now in
    let ps = c.args.fields.now in
    fields-each sight c.args.env.now ps ∙ goes-all (field_value sight c.args.env.now) ps (drop c.loop-i.i ps) c.loop-i.all c.loop-i.invariant (drop-past c.loop-i.i ps c.loop-i-test.false)
