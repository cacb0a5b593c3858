use Rattle.std.proofs.Common.{◌∙◌, ap, sym}
use Rattle.std.specs.BTreeSet.{contains_text}
use Rattle.trig_set.proofs.FirstLemmas.{adds-name, seen-before, seen-first}
use Rattle.trig_set.proofs.OnLemmas.{on-then}
use Rattle.trig_set.proofs.attributes.put_attribute.Goals as goal

pub returns-then-contains : goal.returns-then-contains
returns-then-contains c before front far =
    let seen = c.args.seen.now in
    seen-before before front c.args.attribute.now seen c.args.numbers.now (sym (c.contains.ensures ∙ ap (contains_text seen) c.as_str.ensures.value) ∙ c.if-contains.true) far

pub returns : goal.returns
returns c =
    let seen = c.args.seen.now in
    let a = c.args.attribute.now in
    on-then _ _ c.put_number.result
    (λ put before front far. seen-first before front a seen c.insert.new.self c.args.numbers.now c.put_number.new.numbers c.number_of.result
    (sym (c.contains.ensures ∙ ap (contains_text seen) c.as_str.ensures.value) ∙ c.if-contains.false)
    (adds-name seen c.insert.new.self _ a.0 c.in_ok-key.ensures c.in_ok-insert.ensures.updates)
    c.number_of.ensures put far)
    c.put_number.ensures
