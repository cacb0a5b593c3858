use Rattle.std.proofs.Common.{◌∙◌, ap, sym, refl, rules, [], ◌++◌}
use Rattle.ha_sight.specs.Values.{bounded}
use Rattle.tpl_fns.proofs.ReplaceLemmas.{fits, no-more, part-faults, replaced-more, replaced-none, split-none}
use Rattle.tpl_fns.proofs.texts.replaced_text.Goals as goal

pub loop-before-preserved : goal.loop-before-preserved
loop-before-preserved c =
    let i = c.loop-before.invariant in
    record {
      text = search rules;
      fits = c.in-Ok.ensures.1;
      same = replaced-more c.args.old.now c.args.new.now c.loop-before.rest.now c.in-Some.before.now c.in-Some.after.now c.requires c.in-Some.ensures.cases _ _ _ i.same c.in-Ok.ensures.0;
    }

pub returns-in-Err : goal.returns-in-Err
returns-in-Err c =
    let i = c.loop-before.invariant in
    part-faults (Unit {0}) c.in-Err.fault c.loop-before.made c.add_both.new.made _ _ _ c.in-Err.ensures
    (replaced-more c.args.old.now c.args.new.now c.loop-before.rest.now c.in-Some.before.now c.in-Some.after.now c.requires c.in-Some.ensures.cases _ _ _ i.same refl)

pub returns-in-Ok-add : goal.returns-in-Ok-add
returns-in-Ok-add c =
    let i = c.loop-before.invariant in
    let none = replaced-none c.args.old.now c.args.new.now c.loop-before.rest.now (split-none c.args.old.now c.loop-before.rest.now c.split_once.result c.split_once.ensures.cases c.in_default.not-Some) in
    let whole = i.same ∙ ap (λ l. c.loop-before.made ++ l) none ∙ sym c.in-Ok-add.ensures.0 in
    ap bounded whole ∙ fits c.add.new.made c.in-Ok-add.ensures.1

pub returns-in-Err-add : goal.returns-in-Err-add
returns-in-Err-add c =
    let i = c.loop-before.invariant in
    let none = replaced-none c.args.old.now c.args.new.now c.loop-before.rest.now (split-none c.args.old.now c.loop-before.rest.now c.split_once.result c.split_once.ensures.cases c.in_default.not-Some) in
    let whole = i.same ∙ ap (λ l. c.loop-before.made ++ l) none in
    part-faults (Unit {0}) c.in-Err-add.fault c.loop-before.made c.add.new.made c.loop-before.rest.now _ [] c.in-Err-add.ensures (whole ∙ no-more _)
