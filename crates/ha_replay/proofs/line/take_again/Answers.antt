use Rattle.std.proofs.Common.{Bool, false, rules, subst, sym, true}
use Rattle.std.specs.Prelude.{Err}
use Rattle.ha_replay.specs.Traces.{Answers, Stands, Takes, reached}
use Rattle.ha_replay.proofs.AnswerLemmas.{again-dated, again-refused, again-taken}
use Rattle.ha_replay.proofs.line.take_again.Goals as goal

pub is_last-requires : goal.is_last-requires
is_last-requires g c = (c.type_bounds.send-C-Prepare, again-dated (g.C.Core.entries c.args.core.now) (g.C.Core.runs c.args.core.now) c.args.closing c.args.again.now c.requires.stands c.requires.due)

pub returns-in-Ok-true : goal.returns-in-Ok-true
returns-in-Ok-true g c =
    let j = g.C.Core.entries c.args.core.now in
    let rs = g.C.Core.runs c.args.core.now in
    let stands = subst (λ (a : Bool). Stands (reached j rs c.args.closing a)) c.requires.due c.requires.stands in
    subst (λ (a : Bool). Takes c.args.line.now (reached j rs c.args.closing a) (reached j rs c.args.closing false)) (sym c.requires.due)
    (again-taken g.C.Prepare.Prepare.reads j rs c.args.closing c.args.line.now c.in-Ok-true.field-0 stands c.in-Ok-true.ensures (search (rules, c.in-Ok-true.field-0-test)))

pub returns-in-Ok-false : goal.returns-in-Ok-false
returns-in-Ok-false g c =
    let j = g.C.Core.entries c.args.core.now in
    let rs = g.C.Core.runs c.args.core.now in
    let after = reached j rs c.args.closing true in
    let stands = subst (λ (a : Bool). Stands (reached j rs c.args.closing a)) c.requires.due c.requires.stands in
    subst (λ (a : Bool). Answers g.C.Prepare.Prepare.reads c.args.line.now (reached j rs c.args.closing a) after (Err c.unfit.result)) (sym c.requires.due)
    (again-refused g.C.Prepare.Prepare.reads j rs c.args.closing c.args.line.now c.in-Ok-false.field-0 stands c.in-Ok-false.ensures (λ t. search (rules, t, c.in-Ok-false.field-0-test)) after c.unfit.result c.unfit.ensures.fault)
