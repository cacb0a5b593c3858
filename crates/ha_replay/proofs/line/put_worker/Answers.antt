use Rattle.std.proofs.Common.{◌∙◌, false, rules}
use Rattle.ha_journal.specs.declared.entry.Entry.TheVariants.{Step}
use Rattle.ha_journal.specs.EntryText.{trace_line}
use Rattle.whole_laws.proofs.TextLemmas.{names-stepped}
use Rattle.ha_replay.specs.Traces.{reached}
use Rattle.ha_replay.proofs.AnswerLemmas.{made-step, no-worker, none-due, not-full, other-step, refused, step-dated, step-lacks, step-taken, unfit-answer}
use Rattle.ha_replay.proofs.line.put_worker.Goals as goal

pub returns-then-not-may_step-clause-answer : goal.returns-then-not-may_step-clause-answer
returns-then-not-may_step-clause-answer g c =
    let j = g.C.Core.entries c.args.core.now in
    let rs = g.C.Core.runs c.args.core.now in
    let r = reached j rs c.args.closing.now false in
    unfit-answer g.C.Prepare.Prepare.reads r r c.args.line.now c.unfit.result c.unfit.ensures.fault c.requires.unended
    (no-worker g.C.Prepare.Prepare.reads r c.args.line.now c.args.worker c.requires.stands c.requires.begins c.requires.whose (λ allowed. search (rules, c.may_step.ensures.1 allowed, c.if-not-may_step.true)))
    (none-due j rs c.args.closing.now c.args.line.now)

pub returns-in-Err-clause-answer : goal.returns-in-Err-clause-answer
returns-in-Err-clause-answer g c =
    let j = g.C.Core.entries c.args.core.now in
    let rs = g.C.Core.runs c.args.core.now in
    step-lacks g.C.Prepare.Prepare.reads j rs c.args.closing.now c.args.line.now (reached j rs c.args.closing.now false) c.in-Err.fault c.unput.result c.unput.ensures c.requires.unended c.in-Err.ensures.full

pub is_last-requires : goal.is_last-requires
is_last-requires g c = (c.type_bounds.send-C-Prepare, (let put = c.in-Ok.ensures.put in step-dated (g.C.Core.entries c.put_step.new.self) (g.C.Core.entries c.args.core.now) c.args.worker put.0 put.1 put.2 put.4))

pub returns-in-Ok-true-clause-answer : goal.returns-in-Ok-true-clause-answer
returns-in-Ok-true-clause-answer g c =
    let j = g.C.Core.entries c.args.core.now in
    let r = reached j (g.C.Core.runs c.args.core.now) c.args.closing.now false in
    let m = made-step r c.args.worker (g.C.Core.entries c.put_step.new.self) (g.C.Core.runs c.put_step.new.self) c.closes-closed.result c.requires.stands
    (c.may_step.ensures.0 (search (rules, c.if-not-may_step.false))) c.in-Ok.ensures.put c.in-Ok.ensures.right c.closes-closed.ensures in
    step-taken j (g.C.Core.runs c.args.core.now) c.args.closing.now c.args.line.now c.args.worker (g.C.Core.entries c.put_step.new.self) (g.C.Core.runs c.put_step.new.self) c.closes-closed.result m c.requires.stands c.in-Ok.ensures.room
    ((c.in-Ok-true.ensures j (Step c.args.worker m.serial m.branch m.item) m.journal).0 (search (rules, c.in-Ok-true.field-0-test)))

pub returns-in-Ok-false-clause-answer : goal.returns-in-Ok-false-clause-answer
returns-in-Ok-false-clause-answer g c =
    let j = g.C.Core.entries c.args.core.now in
    let r = reached j (g.C.Core.runs c.args.core.now) c.args.closing.now false in
    let m = made-step r c.args.worker (g.C.Core.entries c.put_step.new.self) (g.C.Core.runs c.put_step.new.self) c.closes-closed.result c.requires.stands
    (c.may_step.ensures.0 (search (rules, c.if-not-may_step.false))) c.in-Ok.ensures.put c.in-Ok.ensures.right c.closes-closed.ensures in
    let x = Step c.args.worker m.serial m.branch m.item in
    let no_next = other-step g.C.Prepare.Prepare.reads r c.args.line.now c.args.worker c.requires.stands c.requires.begins c.requires.whose m.serial m.branch m.item (g.C.Core.runs c.put_step.new.self) c.closes-closed.result m.stands
    (λ e. search (rules, c.in-Ok-false.field-0-test, (c.in-Ok-false.ensures j x m.journal).1 (e ∙ (λ i. trace_line (names-stepped j c.args.worker m.serial m.branch m.item i) x)))) in
    (refused g.C.Prepare.Prepare.reads r c.args.line.now (not-full j false c.in-Ok.ensures.room) no_next, c.requires.unended, no_next)
