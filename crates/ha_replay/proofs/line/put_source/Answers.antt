use Rattle.std.proofs.Common.{false, rules}
use Rattle.ha_replay.specs.Traces.{reached}
use Rattle.ha_replay.proofs.AnswerLemmas.{fair-put, line-lacks, line-taken, no-source, none-due, not-refused, refused-answer, refused-front, unfit-answer}
use Rattle.ha_replay.proofs.line.put_source.Goals as goal

pub returns-then-not-is_due-clause-answer : goal.returns-then-not-is_due-clause-answer
returns-then-not-is_due-clause-answer g c = λ text print only unended.
    let j = g.C.Core.entries c.args.core.now in
    let rs = g.C.Core.runs c.args.core.now in
    let r = reached j rs c.args.closing false in
    unfit-answer g.C.Prepare.Prepare.reads r r text c.unfit.result c.unfit.ensures.fault unended
    (no-source g.C.Prepare.Prepare.reads r text c.args.line c.requires.stands print only c.unfit.ensures.size (λ due. search (rules, c.is_due.ensures.1 due, c.if-not-is_due.true))) (none-due j rs c.args.closing text)

pub put_line-requires-clause-fair : goal.put_line-requires-clause-fair
put_line-requires-clause-fair g c = fair-put g.C.Prepare.Prepare.reads (g.C.Core.entries c.args.core.now) c.args.line.cmd c.requires.fair

pub returns-then-was_refused-clause-answer : goal.returns-then-was_refused-clause-answer
returns-then-was_refused-clause-answer g c = λ text print only unended.
    let j = g.C.Core.entries c.args.core.now in
    let rs = g.C.Core.runs c.args.core.now in
    let w = c.was_refused.ensures in
    refused-answer g.C.Prepare.Prepare.reads j rs c.args.closing text c.args.line.source c.args.line.number c.args.line.cmd c.requires.stands print (c.is_due.ensures.0 (search (rules, c.if-not-is_due.false)))
    (g.C.Core.entries c.put_line.new.self) c.in-Ok.ensures.put c.is_reload-reloads.result c.was_refused.result c.is_reload-reloads.ensures w.reload w.other (search (rules, c.if-was_refused.true))
    (reached (g.C.Core.entries c.put_line.new.self) (g.C.Core.runs c.put_line.new.self) c.args.closing false) c.in-Ok.ensures.room only unended

pub returns-then-was_refused-clause-stays : goal.returns-then-was_refused-clause-stays
returns-then-was_refused-clause-stays g c =
    let j = g.C.Core.entries c.args.core.now in
    let w = c.was_refused.ensures in
    refused-front g.C.Prepare.Prepare.reads j c.args.line.source c.args.line.number c.args.line.cmd (g.C.Core.entries c.put_line.new.self) c.in-Ok.ensures.put
    c.is_reload-reloads.result c.was_refused.result c.is_reload-reloads.ensures w.reload w.other (search (rules, c.if-was_refused.true))

pub returns-else-was_refused-clause-answer : goal.returns-else-was_refused-clause-answer
returns-else-was_refused-clause-answer g c = λ text print only unended.
    let j = g.C.Core.entries c.args.core.now in
    let rs = g.C.Core.runs c.args.core.now in
    let due = c.is_due.ensures.0 (search (rules, c.if-not-is_due.false)) in
    let w = c.was_refused.ensures in
    line-taken g.C.Prepare.Prepare.reads j rs c.args.closing text c.args.line.source c.args.line.number c.args.line.cmd c.requires.stands print due
    (g.C.Core.entries c.put_line.new.self) (g.C.Core.runs c.put_line.new.self) c.is_restart-restarts.result c.is_restart-restarts.ensures c.in-Ok.ensures.room
    (not-refused g.C.Prepare.Prepare.reads j c.args.line.source c.args.line.number c.args.line.cmd
    (g.C.Core.entries c.put_line.new.self) c.in-Ok.ensures.put c.is_reload-reloads.result c.was_refused.result c.is_reload-reloads.ensures w.reload (search (rules, c.if-was_refused.false)))
    c.in-Ok.ensures.put c.in-Ok.ensures.right

pub returns-in-Err-clause-answer : goal.returns-in-Err-clause-answer
returns-in-Err-clause-answer g c = λ text print only unended.
    line-lacks g.C.Prepare.Prepare.reads (g.C.Core.entries c.args.core.now) (g.C.Core.runs c.args.core.now) c.args.closing text c.args.line.source c.args.line.number c.args.line.cmd c.requires.stands print
    (c.is_due.ensures.0 (search (rules, c.if-not-is_due.false))) (reached (g.C.Core.entries c.args.core.now) (g.C.Core.runs c.args.core.now) c.args.closing false) c.in-Err.fault c.unput.result c.unput.ensures unended c.in-Err.ensures.full
