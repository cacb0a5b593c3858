use Rattle.std.proofs.Common.{arith}
use Rattle.time_next.proofs.NextLemmas.{found, skipped}
use Rattle.time_next.proofs.next.next_second.Goals as goal

pub returns-then-next-end-clause-skipped : goal.returns-then-next-end-clause-skipped
returns-then-next-end-clause-skipped c = λ s low before.
    let less = c.if-next-end.true in
    skipped c.args.rule.now c.args.zone.now c.args.first c.second_of_day-shown.result c.ahead.result c.second_of_day-shown.ensures.value c.ahead.ensures
    c.even_end-end.result c.even_end-end.ensures.even s low (omega (arith, before, less)) before

pub returns-then-next-end-clause-found : goal.returns-then-next-end-clause-found
returns-then-next-end-clause-found c = λ steady s h.
    found c.args.rule.now c.args.zone.now c.args.first c.second_of_day-shown.result c.ahead.result c.second_of_day-shown.ensures.value c.ahead.ensures steady s h

pub returns-else-next-end-clause-skipped : goal.returns-else-next-end-clause-skipped
returns-else-next-end-clause-skipped c = λ s low before.
    let late = c.if-next-end.false in
    skipped c.args.rule.now c.args.zone.now c.args.first c.second_of_day-shown.result c.ahead.result c.second_of_day-shown.ensures.value c.ahead.ensures
    c.even_end-end.result c.even_end-end.ensures.even s low before (omega (arith, before, late))

pub returns-else-next-end-clause-found : goal.returns-else-next-end-clause-found
returns-else-next-end-clause-found c = λ steady s h.
    let late = c.if-next-end.false in
    let end = c.even_end-end.ensures.steady steady in
    let most = c.ahead.ensures.within in
    absurd (omega (arith, late, end, most))
