use Rattle.std.proofs.Common.{◌∙◌, ◌<◌, sym, subst, arith, ℕ, Option, IfSome}
use Rattle.time_next.proofs.NextLemmas.{sleeps-bare, sleeps-least, sleeps-none}
use Rattle.time_next.proofs.among.earlier.Goals as goal

pub returns-then-not-has_times-clause-own : goal.returns-then-not-has_times-clause-own
returns-then-not-has_times-clause-own c = sleeps-bare c.args.zone.now c.args.after c.args.due c.args.rule.now (sym c.has_times.ensures ∙ c.if-not-has_times.true)

pub returns-in-Some-clause-own : goal.returns-in-Some-clause-own
returns-in-Some-clause-own c = λ times s low high.
    let least = c.least.ensures in
    c.next_time-next.ensures.skipped s low (omega (arith, high, least))

pub returns-in-Some-clause-others : goal.returns-in-Some-clause-others
returns-in-Some-clause-others c = λ r sleeps.
    let least = c.least.ensures in
    sleeps-least c.args.zone.now c.args.after c.args.due c.in-Some.due c.least.result r c.in-Some.is (omega (arith, least)) sleeps

pub returns-in-Some-clause-later : goal.returns-in-Some-clause-later
returns-in-Some-clause-later c = λ later.
    let least = c.least.ensures in
    let next = c.next_time-next.ensures.later in
    let due : c.args.after < c.in-Some.due = subst (λ (o : Option ℕ). IfSome o (λ d. c.args.after < d)) c.in-Some.is later in
    omega (arith, least, next, due)

pub returns-in-None-clause-own : goal.returns-in-None-clause-own
returns-in-None-clause-own c = λ times. c.next_time-next.ensures.skipped

pub returns-in-None-clause-others : goal.returns-in-None-clause-others
returns-in-None-clause-others c = λ r sleeps. sleeps-none c.args.zone.now c.args.after c.args.due c.next_time-next.result r c.in-None.is sleeps
