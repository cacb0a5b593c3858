use Rattle.std.proofs.Common.{sym, ◌∙◌}
use Rattle.ha_text.proofs.Taking.{at_begun, none_before, taken_or, passed_one}
use Rattle.ha_text.proofs.lines.LineCut.take.Goals as goal

pub returns-then-start-self-clause-some : goal.returns-then-start-self-clause-some
returns-then-start-self-clause-some c =
    at_begun c.args.self.now c.lines.self-inside.held.items c.lines.start c.lines.self-inside.begun c.if-start-self.true c.lines.invariant.last c.lines.invariant.same c.lines.invariant.whole

pub returns-in-None-clause-some : goal.returns-in-None-clause-some
returns-in-None-clause-some c =
    let f = rw c.in-None.is at c.in_ok-front_line.ensures in
    none_before c.args.self.now c.deref.result.now c.lines.self-inside.held.items c.lines.start c.lines.self-inside.begun c.deref.ensures.value c.lines.invariant.order c.lines.invariant.fits c.lines.invariant.last f c.lines.invariant.same c.lines.invariant.whole

pub returns-then-is_some-clause-some : goal.returns-then-is_some-clause-some
returns-then-is_some-clause-some c =
    let f = rw c.in-Some.is at c.in_ok-front_line.ensures in
    taken_or c.args.self.now c.deref.result.now c.lines.self-inside.held.items c.lines.start c.lines.self-inside.begun c.in-Some.line c.in-Some.long c.deref.ensures.value c.lines.invariant.order c.lines.invariant.fits c.lines.invariant.last f (sym c.is_some.ensures ∙ c.if-is_some.true) c.lines.invariant.same c.lines.invariant.whole

pub lines-preserved : goal.lines-preserved
lines-preserved c =
    let f = rw c.in-Some.is at c.in_ok-front_line.ensures in
    let p = passed_one c.args.self.now c.deref.result.now c.lines.self-inside.held.items c.lines.start c.lines.self-inside.begun c.in-Some.line c.in-Some.long c.deref.ensures.value c.lines.invariant.order c.lines.invariant.fits c.lines.invariant.last f (sym c.is_some.ensures ∙ c.if-is_some.false) c.lines.invariant.same c.lines.invariant.whole in
    record { order = p.0; fits = c.lines.invariant.fits; last = c.lines.invariant.last; same = p.1; whole = p.2; still = c.lines.invariant.still; before = c.lines.invariant.before }
