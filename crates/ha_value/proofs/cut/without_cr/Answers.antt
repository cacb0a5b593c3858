use Rattle.ha_value.proofs.ReturnLemmas.{dropped, stays, nothing_there}
use Rattle.ha_value.proofs.cut.without_cr.Goals as goal

pub returns-then-last-eq13-clause-value : goal.returns-then-last-eq13-clause-value
returns-then-last-eq13-clause-value c = dropped c.args.line.now c.in-Some.front.now c.in-Some.last.now c.in-Some.ensures.cases.0 c.if-last-eq13.true

pub returns-else-last-eq13-clause-value : goal.returns-else-last-eq13-clause-value
returns-else-last-eq13-clause-value c = stays c.args.line.now c.in-Some.front.now c.in-Some.last.now c.in-Some.ensures.cases.0 c.if-last-eq13.false

pub returns-in_default-clause-value : goal.returns-in_default-clause-value
returns-in_default-clause-value c = nothing_there c.args.line.now c.in_default.ensures.cases
