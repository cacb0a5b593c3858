use Rattle.std.proofs.Common.{rules}
use Rattle.ha_replay.proofs.AnswerLemmas.{same-answer}
use Rattle.ha_replay.proofs.same.is_same.Goals as goal

pub returns-then-end-eq10 : goal.returns-then-end-eq10
returns-then-end-eq10 c = same-answer c.args.shown.now c.in-Some.text.now c.args.line.now c.in-Some.end.now c.eq.result c.in-Some.ensures.cases.0 (search (rules, c.if-end-eq10.true)) c.eq.ensures
