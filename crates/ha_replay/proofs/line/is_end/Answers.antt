use Rattle.std.proofs.Common.{rules}
use Rattle.ha_replay.proofs.AnswerLemmas.{end-answer, no-end}
use Rattle.ha_replay.proofs.line.is_end.Goals as goal

pub returns : goal.returns
returns g c = end-answer (g.C.Core.entries c.args.core.now) (g.C.Core.runs c.args.core.now) c.args.line.now c.as_bytes.result.now c.eq.result c.requires.opened
    (search (rules, c.quiet.ensures, c.if-not-quiet.false)) (search (rules, c.as_bytes.ensures.value, c.in_ok-shown.ensures.ok, c.journal.ensures.value)) c.eq.ensures

pub returns-then-not-may_end : goal.returns-then-not-may_end
returns-then-not-may_end g c = (
  (λ t. search (rules, t)),
  (λ end. absurd (no-end (g.C.Core.entries c.args.core.now) (g.C.Core.runs c.args.core.now) c.args.line.now c.may_end.result c.may_end.ensures (search (rules, c.if-not-may_end.true)) end)),
)
