use Rattle.std.proofs.Common.{sym, subst, ◌∙◌}
use Rattle.engine_parts.specs.declared.parts.Parts.{Parts}
use Rattle.wait_set.specs.Asked.{WaitTable}
use Rattle.engine_parts.specs.Stages.{RunsBefore}
use Rattle.engine_parts.specs.Waiting.{EndsGrow}
use Rattle.engine_parts.specs.Without.{without_owners}
use Rattle.engine_parts.proofs.attend.attend.Goals as goal

pub returns-clause-attached : goal.returns-clause-attached
returns-clause-attached c = c.in_ok-wake_line.ensures.attached ∙ (λ i. without_owners (sym c.wake_line.ensures.waits i).fresh (c.in_ok-fired.ensures.attached i))

pub returns-clause-going : goal.returns-clause-going
returns-clause-going c rs before =
    c.in_ok-wake_line.ensures.going rs c.args.parts.now.waits c.in_ok-fired.ensures.noted
    (subst (λ (p : Parts). RunsBefore c.args.journal.now rs c.args.parts.now.waits p.delays p.frames.items p.ready.pairs.items p.calls) (sym c.in_ok-fired.ensures.rest) before)

pub returns-clause-ended : goal.returns-clause-ended
returns-clause-ended c serial =
    subst (λ (w : WaitTable). EndsGrow c.args.parts.now.waits w serial) (sym c.wake_line.ensures.waits) (c.in_ok-fired.ensures.noted.told.grow serial)
