use Rattle.std.proofs.Common.{sym, subst, ◌∙◌}
use Rattle.ha_journal.proofs.MoreLemmas.{has-entry}
use Rattle.trig_set.specs.Stands.{attached}
use Rattle.engine_parts.specs.declared.parts.Parts.{Parts}
use Rattle.wait_set.specs.Asked.{WaitTable}
use Rattle.engine_parts.specs.Stages.{RunsBefore}
use Rattle.engine_parts.specs.Waiting.{EndsGrow}
use Rattle.engine_parts.proofs.OrderLemmas.{attempts-none}
use Rattle.engine_parts.specs.Without.{without_owners}
use Rattle.engine_parts.proofs.left.attend_left.Goals as goal

pub returns-clause-attached : goal.returns-clause-attached
returns-clause-attached c = c.in_ok-wake_line.ensures.attached ∙ (λ i. without_owners (sym c.wake_line.ensures.waits i).fresh (c.in_ok-note_left.ensures.attached i))

pub returns-clause-fired : goal.returns-clause-fired
returns-clause-fired c =
    let k = c.args.journal.now in
    let untold = c.requires.untold.untold in
    attempts-none k (attached c.args.parts.now.triggers) (has-entry k untold.journal) c.requires.sees.few untold.owned.ascend untold.owned.automations_attached c.note_left.ensures.fired

pub returns-clause-going : goal.returns-clause-going
returns-clause-going c rs before =
    c.in_ok-wake_line.ensures.going rs c.args.parts.now.waits c.in_ok-note_left.ensures.noted
    (subst (λ (p : Parts). RunsBefore c.args.journal.now rs c.args.parts.now.waits p.delays p.frames.items p.ready.pairs.items p.calls) (sym c.in_ok-note_left.ensures.rest) before)

pub returns-in_err-note_left-clause-fired : goal.returns-in_err-note_left-clause-fired
returns-in_err-note_left-clause-fired c =
    let k = c.args.journal.now in
    let untold = c.requires.untold.untold in
    attempts-none k (attached c.args.parts.now.triggers) (has-entry k untold.journal) c.requires.sees.few untold.owned.ascend untold.owned.automations_attached c.note_left.ensures.fired

pub returns-in_err-wake_line-clause-fired : goal.returns-in_err-wake_line-clause-fired
returns-in_err-wake_line-clause-fired c =
    let k = c.args.journal.now in
    let untold = c.requires.untold.untold in
    attempts-none k (attached c.args.parts.now.triggers) (has-entry k untold.journal) c.requires.sees.few untold.owned.ascend untold.owned.automations_attached c.note_left.ensures.fired

pub returns-clause-ended : goal.returns-clause-ended
returns-clause-ended c serial =
    subst (λ (w : WaitTable). EndsGrow c.args.parts.now.waits w serial) (sym c.wake_line.ensures.waits) (c.in_ok-note_left.ensures.noted.told.grow serial)
