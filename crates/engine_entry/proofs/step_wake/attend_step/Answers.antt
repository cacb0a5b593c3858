use Rattle.std.proofs.Common.{◌≡◌, length, sym, ap, subst, ◌∙◌, arith}
use Rattle.ha_journal.specs.Journal.{last_place}
use Rattle.engine_parts.specs.declared.parts.Parts.{Parts}
use Rattle.engine_parts.specs.Kept.{KeysBelow}
use Rattle.engine_entry.specs.Stepping.{StepRuns}
use Rattle.engine_entry.proofs.step_wake.attend_step.Goals as goal

pub returns-clause-fired : goal.returns-clause-fired
returns-clause-fired c = c.in_ok-fired.ensures.fired

pub returns-clause-going : goal.returns-clause-going
returns-clause-going c rs progress h =
    let k = c.args.journal.now in
    let p = c.args.parts.now in
    let early : length c.requires.entered.untold.j ≡ last_place k = omega (arith, c.requires.here) in
    let rest : c.note_entry.new.parts ≡ record p { triggers = c.note_entry.new.parts.triggers; waits = c.note_entry.new.parts.waits; delays = c.take_over.new.parts.delays }
    = c.in_ok-fired.ensures.rest ∙ ap (λ (q : Parts). record q { triggers = c.note_entry.new.parts.triggers; waits = c.note_entry.new.parts.waits }) c.in_ok-take_over.ensures.rest in
    c.in_ok-wake_after.ensures.going rs p.waits c.take_over.new.parts.waits p.delays progress c.args.wait c.args.due
    (subst (λ (q : Parts). StepRuns k rs progress c.args.wait c.args.due p.waits p.delays q.frames.items q.ready.pairs.items q.calls) (sym rest) h)
    c.in_ok-take_over.ensures.asks
    (ap (λ (q : Parts). q.delays) rest ∙ c.in_ok-take_over.ensures.delays)
    (subst (λ n. KeysBelow n p.delays) early c.requires.keys_early)
    c.in_ok-fired.ensures.noted
