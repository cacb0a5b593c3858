use Rattle.std.proofs.Common.{◌≡◌, ◌-◌, suc, length, refl, sym, ap, subst, ◌∙◌, arith}
use Rattle.std.specs.Prelude.{Some, slice_get}
use Rattle.ha_journal.specs.declared.entry.Entry.TheVariants.{Step}
use Rattle.ha_journal.specs.Journal.{last_place, units}
use Rattle.ha_journal.proofs.ForceLaws.{units-more}
use Rattle.ha_journal.proofs.MoreLemmas.{has-entry, length-more}
use Rattle.ha_model.specs.Records.{actions_of}
use Rattle.wait_set.specs.Timers.{timer_added}
use Rattle.engine_parts.specs.Kept.{KeysBelow}
use Rattle.engine_entry.specs.Stepping.{asks_with}
use Rattle.engine_entry.proofs.CallsStepped.{get-set}
use Rattle.engine_entry.proofs.StepWoken.{step-woken-as}
use Rattle.engine_entry.proofs.step_wake.wake_after.Goals as goal

pub returns-clause-going : goal.returns-clause-going
returns-clause-going c rs w0 w1 delays0 progress wait due h asks queue keys noted =
    let k = c.args.journal.now in
    let p = c.args.parts.now in
    let size : length k ≡ suc (length h.j) = ap length h.journal_is ∙ length-more h.j (Step h.worker h.serial h.branch h.out.item) in
    let last : last_place k ≡ length h.j = omega (arith, size) in
    let there : slice_get p.frames.items (h.serial - 1) ≡ Some (Some h.new) = ap (λ os. slice_get os (h.serial - 1)) h.slots ∙ get-set h.os (h.serial - 1) (Some h.old) (Some h.new) h.there in
    let script : actions_of (units k) h.new.automation ≡ h.new.script.value
    = ap (λ i. actions_of (units i) h.new.automation) h.journal_is
    ∙ ap (λ u. actions_of u h.new.automation) (sym (units-more h.j (Step h.worker h.serial h.branch h.out.item) (has-entry h.j h.right.journal) refl))
    ∙ ap (actions_of (units h.j)) (h.automation_is ∙ h.live.automation)
    ∙ sym h.stands.stands.script in
    step-woken-as rs w0 w1 delays0 p c.wake_step.new.delays c.wake_step.new.triggers c.wake_step.new.ready c.note_call.new.calls progress wait due c.place.result k h (sym (c.place.ensures.place ∙ last))
    (asks ∙ ap (λ n. asks_with n wait w0.asks) last) (queue ∙ ap (λ n. timer_added due n delays0) last) (subst (λ n. KeysBelow n delays0) last keys)
    (c.in_ok-note_call.ensures h.j h.worker h.serial h.branch h.out.item h.new h.journal_is there script) noted (
      c.in_ok-wake_step.ensures.stands,
      c.in_ok-wake_step.ensures.owned,
      c.in_ok-wake_step.ensures.queue,
      c.in_ok-wake_step.ensures.early,
      c.in_ok-wake_step.ensures.pairs,
    )
