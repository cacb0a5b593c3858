use Rattle.std.proofs.Common.{◌≡◌, ◌-◌, length, sym, subst, ◌∙◌, ap}
use Rattle.std.specs.Prelude.{Option, Some, None, slice_get, option_and_then}
use Rattle.std.specs.Option.{option_copied}
use Rattle.ha_model.proofs.LastEntry.{ok-then}
use Rattle.ha_journal.specs.Journal.{units}
use Rattle.ha_model.specs.Records.{actions_of}
use Rattle.script_step.specs.declared.frames.Frames.{Frames}
use Rattle.ha_ready.specs.Agree.{AgreesBut, touched}
use Rattle.engine_parts.proofs.WakeLemmas.{listed-agrees}
use Rattle.engine_parts.proofs.wake.refresh.Goals as goal

pub returns-in-Ok : goal.returns-in-Ok
returns-in-Ok c =
    let k = c.args.journal.now in
    let slot : option_and_then {T = Option Frames} {U = Frames} (λ slot. slot) (slice_get c.args.frames.now.items (c.args.serial - 1)) ≡ Some c.in-Some.run'.now
    = sym c.run_at.ensures ∙ ap option_copied c.in-Some.is in
    let lent = c.script.ensures ∙ ap (actions_of (units k)) c.automation.ensures in
    ok-then c.set_run.result
    (λ e told rs p left waking step h. subst (λ l. AgreesBut told (touched k left) rs k l) (sym (e (length rs) h.by h.pairs_are (waking.numbered c.args.serial p step).0 (waking.numbered c.args.serial p step).1))
    (listed-agrees told rs k c.args.waits.now c.args.frames.now.items c.args.now c.args.serial p waking step (Some c.in-Some.run'.now) c.in-Ok.branches left c.args.ready.now.pairs.items slot (λ is. c.in-Ok.ensures (lent ∙ is)) h))
    c.set_run.ensures

pub returns-in-None : goal.returns-in-None
returns-in-None c =
    let k = c.args.journal.now in
    let slot : option_and_then {T = Option Frames} {U = Frames} (λ slot. slot) (slice_get c.args.frames.now.items (c.args.serial - 1)) ≡ None
    = sym c.run_at.ensures ∙ ap option_copied c.in-None.is in
    ok-then c.set_run-in-None.result
    (λ e told rs p left waking step h. subst (λ l. AgreesBut told (touched k left) rs k l) (sym (e (length rs) h.by h.pairs_are (waking.numbered c.args.serial p step).0 (waking.numbered c.args.serial p step).1))
    (listed-agrees told rs k c.args.waits.now c.args.frames.now.items c.args.now c.args.serial p waking step None c.make.result left c.args.ready.now.pairs.items slot c.make.ensures h))
    c.set_run-in-None.ensures
