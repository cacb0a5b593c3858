use Rattle.std.proofs.Common.{◌≡◌, ◌-◌, false, ap, sym, ◌∙◌, arith}
use Rattle.std.specs.Prelude.{Option, None, Some, option_and_then, slice_get}
use Rattle.std.specs.Option.{option_copied, option_map_or}
use Rattle.ha_journal.specs.Journal.{units}
use Rattle.ha_model.specs.Records.{actions_of}
use Rattle.script_step.specs.declared.frames.Frames.{Frames}
use Rattle.script_step.specs.Frames.{ask_of}
use Rattle.engine_entry.proofs.step_wake.is_calling.Goals as goal

pub returns-in-Some : goal.returns-in-Some
returns-in-Some c f there script =
    let at : c.saturating_sub.result ≡ c.args.serial - 1 = omega (arith, c.saturating_sub.ensures) in
    let slot : option_and_then {T = Option Frames} {U = Frames} (λ slot. slot) (slice_get c.args.frames.now.items c.saturating_sub.result) ≡ Some f
    = ap (λ n. option_and_then {T = Option Frames} {U = Frames} (λ slot. slot) (slice_get c.args.frames.now.items n)) at ∙ ap (option_and_then {T = Option Frames} {U = Frames} (λ slot. slot)) there in
    let got : Some c.in-Some.run'.now ≡ Some f = sym (ap option_copied c.in-Some.is) ∙ c.get.ensures ∙ slot in
    let same : c.in-Some.run'.now ≡ f = cc in
    c.calls.ensures (c.script.ensures ∙ ap (actions_of (units c.args.journal.now)) (c.automation.ensures ∙ ap (λ (x : Frames). x.automation) same) ∙ script ∙ ap (λ (x : Frames). x.script.value) (sym same))
    ∙ ap (λ (x : Frames). option_map_or (λ ask. ask.called) (ask_of x c.args.branch.now) false) same

pub returns-in-None : goal.returns-in-None
returns-in-None c f there script =
    let at : c.saturating_sub.result ≡ c.args.serial - 1 = omega (arith, c.saturating_sub.ensures) in
    let slot : option_and_then {T = Option Frames} {U = Frames} (λ slot. slot) (slice_get c.args.frames.now.items c.saturating_sub.result) ≡ Some f
    = ap (λ n. option_and_then {T = Option Frames} {U = Frames} (λ slot. slot) (slice_get c.args.frames.now.items n)) at ∙ ap (option_and_then {T = Option Frames} {U = Frames} (λ slot. slot)) there in
    let bad : ◌≡◌ {A = Option Frames} None (Some f) = sym (ap option_copied c.in-None.is) ∙ c.get.ensures ∙ slot in
    absurd (cc)
