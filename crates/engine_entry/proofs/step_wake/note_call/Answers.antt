use Rattle.std.proofs.Common.{◌≡◌, ℕ, ◌-◌, length, sym, ap, subst, ◌∙◌, false}
use Rattle.std.specs.Prelude.{slice_get}
use Rattle.std.specs.Option.{option_map_or}
use Rattle.ha_journal.specs.declared.entry.Entry.TheVariants.{Step}
use Rattle.ha_model.proofs.LastEntry.{ok-then}
use Rattle.ha_sight.specs.Scripts.{Branch}
use Rattle.script_step.specs.Frames.{ask_of}
use Rattle.engine_entry.specs.Stepping.{CallBegun}
use Rattle.engine_entry.proofs.step_wake.note_call.Goals as goal

pub returns-in-Step : goal.returns-in-Step
returns-in-Step c =
    ok-then c.begin_call.result
    (λ ok j worker s b item f is there script.
    let e = sym c.in-Step.is ∙ c.last_entry.ensures j (Step worker s b item) is in
    let serial : c.in-Step.serial ≡ s = cc in
    let branch : c.in-Step.branch ≡ b = cc in
    subst (λ (q : ℕ). CallBegun (option_map_or (λ ask. ask.called) (ask_of f b) false) (length c.args.frames.now.items) q b c.args.calls.now c.begin_call.new.calls) serial
    (subst (λ (d : Branch). CallBegun (option_map_or (λ ask. ask.called) (ask_of f d) false) (length c.args.frames.now.items) c.in-Step.serial d c.args.calls.now c.begin_call.new.calls) branch
    (ok f (ap (λ q. slice_get c.args.frames.now.items (q - 1)) serial ∙ there) script)))
    c.begin_call.ensures

pub returns-in-Line : goal.returns-in-Line
returns-in-Line c j worker s b item f is there script = absurd (let e = sym c.in-Line.is ∙ c.last_entry.ensures j (Step worker s b item) is in cc)

pub returns-in-Boot : goal.returns-in-Boot
returns-in-Boot c j worker s b item f is there script = absurd (let e = sym c.in-Boot.is ∙ c.last_entry.ensures j (Step worker s b item) is in cc)

pub returns-in-Again : goal.returns-in-Again
returns-in-Again c j worker s b item f is there script = absurd (let e = sym c.in-Again.is ∙ c.last_entry.ensures j (Step worker s b item) is in cc)
