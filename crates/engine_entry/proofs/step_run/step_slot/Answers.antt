use Rattle.std.proofs.Common.{◌-◌, List, set, sym, ap, ◌∙◌}
use Rattle.std.specs.Prelude.{Option, Some, None, option_and_then}
use Rattle.std.proofs.lemmas.List.{set-set}
use Rattle.engine_parts.specs.Slots.{value_in}
use Rattle.script_step.specs.Gates.{due_of, fronts_of, gate_at}
use Rattle.script_step.specs.declared.frames.Frames.{Frames}
use Rattle.engine_entry.proofs.step_run.step_slot.Goals as goal

pub returns : goal.returns
returns c =
    let i = c.args.serial - 1 in
    let os : List (Option Frames) = c.args.frames.now.items in
    record {
      old = c.deref_mut.result.now;
      new = c.step_frames.new.run;
      there = c.take_frames.ensures.taken ∙ ap (λ o. Some (value_in o)) c.in-Some.is ∙ ap (λ (f : Frames). Some (Some f)) (sym c.deref_mut.ensures.value);
      behind = c.put_frames.ensures ∙ ap (λ (l : List (Option Frames)). set l i (Some c.step_frames.new.run)) c.take_frames.ensures.rest ∙ set-set os i None (Some c.step_frames.new.run);
      step = c.in_ok-out.ensures;
      due_is = λ began. c.due-due.ensures began ∙ ap (λ (f : Frames). option_and_then due_of (gate_at c.args.branch.now (fronts_of f began))) c.deref.ensures;
    }
