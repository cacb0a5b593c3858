use Rattle.std.proofs.Common.{sym, ap, subst, ◌∙◌}
use Rattle.std.specs.Prelude.{Bool}
use Rattle.std.specs.Global.{Vec}
use Rattle.ha_ready.specs.RestedFlags.{RestedKept}
use Rattle.engine_parts.specs.declared.parts.Parts.{Parts}
use Rattle.engine_entry.specs.Stepping.{StepRuns}
use Rattle.engine_entry.proofs.StepEnters.{step-here}
use Rattle.ha_engine.proofs.step_follow.follow_step.Goals as goal

pub enter_step-requires : goal.enter_step-requires
enter_step-requires c = step-here c.args.journal.now c.args.runs.now.list c.args.parts.now c.args.progress c.args.wait c.args.due c.requires.pushed

pub attend_step-requires : goal.attend_step-requires
attend_step-requires c = c.in_ok-before.ensures.entered c.args.wait c.requires.pushed.taken

pub conclude_step-requires : goal.conclude_step-requires
conclude_step-requires c =
    let h = c.requires.pushed in
    let r = h.runs in
    let k = c.args.journal.now in
    let rs = c.args.runs.now.list in
    let runs : StepRuns k rs c.args.progress c.args.wait c.args.due c.enter_step.new.parts.waits c.enter_step.new.parts.delays c.enter_step.new.parts.frames.items c.enter_step.new.parts.ready.pairs.items c.enter_step.new.parts.calls
    = subst (λ (q : Parts). StepRuns k rs c.args.progress c.args.wait c.args.due q.waits q.delays q.frames.items q.ready.pairs.items q.calls) (sym c.in_ok-before.ensures.rest) r in
    record {
      told = record {
        j = r.j;
        worker = r.worker;
        serial = r.serial;
        branch = r.branch;
        out = r.out;
        journal_is = r.journal_is;
        room = h.room;
        right = r.right;
        fair = r.fair;
        picked = r.picked;
        own = r.own;
        low = r.low;
        end_is = r.end_is;
        going = c.in_ok-fired.ensures.going rs c.args.progress runs;
        rested_is = subst (λ (v : Vec Bool). RestedKept r.j rs v.items) (sym (c.in_ok-fired.ensures.rested ∙ ap (λ (q : Parts). q.rested) c.in_ok-before.ensures.rest)) h.rested_is;
      };
      fired = c.in_ok-fired.ensures.fired;
      named = c.requires.named;
    }
