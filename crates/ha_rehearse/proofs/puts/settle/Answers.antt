use Rattle.std.proofs.Common.{sym}
use Rattle.ha_rehearse.proofs.PutLemmas.{fresh, on_closing, step_refused, stepped_on, stepped_running, unrested_busy}
use Rattle.ha_rehearse.proofs.puts.settle.Goals as goal

pub put_step-requires-clause-busy : goal.put_step-requires-clause-busy
put_step-requires-clause-busy g c =
    unrested_busy (g.C.Core.runs c.steps.core) (g.C.Core.entries c.steps.core) c.steps.invariant.running.lawful.right (sym c.steps-test.ensures)

pub steps-preserved : goal.steps-preserved
steps-preserved g c =
    let j = g.C.Core.entries c.steps.core in
    let j' = g.C.Core.entries c.put_step.new.self in
    let rs = g.C.Core.runs c.steps.core in
    let rs' = g.C.Core.runs c.put_step.new.self in
    record {
      usable = fresh (g.C.Core.is_spent c.put_step.new.self) c.put_step.result c.in-Ok.field-0 c.put_step.ensures.spent c.in-Ok.is;
      running = stepped_running j j' rs rs' c.in-Ok.ensures.put c.in-Ok.ensures.right (sym c.steps-test.ensures) c.steps.invariant.running;
      on = λ boot n o. stepped_on j j' rs rs' c.in-Ok.ensures.put c.in-Ok.ensures.right (sym c.steps-test.ensures) boot n (c.steps.invariant.on boot n o);
    }

pub returns-in-Err-clause-failed : goal.returns-in-Err-clause-failed
returns-in-Err-clause-failed g c = λ boot n o.
    let j = g.C.Core.entries c.steps.core in
    let rs = g.C.Core.runs c.steps.core in
    step_refused j (g.C.Core.entries c.put_step.new.self) rs (g.C.Core.runs c.put_step.new.self) c.in-Err.fault c.in-Err.ensures.full c.in-Err.ensures.stays
    (unrested_busy rs j c.steps.invariant.running.lawful.right (sym c.steps-test.ensures)) boot n (on_closing boot n j rs (c.steps.invariant.on boot n o))
