use Rattle.std.proofs.Common.{sym}
use Rattle.ha_rehearse.proofs.PutLemmas.{fresh, step_refused, stepped_closing, stepped_lawful}
use Rattle.ha_rehearse.proofs.puts.close.Goals as goal

pub steps-preserved : goal.steps-preserved
steps-preserved g c =
    let j = g.C.Core.entries c.steps.core in
    let j' = g.C.Core.entries c.put_step.new.self in
    let rs = g.C.Core.runs c.steps.core in
    let rs' = g.C.Core.runs c.put_step.new.self in
    record {
      usable = fresh (g.C.Core.is_spent c.put_step.new.self) c.put_step.result c.in-Ok.field-0 c.put_step.ensures.spent c.in-Ok.is;
      lawful = stepped_lawful j j' rs rs' c.in-Ok.ensures.put c.in-Ok.ensures.right c.steps.invariant.lawful;
      closing = λ boot n o. stepped_closing j j' rs rs' c.in-Ok.ensures.put c.in-Ok.ensures.right boot n (c.steps.invariant.closing boot n o);
    }

pub returns-in-Err-clause-failed : goal.returns-in-Err-clause-failed
returns-in-Err-clause-failed g c = λ boot n o.
    step_refused (g.C.Core.entries c.steps.core) (g.C.Core.entries c.put_step.new.self) (g.C.Core.runs c.steps.core) (g.C.Core.runs c.put_step.new.self) c.in-Err.fault
    c.in-Err.ensures.full c.in-Err.ensures.stays (sym c.steps-test.ensures) boot n (c.steps.invariant.closing boot n o)
