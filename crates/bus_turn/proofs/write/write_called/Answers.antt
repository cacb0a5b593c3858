use Rattle.std.proofs.lemmas.Result.{on_ok_weaker}
use Rattle.bus_turn.proofs.CallLemmas.{called-here}
use Rattle.bus_turn.proofs.write.write_called.Goals as goal
use Rattle.ha_whole.specs.Trace.{call_text_of}

pub returns : goal.returns
returns g c = λ before is.
    c.write_line.ensures (call_text_of (g.C.Core.runs c.args.core.now) before c.args.entry.now)
    (on_ok_weaker c.line_of_step-made.result
    (called-here (g.C.Core.entries c.args.core.now) before c.args.entry.now (g.C.Core.runs c.args.core.now) c.records.result.now c.units.result.now c.records.ensures.right is c.records.ensures.value c.units.ensures _)
    c.line_of_step-made.ensures)
