use Rattle.std.proofs.Common.{◌+◌, drop, sym, ap, ◌∙◌, arith}
use Rattle.std.proofs.lemmas.List.{at_drop_more}
use Rattle.engine_entry.specs.Stepping.{halts_each}
use Rattle.ha_engine.proofs.step_conclude.halt_scripts.Goals as goal

pub scripts-preserved : goal.scripts-preserved
scripts-preserved c =
    let i = c.scripts.script-index in
    let ss = c.args.scripts.now in
    let p = c.args.place in
    record {
      list = ap (halts_each p (drop (i + 1) ss)) c.stop_runs.ensures.list ∙ sym (at_drop_more (λ l. halts_each p l c.scripts.runs.list) ss i 0 c.scripts-test.true) ∙ c.scripts.invariant.list;
      kept = λ k at some table going. (let g = c.scripts.invariant.kept k at some table going in c.stop_runs.ensures.kept k at some g.0 g.1);
      closed = c.stop_runs.ensures.closed ∙ c.scripts.invariant.closed;
      firsts = c.stop_runs.ensures.firsts ∙ c.scripts.invariant.firsts;
      spare = omega (arith, c.scripts.invariant.spare, c.stop_runs.ensures.spare);
      room = λ n h. c.stop_runs.ensures.room n (c.scripts.invariant.room n h);
      rested = c.stop_runs.ensures.rested ∙ c.scripts.invariant.rested;
    }

pub stop_runs-requires-clause-room : goal.stop_runs-requires-clause-room
stop_runs-requires-clause-room c = c.scripts.invariant.room 0 c.requires.room
