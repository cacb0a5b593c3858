use Rattle.std.proofs.Common.{◌+◌, drop, false, sym, ap, ◌∙◌, arith}
use Rattle.std.proofs.lemmas.List.{at_drop_more}
use Rattle.engine_entry.specs.Stepping.{stops_each}
use Rattle.ha_engine.proofs.step_conclude.stop_targets.Goals as goal

pub targets-preserved : goal.targets-preserved
targets-preserved c =
    let i = c.targets.target-index in
    let ts = c.args.targets.now in
    let p = c.args.place in
    record {
      list = ap (stops_each p (drop (i + 1) ts)) c.stop_target.ensures.list ∙ sym (at_drop_more (λ l. stops_each p l c.targets.runs.list) ts i (0, false, false) c.targets-test.true) ∙ c.targets.invariant.list;
      kept = λ k at some table going. (let g = c.targets.invariant.kept k at some table going in c.stop_target.ensures.kept k at some g.0 g.1);
      closed = c.stop_target.ensures.closed ∙ c.targets.invariant.closed;
      firsts = c.stop_target.ensures.firsts ∙ c.targets.invariant.firsts;
      spare = omega (arith, c.targets.invariant.spare, c.stop_target.ensures.spare);
      room = λ n h. c.stop_target.ensures.room n (c.targets.invariant.room n h);
      rested = c.stop_target.ensures.rested ∙ c.targets.invariant.rested;
    }

pub stop_target-requires-clause-room : goal.stop_target-requires-clause-room
stop_target-requires-clause-room c = c.targets.invariant.room 0 c.requires.room
