use Rattle.std.proofs.Common.{◌<◌, false, length, refl, sym, ◌∙◌, arith}
use Rattle.ha_model.specs.declared.record.EndCause.{EndCause}
use Rattle.run_modes.specs.Calls.{stop_turned}
use Rattle.ha_engine.proofs.EachLemmas.{unmarked-done, unmarked-step}
use Rattle.ha_engine.proofs.reload.drop_unmarked.Goals as goal

pub units-init : goal.units-init
units-init c = record {
  list = refl;
  kept = λ k at some table going. (table, going);
  closed = refl;
  firsts = refl;
  spare = omega arith;
  room = λ n h. h;
  rested = refl;
}

pub drop_if-requires-clause-room : goal.drop_if-requires-clause-room
drop_if-requires-clause-room c = c.units.invariant.room 0 c.requires.room

pub units-preserved : goal.units-preserved
units-preserved c =
    let within : c.units.unit < length c.args.marks.now = c.units-test.true in
    record {
      list = unmarked-step (stop_turned c.args.place EndCause.Reloaded) c.args.marks.now c.units.unit false _ c.units.runs.list c.drop_if.new.runs.list within refl c.drop_if.ensures.list ∙ c.units.invariant.list;
      kept = λ k at some table going. (let g = c.units.invariant.kept k at some table going in c.drop_if.ensures.kept k at some g.0 g.1);
      closed = c.drop_if.ensures.closed ∙ c.units.invariant.closed;
      firsts = c.drop_if.ensures.firsts ∙ c.units.invariant.firsts;
      spare = omega (arith, c.units.invariant.spare, c.drop_if.ensures.spare);
      room = λ n h. c.drop_if.ensures.room n (c.units.invariant.room n h);
      rested = c.drop_if.ensures.rested ∙ c.units.invariant.rested;
    }

pub returns-clause-list : goal.returns-clause-list
returns-clause-list c =
    sym (unmarked-done (stop_turned c.args.place EndCause.Reloaded) c.args.marks.now c.units.unit c.units.runs.list (omega (arith, c.units-test.false))) ∙ c.units.invariant.list
