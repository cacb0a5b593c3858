use Rattle.std.proofs.Common.{◌<◌, ℕ, List, length, refl, sym, subst, ◌∙◌, arith}
use Rattle.std.specs.Prelude.{fold, nat_eq, if◌then◌else◌}
use Rattle.ha_model.specs.declared.record.EndCause.{EndCause}
use Rattle.run_modes.specs.Calls.{stop_turned}
use Rattle.named_runs.specs.Named.{first_in}
use Rattle.ha_engine.proofs.EachLemmas.{rest-all, rest-done, rest-step}
use Rattle.ha_engine.proofs.stop.stop_named.Goals as goal

pub each-init : goal.each-init
each-init c =
    let firsts : List ℕ = c.args.runs.now.firsts in
    record {
      list = (λ i. fold (stop_turned c.args.place EndCause.SwitchedOff) c.args.runs.now.list (rest-all (λ b. nat_eq (first_in firsts b) (first_in firsts c.args.automation)) (length firsts) i));
      kept = λ k at some table going. (table, going);
      closed = refl;
      firsts = refl;
      spare = omega arith;
      room = λ n h. h;
      rested = refl;
    }

pub stop_same-requires-clause-room : goal.stop_same-requires-clause-room
stop_same-requires-clause-room c = c.each.invariant.room 0 c.requires.room

pub stop_same-requires-clause-known : goal.stop_same-requires-clause-known
stop_same-requires-clause-known c = subst (λ (l : List ℕ). c.each.unit < length l) (sym c.each.invariant.firsts) (subst (λ n. c.each.unit < n) c.units-unit-end.ensures c.each-test.true)

pub each-preserved : goal.each-preserved
each-preserved c =
    let firsts : List ℕ = c.args.runs.now.firsts in
    let f = stop_turned c.args.place EndCause.SwitchedOff in
    let within : c.each.unit < length firsts = subst (λ n. c.each.unit < n) c.units-unit-end.ensures c.each-test.true in
    record {
      list = rest-step f (λ b. nat_eq (first_in firsts b) (first_in firsts c.args.automation)) (length firsts) c.each.unit c.each.runs.list c.stop_same.new.runs.list within
          (c.stop_same.ensures.list ∙ (λ i. if nat_eq (first_in (c.each.invariant.firsts i) c.each.unit) (c.first_unit-first.ensures i) then f c.each.runs.list c.each.unit else c.each.runs.list))
          ∙ c.each.invariant.list;
      kept = λ k at some table going. (let g = c.each.invariant.kept k at some table going in c.stop_same.ensures.kept k at some g.0 g.1);
      closed = c.stop_same.ensures.closed ∙ c.each.invariant.closed;
      firsts = c.stop_same.ensures.firsts ∙ c.each.invariant.firsts;
      spare = omega (arith, c.each.invariant.spare, c.stop_same.ensures.spare);
      room = λ n h. c.stop_same.ensures.room n (c.each.invariant.room n h);
      rested = c.stop_same.ensures.rested ∙ c.each.invariant.rested;
    }

pub returns-clause-list : goal.returns-clause-list
returns-clause-list c =
    let firsts : List ℕ = c.args.runs.now.firsts in
    sym (rest-done (stop_turned c.args.place EndCause.SwitchedOff) (λ b. nat_eq (first_in firsts b) (first_in firsts c.args.automation)) (length firsts) c.each.unit c.each.runs.list (omega (arith, c.each-test.false, c.units-unit-end.ensures)))
    ∙ c.each.invariant.list
