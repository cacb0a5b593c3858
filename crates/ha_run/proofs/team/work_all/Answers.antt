use Rattle.std.proofs.Common.{◌≡◌, arith, length, rules}
use Rattle.bus_pass.specs.Turns.{IsPassOf}
use Rattle.ha_run.specs.Opened.{source_of}
use Rattle.ha_run.specs.Team.{Works, seat_of}
use Rattle.ha_run.proofs.CrewLemmas.{done_of, moved}
use Rattle.ha_run.proofs.team.work_all.Goals as goal

pub returns-clause-passes : goal.returns-clause-passes
returns-clause-passes g c = λ i d h.
    let len : length c.for_each_mut.new.s ≡ length c.args.workers.now = search rules in
    let call = (c.for_each_mut.ensures i d (omega (arith, len, h))).1 in
    (moved (λ a b. IsPassOf c.args.turn.now b.pass) _ _ _ _ call.argument_is call.left call.call.0)

pub returns-clause-done : goal.returns-clause-done
returns-clause-done g c = λ before ready.
    let len : length c.for_each_mut.new.s ≡ length c.args.workers.now = search rules in
    let f = seat_of (source_of g.S.Source.faults g.S.Source.left g.S.Source.name) in
    done_of g.C.Prepare.Prepare.reads f 0 before c.args.workers.now c.for_each_mut.new.s len ready
    (λ i d h. let call = (c.for_each_mut.ensures i d h).1 in moved (λ a b. Works g.C.Prepare.Prepare.reads (f a) (f b)) _ _ _ _ call.argument_is call.left call.call.1)
