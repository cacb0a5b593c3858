use Rattle.std.proofs.Common.{◌∙◌, ap, subst, sym}
use Rattle.crossbeam_channel.specs.Claims.{view}
use Rattle.bus_turn.specs.Shown.{BusView}
use Rattle.bus_pass.specs.Origins.{IsStored}
use Rattle.ha_worker.proofs.GiveLemmas.{gave_same, no_line_then, sits_still}
use Rattle.ha_worker.proofs.TurnLemmas.{run_out_may}
use Rattle.ha_worker.proofs.worker.Worker.run_out.Goals as goal

pub returns-in_default-clause-sits : goal.returns-in_default-clause-sits
returns-in_default-clause-sits g c =
    let t = c.take_open.ensures in
    sits_still c.args.self.now.next c.args.self.now.id (view c.args.self.now.pass) (view c.take_open.new.pass) c.requires.sits t.lines (t.none c.in_default.is).0

pub returns-in_default-clause-notes : goal.returns-in_default-clause-notes
returns-in_default-clause-notes g c = (c.take_open.ensures.none c.in_default.is).1

pub give-requires-clause-may : goal.give-requires-clause-may
give-requires-clause-may g c κs within =
    let h = c.in-Some.ensures.some in
    rw c.nothing.ensures (run_out_may c.args.self.now.id (view c.take_open.new.pass) c.in-Some.bus c.run_out.new.self h.0 h.1 c.run_out.ensures)

pub give-requires-clause-running : goal.give-requires-clause-running
give-requires-clause-running g c κs within = rw c.run_out.ensures c.in-Some.ensures.some.0.running

pub give-requires-clause-stored : goal.give-requires-clause-stored
give-requires-clause-stored g c κs within = subst IsStored (sym c.run_out.ensures) c.in-Some.ensures.some.0.stored

pub returns-clause-sits : goal.returns-clause-sits
returns-clause-sits g c =
    let h = c.in-Some.ensures.some in
    let s = gave_same c.args.self.now.id (view c.take_open.new.pass) (view c.give.new.pass) c.in-Some.bus c.run_out.new.self h.0 (ap (λ (b : BusView). b.journal) c.run_out.ensures) (rw c.nothing.ensures at c.give.ensures.gave) in
    sits_still c.args.self.now.next c.args.self.now.id (view c.args.self.now.pass) (view c.give.new.pass) c.requires.sits
    (no_line_then (view c.args.self.now.pass) (view c.take_open.new.pass) (view c.give.new.pass) c.take_open.ensures.lines s.1) s.0

pub returns-clause-lines : goal.returns-clause-lines
returns-clause-lines g c =
    let h = c.in-Some.ensures.some in
    let s = gave_same c.args.self.now.id (view c.take_open.new.pass) (view c.give.new.pass) c.in-Some.bus c.run_out.new.self h.0 (ap (λ (b : BusView). b.journal) c.run_out.ensures) (rw c.nothing.ensures at c.give.ensures.gave) in
    no_line_then (view c.args.self.now.pass) (view c.take_open.new.pass) (view c.give.new.pass) c.take_open.ensures.lines s.1

pub returns-clause-notes : goal.returns-clause-notes
returns-clause-notes g c =
    let h = c.in-Some.ensures.some in
    let s = gave_same c.args.self.now.id (view c.take_open.new.pass) (view c.give.new.pass) c.in-Some.bus c.run_out.new.self h.0 (ap (λ (b : BusView). b.journal) c.run_out.ensures) (rw c.nothing.ensures at c.give.ensures.gave) in
    s.2 ∙ ap (λ (b : BusView). b.first) c.run_out.ensures
