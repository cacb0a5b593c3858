use Rattle.std.proofs.Common.{ap, arith, length}
use Rattle.crossbeam_channel.specs.Claims.{view}
use Rattle.bus_pass.specs.Turns.{IsPassOf}
use Rattle.ha_run.specs.Opened.{source_of}
use Rattle.ha_run.specs.Team.{seat_of}
use Rattle.ha_run.proofs.CrewLemmas.{gathered_one, next_on}
use Rattle.ha_run.proofs.team.gather.Goals as goal

pub join-requires-clause-turn : goal.join-requires-clause-turn
join-requires-clause-turn g c κs within = (
  c.workers.invariant.turn,
  (next_on (seat_of (source_of g.S.Source.faults g.S.Source.left g.S.Source.name)) (λ w. w.source) (λ w. IsPassOf c.args.turn.now w.pass) c.args.workers (view c.args.pass.now) (view c.workers.pass) c.workers.workers
      c.take_first-source.new.list c.take_first-source.result c.workers.sources.items c.workers.invariant.gathering c.take_first-source.ensures).0,
)

pub join-requires-clause-idle : goal.join-requires-clause-idle
join-requires-clause-idle g c κs within = (
  c.workers.invariant.gathering.idle,
  (next_on (seat_of (source_of g.S.Source.faults g.S.Source.left g.S.Source.name)) (λ w. w.source) (λ w. IsPassOf c.args.turn.now w.pass) c.args.workers (view c.args.pass.now) (view c.workers.pass) c.workers.workers
      c.take_first-source.new.list c.take_first-source.result c.workers.sources.items c.workers.invariant.gathering c.take_first-source.ensures).1.idle,
)

pub join-requires-clause-later : goal.join-requires-clause-later
join-requires-clause-later g c κs within =
    (next_on (seat_of (source_of g.S.Source.faults g.S.Source.left g.S.Source.name)) (λ w. w.source) (λ w. IsPassOf c.args.turn.now w.pass) c.args.workers (view c.args.pass.now) (view c.workers.pass) c.workers.workers
    c.take_first-source.new.list c.take_first-source.result c.workers.sources.items c.workers.invariant.gathering c.take_first-source.ensures).1.later

pub workers-preserved : goal.workers-preserved
workers-preserved g c = record {
  turn = c.join.ensures.turn;
  gathering = gathered_one (seat_of (source_of g.S.Source.faults g.S.Source.left g.S.Source.name)) (λ w. w.source) (λ w. IsPassOf c.args.turn.now w.pass) c.args.workers (view c.args.pass.now) (view c.workers.pass)
      (view c.join.new.pass) c.workers.workers c.take_first-source.new.list c.take_first-source.result c.workers.sources.items c.push_reserved.new.self.items c.workers.invariant.gathering c.take_first-source.ensures
      c.join.ensures.view c.push_reserved.ensures.items;
  count = c.push_reserved.new.self.ok.0;
  room = omega (arith, c.workers.invariant.room, c.push_reserved.ensures.len, c.push_reserved.ensures.capacity, ap length c.take_first-source.ensures);
}
