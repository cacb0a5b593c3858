use Rattle.std.proofs.Common.{◌≡◌, [], ap, arith, length, map, rules, subst, sym}
use Rattle.std.specs.Prelude.{All}
use Rattle.std.proofs.lemmas.List.{length-map}
use Rattle.crossbeam_channel.specs.Claims.{view}
use Rattle.bus_pass.specs.Turns.{IsPassOf}
use Rattle.ha_run.specs.Opened.{source_of}
use Rattle.ha_run.specs.Team.{AreReady, seat_of}
use Rattle.ha_run.proofs.CrewLemmas.{hired_all, hired_none, hired_one, led, renumbered}
use Rattle.ha_run.proofs.team.hire.Goals as goal

pub sources-init : goal.sources-init
sources-init g c = record {
  turn = c.requires.turn;
  hiring = hired_none (seat_of (source_of g.S.Source.faults g.S.Source.left g.S.Source.name)) (λ w. IsPassOf c.args.turn.now w.pass)
      (map (source_of g.S.Source.faults g.S.Source.left g.S.Source.name) c.args.sources) (view c.args.pass.now) c.args.empty.items c.requires.empty c.requires.first c.requires.none;
  count = c.args.empty.ok.0;
  room = omega (arith, c.requires.room, c.args.empty.ok.0, ap length c.requires.empty);
  few = omega (arith, c.requires.few, c.args.empty.ok.0, ap length c.requires.empty);
}

pub sources-preserved : goal.sources-preserved
sources-preserved g c = record {
  turn = c.worker_of-worker.ensures.turn.0;
  hiring = hired_one (seat_of (source_of g.S.Source.faults g.S.Source.left g.S.Source.name)) (λ w. IsPassOf c.args.turn.now w.pass)
      (map (source_of g.S.Source.faults g.S.Source.left g.S.Source.name) c.args.sources) (view c.args.pass.now) (view c.sources.pass) (view c.worker_of-worker.new.pass)
      (map (source_of g.S.Source.faults g.S.Source.left g.S.Source.name) c.sources.sources) (map (source_of g.S.Source.faults g.S.Source.left g.S.Source.name) c.take_first-source.new.list)
      (source_of g.S.Source.faults g.S.Source.left g.S.Source.name c.take_first-source.result) c.sources.workers.items c.push_reserved.new.self.items c.worker_of-worker.result c.sources.invariant.hiring
      (ap (map (source_of g.S.Source.faults g.S.Source.left g.S.Source.name)) c.take_first-source.ensures) c.worker_of-worker.ensures.turn.1
      (renumbered _ (length c.sources.workers.items) _ _ c.worker_of-worker.ensures.ready (omega (arith, c.len-id.ensures, c.sources.invariant.count, c.sources.invariant.few)))
      c.worker_of-worker.ensures.parent c.push_reserved.ensures.items;
  count = c.push_reserved.new.self.ok.0;
  room = omega (arith, c.sources.invariant.room, c.push_reserved.ensures.len, c.push_reserved.ensures.capacity, ap length c.take_first-source.ensures);
  few = omega (arith, c.sources.invariant.few, c.push_reserved.ensures.len, ap length c.take_first-source.ensures);
}

pub returns-clause-lead : goal.returns-clause-lead
returns-clause-lead g c =
    let none : c.sources.sources ≡ [] = search rules in
    let h = hired_all (seat_of (source_of g.S.Source.faults g.S.Source.left g.S.Source.name)) (λ w. IsPassOf c.args.turn.now w.pass)
    (map (source_of g.S.Source.faults g.S.Source.left g.S.Source.name) c.args.sources) (view c.args.pass.now) (view c.sources.pass)
    (map (source_of g.S.Source.faults g.S.Source.left g.S.Source.name) c.sources.sources) c.sources.workers.items c.sources.invariant.hiring (ap (map (source_of g.S.Source.faults g.S.Source.left g.S.Source.name)) none) in
    λ origin lead. led (length-map c.args.sources (source_of g.S.Source.faults g.S.Source.left g.S.Source.name)) (h.1 origin lead)

pub returns-clause-passes : goal.returns-clause-passes
returns-clause-passes g c = subst (λ z. All (λ w. IsPassOf c.args.turn.now w.pass) z) (sym c.from_vec.ensures) c.sources.invariant.hiring.passes

pub returns-clause-ready : goal.returns-clause-ready
returns-clause-ready g c =
    let none : c.sources.sources ≡ [] = search rules in
    let given = map (source_of g.S.Source.faults g.S.Source.left g.S.Source.name) c.args.sources in
    let h = hired_all (seat_of (source_of g.S.Source.faults g.S.Source.left g.S.Source.name)) (λ w. IsPassOf c.args.turn.now w.pass)
    given (view c.args.pass.now) (view c.sources.pass)
    (map (source_of g.S.Source.faults g.S.Source.left g.S.Source.name) c.sources.sources) c.sources.workers.items c.sources.invariant.hiring (ap (map (source_of g.S.Source.faults g.S.Source.left g.S.Source.name)) none) in
    subst (λ z. AreReady 0 given (map (seat_of (source_of g.S.Source.faults g.S.Source.left g.S.Source.name)) z)) (sym c.from_vec.ensures) h.0
