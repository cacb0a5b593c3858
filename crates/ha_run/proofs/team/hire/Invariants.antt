use Rattle.std.proofs.Common.{◌≡◌, ◌+◌, ◌≤◌, length, map}
use Rattle.std.specs.Prelude.{vec_capacity, vec_len}
use Rattle.crossbeam_channel.specs.Claims.{view}
use Rattle.bus_pass.specs.Turns.{IsPassOf}
use Rattle.ha_run.specs.Opened.{source_of}
use Rattle.ha_run.specs.Team.{seat_of}
use Rattle.ha_run.proofs.CrewLemmas.{Hiring}
use Rattle.ha_run.proofs.team.hire.Given as goal

abbrev pub invariant-sources : goal.invariant-sources
invariant-sources g l = record {
  turn : IsPassOf l.turn l.pass;
  hiring : Hiring (seat_of (source_of g.S.Source.faults g.S.Source.left g.S.Source.name)) (λ w. IsPassOf l.turn w.pass)
      (map (source_of g.S.Source.faults g.S.Source.left g.S.Source.name) l.fn.sources) (view l.initial.pass) (view l.pass) (map (source_of g.S.Source.faults g.S.Source.left g.S.Source.name) l.sources) l.workers.items;
  count : vec_len l.workers ≡ length l.workers.items;
  room : length l.sources + vec_len l.workers ≤ vec_capacity l.workers;
  few : length l.sources + vec_len l.workers ≤ 16;
}

abbrev pub decreases-sources : goal.decreases-sources
decreases-sources g l = length l.sources
