use Rattle.std.proofs.Common.{◌≡◌, ◌+◌, ◌≤◌, length}
use Rattle.std.specs.Prelude.{vec_capacity, vec_len}
use Rattle.crossbeam_channel.specs.Claims.{view}
use Rattle.bus_pass.specs.Turns.{IsPassOf}
use Rattle.ha_run.specs.Opened.{source_of}
use Rattle.ha_run.specs.Team.{seat_of}
use Rattle.ha_run.proofs.CrewLemmas.{Gathering}
use Rattle.ha_run.proofs.team.gather.Given as goal

abbrev pub invariant-workers : goal.invariant-workers
invariant-workers g l = record {
  turn : IsPassOf l.turn l.pass;
  gathering : Gathering (seat_of (source_of g.S.Source.faults g.S.Source.left g.S.Source.name)) (λ w. w.source) (λ w. IsPassOf l.turn w.pass)
      l.fn.workers (view l.initial.pass) (view l.pass) l.workers l.sources.items;
  count : vec_len l.sources ≡ length l.sources.items;
  room : length l.workers + vec_len l.sources ≤ vec_capacity l.sources;
}

abbrev pub decreases-workers : goal.decreases-workers
decreases-workers g l = length l.workers
