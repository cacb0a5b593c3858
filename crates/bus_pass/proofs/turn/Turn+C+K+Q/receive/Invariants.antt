use Rattle.std.proofs.Common.{◌≡◌}
use Rattle.crossbeam_channel.specs.Claims.{view}
use Rattle.bus_pass.specs.Turns.{IsPassOf}
use Rattle.bus_pass.proofs.turn.Turn+C+K+Q.receive.Given as goal

abbrev pub invariant-loop : goal.invariant-loop
invariant-loop g l = IsPassOf l.self l.pass × (view l.pass ≡ view l.initial.pass)
