use Rattle.std.proofs.Common.{◌≡◌, ◌-◌, None, length}
use Rattle.ha_worker.specs.Closing.{Closed}
use Rattle.ha_worker.proofs.steps.close.Given as goal

abbrev pub invariant-steps : goal.invariant-steps
invariant-steps g l = record {
  free : l.bus.first ≡ None;
  closed : Closed l.initial.bus l.bus;
}

abbrev pub decreases-steps : goal.decreases-steps
decreases-steps g l = 4_194_304 - length l.bus.journal
