use Rattle.std.proofs.Common.{◌≡◌, ◌+◌, ◌≤◌, length, map}
use Rattle.ha_run.specs.Team.{told_by}
use Rattle.ha_run.proofs.status.told_by.Given as goal

abbrev pub invariant-workers : goal.invariant-workers
invariant-workers g l = record {
  same : told_by l.k (map (λ w. w.end) l.rest) ≡ told_by 0 (map (λ w. w.end) l.workers);
  few : l.k + length l.rest ≤ 16;
}

abbrev pub decreases-workers : goal.decreases-workers
decreases-workers g l = length l.rest
