use Rattle.std.proofs.Common.{◌≡◌, ℕ, ◌-◌, ◌≤◌, [], ◌∷◌, drop, length}
use Rattle.std.specs.Prelude.{Some, slice_get}
use Rattle.ha_journal.specs.Journal.{Journal}
use Rattle.trig_set.specs.Stands.{StandsFor, attached}
use Rattle.wait_set.specs.Asked.{owners_of, without_run}
use Rattle.engine_parts.specs.Kept.{Owned}
use Rattle.engine_parts.specs.Pending.{AreOthers}
use Rattle.engine_parts.specs.Without.{without_owners}
use Rattle.engine_parts.specs.Runs.{first_wait}
use Rattle.engine_parts.proofs.forget.detach_run.Given as goal

abbrev pub invariant-asks : goal.invariant-asks
invariant-asks l = record {
  rest : without_owners (owners_of l.serial (drop l.at l.waits.asks)) (attached l.triggers) ≡ without_owners (owners_of l.serial l.waits.asks) (attached l.initial.triggers);
  stands : (j : Journal) → StandsFor l.initial.triggers j → StandsFor l.triggers j;
  owned : (j : Journal) → ((i o : ℕ) → slice_get (owners_of l.serial l.waits.asks) i ≡ Some o → (first_wait ≤ o) × AreOthers (o ∷ []) (without_run l.serial l.waits.asks))
      → Owned j l.initial.triggers (record { asks = without_run l.serial l.waits.asks; fresh = l.waits.fresh })
      → ((i o : ℕ) → slice_get (owners_of l.serial (drop l.at l.waits.asks)) i ≡ Some o → (first_wait ≤ o) × AreOthers (o ∷ []) (without_run l.serial l.waits.asks))
      × Owned j l.triggers (record { asks = without_run l.serial l.waits.asks; fresh = l.waits.fresh });
}

abbrev pub decreases-asks : goal.decreases-asks
decreases-asks l = length l.waits.asks - l.at
