use Rattle.std.proofs.Common.{◌≡◌, drop}
use Rattle.ha_journal.specs.Journal.{Journal}
use Rattle.trig_set.specs.Stands.{StandsFor, attached}
use Rattle.wait_set.specs.Asked.{WaitTable}
use Rattle.engine_parts.specs.Pending.{AreOthers, AreWaits}
use Rattle.engine_parts.specs.Without.{without_owners}
use Rattle.engine_parts.specs.Kept.{Owned}
use Rattle.engine_parts.proofs.wake.detach_all.Given as goal

abbrev pub invariant-owners : goal.invariant-owners
invariant-owners l = record {
  rest : without_owners (drop l.owner-index l.owners) (attached l.triggers) ≡ without_owners l.owners (attached l.initial.triggers);
  stands : (j : Journal) → StandsFor l.initial.triggers j → StandsFor l.triggers j;
  owned : (j : Journal) (w : WaitTable) → AreWaits l.owners → AreOthers l.owners w.asks → Owned j l.initial.triggers w
      → AreWaits (drop l.owner-index l.owners) × AreOthers (drop l.owner-index l.owners) w.asks × Owned j l.triggers w;
}
