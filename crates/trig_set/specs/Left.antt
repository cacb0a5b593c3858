-- Whom an entity doesn't concern.
use Rattle.std.specs.Prelude.{◌≡◌, ℕ, false}
use Rattle.ha_value.specs.declared.value.EntityId.{EntityId}
use Rattle.event_bus.specs.Lists.{has}
use Rattle.event_bus.specs.Subjects.{Subject, knows}
use Rattle.trig_set.specs.declared.set.TrigSet.{TrigSet}

-- nobody was attached since an entry was noted
abbrev pub NobodyRecent : TrigSet → Type 0
NobodyRecent s = (n : ℕ) → has s.recent.owners n ≡ false

-- the set has nobody for the entity, nobody whom each entry concerns, and nobody who is recent
pub record Leaves (s : TrigSet) (e : EntityId) : Type 0 where
  pub entries : (n : ℕ) → knows s.index Subject.Entries n ≡ false
  pub entity : (n : ℕ) → knows s.index (Subject.Entity e) n ≡ false
  pub recent : NobodyRecent s
