use Rattle.std.proofs.Common.{◌≡◌, ◌≤◌, ◌++◌, ℕ, [], false, length, map, true}
use Rattle.std.specs.Prelude.{slice_get, flat_map}
use Rattle.event_bus.specs.Lists.{has}
use Rattle.ha_config.specs.Words.{up_to}
use Rattle.ha_journal.specs.Journal.{Journal, more}
use Rattle.ha_journal.specs.Moves.{sight}
use Rattle.trig_set.specs.Stands.{AllOwners, AtOwner, OwnerStands, firings_at}
use Rattle.trig_set.specs.Order.{ascend, owner_of}
use Rattle.trig_set.specs.Queued.{HasDue}
use Rattle.trig_set.specs.Scenes.{Shows}
use Rattle.trig_set.proofs.noted.note_some.Given as goal

abbrev pub decreases-places : goal.decreases-places
decreases-places g l = length l.left.keys

abbrev pub invariant-places : goal.invariant-places
invariant-places g l = record {
  stands : (j : Journal) → AllOwners l.initial.owners (λ a. Shows l.scene j a.since) → g.A.Answers.sight l.answers ≡ sight (more j l.scene.entry.now) (length (more j l.scene.entry.now))
      → AllOwners l.initial.owners (OwnerStands j) → ((n : ℕ) → has l.initial.left n ≡ false → AtOwner l.initial.owners n (OwnerStands (more j l.scene.entry.now)))
      → (n : ℕ) → has l.left n ≡ false → AtOwner l.owners n (OwnerStands (more j l.scene.entry.now));
  same : (n : ℕ) → has l.left n ≡ true → slice_get l.owners n ≡ slice_get l.initial.owners n;
  queued : ascend (map owner_of l.initial.owners) ≡ true → ((n : ℕ) → has l.initial.left n ≡ false → AtOwner l.initial.owners n (HasDue l.initial.queue))
      → (n : ℕ) → has l.left n ≡ false → AtOwner l.owners n (HasDue l.queue);
  owners : map owner_of l.owners ≡ map owner_of l.initial.owners;
  next : ℕ;
  ahead : (n : ℕ) → has l.left n ≡ true → next ≤ n;
  behind : (n : ℕ) → next ≤ n → has l.left n ≡ has l.initial.left n;
  fired : (j : Journal) → AllOwners l.initial.owners (λ a. Shows l.scene j a.since) → g.A.Answers.sight l.answers ≡ sight (more j l.scene.entry.now) (length (more j l.scene.entry.now))
      → AllOwners l.initial.owners (OwnerStands j) → ((n : ℕ) → has l.initial.left n ≡ false → firings_at j l.scene.entry.now l.initial.owners n ≡ [])
      → l.fired ≡ l.initial.fired ++ flat_map (firings_at j l.scene.entry.now l.initial.owners) (up_to next);
}
