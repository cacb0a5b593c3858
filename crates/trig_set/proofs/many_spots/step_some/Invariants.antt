use Rattle.std.proofs.Common.{◌≡◌, ℕ, false, length, map, true}
use Rattle.std.specs.Prelude.{slice_get}
use Rattle.event_bus.specs.Lists.{has}
use Rattle.ha_journal.specs.Journal.{Journal, more}
use Rattle.ha_journal.specs.Moves.{sight}
use Rattle.trig_set.specs.Kept.{All, At, AreTimed, AreWell, KeepsAt, MovedAt, place_of}
use Rattle.trig_set.specs.Scenes.{Shows}
use Rattle.trig_set.proofs.many_spots.step_some.Given as goal

abbrev pub decreases-places : goal.decreases-places
decreases-places g l = length l.left.keys

abbrev pub invariant-places : goal.invariant-places
invariant-places g l = record {
  moved : (j : Journal) → Shows l.scene j l.since → g.A.Answers.sight l.answers ≡ sight (more j l.scene.entry.now) (length (more j l.scene.entry.now))
      → AreWell l.triggers → All l.initial.spots (KeepsAt j l.triggers l.since)
      → ((n : ℕ) → has l.initial.left n ≡ false → At l.initial.spots n (MovedAt j l.scene.entry.now l.triggers l.since))
      → (n : ℕ) → has l.left n ≡ false → At l.spots n (MovedAt j l.scene.entry.now l.triggers l.since);
  same : (n : ℕ) → has l.left n ≡ true → slice_get l.spots n ≡ slice_get l.initial.spots n;
  places : map place_of l.spots ≡ map place_of l.initial.spots;
  timed : AreTimed l.initial.timers l.initial.spots → AreTimed l.timers l.spots;
  aside : (n : ℕ) → has l.gone n ≡ false → has l.left n ≡ false → has l.initial.left n ≡ false;
  elsewhere : (n : ℕ) → has l.gone n ≡ false → (has l.initial.gone n ≡ false) × (slice_get l.spots n ≡ slice_get l.initial.spots n);
}
