use Rattle.std.proofs.Common.{◌≡◌, ◌<◌, ◌≤◌, ℕ, List, [], ◌∷◌, map}
use Rattle.std.specs.Prelude.{slice_get}
use Rattle.timer_queue.specs.Timers.{Timer}
use Rattle.ha_journal.specs.declared.entry.Entry.{Entry}
use Rattle.ha_journal.specs.Entries.{IsBoot}
use Rattle.ha_journal.specs.Moves.{sight}
use Rattle.trig_set.specs.Kept.{All, At, AreTimed, KeepsAt, MovedAt, place_of}
use Rattle.trig_set.proofs.opening.open_spots.Given as goal

abbrev pub invariant-loop-place : goal.invariant-loop-place
invariant-loop-place g l = record {
  moved : (x : Entry) (since : ℕ) → IsBoot x → g.A.Answers.sight l.answers ≡ sight (x ∷ []) 1 → All l.initial.spots (KeepsAt [] l.triggers since) → (n : ℕ) → n < l.place → At l.spots n (MovedAt [] x l.triggers since);
  left : (n : ℕ) → l.place ≤ n → slice_get l.spots n ≡ slice_get l.initial.spots n;
  places : map place_of l.spots ≡ map place_of l.initial.spots;
  timed : (timers : List Timer) → AreTimed timers l.initial.spots → AreTimed timers l.spots;
}
