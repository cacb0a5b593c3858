use Rattle.std.proofs.Common.{◌≡◌, ◌<◌, ◌≤◌, ◌++◌, ℕ, List, [], ◌∷◌, map}
use Rattle.std.specs.Prelude.{flat_map, slice_get}
use Rattle.timer_queue.specs.Timers.{Timer}
use Rattle.ha_config.specs.Words.{up_to}
use Rattle.ha_journal.specs.declared.entry.Entry.{Entry}
use Rattle.ha_journal.specs.Entries.{IsBoot}
use Rattle.ha_journal.specs.Moves.{sight}
use Rattle.trig_set.specs.Order.{owner_of}
use Rattle.trig_set.specs.Queued.{HasDue}
use Rattle.trig_set.specs.Stands.{AllOwners, AtOwner, OwnerStands, firings_at}
use Rattle.trig_set.proofs.opening.open_each.Given as goal

abbrev pub invariant-loop-place : goal.invariant-loop-place
invariant-loop-place g l = record {
  stands : (x : Entry) → IsBoot x → g.A.Answers.sight l.answers ≡ sight (x ∷ []) 1 → AllOwners l.initial.owners (OwnerStands []) → (n : ℕ) → n < l.place → AtOwner l.owners n (OwnerStands (x ∷ []));
  left : (n : ℕ) → l.place ≤ n → slice_get l.owners n ≡ slice_get l.initial.owners n;
  queued : (queue : List Timer) → AllOwners l.initial.owners (HasDue queue) → (n : ℕ) → n < l.place → AtOwner l.owners n (HasDue queue);
  owners : map owner_of l.owners ≡ map owner_of l.initial.owners;
  fired : (x : Entry) → IsBoot x → g.A.Answers.sight l.answers ≡ sight (x ∷ []) 1 → AllOwners l.initial.owners (OwnerStands []) → l.fired ≡ l.initial.fired ++ flat_map (firings_at [] x l.initial.owners) (up_to l.place);
}
