-- Which journals a set of triggers stands for.
use Rattle.std.specs.Prelude.{◌≡◌, ℕ, List, [], Option, MatchOption, length, map, slice_get}
use Rattle.std.specs.Option.{option_map_or}
use Rattle.ha_value.specs.declared.value.EntityId.{EntityId}
use Rattle.ha_journal.specs.declared.entry.Entry.{Entry}
use Rattle.ha_journal.specs.declared.firing.Firing.{Firing}
use Rattle.ha_config.specs.Words.{Text}
use Rattle.ha_journal.specs.Journal.{Journal, HasEntry, zone_of, now, more}
use Rattle.ha_journal.specs.Moves.{latest_number}
use Rattle.trig_set.specs.declared.owners.Attached.{Attached}
use Rattle.trig_set.specs.declared.set.TrigSet.{TrigSet}
use Rattle.ha_past.specs.Firings.{Owner, firings_of}
use Rattle.trig_set.specs.Kept.{AreWell, SpotsStand}
use Rattle.trig_set.specs.Known.{AreKnown}
use Rattle.trig_set.specs.Noted.{AreNoted}
use Rattle.trig_set.specs.Order.{owner_of}
use Rattle.trig_set.specs.Queued.{HasDue}
use Rattle.trig_set.specs.Reads.{AreRead}
use Rattle.trig_set.specs.Table.{number_at}

-- who has triggers attached
abbrev pub attached : TrigSet → List Owner
attached s = map owner_of s.owners

-- what is kept for an owner stands for a journal
pub record OwnerStands (j : Journal) (a : Attached) : Type 0 where
  pub well : AreWell a.triggers
  pub spots : SpotsStand j a.triggers a.since a.spots.items a.timers
  pub listed : MatchOption a.listed (Unit {0}) (λ ts. ts ≡ a.triggers)
  pub reads : AreRead a.triggers a.reads

-- what holds of the owner at a place, and of all
abbrev pub AtOwner : List Attached → ℕ → (Attached → Type 0) → Type 0
AtOwner owners n P = MatchOption (slice_get owners n) (Unit {0}) P

abbrev pub AllOwners : List Attached → (Attached → Type 0) → Type 0
AllOwners owners P = (n : ℕ) → AtOwner owners n P

-- what the owner at a place fires with
abbrev pub firings_at : Journal → Entry → List Attached → ℕ → List Firing
firings_at j x owners n = option_map_or (λ a. firings_of (more j x) (length j) (owner_of a)) (slice_get owners n) []

-- the set stands for a journal: for each owner its pending holds with their timers and the truth of its templates; the index of whom an
-- entry concerns, and who is recent; the queue of the owners by their earliest hold; the latest numbers, Now and the zone
pub record StandsFor (s : TrigSet) (j : Journal) : Type 0 where
  pub owners : AllOwners s.owners (OwnerStands j)
  pub known : AreKnown s.index (attached s)
  pub noted : AreNoted s.recent (length j) (attached s)
  pub queued : AllOwners s.owners (HasDue s.queue)
  pub at : s.now ≡ now j
  pub zone : HasEntry j → MatchOption s.zone ⊥ (λ z. z ≡ zone_of j)
  pub numbers : (e : EntityId) (name : Option Text) → number_at s.numbers e name ≡ latest_number e name j
