-- What is kept for a trigger and an entity, and which journals it stands for.
use Rattle.std.specs.Prelude.{◌≡◌, ℕ, ◌+◌, Bool, true, false, nat_lt, List, [], ◌∷◌, Option, Some, None, MatchOption, length, map}
use Rattle.std.specs.Prelude.{flat_map, slice_get, slice_set, nat_le, codes, is_some, option_map, option_and_then, if◌then◌else◌}
use Rattle.std.specs.List.{enumerate_from}
use Rattle.std.specs.Option.{option_map_or}
use Rattle.ha_journal.specs.declared.firing.Firing.{Firing}
use Rattle.ha_value.specs.declared.value.EntityId.{EntityId}
use Rattle.ha_value.specs.declared.value.Value.{Value}
use Rattle.timer_queue.specs.Timers.{Timer, due_of, distinct_keys}
use Rattle.ha_config.specs.declared.config.Trigger.{Trigger}
use Rattle.ha_config.specs.declared.config.TriggerRule.{TriggerRule}
use Rattle.ha_journal.specs.declared.entry.Entry.{Entry}
use Rattle.ha_journal.specs.Entries.{is_moment}
use Rattle.ha_journal.specs.Journal.{Journal, now, more}
use Rattle.ha_sight.specs.Sight.{Sight}
use Rattle.ha_sight.specs.Templates.{rendered, says}
use Rattle.ha_journal.specs.Moves.{sight}
use Rattle.ha_sight.specs.Rules.{entities_of, is_template}
use Rattle.ha_config.specs.Sound.{may_hold, is_sound_rule}
use Rattle.trig_set.specs.declared.spot.Held.{Held}
use Rattle.trig_set.specs.declared.spot.Spot.{Spot}
use Rattle.ha_past.specs.Looks.{Holding, standing, arrived, at_once, ripe_value, unripe, or_else}

-- the template of a rule is true; other rules have none
abbrev pub is_true : Sight → TriggerRule → Bool
is_true seen (TriggerRule.Template t) = says (rendered seen t [])
is_true seen _ = false

abbrev pub holding : Held → Holding
holding h = record { due = h.due; value = h.value }

-- what a spot keeps, for its trigger, after a journal
pub record Keeps (j : Journal) (t : Trigger) (since : ℕ) (s : Spot) : Type 0 where
  pub hold : option_map holding s.hold ≡ standing j t s.entity since
  pub was : nat_lt since (length j) ≡ true → s.was ≡ is_true (sight j (length j)) t.rule
  pub bare : is_template t.rule ≡ false → s.was ≡ false
  pub fired : s.fired ≡ None

-- what it keeps once the entry has moved it, before the holds that are over fire
pub record Moved (j : Journal) (x : Entry) (t : Trigger) (since : ℕ) (s : Spot) : Type 0 where
  pub hold : option_map holding s.hold ≡ arrived j x t s.entity since
  pub was : s.was ≡ is_true (sight (more j x) (length (more j x))) t.rule
  pub fired : s.fired ≡ at_once j x t s.entity since

-- and once those that are over have fired
pub record Fired (j : Journal) (x : Entry) (t : Trigger) (since : ℕ) (s : Spot) : Type 0 where
  pub hold : option_map holding s.hold ≡ unripe x (now (more j x)) (arrived j x t s.entity since)
  pub was : s.was ≡ is_true (sight (more j x) (length (more j x))) t.rule
  pub fired : s.fired ≡ or_else (at_once j x t s.entity since) (ripe_value x (now (more j x)) (arrived j x t s.entity since))

-- what becomes of a spot: a trigger with a `for` keeps its hold where what it watches stayed, else begins one where it moved; one without
-- fires where it moved
abbrev pub Settles : Option ℕ → ℕ → Bool → Option Value → Spot → Spot → Type 0
Settles None to stayed given old new = new ≡ record old { fired = given }
Settles (Some d) to stayed given old new =
    (option_map holding new.hold
    ≡ or_else (if stayed then option_map holding old.hold else None)
    (option_map {U = Holding} (λ v. record { due = to + d; value = v }) given))
    × (new ≡ record old { hold = new.hold })

-- the trigger of a spot is sound
abbrev pub holds_well : Trigger → Type 0
holds_well t = (is_some t.hold ≡ true → may_hold t.rule ≡ true) × (is_sound_rule t.rule ≡ true)

-- the due of a spot's hold, if it has one
abbrev pub due_in : Spot → Option ℕ
due_in s = option_map (λ h. h.due) s.hold

-- the timers are those of the holds of the spots, each under the place of its spot
pub record AreTimed (timers : List Timer) (spots : List Spot) : Type 0 where
  pub distinct : distinct_keys timers ≡ true
  pub dues : (n : ℕ) → due_of n timers ≡ option_and_then due_in (slice_get spots n)

-- what holds of the spot at a place, if there is one
abbrev pub At : List Spot → ℕ → (Spot → Type 0) → Type 0
At spots n P = MatchOption (slice_get spots n) (Unit {0}) P

-- what holds of a spot with its trigger; nothing is pending where there is none of that index
abbrev pub With : List Trigger → Spot → (Trigger → Type 0) → Type 0
With triggers s P = MatchOption (slice_get triggers s.trigger) ((s.hold ≡ None) × (s.fired ≡ None)) P

-- all spots keep what they keep after a journal; after an entry has moved them; after what is over has fired
abbrev pub KeepsAt : Journal → List Trigger → ℕ → Spot → Type 0
KeepsAt j triggers since s = With triggers s (λ t. Keeps j t since s)

abbrev pub MovedAt : Journal → Entry → List Trigger → ℕ → Spot → Type 0
MovedAt j x triggers since s = With triggers s (λ t. Moved j x t since s)

abbrev pub FiredAt : Journal → Entry → List Trigger → ℕ → Spot → Type 0
FiredAt j x triggers since s = With triggers s (λ t. Fired j x t since s)

abbrev pub All : List Spot → (Spot → Type 0) → Type 0
All spots P = (n : ℕ) → At spots n P

-- the triggers are sound
abbrev pub AreWell : List Trigger → Type 0
AreWell triggers = (n : ℕ) → MatchOption (slice_get triggers n) (Unit {0}) holds_well

-- where the spots of triggers stand: each trigger's index with each of its entities
abbrev pub places_of : Journal → List Trigger → List (ℕ × Option EntityId)
places_of j triggers = flat_map (λ t. map (λ e. (t.0, e)) (entities_of t.1.rule)) (enumerate_from 0 triggers)

abbrev pub place_of : Spot → ℕ × Option EntityId
place_of s = (s.trigger, s.entity)

-- the hold of a spot fires
abbrev pub taken_by : Spot → Option Held → Spot
taken_by s None = s
taken_by s (Some h) = record s { hold = None; fired = Some h.value }

abbrev pub taken : Spot → Spot
taken s = taken_by s s.hold

abbrev pub taken_at : ℕ → List Spot → List Spot
taken_at n spots = option_map_or (λ s. slice_set spots n (taken s)) (slice_get spots n) spots

-- it fires where its due is not after a moment
abbrev pub ripened_by : ℕ → Spot → Option Held → Spot
ripened_by to s None = s
ripened_by to s (Some h) = if nat_le h.due to then record s { hold = None; fired = Some h.value } else s

abbrev pub ripened : ℕ → Spot → Spot
ripened to s = ripened_by to s s.hold

-- what a spot fires with, and the spot once that was taken out
abbrev pub firing_in : ℕ → Spot → Option Firing
firing_in owner s =
    option_map (λ v. record { owner = owner; trigger = s.trigger; entity = s.entity; env = (codes "trigger", v) ∷ [] }) s.fired

abbrev pub cleared : Spot → Spot
cleared s = record s { fired = None }

abbrev pub cleared_at : ℕ → List Spot → List Spot
cleared_at n spots = option_map_or (λ s. slice_set spots n (cleared s)) (slice_get spots n) spots

-- what the spots of an owner are, with their timers, after a journal
pub record SpotsStand (j : Journal) (triggers : List Trigger) (since : ℕ) (spots : List Spot) (timers : List Timer) : Type 0 where
  pub kept : All spots (KeepsAt j triggers since)
  pub places : map place_of spots ≡ places_of j triggers
  pub timed : AreTimed timers spots

-- at a moment the holds that are over fire
abbrev pub ripened_if : Entry → ℕ → List Spot → List Spot
ripened_if x to spots = if is_moment x then map (ripened to) spots else spots
