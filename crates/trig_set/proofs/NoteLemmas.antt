-- What an entry makes of all spots of an owner.
use Rattle.std.proofs.Common.{◌≡◌, ℕ, zero, suc, ◌+◌, List, [], ◌∷◌, ◌++◌, length, map, Bool, true, false, refl, sym, ap, subst, ◌∙◌}
use Rattle.std.specs.Prelude.{Option, Some, None, MatchOption, flat_map, slice_get, option_and_then, nat_le, if◌then◌else◌}
use Rattle.timer_queue.specs.Timers.{Timer}
use Rattle.ha_config.specs.declared.config.Trigger.{Trigger}
use Rattle.ha_journal.specs.declared.entry.Entry.{Entry}
use Rattle.ha_journal.specs.declared.firing.Firing.{Firing}
use Rattle.ha_journal.specs.Entries.{is_moment}
use Rattle.ha_journal.specs.Helpers.{helper_events}
use Rattle.ha_journal.specs.Journal.{Journal, now, more}
use Rattle.trig_set.specs.declared.spot.Held.{Held}
use Rattle.trig_set.specs.declared.spot.Spot.{Spot}
use Rattle.ha_past.specs.Firings.{firings_of}
use Rattle.trig_set.specs.Kept.{All, AreTimed, AreWell, SpotsStand, Keeps, KeepsAt, Moved, MovedAt, Fired, FiredAt, cleared, due_in, holds_well, place_of, places_of, ripened, ripened_by, ripened_if}
use Rattle.trig_set.specs.Timed.{firings_in}
use Rattle.trig_set.proofs.KeptLemmas.{fired-keeps, moved-fires, moved-waits}
use Rattle.trig_set.proofs.OwnerLemmas.{spots-fire}

all-map : (P Q : Spot → Type 0) (f : Spot → Spot) (spots : List Spot) → ((s : Spot) → P s → Q (f s)) → All spots P → All (map f spots) Q
all-map P Q f [] step h n = h n
all-map P Q f (s ∷ ss) step h zero = step s (h zero)
all-map P Q f (s ∷ ss) step h (suc n) = all-map P Q f ss step (λ m. h (suc m)) n

all-then : (P Q : Spot → Type 0) (spots : List Spot) → ((s : Spot) → P s → Q s) → All spots P → All spots Q
all-then P Q [] step h n = h n
all-then P Q (s ∷ ss) step h zero = step s (h zero)
all-then P Q (s ∷ ss) step h (suc n) = all-then P Q ss step (λ m. h (suc m)) n

places-map : (f : Spot → Spot) → ((s : Spot) → place_of (f s) ≡ place_of s) → (spots : List Spot) → map place_of (map f spots) ≡ map place_of spots
places-map f same [] = refl
places-map f same (s ∷ ss) = (λ i. same s i ∷ places-map f same ss i)

dues-map : (f : Spot → Spot) → ((s : Spot) → due_in (f s) ≡ due_in s) → (spots : List Spot) (n : ℕ) → option_and_then due_in (slice_get (map f spots) n) ≡ option_and_then due_in (slice_get spots n)
dues-map f same [] n = refl
dues-map f same (s ∷ ss) zero = same s
dues-map f same (s ∷ ss) (suc n) = dues-map f same ss n

timed-cleared : (timers : List Timer) (spots : List Spot) → AreTimed timers spots → AreTimed timers (map cleared spots)
timed-cleared timers spots t = record { distinct = t.distinct; dues = λ n. t.dues n ∙ sym (dues-map cleared (λ s. refl) spots n) }

ripened-place : (to : ℕ) (s : Spot) → place_of (ripened to s) ≡ place_of s
ripened-place to s = by s.hold
  where
    chosen : (h : Held) (b : Bool) → place_of (if b then record s { hold = None; fired = Some h.value } else s) ≡ place_of s
    chosen h true = refl
    chosen h false = refl

    by : (o : Option Held) → place_of (ripened_by to s o) ≡ place_of s
    by None = refl
    by (Some h) = chosen h (nat_le h.due to)

module _ (j : Journal) (x : Entry) (triggers : List Trigger) (since : ℕ) (well : AreWell triggers) where
  -- what a spot is with its trigger
  with-then : (P Q : Trigger → Spot → Type 0) (f : Spot → Spot) (s : Spot) → ((t : Trigger) → holds_well t → P t s → Q t (f s)) → ((s.hold ≡ None) × (s.fired ≡ None) → ((f s).hold ≡ None) × ((f s).fired ≡ None))
      → MatchOption (slice_get triggers s.trigger) ((s.hold ≡ None) × (s.fired ≡ None)) (λ t. P t s)
      → MatchOption (slice_get triggers s.trigger) (((f s).hold ≡ None) × ((f s).fired ≡ None)) (λ t. Q t (f s))
  with-then P Q f s step idle = by (slice_get triggers s.trigger) (well s.trigger)
    where
      by : (o : Option Trigger) → MatchOption o (Unit {0}) holds_well → MatchOption o ((s.hold ≡ None) × (s.fired ≡ None)) (λ t. P t s) → MatchOption o (((f s).hold ≡ None) × ((f s).fired ≡ None)) (λ t. Q t (f s))
      by None w h = idle h
      by (Some t) w h = step t w h

  ripened-at : (to : ℕ) (s : Spot) → is_moment x ≡ true → to ≡ now (more j x) → MovedAt j x triggers since s → FiredAt j x triggers since (ripened to s)
  ripened-at to s moment is h =
      subst (λ k. MatchOption (slice_get triggers k) (((ripened to s).hold ≡ None) × ((ripened to s).fired ≡ None)) (λ t. Fired j x t since (ripened to s))) (sym (ap (λ q. q.0) (ripened-place to s)))
      (with-then (λ t s. Moved j x t since s) (λ t s. Fired j x t since s) (ripened to) s (λ t w m. moved-fires j x t since to s moment is m) (idle s) h)
    where
      idle : (s : Spot) → (s.hold ≡ None) × (s.fired ≡ None) → ((ripened to s).hold ≡ None) × ((ripened to s).fired ≡ None)
      idle s i = ((λ k. (ripened_by to s (i.0 k)).hold) ∙ i.0, (λ k. (ripened_by to s (i.0 k)).fired) ∙ i.1)

  cleared-at : (s : Spot) → FiredAt j x triggers since s → KeepsAt (more j x) triggers since (cleared s)
  cleared-at s h = with-then (λ t s. Fired j x t since s) (λ t s. Keeps (more j x) t since s) cleared s (λ t w f. fired-keeps j x t since s w f) (λ i. (i.0, refl)) h

  -- LAW: after the entry has moved the spots, what is over has fired
  pub all-fired : (to : ℕ) (spots : List Spot) → to ≡ now (more j x) → All spots (MovedAt j x triggers since) → All (ripened_if x to spots) (FiredAt j x triggers since)
  all-fired to spots is h = by (is_moment x) refl
    where
      by : (b : Bool) → is_moment x ≡ b → All (if b then map (ripened to) spots else spots) (FiredAt j x triggers since)
      by true moment = all-map (MovedAt j x triggers since) (FiredAt j x triggers since) (ripened to) spots (λ s m. ripened-at to s moment is m) h
      by false moment = all-then (MovedAt j x triggers since) (FiredAt j x triggers since) spots (λ s m. with-then (λ t s. Moved j x t since s) (λ t s. Fired j x t since s) (λ s. s) s (λ t w n. moved-waits j x t since s moment n) (λ i. i) m) h

  places-if : (to : ℕ) (spots : List Spot) → map place_of (ripened_if x to spots) ≡ map place_of spots
  places-if to spots = by (is_moment x)
    where
      by : (b : Bool) → map place_of (if b then map (ripened to) spots else spots) ≡ map place_of spots
      by true = places-map (ripened to) (ripened-place to) spots
      by false = refl

  -- LAW: the spots stand for the journal with the entry
  pub spots-stand : (to : ℕ) (mid new : List Spot) (timers : List Timer) → to ≡ now (more j x) → All mid (MovedAt j x triggers since) → map place_of mid ≡ places_of j triggers
      → AreTimed timers (ripened_if x to mid) → new ≡ map cleared (ripened_if x to mid) → SpotsStand (more j x) triggers since new timers
  spots-stand to mid new timers is moved places timed cleared-is =
      subst (λ l. SpotsStand (more j x) triggers since l timers) (sym cleared-is)
      (record {
        kept = all-map (FiredAt j x triggers since) (KeepsAt (more j x) triggers since) cleared (ripened_if x to mid) cleared-at (all-fired to mid is moved);
        places = places-map cleared (λ s. refl) (ripened_if x to mid) ∙ places-if to mid ∙ places;
        timed = timed-cleared timers (ripened_if x to mid) timed;
      })

  -- LAW: and what fires is what the owner's triggers fire with
  pub spots-give : (owner to : ℕ) (mid : List Spot) (before after : List Firing) → to ≡ now (more j x) → All mid (MovedAt j x triggers since) → map place_of mid ≡ places_of j triggers
      → after ≡ before ++ flat_map (firings_in (record { owner = owner; triggers = triggers; since = since }) (length j) (helper_events j x)) (ripened_if x to mid)
      → after ≡ before ++ firings_of (more j x) (length j) (record { owner = owner; triggers = triggers; since = since })
  spots-give owner to mid before after is moved places e =
      e ∙ (λ i. before ++ spots-fire j x (record { owner = owner; triggers = triggers; since = since }) well (ripened_if x to mid) (all-fired to mid is moved) (places-if to mid ∙ places) i)
