-- What the spots of an owner fire with is what its triggers fire with.
use Rattle.std.proofs.Common.{◌≡◌, ℕ, suc, ◌+◌, List, [], ◌∷◌, ◌++◌, length, map, Bool, true, false, refl, sym, ap, subst, ◌∙◌, arith, append_assoc, append-nil}
use Rattle.std.specs.Prelude.{Option, Some, None, MatchOption, filter_map, flat_map, nat_lt, slice_get, option_map, codes, ◌&&◌, if◌then◌else◌}
use Rattle.std.specs.List.{cons_option, enumerate_from}
use Rattle.std.specs.Option.{option_map_or}
use Rattle.std.proofs.lemmas.List.Concat.{flat_map-append}
use Rattle.ha_value.specs.declared.value.EntityId.{EntityId}
use Rattle.ha_value.specs.declared.value.Value.{Value}
use Rattle.ha_config.specs.declared.config.Trigger.{Trigger}
use Rattle.ha_journal.specs.declared.entry.Entry.{Entry}
use Rattle.ha_journal.specs.declared.firing.Firing.{Firing}
use Rattle.ha_journal.specs.Journal.{Journal, more}
use Rattle.ha_journal.specs.Helpers.{events_at, helper_events}
use Rattle.ha_sight.specs.Rules.{entities_of, is_event}
use Rattle.ha_journal.specs.Holds.{fired_from}
use Rattle.ha_journal.specs.Variables.{variables}
use Rattle.trig_set.specs.declared.spot.Spot.{Spot}
use Rattle.ha_past.specs.Firings.{Owner, firing_for, firings_by, firings_of}
use Rattle.ha_past.proofs.EventLaws.{fires-for-each}
use Rattle.ha_past.proofs.FiringLemmas.{firings-by}
use Rattle.trig_set.specs.Kept.{All, AreWell, Fired, FiredAt, firing_in, holds_well, place_of, places_of}
use Rattle.trig_set.specs.Timed.{firings_in, timed_by, timed_of}
use Rattle.trig_set.proofs.KeptLemmas.{fired-is}
use Rattle.trig_set.proofs.TimedLemmas.{event-entities, event-holds, timed-fires}

flat-same : {X Y : Type 0} (f g : X → List Y) (xs : List X) → ((n : ℕ) → MatchOption (slice_get xs n) (Unit {0}) (λ x. f x ≡ g x)) → flat_map f xs ≡ flat_map g xs
flat-same f g [] h = refl
flat-same f g (x ∷ xs) h = (λ i. h 0 i ++ flat-same f g xs (λ n. h (suc n)) i)

flat-mapped : {X Y Z : Type 0} (f : Y → List Z) (h : X → Y) (xs : List X) → flat_map (λ x. f (h x)) xs ≡ flat_map f (map h xs)
flat-mapped f h [] = refl
flat-mapped f h (x ∷ xs) = (λ i. f (h x) ++ flat-mapped f h xs i)

pub consed : {X : Type 0} (o : Option X) (xs : List X) → cons_option o [] ++ xs ≡ cons_option o xs
consed None xs = refl
consed (Some x) xs = refl

module _ (j : Journal) (x : Entry) (o : Owner) (well : AreWell o.triggers) where
  abbrev firing_of : ℕ × Trigger → Option EntityId → Option Firing
  firing_of t e = firing_for (more j x) (length j) o t e

  abbrev timed_at : ℕ → Trigger → List Firing
  timed_at n t = timed_of o (length j) (helper_events j x) n t

  -- the firings at the place of a spot
  abbrev firings_there : ℕ × Option EntityId → List Firing
  firings_there q = option_map_or (λ t. cons_option (firing_of (q.0, t) q.1) (timed_at q.0 t)) (slice_get o.triggers q.0) []

  module _ (k : ℕ) (t : Trigger) (at : slice_get o.triggers k ≡ Some t) where
    well-one : holds_well t
    well-one = subst (λ u. MatchOption u (Unit {0}) holds_well) at (well k)

    -- of a trigger that is not one of events, and of one that is
    of-entities : is_event t.rule ≡ false → (es : List (Option EntityId)) → flat_map firings_there (map (λ e. (k, e)) es) ≡ filter_map (firing_of (k, t)) es
    of-entities eventless [] = refl
    of-entities eventless (e ∷ es) =
        (λ i. option_map_or (λ u. cons_option (firing_of (k, u) e) (timed_at k u)) (at i) [] ++ of-entities eventless es i)
        ∙ (λ i. cons_option (firing_of (k, t) e) (if eventless i && nat_lt o.since (length j) then timed_by o.owner k t (helper_events j x) else []) ++ filter_map (firing_of (k, t)) es)
        ∙ consed (firing_of (k, t) e) (filter_map (firing_of (k, t)) es)

    of-events : is_event t.rule ≡ true → flat_map firings_there (map (λ e. (k, e)) (entities_of t.rule)) ≡ firings_by (more j x) (length j) o (k, t)
    of-events event =
        (λ i. flat_map firings_there (map (λ e. (k, e)) (event-entities t.rule event i)))
        ∙ append-nil (firings_there (k, None))
        ∙ (λ i. option_map_or (λ u. cons_option (firing_of (k, u) None) (timed_at k u)) (at i) [])
        ∙ (λ i. cons_option (firing_of (k, t) None) (timed-fires j x o k t event (event-holds t well-one event) i))
        ∙ sym (fires-for-each j x o k t event (event-holds t well-one event))

    of-trigger : flat_map firings_there (map (λ e. (k, e)) (entities_of t.rule)) ≡ firings_by (more j x) (length j) o (k, t)
    of-trigger = by (is_event t.rule) refl
      where
        by : (b : Bool) → is_event t.rule ≡ b → flat_map firings_there (map (λ e. (k, e)) (entities_of t.rule)) ≡ firings_by (more j x) (length j) o (k, t)
        by true event = of-events event
        by false eventless =
            of-entities eventless (entities_of t.rule)
            ∙ (λ i. filter_map (firing_of (k, t)) (if sym eventless i then map (λ v. v.entity) (events_at (more j x) (length j)) else entities_of t.rule))

  get-behind : (front : List Trigger) (t : Trigger) (rest : List Trigger) → slice_get (front ++ (t ∷ rest)) (length front) ≡ Some t
  get-behind [] t rest = refl
  get-behind (y ∷ ys) t rest = get-behind ys t rest

  length-one : (front : List Trigger) (t : Trigger) → length (front ++ (t ∷ [])) ≡ length front + 1
  length-one [] t = refl
  length-one (y ∷ ys) t = omega (arith, length-one ys t)

  abbrev places_from : ℕ → List Trigger → List (ℕ × Option EntityId)
  places_from k rest = flat_map (λ t. map (λ e. (t.0, e)) (entities_of t.1.rule)) (enumerate_from k rest)

  of-triggers : (front rest : List Trigger) → o.triggers ≡ front ++ rest
      → flat_map firings_there (places_from (length front) rest) ≡ flat_map (firings_by (more j x) (length j) o) (enumerate_from (length front) rest)
  of-triggers front [] is = refl
  of-triggers front (t ∷ rest) is =
      flat_map-append firings_there (map (λ e. (length front, e)) (entities_of t.rule)) (places_from (length front + 1) rest)
      ∙ (λ i. of-trigger (length front) t (ap (λ l. slice_get l (length front)) is ∙ get-behind front t rest) i ++ flat_map firings_there (places_from (sym (length-one front t) i) rest))
      ∙ (λ i. firings_by (more j x) (length j) o (length front, t) ++ of-triggers (front ++ (t ∷ [])) rest (is ∙ sym (append_assoc front (t ∷ []) rest)) i)
      ∙ (λ i. firings_by (more j x) (length j) o (length front, t) ++ flat_map (firings_by (more j x) (length j) o) (enumerate_from (length-one front t i) rest))

  -- LAW: the firings at the places of an owner's triggers, in order, are the owner's
  places-fire : flat_map firings_there (places_of (more j x) o.triggers) ≡ firings_of (more j x) (length j) o
  places-fire = of-triggers [] o.triggers refl ∙ sym (firings-by (more j x) (length j) o)

  -- a spot after its holds fired gives the firings at its place
  spot-fires : (s : Spot) → FiredAt j x o.triggers o.since s → firings_in o (length j) (helper_events j x) s ≡ firings_there (place_of s)
  spot-fires s = by (slice_get o.triggers s.trigger) (well s.trigger)
    where
      mk : Value → Firing
      mk v = record { owner = o.owner; trigger = s.trigger; entity = s.entity; env = (codes "trigger", v) ∷ [] }

      by : (u : Option Trigger) → MatchOption u (Unit {0}) holds_well → MatchOption u ((s.hold ≡ None) × (s.fired ≡ None)) (λ t. Fired j x t o.since s)
          → cons_option (firing_in o.owner s) (option_map_or (λ t. timed_at s.trigger t) u []) ≡ option_map_or (λ t. cons_option (firing_of (s.trigger, t) s.entity) (timed_at s.trigger t)) u []
      by None w f = (λ i. cons_option (option_map mk (f.1 i)) [])
      by (Some t) w f =
          (λ i. cons_option ((ap (option_map mk) (fired-is j x t o.since s w f) ∙ mapped (fired_from (more j x) t s.entity o.since (length j))) i) (timed_at s.trigger t))
        where
          mapped : (i : Option ℕ) → option_map mk (option_map (variables (more j x) t s.entity) i) ≡ option_map (λ k. mk (variables (more j x) t s.entity k)) i
          mapped None = refl
          mapped (Some k) = refl

  -- LAW: what the spots fire with, in order, is what the owner's triggers fire with
  pub spots-fire : (spots : List Spot) → All spots (FiredAt j x o.triggers o.since) → map place_of spots ≡ places_of (more j x) o.triggers
      → flat_map (firings_in o (length j) (helper_events j x)) spots ≡ firings_of (more j x) (length j) o
  spots-fire spots fired places =
      flat-same (firings_in o (length j) (helper_events j x)) (λ s. firings_there (place_of s)) spots each
      ∙ flat-mapped firings_there place_of spots
      ∙ ap (flat_map firings_there) places
      ∙ places-fire
    where
      each : (n : ℕ) → MatchOption (slice_get spots n) (Unit {0}) (λ s. firings_in o (length j) (helper_events j x) s ≡ firings_there (place_of s))
      each n = by (slice_get spots n) (fired n)
        where
          by : (s : Option Spot) → MatchOption s (Unit {0}) (FiredAt j x o.triggers o.since) → MatchOption s (Unit {0}) (λ s. firings_in o (length j) (helper_events j x) s ≡ firings_there (place_of s))
          by None f = tt
          by (Some s) f = spot-fires s f

-- LAW: without events of helpers the spots fire with what they have alone
pub own-alone : (o : Owner) (place : ℕ) (spots : List Spot) → filter_map (firing_in o.owner) spots ≡ flat_map (firings_in o place []) spots
own-alone o place [] = refl
own-alone o place (s ∷ ss) =
    (λ i. cons_option (firing_in o.owner s) (own-alone o place ss i))
    ∙ sym (consed (firing_in o.owner s) (flat_map (firings_in o place []) ss))
    ∙ (λ i. cons_option (firing_in o.owner s) (none (slice_get o.triggers s.trigger) i) ++ flat_map (firings_in o place []) ss)
  where
    nothing : (b : Bool) → ◌≡◌ {A = List Firing} [] (if b then [] else [])
    nothing true = refl
    nothing false = refl

    none : (u : Option Trigger) → [] ≡ option_map_or (timed_of o place [] s.trigger) u []
    none None = refl
    none (Some t) = nothing (is_event t.rule && nat_lt o.since place)
