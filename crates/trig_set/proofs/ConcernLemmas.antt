-- An entry doesn't concern whom the index leaves aside.
use Rattle.std.proofs.Common.{◌≡◌, ℕ, zero, suc, ◌<◌, List, [], ◌∷◌, length, map, Bool, true, false, refl, sym, ap, subst, ◌∙◌}
use Rattle.std.specs.Prelude.{Option, Some, None, MatchOption, nat_lt, option_map, slice_get, if◌then◌else◌}
use Rattle.std.specs.Option.{option_map_or}
use Rattle.ha_value.specs.declared.value.EntityId.{EntityId}
use Rattle.ha_config.specs.declared.config.Trigger.{Trigger}
use Rattle.ha_journal.specs.declared.entry.Entry.{Entry}
use Rattle.ha_journal.specs.Entries.{event_in, is_moment, opens_segment}
use Rattle.ha_journal.specs.declared.event.BusEvent.{BusEvent}
use Rattle.ha_journal.specs.Helpers.{helper_events}
use Rattle.ha_journal.specs.Journal.{Journal, IsJournal, now, more}
use Rattle.ha_journal.specs.States.{states}
use Rattle.timer_queue.specs.Timers.{Timer, due_of}
use Rattle.timer_queue.proofs.TimerLemmas.{later_than}
use Rattle.ha_config.specs.Words.{Text, same_entity}
use Rattle.ha_config.proofs.EqualLemmas.{entity-sound}
use Rattle.ha_past.specs.Firings.{firings_of}
use Rattle.event_bus.specs.declared.index.Index.{Index}
use Rattle.event_bus.specs.Lists.{has}
use Rattle.event_bus.specs.Subjects.{Subject, concerns, knows}
use Rattle.trig_set.specs.declared.owners.Attached.{Attached}
use Rattle.trig_set.specs.declared.recent.Recent.{Recent}
use Rattle.trig_set.specs.declared.scene.Scene.{Scene}
use Rattle.trig_set.specs.declared.scene.Shift.{Shift}
use Rattle.trig_set.specs.declared.spot.Spot.{Spot}
use Rattle.trig_set.specs.Concerned.{IsAside}
use Rattle.trig_set.specs.Kept.{All, place_of}
use Rattle.trig_set.specs.Known.{AreKnown}
use Rattle.trig_set.specs.Listed.{HasAt, HasFor}
use Rattle.trig_set.specs.Next.{reports}
use Rattle.trig_set.specs.Noted.{AreNoted}
use Rattle.trig_set.specs.Order.{ascend, owner_of}
use Rattle.trig_set.specs.Queued.{HasDue}
use Rattle.trig_set.specs.Scenes.{Shows, face, shift_of}
use Rattle.trig_set.specs.Stands.{AllOwners, AtOwner, OwnerStands, firings_at}
use Rattle.trig_set.proofs.ListedLemmas.{IsListed, known-listed}
use Rattle.trig_set.proofs.CalmLemmas.{CalmAt, IsCalm, calm-quiet, calm-stand, never}
use Rattle.trig_set.proofs.MovedLemmas.{has-past}
use Rattle.trig_set.proofs.NotedLemmas.{noted-at}

pub get-map : {X Y : Type 0} (f : X → Y) (xs : List X) (n : ℕ) → slice_get (map f xs) n ≡ option_map f (slice_get xs n)
get-map f [] n = refl
get-map f (x ∷ xs) zero = refl
get-map f (x ∷ xs) (suc n) = get-map f xs n

not-true : (b k : Bool) → (b ≡ true → k ≡ true) → k ≡ false → b ≡ false
not-true true k f h = absurd (never k (f refl) h)
not-true false k f h = refl

-- no entity that the entry changes is one for which the index has the number
unshifted : (index : Index) (n : ℕ) (e : EntityId) (shifts : List Shift) → ((k : ℕ) → MatchOption (slice_get shifts k) (Unit {0}) (λ c. knows index (Subject.Entity c.entity) n ≡ false))
    → knows index (Subject.Entity e) n ≡ true → shift_of shifts e ≡ None
unshifted index n e [] aside h = refl
unshifted index n e (c ∷ cs) aside h = by (same_entity c.entity e) refl (unshifted index n e cs (λ k. aside (suc k)) h)
  where
    by : (b : Bool) → same_entity c.entity e ≡ b → shift_of cs e ≡ None → (if b then Some c else shift_of cs e) ≡ None
    by true s rest = absurd (never (knows index (Subject.Entity e) n) h (sym (λ i. knows index (Subject.Entity (entity-sound c.entity e s i)) n) ∙ aside 0))
    by false s rest = rest

-- an entry doesn't concern a number that the index may have: no segment opens with it, and the index doesn't have the number for it; of the
-- entities for which the index has the number it changes and reports none, since what has the number was attached; and an entry behind that place
-- was noted before
pub record IsApart (index : Index) (queue : List Timer) (j : Journal) (x : Entry) (owner since : ℕ) : Type 0 where
  pub within : opens_segment x ≡ false
  pub journal : IsJournal (more j x)
  pub entries : knows index Subject.Entries owner ≡ false
  pub late : nat_lt since (length j) ≡ true
  pub events : MatchOption (option_map (λ v. v.0) (event_in x)) (Unit {0}) (λ q. knows index (Subject.Event q) owner ≡ false)
  pub timed : (k : ℕ) → MatchOption (slice_get (helper_events j x) k) (Unit {0}) (λ v. knows index (Subject.Event v.kind) owner ≡ false)
  pub entities : (f : EntityId) → knows index (Subject.Entity f) owner ≡ true → nat_lt since (length j) ≡ true → (states (more j x) f ≡ states j f) × (reports f x ≡ false)
  pub times : is_moment x ≡ true → knows index Subject.Moments owner ≡ false
  pub later : is_moment x ≡ true → MatchOption (due_of owner queue) (Unit {0}) (λ d. now (more j x) < d)

has-calm : (j : Journal) (x : Entry) (index : Index) (queue : List Timer) (owner since : ℕ) (t : Trigger) (e : Option EntityId) → IsApart index queue j x owner since → HasFor index owner t e → IsCalm j x since t.rule e
has-calm j x index queue owner since t e apart named = record {
  apart = λ f given lt. apart.entities f (named (Subject.Entity f) given) lt;
  unnamed = by (option_map (λ v. v.0) (event_in x)) apart.events;
  others = λ k. of (slice_get (helper_events j x) k) (apart.timed k);
  plain = not-true (concerns t.rule e Subject.Entries) (knows index Subject.Entries owner) (named Subject.Entries) apart.entries;
  late = apart.late;
  untimed = λ moment. not-true (concerns t.rule e Subject.Moments) (knows index Subject.Moments owner) (named Subject.Moments) (apart.times moment);
}
  where
    by : (o : Option Text) → MatchOption o (Unit {0}) (λ q. knows index (Subject.Event q) owner ≡ false) → MatchOption o (Unit {0}) (λ q. concerns t.rule e (Subject.Event q) ≡ false)
    by None k = tt
    by (Some q) k = not-true (concerns t.rule e (Subject.Event q)) (knows index (Subject.Event q) owner) (named (Subject.Event q)) k

    of : (o : Option BusEvent) → MatchOption o (Unit {0}) (λ v. knows index (Subject.Event v.kind) owner ≡ false) → MatchOption o (Unit {0}) (λ v. concerns t.rule e (Subject.Event v.kind) ≡ false)
    of None k = tt
    of (Some v) k = not-true (concerns t.rule e (Subject.Event v.kind)) (knows index (Subject.Event v.kind) owner) (named (Subject.Event v.kind)) k

module _ (index : Index) (queue : List Timer) (j : Journal) (x : Entry) where
  pub spot-calm : (owner since : ℕ) (triggers : List Trigger) (s : Spot) → IsApart index queue j x owner since → HasAt index owner triggers (s.trigger, s.entity) → CalmAt j x triggers since s
  spot-calm owner since triggers s apart = by (slice_get triggers s.trigger)
    where
      by : (o : Option Trigger) → MatchOption o (Unit {0}) (λ t. HasFor index owner t s.entity) → MatchOption o (Unit {0}) (λ t. IsCalm j x since t.rule s.entity)
      by None h = tt
      by (Some t) h = has-calm j x index queue owner since t s.entity apart h

  all-calm : (a : Attached) → OwnerStands j a → IsListed index (owner_of a) → IsApart index queue j x a.owner a.since → All a.spots.items (CalmAt j x a.triggers a.since)
  all-calm a stand listed apart m = by (slice_get a.spots.items m) refl
    where
      by : (o : Option Spot) → slice_get a.spots.items m ≡ o → MatchOption o (Unit {0}) (CalmAt j x a.triggers a.since)
      by None at = tt
      by (Some s) at =
          spot-calm a.owner a.since a.triggers s apart
          (subst (λ o. MatchOption o (Unit {0}) (HasAt index a.owner a.triggers))
          (ap (λ l. slice_get l m) (sym stand.spots.places) ∙ get-map place_of a.spots.items m ∙ ap (option_map place_of) at) (listed m))

  -- its holds are over later
  all-later : (a : Attached) → HasDue queue a → IsApart index queue j x a.owner a.since → is_moment x ≡ true → (n d : ℕ) → due_of n a.timers ≡ Some d → now (more j x) < d
  all-later a due apart moment n d is =
      subst (λ o. MatchOption o (Unit {0}) (λ due. now (more j x) < due)) is (later_than (now (more j x)) (due_of a.owner queue) a.timers due (apart.later moment) n)

  -- LAW: an owner that the entry doesn't concern stands for the journal with the entry, and fires nothing
  pub owner-calm : (a : Attached) → OwnerStands j a → IsListed index (owner_of a) → HasDue queue a → IsApart index queue j x a.owner a.since
      → OwnerStands (more j x) a × (firings_of (more j x) (length j) (owner_of a) ≡ [])
  owner-calm a stand listed due apart =
      let h = has-past j x apart.journal apart.within in
      let later = all-later a due apart in
      let calm = all-calm a stand listed apart in (
        record { well = stand.well; spots = calm-stand j x a.triggers a.since h apart.within stand.well a.spots.items a.timers stand.spots calm later; listed = stand.listed; reads = stand.reads },
        calm-quiet j x a.triggers a.since h apart.within stand.well a.spots.items a.timers stand.spots calm later a.owner,
      )

  module _ (owners : List Attached) (known : AreKnown index (map owner_of owners)) (stand : AllOwners owners (OwnerStands j)) (queued : AllOwners owners (HasDue queue)) (n : ℕ)
      (apart : AtOwner owners n (λ a. IsApart index queue j x a.owner a.since)) where
    pub both-at : AtOwner owners n (λ a. OwnerStands (more j x) a × (firings_of (more j x) (length j) (owner_of a) ≡ []))
    both-at = by (slice_get owners n) (stand n) (queued n) (subst (λ o. MatchOption o (Unit {0}) (IsListed index)) (get-map owner_of owners n) (known-listed index (map owner_of owners) known n)) apart
      where
        by : (o : Option Attached) → MatchOption o (Unit {0}) (OwnerStands j) → MatchOption o (Unit {0}) (HasDue queue) → MatchOption (option_map owner_of o) (Unit {0}) (IsListed index)
            → MatchOption o (Unit {0}) (λ a. IsApart index queue j x a.owner a.since)
            → MatchOption o (Unit {0}) (λ a. OwnerStands (more j x) a × (firings_of (more j x) (length j) (owner_of a) ≡ []))
        by None t q l i = tt
        by (Some a) t q l i = owner-calm a t l q i

    -- LAW: the owner at a place stands
    pub apart-stands : AtOwner owners n (OwnerStands (more j x))
    apart-stands = by (slice_get owners n) both-at
      where
        by : (o : Option Attached) → MatchOption o (Unit {0}) (λ a. OwnerStands (more j x) a × (firings_of (more j x) (length j) (owner_of a) ≡ [])) → MatchOption o (Unit {0}) (OwnerStands (more j x))
        by None b = tt
        by (Some a) b = b.0

    -- LAW: and fires nothing
    pub apart-fires : firings_at j x owners n ≡ []
    apart-fires = by (slice_get owners n) both-at
      where
        by : (o : Option Attached) → MatchOption o (Unit {0}) (λ a. OwnerStands (more j x) a × (firings_of (more j x) (length j) (owner_of a) ≡ []))
            → option_map_or (λ a. firings_of (more j x) (length j) (owner_of a)) o [] ≡ []
        by None b = refl
        by (Some a) b = b.1

-- ---- whom the index leaves aside

module _ (scene : Scene) (index : Index) (queue : List Timer) (j : Journal) where
  abbrev x : Entry
  x = scene.entry.now

  pub aside-apart : (owner since : ℕ) → Shows scene j since → IsAside index queue scene.to scene.shifts.now scene.events.now x owner → nat_lt since (length j) ≡ true → IsApart index queue j x owner since
  aside-apart owner since shows aside late = record {
    within = aside.within;
    journal = shows.journal;
    entries = aside.entries;
    late = late;
    events = aside.events;
    timed = λ k. subst (λ vs. MatchOption (slice_get vs k) (Unit {0}) (λ v. knows index (Subject.Event v.kind) owner ≡ false)) shows.events (aside.timed k);
    entities = λ f given lt.
        subst (λ o. MatchOption o ((states (more j x) f ≡ states j f) × (reports f x ≡ false)) (λ c. (face c.old ≡ face (states j f)) × (face c.new ≡ face (states (more j x) f))))
        (unshifted index owner f scene.shifts.now aside.entities given) (shows.shifts lt f);
    times = aside.times;
    later = λ moment. subst (λ to. MatchOption (due_of owner queue) (Unit {0}) (λ d. to < d)) shows.to (aside.later moment);
  }

  module _ (owners : List Attached) (known : AreKnown index (map owner_of owners)) (shows : AllOwners owners (λ a. Shows scene j a.since)) (stand : AllOwners owners (OwnerStands j))
      (queued : AllOwners owners (HasDue queue)) (n : ℕ)
      (recent : Recent) (noted : AreNoted recent (length j) (map owner_of owners))
      (aside : AtOwner owners n (λ a. ascend (map owner_of owners) ≡ true → IsAside index queue scene.to scene.shifts.now scene.events.now x a.owner))
      (old : AtOwner owners n (λ a. ascend (map owner_of owners) ≡ true → has recent.owners a.owner ≡ false)) where
    apart-at : AtOwner owners n (λ a. IsApart index queue j x a.owner a.since)
    apart-at = by (slice_get owners n) (shows n) aside old (noted-at recent (length j) owners n noted)
      where
        by : (o : Option Attached) → MatchOption o (Unit {0}) (λ a. Shows scene j a.since) → MatchOption o (Unit {0}) (λ a. ascend (map owner_of owners) ≡ true → IsAside index queue scene.to scene.shifts.now scene.events.now x a.owner)
            → MatchOption o (Unit {0}) (λ a. ascend (map owner_of owners) ≡ true → has recent.owners a.owner ≡ false) → MatchOption o (Unit {0}) (λ a. has recent.owners a.owner ≡ false → nat_lt a.since (length j) ≡ true)
            → MatchOption o (Unit {0}) (λ a. IsApart index queue j x a.owner a.since)
        by None s i o l = tt
        by (Some a) s i o l = aside-apart a.owner a.since s (i known.ascend) (l (o known.ascend))

    pub calm-stands : AtOwner owners n (OwnerStands (more j x))
    calm-stands = apart-stands index queue j x owners known stand queued n apart-at

    pub calm-fires : firings_at j x owners n ≡ []
    calm-fires = apart-fires index queue j x owners known stand queued n apart-at
