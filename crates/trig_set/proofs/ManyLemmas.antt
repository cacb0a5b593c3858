-- Spots of which some are gone along: those that an entry may not move stay, and the others come in their order.
use Rattle.std.proofs.Common.{◌≡◌, ℕ, zero, suc, ◌+◌, ◌<◌, ◌≤◌, List, [], ◌∷◌, ◌++◌, length, take, drop, map, Bool, true, false, refl, sym, ap, subst, ◌∙◌, arith, nat_cmp, append_assoc, append-nil, inl, inr}
use Rattle.std.specs.Prelude.{Option, Some, None, MatchOption, flat_map, nat_eq, nat_lt, option_map, slice_get, slice_set, ◌||◌}
use Rattle.std.specs.List.{cons_option, list_any}
use Rattle.std.specs.Option.{option_map_or}
use Rattle.std.specs.BTreeMap.{is_at}
use Rattle.std.specs.BTreeSet.{BTreeSet}
use Rattle.std.proofs.lemmas.Bool.Decides.{leb_tells, nat_tests}
use Rattle.ha_config.specs.declared.config.Trigger.{Trigger}
use Rattle.ha_journal.specs.declared.entry.Entry.{Entry}
use Rattle.ha_journal.specs.declared.event.BusEvent.{BusEvent}
use Rattle.ha_journal.specs.Journal.{Journal}
use Rattle.ha_past.specs.Firings.{Owner}
use Rattle.ha_journal.specs.Entries.{opens_segment}
use Rattle.timer_queue.specs.Timers.{Timer}
use Rattle.event_bus.specs.declared.index.Index.{Index}
use Rattle.event_bus.specs.Lists.{has}
use Rattle.trig_set.specs.declared.scene.Scene.{Scene}
use Rattle.trig_set.specs.declared.spot.Spot.{Spot}
use Rattle.trig_set.specs.Concerned.{IsAside}
use Rattle.trig_set.specs.Kept.{All, At, AreWell, Keeps, KeepsAt, Moved, MovedAt, SpotsStand, cleared, firing_in, holds_well, place_of, places_of, taken, taken_at}
use Rattle.event_bus.specs.Subjects.{Subject, knows}
use Rattle.trig_set.specs.Listed.{AreIndexed, HasAt, HasFor}
use Rattle.trig_set.specs.Places.{Turns}
use Rattle.trig_set.specs.Scenes.{Shows}
use Rattle.trig_set.specs.Timed.{Unfired, firings_in, timed_in}
use Rattle.trig_set.proofs.CalmLemmas.{CalmAt, IsCalm, calm-moved, calm-untimed, none-fired}
use Rattle.trig_set.proofs.ConcernLemmas.{aside-apart, get-map, spot-calm}
use Rattle.trig_set.proofs.LeftLemmas.{is-at-other, put-apart}
use Rattle.trig_set.proofs.MovedLemmas.{has-past, lt-is}

-- ---- lists that are gone through, some places skipped

module _ {X : Type 0} (g : X → X) where
  abbrev pub gone : ℕ → List X → List X
  gone n xs = map g (take n xs) ++ drop n xs

  abbrev pub set_at : ℕ → List X → List X
  set_at n xs = option_map_or (λ x. slice_set xs n (g x)) (slice_get xs n) xs

  got : (xs : List X) (n : ℕ) → slice_get (gone n xs) n ≡ slice_get xs n
  got [] zero = refl
  got [] (suc n) = refl
  got (x ∷ xs) zero = refl
  got (x ∷ xs) (suc n) = got xs n

  set-next : (xs : List X) (n : ℕ) → set_at n (gone n xs) ≡ gone (suc n) xs
  set-next [] zero = refl
  set-next [] (suc n) = refl
  set-next (x ∷ xs) zero = refl
  set-next (x ∷ xs) (suc n) = by (slice_get (gone n xs) n) ∙ (λ i. g x ∷ set-next xs n i)
    where
      by : (o : Option X) → option_map_or (λ y. slice_set (g x ∷ gone n xs) (suc n) (g y)) o (g x ∷ gone n xs) ≡ g x ∷ option_map_or (λ y. slice_set (gone n xs) n (g y)) o (gone n xs)
      by None = refl
      by (Some y) = refl

  -- LAW: the place is gone through
  pub goes-set : (xs cur new : List X) (n : ℕ) → cur ≡ gone n xs → new ≡ set_at n cur → new ≡ gone (n + 1) xs
  goes-set xs cur new n is e = e ∙ ap (set_at n) is ∙ set-next xs n ∙ (let q : suc n ≡ n + 1 = omega arith in λ i. gone (q i) xs)

  -- LAW: places at which there is nothing are skipped
  pub skip-set : (xs : List X) (a b : ℕ) → a ≤ b → ((n : ℕ) → a ≤ n → n < b → MatchOption (slice_get xs n) (Unit {0}) (λ x. g x ≡ x)) → gone b xs ≡ gone a xs
  skip-set [] zero zero le none = refl
  skip-set [] zero (suc b) le none = refl
  skip-set [] (suc a) zero le none = absurd (omega (arith, le))
  skip-set [] (suc a) (suc b) le none = refl
  skip-set (x ∷ xs) zero zero le none = refl
  skip-set (x ∷ xs) zero (suc b) le none = (λ i. none 0 (omega arith) (omega arith) i ∷ skip-set xs zero b (omega arith) (λ n from lt. none (suc n) (omega arith) (omega (arith, lt))) i)
  skip-set (x ∷ xs) (suc a) zero le none = absurd (omega (arith, le))
  skip-set (x ∷ xs) (suc a) (suc b) le none = (λ i. g x ∷ skip-set xs a b (omega (arith, le)) (λ n from lt. none (suc n) (omega (arith, from)) (omega (arith, lt))) i)

  beyond-set : (xs : List X) (n : ℕ) → length xs ≤ n → gone n xs ≡ map g xs
  beyond-set [] zero le = refl
  beyond-set [] (suc n) le = refl
  beyond-set (x ∷ xs) zero le = absurd (omega (arith, le))
  beyond-set (x ∷ xs) (suc n) le = (λ i. g x ∷ beyond-set xs n (omega (arith, le)) i)

  -- LAW: where nothing is left from a place on, all is gone through
  pub whole-set : (xs : List X) (a : ℕ) → ((n : ℕ) → a ≤ n → MatchOption (slice_get xs n) (Unit {0}) (λ x. g x ≡ x)) → gone a xs ≡ map g xs
  whole-set xs a none = sym (skip-set xs a (a + length xs) (omega arith) (λ n from lt. none n from)) ∙ beyond-set xs (a + length xs) (omega arith)

-- what is collected at the places
module _ {X Y : Type 0} (f : X → List Y) (g : X → X) where
  found-next : (xs : List X) (n : ℕ) → flat_map f (take (suc n) xs) ≡ flat_map f (take n xs) ++ option_map_or f (slice_get xs n) []
  found-next [] zero = refl
  found-next [] (suc n) = refl
  found-next (x ∷ xs) zero = append-nil (f x)
  found-next (x ∷ xs) (suc n) = (λ i. f x ++ found-next xs n i) ∙ sym (append_assoc (f x) (flat_map f (take n xs)) (option_map_or f (slice_get xs n) []))

  pub goes-on : (xs cur : List X) (n : ℕ) (before old new : List Y) → cur ≡ gone g n xs → old ≡ before ++ flat_map f (take n xs)
      → new ≡ old ++ option_map_or f (slice_get cur n) [] → new ≡ before ++ flat_map f (take (n + 1) xs)
  goes-on xs cur n before old new is was e =
      e ∙ (λ i. was i ++ option_map_or f ((ap (λ l. slice_get l n) is ∙ got g xs n) i) [])
      ∙ append_assoc before (flat_map f (take n xs)) (option_map_or f (slice_get xs n) [])
      ∙ (λ i. before ++ sym (found-next xs n) i)
      ∙ (let q : suc n ≡ n + 1 = omega arith in λ i. before ++ flat_map f (take (q i) xs))

  pub skip-found : (xs : List X) (a b : ℕ) → a ≤ b → ((n : ℕ) → a ≤ n → n < b → MatchOption (slice_get xs n) (Unit {0}) (λ x. f x ≡ [])) → flat_map f (take b xs) ≡ flat_map f (take a xs)
  skip-found [] zero zero le none = refl
  skip-found [] zero (suc b) le none = refl
  skip-found [] (suc a) zero le none = absurd (omega (arith, le))
  skip-found [] (suc a) (suc b) le none = refl
  skip-found (x ∷ xs) zero zero le none = refl
  skip-found (x ∷ xs) zero (suc b) le none = (λ i. none 0 (omega arith) (omega arith) i ++ skip-found xs zero b (omega arith) (λ n from lt. none (suc n) (omega arith) (omega (arith, lt))) i)
  skip-found (x ∷ xs) (suc a) zero le none = absurd (omega (arith, le))
  skip-found (x ∷ xs) (suc a) (suc b) le none = (λ i. f x ++ skip-found xs a b (omega (arith, le)) (λ n from lt. none (suc n) (omega (arith, from)) (omega (arith, lt))) i)

  beyond-found : (xs : List X) (n : ℕ) → length xs ≤ n → flat_map f (take n xs) ≡ flat_map f xs
  beyond-found [] zero le = refl
  beyond-found [] (suc n) le = refl
  beyond-found (x ∷ xs) zero le = absurd (omega (arith, le))
  beyond-found (x ∷ xs) (suc n) le = (λ i. f x ++ beyond-found xs n (omega (arith, le)) i)

  pub whole-found : (xs : List X) (a : ℕ) → ((n : ℕ) → a ≤ n → MatchOption (slice_get xs n) (Unit {0}) (λ x. f x ≡ [])) → flat_map f (take a xs) ≡ flat_map f xs
  whole-found xs a none = sym (skip-found xs a (a + length xs) (omega arith) (λ n from lt. none n from)) ∙ beyond-found xs (a + length xs) (omega arith)

-- ---- spots that fire with nothing

module _ (o : Owner) (place : ℕ) (events : List BusEvent) (spots : List Spot) (n : ℕ) where
  pub unfired-same : Unfired o place events spots n → MatchOption (slice_get spots n) (Unit {0}) (λ s. cleared s ≡ s)
  unfired-same = by (slice_get spots n)
    where
      by : (u : Option Spot) → MatchOption u (Unit {0}) (λ s. (s.fired ≡ None) × (timed_in o place events s ≡ [])) → MatchOption u (Unit {0}) (λ s. cleared s ≡ s)
      by None h = tt
      by (Some s) h = (λ i. record s { fired = sym h.0 i })

  pub unfired-none : Unfired o place events spots n → MatchOption (slice_get spots n) (Unit {0}) (λ s. firings_in o place events s ≡ [])
  unfired-none = by (slice_get spots n)
    where
      by : (u : Option Spot) → MatchOption u (Unit {0}) (λ s. (s.fired ≡ None) × (timed_in o place events s ≡ [])) → MatchOption u (Unit {0}) (λ s. firings_in o place events s ≡ [])
      by None h = tt
      by (Some s) h = (λ i. cons_option (firing_in o.owner (record s { fired = h.0 i })) (h.1 i))

-- LAW: what is at a place as it was has what it had
pub at-same : (P : Spot → Type 0) (xs ys : List Spot) (n : ℕ) → slice_get xs n ≡ slice_get ys n → At ys n P → At xs n P
at-same P xs ys n e h = subst (λ o. MatchOption o (Unit {0}) P) (sym e) h

-- LAW: beyond the last place there is nothing
pub at-beyond : (P : Spot → Type 0) (xs : List Spot) (n : ℕ) → length xs ≤ n → At xs n P
at-beyond P [] n le = tt
at-beyond P (x ∷ xs) zero le = absurd (omega (arith, le))
at-beyond P (x ∷ xs) (suc n) le = at-beyond P xs n (omega (arith, le))

-- LAW: a spot that was not gone along fires with nothing
pub left-unfired : (o : Owner) (place : ℕ) (events : List BusEvent) (j : Journal) (triggers : List Trigger) (since : ℕ) (old mid new : List Spot) (n : ℕ) → All old (KeepsAt j triggers since)
    → At old n (λ s. timed_in o place events s ≡ []) → slice_get mid n ≡ slice_get old n → slice_get new n ≡ slice_get mid n → Unfired o place events new n
left-unfired o place events j triggers since old mid new n keeps untimed moved ripe =
    at-same (λ s. (s.fired ≡ None) × (timed_in o place events s ≡ [])) new old n (ripe ∙ moved) (by (slice_get old n) (keeps n) untimed)
  where
    by : (u : Option Spot) → MatchOption u (Unit {0}) (KeepsAt j triggers since) → MatchOption u (Unit {0}) (λ s. timed_in o place events s ≡ [])
        → MatchOption u (Unit {0}) (λ s. (s.fired ≡ None) × (timed_in o place events s ≡ []))
    by None k t = tt
    by (Some s) k t = (none-fired j triggers since s k, t)

-- LAW: a hold that fires leaves the other spots
get-else : {X : Type 0} (xs : List X) (n m : ℕ) (v : X) → nat_eq n m ≡ false → slice_get (slice_set xs n v) m ≡ slice_get xs m
get-else [] n m v h = refl
get-else (x ∷ xs) zero zero v h = absurd (let e : nat_eq zero zero ≡ true = refl in let bad : ◌≡◌ {A = Bool} true false = sym e ∙ h in cc)
get-else (x ∷ xs) zero (suc m) v h = refl
get-else (x ∷ xs) (suc n) zero v h = refl
get-else (x ∷ xs) (suc n) (suc m) v h = get-else xs n m v (let e : nat_eq n m ≡ nat_eq (suc n) (suc m) = grind (arith, nat_tests) in e ∙ h)

pub taken-else : (n m : ℕ) (spots : List Spot) → nat_eq n m ≡ false → slice_get (taken_at n spots) m ≡ slice_get spots m
taken-else n m spots apart = by (slice_get spots n)
  where
    by : (o : Option Spot) → slice_get (option_map_or (λ s. slice_set spots n (taken s)) o spots) m ≡ slice_get spots m
    by None = refl
    by (Some s) = get-else spots n m (taken s) apart

-- ---- places that are listed

-- LAW: a listed place that is not put in is another
pub listed-rest : (old new : BTreeSet ℕ) (p : ℕ) → Turns old new p true → (n : ℕ) → has new n ≡ false → (listed : BTreeSet ℕ) (left rest : List ℕ) → left ≡ p ∷ rest
    → has listed n ≡ list_any (is_at (nat_cmp n)) left → has listed n ≡ list_any (is_at (nat_cmp n)) rest
listed-rest old new p updates n none listed left rest is told =
    told ∙ (λ i. list_any (is_at (nat_cmp n)) (is i))
    ∙ (λ i. is-at-other n p apart i || list_any (is_at (nat_cmp n)) rest)
  where
    apart : nat_eq n p ≡ false
    apart = (let other = put-apart old new p updates n none in grind (arith, nat_tests, other))

pub listed-end : (listed : BTreeSet ℕ) (left : List ℕ) (n : ℕ) → left ≡ [] → has listed n ≡ list_any (is_at (nat_cmp n)) left → has listed n ≡ false
listed-end listed left n is told = told ∙ (λ i. list_any (is_at (nat_cmp n)) (is i))

-- LAW: an index that has more has what it had of a spot
pub still-listed : (old new : Index) (triggers : List Trigger) (spots : List Spot) (n : ℕ) → ((s : Subject) (m : ℕ) → knows old s m ≡ true → knows new s m ≡ true)
    → At spots n (λ s. HasAt old n triggers (place_of s)) → At spots n (λ s. HasAt new n triggers (place_of s))
still-listed old new triggers spots n kept = by (slice_get spots n)
  where
    by : (o : Option Spot) → MatchOption o (Unit {0}) (λ s. HasAt old n triggers (place_of s)) → MatchOption o (Unit {0}) (λ s. HasAt new n triggers (place_of s))
    by None h = tt
    by (Some s) h = of (slice_get triggers s.trigger) h
      where
        of : (t : Option Trigger) → MatchOption t (Unit {0}) (λ t. HasFor old n t s.entity) → MatchOption t (Unit {0}) (λ t. HasFor new n t s.entity)
        of None k = tt
        of (Some t) k = λ q named. kept q n (k q named)

-- LAW: what is listed of all spots is listed of their places
pub all-listed : (index : Index) (triggers : List Trigger) (spots : List Spot) → ((n : ℕ) → n < length spots → At spots n (λ s. HasAt index n triggers (place_of s))) → AreIndexed index triggers (map place_of spots)
all-listed index triggers spots h n = elim (leb_tells (length spots) n) [
  | inl beyond ↦ subst (λ o. MatchOption o (Unit {0}) (HasAt index n triggers)) (sym (get-map place_of spots n)) (mapped (slice_get spots n) (at-beyond (λ s. HasAt index n triggers (place_of s)) spots n beyond.1))
  | inr within ↦ (let below = within.1 in subst (λ o. MatchOption o (Unit {0}) (HasAt index n triggers)) (sym (get-map place_of spots n)) (mapped (slice_get spots n) (h n (omega (arith, below)))))
]
  where
    mapped : (o : Option Spot) → MatchOption o (Unit {0}) (λ s. HasAt index n triggers (place_of s)) → MatchOption (option_map place_of o) (Unit {0}) (HasAt index n triggers)
    mapped None k = tt
    mapped (Some s) k = k

-- ---- a spot that the index leaves aside

module _ (scene : Scene) (j : Journal) (index : Index) (triggers : List Trigger) (since : ℕ) (shows : Shows scene j since) (within : opens_segment scene.entry.now ≡ false) (well : AreWell triggers)
    (listed : AreIndexed index triggers (places_of [] triggers)) (spots : List Spot) (timers : List Timer) (stand : SpotsStand j triggers since spots timers)
    (late : since < scene.place) where
  abbrev x : Entry
  x = scene.entry.now

  behind : nat_lt since (length j) ≡ true
  behind = (let at = shows.at in lt-is since (length j) (omega (arith, late, at)))

  moved-at : (s : Spot) → KeepsAt j triggers since s → CalmAt j x triggers since s → MovedAt j x triggers since s
  moved-at s = by (slice_get triggers s.trigger) (well s.trigger)
    where
      by : (o : Option Trigger) → MatchOption o (Unit {0}) holds_well → MatchOption o ((s.hold ≡ None) × (s.fired ≡ None)) (λ t. Keeps j t since s) → MatchOption o (Unit {0}) (λ t. IsCalm j x since t.rule s.entity)
          → MatchOption o ((s.hold ≡ None) × (s.fired ≡ None)) (λ t. Moved j x t since s)
      by None w k c = k
      by (Some t) w k c = calm-moved j x t since (has-past j x shows.journal within) within s w k c

  calm-there : (n : ℕ) → IsAside index [] scene.to scene.shifts.now scene.events.now x n → At spots n (CalmAt j x triggers since)
  calm-there n aside = by (slice_get spots n) refl
    where
      by : (o : Option Spot) → slice_get spots n ≡ o → MatchOption o (Unit {0}) (CalmAt j x triggers since)
      by None at = tt
      by (Some s) at =
          spot-calm index [] j x n since triggers s (aside-apart scene index [] j n since shows aside behind)
          (subst (λ o. MatchOption o (Unit {0}) (HasAt index n triggers))
          (ap (λ l. slice_get l n) (sym stand.places) ∙ get-map place_of spots n ∙ ap (option_map place_of) at) (listed n))

  -- LAW: the entry moves it to itself
  pub aside-moved : (n : ℕ) → IsAside index [] scene.to scene.shifts.now scene.events.now x n → At spots n (MovedAt j x triggers since)
  aside-moved n aside = by (slice_get spots n) (stand.kept n) (calm-there n aside)
    where
      by : (o : Option Spot) → MatchOption o (Unit {0}) (KeepsAt j triggers since) → MatchOption o (Unit {0}) (CalmAt j x triggers since) → MatchOption o (Unit {0}) (MovedAt j x triggers since)
      by None k c = tt
      by (Some s) k c = moved-at s k c

  -- LAW: and it fires with nothing for the events of helpers
  pub aside-untimed : (owner n : ℕ) → IsAside index [] scene.to scene.shifts.now scene.events.now x n
      → At spots n (λ s. timed_in (record { owner = owner; triggers = triggers; since = since }) scene.place scene.events.now s ≡ [])
  aside-untimed owner n aside = by (slice_get spots n) (calm-there n aside)
    where
      by : (u : Option Spot) → MatchOption u (Unit {0}) (CalmAt j x triggers since) → MatchOption u (Unit {0}) (λ s. timed_in (record { owner = owner; triggers = triggers; since = since }) scene.place scene.events.now s ≡ [])
      by None c = tt
      by (Some s) c =
          (λ i. timed_in (record { owner = owner; triggers = triggers; since = since }) scene.place (shows.events i) s)
          ∙ calm-untimed j x triggers since owner scene.place s c
