-- Each change that a call of a helpers' service makes is made of what its place sees.
use Rattle.std.proofs.Common.{◌≡◌, ℕ, zero, suc, ◌<◌, Bool, true, false, List, [], ◌∷◌, map, get_or, refl, sym, ap, subst, ◌∙◌, arith}
use Rattle.std.specs.Prelude.{Option, Some, None, Ok, Err, ◌&&◌, ◌||◌, filter_map, find, is_some, nat_eq, slice_get, option_map, option_and_then, codes, if◌then◌else◌}
use Rattle.std.specs.List.{cons_option, list_all}
use Rattle.std.specs.Option.{option_map_or}
use Rattle.std.proofs.lemmas.List.Quantifiers.{position-Some}
use Rattle.ha_value.specs.declared.value.EntityId.{EntityId}
use Rattle.ha_config.specs.Helpers.{helper_named, span_in}
use Rattle.ha_config.specs.Words.{Pairs, Text, same, same_entity}
use Rattle.ha_config.proofs.EqualLemmas.{and_left, and_right, entity-sound}
use Rattle.ha_config.proofs.ListLemmas.{none-some, some-same}
use Rattle.ha_sight.specs.declared.helped.HelperChange.{HelperChange}
use Rattle.ha_sight.specs.declared.helped.HelperService.{HelperService}
use Rattle.ha_sight.specs.declared.helped.Wanted.{Wanted}
use Rattle.ha_sight.specs.Checks.{Checked, checked_then, no_value}
use Rattle.ha_sight.specs.Known.{Known, rest}
use Rattle.ha_sight.specs.Once.{each_number_once, without_number}
use Rattle.ha_sight.specs.Services.{begun, change_at, change_by, change_seen, changes_for, changes_made, counted, fits, fits_at, if_for, is_for, is_for_at, lowered, place_as, place_meant, places_meant, raised, span_started, start_event, text_seen, timed, wanted}
use Rattle.ha_sight.specs.Sight.{Sight}
use Rattle.script_laws.specs.Made.{AreMade, IsMade, known_as, sees_all, sees_helper}

-- ---- a change is of the helper that it is made for

abbrev OfEntity : EntityId → Option HelperChange → Type 0
OfEntity e None = Unit {0}
OfEntity e (Some c) = c.entity ≡ e

mapped-of : {X : Type 0} (e : EntityId) (f : X → HelperChange) → ((x : X) → (f x).entity ≡ e) → (o : Option X) → OfEntity e (option_map f o)
mapped-of e f h None = tt
mapped-of e f h (Some x) = h x

tested-of : (e : EntityId) (c : HelperChange) → c.entity ≡ e → (b : Bool) → OfEntity e (if b then Some c else None)
tested-of e c h true = h
tested-of e c h false = tt

change-of : (s : HelperService) (w : Wanted) (now : ℕ) (text : Text) (k : Known) → OfEntity k.helper.entity (change_by s w now text k)
change-of HelperService.TurnOn w now text k = refl
change-of HelperService.TurnOff w now text k = refl
change-of HelperService.Toggle w now text k = refl
change-of HelperService.Increment w now text k = mapped-of k.helper.entity (counted k.helper) (λ z. refl) (raised k.helper.kind text)
change-of HelperService.Decrement w now text k = mapped-of k.helper.entity (counted k.helper) (λ z. refl) (lowered k.helper.kind text)
change-of HelperService.Reset w now text k = mapped-of k.helper.entity (counted k.helper) (λ z. refl) (begun k.helper.kind)
change-of HelperService.SetValue w now text k = mapped-of k.helper.entity (counted k.helper) (λ z. refl) w.value
change-of HelperService.Start w now text k =
    mapped-of k.helper.entity (λ own. timed k.helper (codes "active") (Some (span_started k text own w)) (start_event text)) (λ own. refl) (span_in k.helper.kind)
change-of HelperService.Pause w now text k =
    tested-of k.helper.entity (timed k.helper (codes "paused") (Some (rest now k)) (codes "timer.paused")) refl (same text (codes "active"))
change-of HelperService.Cancel w now text k =
    tested-of k.helper.entity (timed k.helper (codes "idle") None (codes "timer.cancelled")) refl (same text (codes "active") || same text (codes "paused"))
change-of HelperService.Finish w now text k =
    tested-of k.helper.entity (timed k.helper (codes "idle") None (codes "timer.finished")) refl (same text (codes "active"))

-- ---- the helper that an id names

find-at : {X : Type 0} (p : X → Bool) (xs : List X) (n : ℕ) (x : X) → slice_get xs n ≡ Some x → p (get_or xs n x) ≡ true → ((i : ℕ) → i < n → p (get_or xs i x) ≡ false)
    → (find p xs ≡ Some x) × (p x ≡ true)
find-at p [] n x e here before = absurd (none-some x e)
find-at p (y ∷ ys) zero x e here before =
    let own : p y ≡ true = here in
    ((λ i. if own i then Some y else find p ys) ∙ e, subst (λ z. p z ≡ true) (some-same y x e) own)
find-at p (y ∷ ys) (suc n) x e here before =
    let other : p y ≡ false = before 0 (omega arith) in
    let later = find-at p ys n x e here (λ i lt. before (suc i) (omega (arith, lt))) in
    ((λ i. if other i then Some y else find p ys) ∙ later.0, later.1)

-- what stands at the place of an id is known by this id
known-at : (all : List Known) (e : EntityId) (n : ℕ) (k : Known) → place_as all e ≡ Some n → slice_get all n ≡ Some k → (known_as all e ≡ Some k) × (k.helper.entity ≡ e)
known-at all e n k at got =
    let found = position-Some (λ (x : Known). same_entity x.helper.entity e) all n k at in
    let first = find-at (λ (x : Known). same_entity x.helper.entity e) all n k got found.1 found.2 in
    (first.0, entity-sound k.helper.entity e first.1)

-- LEMMA: the helper of an id, among those that are known, is that of what is known by this id
pub named-known : (all : List Known) (e : EntityId) → helper_named (map (λ k. k.helper) all) e ≡ option_map (λ k. k.helper) (known_as all e)
named-known [] e = refl
named-known (k ∷ ks) e = by (same_entity k.helper.entity e) (named-known ks e)
  where
    by : (b : Bool) → helper_named (map (λ x. x.helper) ks) e ≡ option_map (λ x. x.helper) (known_as ks e)
        → (if b then Some k.helper else helper_named (map (λ x. x.helper) ks) e) ≡ option_map (λ x. x.helper) (if b then Some k else known_as ks e)
    by true later = refl
    by false later = later

-- LEMMA: helpers whose changes are made are seen
pub made-seen : (sight : Sight) (cs : List HelperChange) → AreMade sight cs → sees_all sight cs ≡ true
made-seen sight [] h = refl
made-seen sight (c ∷ cs) h =
    let one : sees_helper sight c.entity ≡ true = ap is_some (named-known sight.helpers c.entity ∙ ap (option_map (λ k. k.helper)) h.0.is_seen) in
    (λ i. one i && made-seen sight cs h.1 i)

-- ---- the places that a call means

record IsMeant (all : List Known) (s : HelperService) (n : ℕ) : Type 0 where
  named : EntityId
  at : place_as all named ≡ Some n
  suits : is_for_at all s n ≡ true

abbrev AllMeant : List Known → HelperService → List ℕ → Type 0
AllMeant all s [] = Unit {0}
AllMeant all s (n ∷ ns) = IsMeant all s n × AllMeant all s ns

module _ (all : List Known) (s : HelperService) where
  without-meant : (n : ℕ) (ns : List ℕ) → AllMeant all s ns → AllMeant all s (without_number n ns)
  without-meant n [] h = tt
  without-meant n (x ∷ xs) h = by (nat_eq n x) (without-meant n xs h.1)
    where
      by : (b : Bool) → AllMeant all s (without_number n xs) → AllMeant all s (if b then without_number n xs else x ∷ without_number n xs)
      by true later = later
      by false later = (h.0, later)

  once-meant : (ns : List ℕ) → AllMeant all s ns → AllMeant all s (each_number_once ns)
  once-meant [] h = tt
  once-meant (n ∷ ns) h = (h.0, without-meant n (each_number_once ns) (once-meant ns h.1))

  targets-meant : (targets : List EntityId) → AllMeant all s (filter_map (place_meant all s) targets)
  targets-meant [] = tt
  targets-meant (e ∷ es) = by (place_as all e) refl (targets-meant es)
    where
      two : (n : ℕ) → place_as all e ≡ Some n → (b : Bool) → is_for_at all s n ≡ b → AllMeant all s (filter_map (place_meant all s) es) → AllMeant all s (cons_option (if b then Some n else None) (filter_map (place_meant all s) es))
      two n at true suits later = (record { named = e; at = at; suits = suits }, later)
      two n at false suits later = later

      by : (o : Option ℕ) → place_as all e ≡ o → AllMeant all s (filter_map (place_meant all s) es) → AllMeant all s (cons_option (option_and_then (if_for all s) o) (filter_map (place_meant all s) es))
      by None at later = later
      by (Some n) at later = two n at (is_for_at all s n) refl later

  meant : (targets : List EntityId) → AllMeant all s (places_meant all s targets)
  meant targets = once-meant (filter_map (place_meant all s) targets) (targets-meant targets)

-- ---- what is made there

abbrev pub AllMade : Sight → Checked (List HelperChange) → Type 0
AllMade sight (Ok changes) = AreMade sight changes
AllMade sight (Err code) = Unit {0}

module _ (sight : Sight) (s : HelperService) (w : Wanted) where
  one-made : (n : ℕ) (k : Known) → IsMeant sight.helpers s n → fits_at sight w n ≡ true → slice_get sight.helpers n ≡ Some k
      → (c : HelperChange) → change_seen sight s w k ≡ Some c → IsMade sight c
  one-made n k m fit got c made =
      let known = known-at sight.helpers m.named n k m.at got in
      let own : c.entity ≡ k.helper.entity = subst (OfEntity k.helper.entity) made (change-of s w sight.now (text_seen sight k) k) in
      record {
        service = s;
        want = w;
        seen = k;
        is_seen = ap (known_as sight.helpers) (own ∙ known.1) ∙ known.0;
        is_meant = sym (ap (λ o. option_map_or (λ (x : Known). is_for s x.helper.kind) o false) got) ∙ m.suits;
        is_fit = sym (ap (λ o. option_map_or (fits w) o true) got) ∙ fit;
        is_it = made;
      }

  places-made : (places : List ℕ) → AllMeant sight.helpers s places → list_all (fits_at sight w) places ≡ true → AreMade sight (filter_map (change_at sight s w) places)
  places-made [] m fit = tt
  places-made (n ∷ ns) m fit =
      by (slice_get sight.helpers n) refl (places-made ns m.1 (and_right (fits_at sight w n) (list_all (fits_at sight w) ns) fit))
    where
      first : fits_at sight w n ≡ true
      first = and_left (fits_at sight w n) (list_all (fits_at sight w) ns) fit

      two : (k : Known) → slice_get sight.helpers n ≡ Some k → (o : Option HelperChange) → change_seen sight s w k ≡ o
          → AreMade sight (filter_map (change_at sight s w) ns) → AreMade sight (cons_option o (filter_map (change_at sight s w) ns))
      two k got None made later = later
      two k got (Some c) made later = (one-made n k m.0 first got c made, later)

      by : (o : Option Known) → slice_get sight.helpers n ≡ o
          → AreMade sight (filter_map (change_at sight s w) ns) → AreMade sight (cons_option (option_and_then (change_seen sight s w) o) (filter_map (change_at sight s w) ns))
      by None got later = later
      by (Some k) got later = two k got (change_seen sight s w k) refl later

  for-made : (places : List ℕ) → AllMeant sight.helpers s places → AllMade sight (changes_for sight s places w)
  for-made places m = by (list_all (fits_at sight w) places) refl
    where
      by : (b : Bool) → list_all (fits_at sight w) places ≡ b → AllMade sight (if b then Ok (filter_map (change_at sight s w) places) else Err no_value)
      by true fit = places-made places m fit
      by false fit = tt

-- LEMMA: what a call of a service changes is made
pub all-made : (sight : Sight) (s : HelperService) (targets : List EntityId) (ps : Pairs) → AllMade sight (changes_made sight s targets ps)
all-made sight s targets ps = by (wanted s ps)
  where
    by : (r : Checked Wanted) → AllMade sight (checked_then (changes_for sight s (places_meant sight.helpers s targets)) r)
    by (Ok w) = for-made sight s w (places_meant sight.helpers s targets) (meant sight.helpers s targets)
    by (Err code) = tt
