-- The spots of triggers that were just attached stand for each journal that is not longer than their since.
use Rattle.std.proofs.Common.{◌≡◌, ℕ, zero, suc, ◌+◌, ◌<◌, ◌≤◌, List, [], ◌∷◌, ◌++◌, length, map, take, get_or, Bool, true, false, refl, sym, ap, ◌∙◌, arith, append_assoc}
use Rattle.std.specs.Prelude.{Option, Some, None, MatchOption, flat_map, nat_lt, not, slice_get, is_some, is_none, option_map, option_and_then, ◌&&◌, ◌||◌, if◌then◌else◌}
use Rattle.std.specs.List.{enumerate_from, list_all, list_any}
use Rattle.std.proofs.lemmas.Bool.Decides.{nat_tests}
use Rattle.std.proofs.lemmas.List.{take_more}
use Rattle.ha_value.specs.declared.value.EntityId.{EntityId}
use Rattle.ha_config.specs.declared.config.Trigger.{Trigger}
use Rattle.ha_journal.specs.Journal.{Journal}
use Rattle.ha_config.specs.Words.{same_entity}
use Rattle.ha_config.specs.Sound.{may_hold, is_sound_rule, is_sound_trigger, if_there}
use Rattle.ha_sight.specs.Rules.{each_once, without_entity, entities_of}
use Rattle.trig_set.specs.declared.spot.Spot.{Spot}
use Rattle.trig_set.specs.declared.spot.Held.{Held}
use Rattle.trig_set.specs.Blank.{is_blank, are_blank, entity_places}
use Rattle.trig_set.specs.Kept.{All, AreTimed, AreWell, Keeps, KeepsAt, due_in, holding, holds_well, places_of}
use Rattle.ha_past.proofs.EntryLaws.{standing-fresh}
use Rattle.ha_past.proofs.ListLemmas.{map-snoc, all-append}

-- ---- entities, each once

without-snoc : (y x : EntityId) (xs : List EntityId) → without_entity y (xs ++ (x ∷ [])) ≡ (if same_entity y x then without_entity y xs else without_entity y xs ++ (x ∷ []))
without-snoc y x [] = refl
without-snoc y x (z ∷ zs) = by (same_entity y z) (same_entity y x) (without-snoc y x zs)
  where
    by : (a b : Bool) → without_entity y (zs ++ (x ∷ [])) ≡ (if b then without_entity y zs else without_entity y zs ++ (x ∷ []))
        → (if a then without_entity y (zs ++ (x ∷ [])) else z ∷ without_entity y (zs ++ (x ∷ []))) ≡ (if b then (if a then without_entity y zs else z ∷ without_entity y zs) else (if a then without_entity y zs else z ∷ without_entity y zs) ++ (x ∷ []))
    by true true e = e
    by true false e = e
    by false true e = ap (λ l. z ∷ l) e
    by false false e = ap (λ l. z ∷ l) e

-- LAW: one more entity counts where none before is the same
pub once-more : (xs : List EntityId) (x : EntityId) → each_once (xs ++ (x ∷ [])) ≡ (if list_any (λ e. same_entity e x) xs then each_once xs else each_once xs ++ (x ∷ []))
once-more [] x = refl
once-more (y ∷ ys) x = by (list_any (λ e. same_entity e x) ys) (same_entity y x) (once-more ys x) (without-snoc y x (each_once ys))
  where
    by : (a b : Bool) → each_once (ys ++ (x ∷ [])) ≡ (if a then each_once ys else each_once ys ++ (x ∷ []))
        → without_entity y (each_once ys ++ (x ∷ [])) ≡ (if b then without_entity y (each_once ys) else without_entity y (each_once ys) ++ (x ∷ []))
        → y ∷ without_entity y (each_once (ys ++ (x ∷ []))) ≡ (if b || a then y ∷ without_entity y (each_once ys) else (y ∷ without_entity y (each_once ys)) ++ (x ∷ []))
    by true true e f = ap (λ l. y ∷ without_entity y l) e
    by true false e f = ap (λ l. y ∷ without_entity y l) e
    by false true e f = ap (λ l. y ∷ without_entity y l) e ∙ ap (λ l. y ∷ l) f
    by false false e f = ap (λ l. y ∷ without_entity y l) e ∙ ap (λ l. y ∷ l) f

module _ (n : ℕ) (front : List (ℕ × Option EntityId)) (es : List EntityId) (place : ℕ) (d : EntityId) (lt : place < length es) where
  -- LAW: an entity that was before has no spot of its own
  pub place-again : list_any (λ e. same_entity e (get_or es place d)) (take place es) ≡ true → entity_places n (each_once (take place es)) ≡ entity_places n (each_once (take (place + 1) es))
  place-again h =
      sym ((λ i. entity_places n (each_once (take_more es place d lt i)))
      ∙ (λ i. entity_places n (once-more (take place es) (get_or es place d) i))
      ∙ (λ i. entity_places n (if h i then each_once (take place es) else each_once (take place es) ++ (get_or es place d ∷ []))))

  -- LAW: and one that was not has
  pub place-new : list_any (λ e. same_entity e (get_or es place d)) (take place es) ≡ false
      → (front ++ entity_places n (each_once (take place es))) ++ ((n, Some (get_or es place d)) ∷ []) ≡ front ++ entity_places n (each_once (take (place + 1) es))
  place-new h =
      append_assoc front (entity_places n (each_once (take place es))) ((n, Some (get_or es place d)) ∷ [])
      ∙ ap (λ l. front ++ l)
      (sym ((λ i. entity_places n (each_once (take_more es place d lt i)))
      ∙ (λ i. entity_places n (once-more (take place es) (get_or es place d) i))
      ∙ (λ i. entity_places n (if h i then each_once (take place es) else each_once (take place es) ++ (get_or es place d ∷ [])))
      ∙ (λ i. map (λ e. (n, e)) (map-snoc Some (each_once (take place es)) (get_or es place d) i))
      ∙ map-snoc (λ e. (n, e)) (map Some (each_once (take place es))) (Some (get_or es place d))))

-- ---- the places of triggers

abbrev spread : ℕ × Trigger → List (ℕ × Option EntityId)
spread t = map {A = Option EntityId} {B = ℕ × Option EntityId} (λ e. (t.0, e)) (entities_of t.1.rule)

nil-right : {X : Type 0} (xs : List X) → xs ++ [] ≡ xs
nil-right [] = refl
nil-right (x ∷ xs) = ap (λ l. x ∷ l) (nil-right xs)

spread-more : (n : ℕ) (ts : List Trigger) (t : Trigger) → flat_map spread (enumerate_from n (ts ++ (t ∷ []))) ≡ flat_map spread (enumerate_from n ts) ++ spread (n + length ts, t)
spread-more n [] t = nil-right (spread (n, t)) ∙ (let e : n ≡ n + 0 = omega arith in λ i. spread (e i, t))
spread-more n (u ∷ us) t =
    ap (λ l. spread (n, u) ++ l) (spread-more (n + 1) us t)
    ∙ sym (append_assoc (spread (n, u)) (flat_map spread (enumerate_from (n + 1) us)) (spread (n + 1 + length us, t)))
    ∙ (let e : n + 1 + length us ≡ n + suc (length us) = omega arith in λ i. (spread (n, u) ++ flat_map spread (enumerate_from (n + 1) us)) ++ spread (e i, t))

length-first : {X : Type 0} (xs : List X) (n : ℕ) → n ≤ length xs → length (take n xs) ≡ n
length-first xs zero le = refl
length-first [] (suc n) le = absurd (omega (arith, le))
length-first (x ∷ xs) (suc n) le = ap suc (length-first xs n (omega (arith, le)))

-- LAW: one more trigger's places
pub places-more : (front : List (ℕ × Option EntityId)) (ts : List Trigger) (place : ℕ) (d : Trigger) → place < length ts
    → (front ++ places_of [] (take place ts)) ++ map (λ e. (place, e)) (entities_of (get_or ts place d).rule) ≡ front ++ places_of [] (take (place + 1) ts)
places-more front ts place d lt =
    append_assoc front (places_of [] (take place ts)) (spread (place, get_or ts place d))
    ∙ ap (λ l. front ++ l)
    (sym ((λ i. places_of [] (take_more ts place d lt i))
    ∙ spread-more 0 (take place ts) (get_or ts place d)
    ∙ (let e : 0 + length (take place ts) ≡ place = (let l = length-first ts place (omega (arith, lt)) in omega (arith, l)) in λ i. flat_map spread (enumerate_from 0 (take place ts)) ++ spread (e i, get_or ts place d))))

-- ---- nothing is kept

pub both : (a b : Bool) → (a && b) ≡ true → (a ≡ true) × (b ≡ true)
both true true h = (refl, refl)
both true false h = cc
both false b h = cc

pub all-at : {X : Type 0} (p : X → Bool) (xs : List X) → list_all p xs ≡ true → (n : ℕ) → MatchOption (slice_get xs n) (Unit {0}) (λ x. p x ≡ true)
all-at p [] h n = tt
all-at p (x ∷ xs) h zero = (both (p x) (list_all p xs) h).0
all-at p (x ∷ xs) h (suc n) = all-at p xs (both (p x) (list_all p xs) h).1 n

none-of : {X : Type 0} (o : Option X) → is_none o ≡ true → o ≡ None
none-of None h = refl
none-of (Some x) h = cc

-- LAW: triggers that are sound are well
pub sound-well : (ts : List Trigger) → list_all is_sound_trigger ts ≡ true → AreWell ts
sound-well ts h n = by (slice_get ts n) (all-at is_sound_trigger ts h n)
  where
    held : (t : Trigger) (o : Option ℕ) → if_there (λ d. nat_lt 0 d && may_hold t.rule) o ≡ true → is_some o ≡ true → may_hold t.rule ≡ true
    held t None h s = cc
    held t (Some d) h s = (both (nat_lt 0 d) (may_hold t.rule) h).1

    by : (o : Option Trigger) → MatchOption o (Unit {0}) (λ t. is_sound_trigger t ≡ true) → MatchOption o (Unit {0}) holds_well
    by None w = tt
    by (Some t) w = (let b = both (is_sound_rule t.rule) (if_there (λ d. nat_lt 0 d && may_hold t.rule) t.hold) w in (held t t.hold b.1, b.0))

not-true : (b : Bool) → not b ≡ true → b ≡ false
not-true true h = cc
not-true false h = refl

blank-parts : (s : Spot) → is_blank s ≡ true → (is_none s.hold ≡ true) × (is_none s.fired ≡ true) × (not s.was ≡ true)
blank-parts s h = by (is_none s.hold) (is_none s.fired) (not s.was) h
  where
    by : (a b c : Bool) → (a && b && c) ≡ true → (a ≡ true) × (b ≡ true) × (c ≡ true)
    by true true true e = (refl, refl, refl)
    by true true false e = cc
    by true false c e = cc
    by false b c e = cc

module _ (j : Journal) (ts : List Trigger) (since : ℕ) (le : length j ≤ since) where
  early : nat_lt since (length j) ≡ false
  early = grind (arith, nat_tests, le)

  -- a blank spot keeps what is to be kept
  keeps : (s : Spot) → is_blank s ≡ true → KeepsAt j ts since s
  keeps s h = by (slice_get ts s.trigger)
    where
      b : (is_none s.hold ≡ true) × (is_none s.fired ≡ true) × (not s.was ≡ true)
      b = blank-parts s h

      by : (o : Option Trigger) → MatchOption o ((s.hold ≡ None) × (s.fired ≡ None)) (λ t. Keeps j t since s)
      by None = (none-of s.hold b.0, none-of s.fired b.1)
      by (Some t) = record {
        hold = ap (option_map holding) (none-of s.hold b.0) ∙ sym (standing-fresh j t s.entity since le);
        was = λ lt. (let f = early in let g : false ≡ true = sym f ∙ lt in cc);
        bare = λ plain. not-true s.was b.2;
        fired = none-of s.fired b.1;
      }

  -- LAW: blank spots stand
  pub blank-kept : (spots : List Spot) → are_blank spots ≡ true → All spots (KeepsAt j ts since)
  blank-kept spots h n = by (slice_get spots n) (all-at is_blank spots h n)
    where
      by : (o : Option Spot) → MatchOption o (Unit {0}) (λ s. is_blank s ≡ true) → MatchOption o (Unit {0}) (KeepsAt j ts since)
      by None w = tt
      by (Some s) w = keeps s w

-- LAW: and have no timers
pub blank-timed : (spots : List Spot) → are_blank spots ≡ true → AreTimed [] spots
blank-timed spots h = record { distinct = refl; dues = λ n. by (slice_get spots n) (all-at is_blank spots h n) }
  where
    by : (o : Option Spot) → MatchOption o (Unit {0}) (λ s. is_blank s ≡ true) → None ≡ option_and_then due_in o
    by None w = refl
    by (Some s) w = sym (ap (option_map {T = Held} (λ h. h.due)) (none-of s.hold (blank-parts s w).0))

-- LAW: one more blank spot
pub blank-more : (spots : List Spot) (s : Spot) → is_blank s ≡ true → are_blank spots ≡ true → are_blank (spots ++ (s ∷ [])) ≡ true
blank-more spots s b h = all-append is_blank spots s ∙ (λ i. h i && b i)
