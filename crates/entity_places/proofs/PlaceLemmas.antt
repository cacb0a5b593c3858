-- The first place of what is meant in a list, and tables that have it for each id.
use Rattle.std.proofs.Common.{◌≡◌, ◌∙◌, ℕ, zero, suc, ◌+◌, ◌<◌, List, [], ◌∷◌, ◌++◌, length, take, get_or, Bool, true, false, refl, sym, ap, arith, rules, Option, one-add}
use Rattle.std.specs.Prelude.{Some, None, cond, nat_lt, find, is_some, option_and_then, option_map, slice_get, ◌||◌, if◌then◌else◌}
use Rattle.std.specs.List.{list_any, position, position_or_len}
use Rattle.std.proofs.lemmas.List.{take_more}
use Rattle.ha_value.specs.declared.value.EntityId.{EntityId}
use Rattle.entity_places.specs.declared.places.Places.{Places}
use Rattle.entity_places.specs.Placed.{ArePlaced, place_in, place_or}

-- ---- the place of the first element that is meant, with one element more at the end

abbrev pub place : {X : Type 0} → (X → Bool) → List X → Option ℕ
place p [] = None
place p (x ∷ xs) = if p x then Some 0 else option_map suc (place p xs)

next-place : (n m : ℕ) → cond (nat_lt (suc n) (suc m)) (Some (suc n)) None ≡ option_map suc (cond (nat_lt n m) (Some n) None)
next-place n m = by (nat_lt n m) refl
  where
    step : nat_lt (suc n) (suc m) ≡ nat_lt n m
    step = search rules

    by : (b : Bool) → nat_lt n m ≡ b → cond (nat_lt (suc n) (suc m)) (Some (suc n)) None ≡ option_map suc (cond b (Some n) None)
    by true e = (λ i. cond ((step ∙ e) i) (Some (suc n)) None)
    by false e = (λ i. cond ((step ∙ e) i) (Some (suc n)) None)

first-place : (m : ℕ) → cond {A = Option ℕ} (nat_lt 0 (suc m)) (Some 0) None ≡ Some 0
first-place m = (let t : nat_lt 0 (suc m) ≡ true = search rules in λ i. cond {A = Option ℕ} (t i) (Some 0) None)

pub position-place : {X : Type 0} (p : X → Bool) (xs : List X) → position p xs ≡ place p xs
position-place p [] = refl
position-place p (x ∷ xs) = by (position-place p xs) (p x) refl
  where
    by : position p xs ≡ place p xs → (b : Bool) → p x ≡ b → position p (x ∷ xs) ≡ (if b then Some 0 else option_map suc (place p xs))
    by ih true e = rw e (first-place (length xs))
    by ih false e = rw (e, one-add) (next-place (position_or_len p xs) (length xs) ∙ ap (option_map suc) ih)

place-snoc : {X : Type 0} (p : X → Bool) (xs : List X) (x : X) → place p (xs ++ (x ∷ [])) ≡ place_or (length xs) (p x) (place p xs)
place-snoc p [] x = by (p x)
  where
    by : (b : Bool) → (if b then Some 0 else None) ≡ place_or 0 b None
    by true = refl
    by false = refl
place-snoc p (y ∷ ys) x = by (p y) (place-snoc p ys x)
  where
    next : (n : ℕ) (b : Bool) (o : Option ℕ) → option_map suc (place_or n b o) ≡ place_or (suc n) b (option_map suc o)
    next n true None = refl
    next n false None = refl
    next n b (Some m) = refl

    by : (b : Bool) → place p (ys ++ (x ∷ [])) ≡ place_or (length ys) (p x) (place p ys)
        → (if b then Some 0 else option_map suc (place p (ys ++ (x ∷ [])))) ≡ place_or (suc (length ys)) (p x) (if b then Some 0 else option_map suc (place p ys))
    by true h = refl
    by false h = ap (option_map suc) h ∙ next (length ys) (p x) (place p ys)

take-length : {X : Type 0} (xs : List X) (i : ℕ) → i < length xs → length (take i xs) ≡ i
take-length [] i lt = absurd (omega (arith, lt))
take-length (x ∷ xs) zero lt = refl
take-length (x ∷ xs) (suc i) lt = ap suc (take-length xs i (omega (arith, lt)))

-- what is at the place, and whether there is one

place-has : {X : Type 0} (p : X → Bool) (xs : List X) → is_some (place p xs) ≡ list_any p xs
place-has p [] = refl
place-has p (x ∷ xs) = by (p x) (place-has p xs)
  where
    next : (o : Option ℕ) → is_some (option_map suc o) ≡ is_some o
    next None = refl
    next (Some n) = refl

    by : (b : Bool) → is_some (place p xs) ≡ list_any p xs → is_some (if b then Some 0 else option_map suc (place p xs)) ≡ (b || list_any p xs)
    by true h = refl
    by false h = next (place p xs) ∙ h

place-found : {X : Type 0} (p : X → Bool) (xs : List X) → option_and_then (slice_get xs) (place p xs) ≡ find p xs
place-found p [] = refl
place-found p (x ∷ xs) = by (p x) (place-found p xs)
  where
    next : (o : Option ℕ) → option_and_then (slice_get (x ∷ xs)) (option_map suc o) ≡ option_and_then (slice_get xs) o
    next None = refl
    next (Some n) = refl

    by : (b : Bool) → option_and_then (slice_get xs) (place p xs) ≡ find p xs
        → option_and_then (slice_get (x ∷ xs)) (if b then Some 0 else option_map suc (place p xs)) ≡ (if b then Some x else find p xs)
    by true h = refl
    by false h = next (place p xs) ∙ h

-- ---- the table

-- LAW: a table that has no id is that of the empty list
pub none-placed : {X : Type 0} (places : Places) (is_of : EntityId → X → Bool) → ((e : EntityId) → place_in places e ≡ None) → ArePlaced places is_of []
none-placed places is_of none e = none e

-- LAW: one item more, at its place, unless its id has one
pub more-placed : {X : Type 0} (old new : Places) (is_of : EntityId → X → Bool) (xs : List X) (i : ℕ) (d : X) → i < length xs
    → ((e : EntityId) → place_in new e ≡ place_or i (is_of e (get_or xs i d)) (place_in old e))
    → ArePlaced old is_of (take i xs) → ArePlaced new is_of (take (i + 1) xs)
more-placed old new is_of xs i d lt put h e =
    put e
    ∙ ap (place_or i (is_of e (get_or xs i d))) (h e ∙ position-place (is_of e) (take i xs))
    ∙ (λ q. place_or (sym (take-length xs i lt) q) (is_of e (get_or xs i d)) (place (is_of e) (take i xs)))
    ∙ sym (place-snoc (is_of e) (take i xs) (get_or xs i d))
    ∙ sym (position-place (is_of e) (take i xs ++ (get_or xs i d ∷ [])))
    ∙ ap (position (is_of e)) (sym (take_more xs i d lt))

-- LAW: an id has a place where an item is of it
pub placed-has : {X : Type 0} (places : Places) (is_of : EntityId → X → Bool) (xs : List X) → ArePlaced places is_of xs
    → (e : EntityId) → is_some (place_in places e) ≡ list_any (is_of e) xs
placed-has places is_of xs h e = ap is_some (h e ∙ position-place (is_of e) xs) ∙ place-has (is_of e) xs

-- LAW: at its place is the first item that is of it
pub placed-found : {X : Type 0} (places : Places) (is_of : EntityId → X → Bool) (xs : List X) → ArePlaced places is_of xs
    → (e : EntityId) → option_and_then (slice_get xs) (place_in places e) ≡ find (is_of e) xs
placed-found places is_of xs h e = ap (option_and_then (slice_get xs)) (h e ∙ position-place (is_of e) xs) ∙ place-found (is_of e) xs
