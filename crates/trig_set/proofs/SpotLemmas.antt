-- Lists of spots of which one is set.
use Rattle.std.proofs.Common.{◌≡◌, ℕ, zero, suc, ◌<◌, List, [], ◌∷◌, length, get_or, map, Bool, true, false, refl, sym, ap, ◌∙◌, arith}
use Rattle.std.specs.Prelude.{Some, nat_eq, slice_get, slice_set, option_and_then, if◌then◌else◌}
use Rattle.std.proofs.lemmas.Bool.{eqb-true}
use Rattle.std.proofs.lemmas.Bool.Decides.{nat_tests}
use Rattle.timer_queue.specs.Timers.{Timer, due_of, distinct_keys}
use Rattle.trig_set.specs.declared.spot.Spot.{Spot}
use Rattle.trig_set.specs.Kept.{AreTimed, due_in}

pub map-set : {X Y : Type 0} (f : X → Y) (xs : List X) (n : ℕ) (v w : X) → slice_get xs n ≡ Some w → f v ≡ f w → map f (slice_set xs n v) ≡ map f xs
map-set f [] n v w h e = refl
map-set f (x ∷ xs) zero v w h e = (let q : x ≡ w = cc in (λ i. (e ∙ ap f (sym q)) i ∷ map f xs))
map-set f (x ∷ xs) (suc n) v w h e = (λ i. f x ∷ map-set f xs n v w h e i)

pub get-set : {X : Type 0} (xs : List X) (n m : ℕ) (v : X) → n < length xs → slice_get (slice_set xs n v) m ≡ (if nat_eq n m then Some v else slice_get xs m)
get-set [] n m v lt = absurd (omega (arith, lt))
get-set (x ∷ xs) zero zero v lt = refl
get-set (x ∷ xs) zero (suc m) v lt = (let e : false ≡ nat_eq zero (suc m) = grind (arith, nat_tests) in λ i. if e i then Some v else slice_get xs m)
get-set (x ∷ xs) (suc n) zero v lt = (let e : false ≡ nat_eq (suc n) zero = grind (arith, nat_tests) in λ i. if e i then Some v else Some x)
get-set (x ∷ xs) (suc n) (suc m) v lt =
    get-set xs n m v (omega (arith, lt)) ∙ (let e : nat_eq n m ≡ nat_eq (suc n) (suc m) = grind (arith, nat_tests) in λ i. if e i then Some v else slice_get xs m)

pub get-at : {X : Type 0} (xs : List X) (n : ℕ) (d : X) → n < length xs → slice_get xs n ≡ Some (get_or xs n d)
get-at [] n d lt = absurd (omega (arith, lt))
get-at (x ∷ xs) zero d lt = refl
get-at (x ∷ xs) (suc n) d lt = get-at xs n d (omega (arith, lt))

-- LAW: the timers of spots of which one is set, with its timer
pub timed-set : (old new : List Timer) (spots : List Spot) (place : ℕ) (v w : Spot) → place < length spots → slice_get spots place ≡ Some w
    → (due_of place old ≡ due_in w → (n : ℕ) → due_of n new ≡ (if nat_eq place n then due_in v else due_of n old))
    → (distinct_keys old ≡ true → distinct_keys new ≡ true)
    → AreTimed old spots → AreTimed new (slice_set spots place v)
timed-set old new spots place v w lt here dues distinct timed = record { distinct = distinct timed.distinct; dues = at }
  where
    at : (n : ℕ) → due_of n new ≡ option_and_then due_in (slice_get (slice_set spots place v) n)
    at n =
        dues (timed.dues place ∙ ap (option_and_then due_in) here) n
        ∙ (λ i. if nat_eq place n then due_in v else timed.dues n i)
        ∙ by (nat_eq place n)
        ∙ ap (option_and_then due_in) (sym (get-set spots place n v lt))
      where
        by : (b : Bool) → (if b then due_in v else option_and_then due_in (slice_get spots n)) ≡ option_and_then due_in (if b then Some v else slice_get spots n)
        by true = refl
        by false = refl

-- LAW: and where the timer of the one that is set is the same
pub timed-same : (timers : List Timer) (spots : List Spot) (place : ℕ) (v w : Spot) → place < length spots → slice_get spots place ≡ Some w → due_in v ≡ due_in w → AreTimed timers spots → AreTimed timers (slice_set spots place v)
timed-same timers spots place v w lt here same timed = record { distinct = timed.distinct; dues = at }
  where
    at : (n : ℕ) → due_of n timers ≡ option_and_then due_in (slice_get (slice_set spots place v) n)
    at n = timed.dues n ∙ by (nat_eq place n) refl ∙ ap (option_and_then due_in) (sym (get-set spots place n v lt))
      where
        by : (b : Bool) → nat_eq place n ≡ b → option_and_then due_in (slice_get spots n) ≡ option_and_then due_in (if b then Some v else slice_get spots n)
        by true e = ap (λ m. option_and_then due_in (slice_get spots m)) (sym (eqb-true place n e)) ∙ ap (option_and_then due_in) here ∙ sym same
        by false e = refl
