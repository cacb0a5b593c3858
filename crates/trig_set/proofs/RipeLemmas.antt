-- Holds that are over, one after the other.
use Rattle.std.proofs.Common.{◌≡◌, ℕ, zero, suc, ◌<◌, List, [], ◌∷◌, length, map, Bool, true, false, refl, sym, ap, subst, ◌∙◌, arith}
use Rattle.std.specs.Prelude.{Option, Some, None, All, nat_eq, nat_le, slice_get, slice_set, option_map, option_and_then, if◌then◌else◌}
use Rattle.std.specs.Option.{option_map_or}
use Rattle.std.proofs.lemmas.Bool.Decides.{nat_tests}
use Rattle.std.proofs.lemmas.List.Elements.{All-head, All-tail}
use Rattle.timer_queue.specs.Timers.{Timer, due_of, distinct_keys, first_due, after_due}
use Rattle.timer_queue.proofs.TimerLemmas.{due_of-rest, distinct_rest}
use Rattle.trig_set.specs.declared.spot.Held.{Held}
use Rattle.trig_set.specs.declared.spot.Spot.{Spot}
use Rattle.trig_set.specs.Kept.{AreTimed, due_in, taken, taken_by, taken_at, ripened, ripened_by}
use Rattle.trig_set.proofs.SpotLemmas.{map-set, timed-set}

-- what is known of a timer that comes
pub record Comes (to n : ℕ) (timers : List Timer) : Type 0 where
  pub due : ℕ
  pub is : due_of n timers ≡ Some due
  pub over : nat_le due to ≡ true
  pub rest : (k : ℕ) → due_of k (after_due to timers) ≡ (if nat_eq n k then None else due_of k timers)
  pub distinct : distinct_keys (after_due to timers) ≡ true

eq-self : (n : ℕ) → nat_eq n n ≡ true
eq-self n = grind (arith, nat_tests)

pub comes : (to n : ℕ) (timers : List Timer) → first_due to timers ≡ Some n → distinct_keys timers ≡ true → Comes to n timers
comes to n [] h d = absurd (let bad : ◌≡◌ {A = Option ℕ} None (Some n) = h in cc)
comes to n (x ∷ xs) h d = by (nat_le x.0 to) refl h
  where
    by : (b : Bool) → nat_le x.0 to ≡ b → (if b then Some x.1 else None) ≡ Some n → Comes to n (x ∷ xs)
    by true q k =
        let e : x.1 ≡ n = cc in
        record {
          due = x.0;
          is = (λ i. if (ap (λ m. nat_eq m n) e ∙ eq-self n) i then Some x.0 else due_of n xs);
          over = q;
          rest = λ m. (λ i. due_of m (if q i then xs else x ∷ xs)) ∙ sym (due_of-rest m x xs d) ∙ (λ i. if nat_eq (e i) m then None else due_of m (x ∷ xs));
          distinct = (λ i. distinct_keys (if q i then xs else x ∷ xs)) ∙ distinct_rest x xs d;
        }
    by false q k = absurd (let bad : ◌≡◌ {A = Option ℕ} None (Some n) = k in cc)

-- a spot with a hold of that due
found : (o : Option Spot) (d : ℕ) → option_and_then due_in o ≡ Some d → (s : Spot) × (h : Held) × (o ≡ Some s) × (s.hold ≡ Some h) × (h.due ≡ d)
found None d h = absurd (let bad : ◌≡◌ {A = Option ℕ} None (Some d) = h in cc)
found (Some s) d h = by s.hold refl h
  where
    by : (o : Option Held) → s.hold ≡ o → option_map (λ (h : Held). h.due) o ≡ Some d → (r : Spot) × (h : Held) × (◌≡◌ {A = Option Spot} (Some s) (Some r)) × (r.hold ≡ Some h) × (h.due ≡ d)
    by None q k = absurd (let bad : ◌≡◌ {A = Option ℕ} None (Some d) = k in cc)
    by (Some h) q k = (let e : h.due ≡ d = cc in (s, h, refl, q, e))

place-within : {X : Type 0} (xs : List X) (n : ℕ) (x : X) → slice_get xs n ≡ Some x → n < length xs
place-within {X = X} [] n x h = absurd (let bad : ◌≡◌ {A = Option X} None (Some x) = h in cc)
place-within (y ∷ ys) zero x h = omega arith
place-within (y ∷ ys) (suc n) x h = omega (arith, place-within ys n x h)

ripened-taken : (to : ℕ) (s : Spot) (h : Held) → s.hold ≡ Some h → nat_le h.due to ≡ true → ripened to (taken s) ≡ ripened to s
ripened-taken to s h q over =
    (λ i. ripened to (taken_by s (q i)))
    ∙ sym ((λ i. ripened_by to s (q i)) ∙ (λ i. if over i then record s { hold = None; fired = Some h.value } else s))

due-taken : (s : Spot) (h : Held) → s.hold ≡ Some h → ◌≡◌ None (due_in (taken s))
due-taken s h q = sym (λ i. due_in (taken_by s (q i)))

-- LAW: a timer that comes takes the hold of its spot out
pub ripe-step : (to n : ℕ) (timers : List Timer) (spots : List Spot) → first_due to timers ≡ Some n → AreTimed timers spots
    → (map (ripened to) (taken_at n spots) ≡ map (ripened to) spots) × AreTimed (after_due to timers) (taken_at n spots)
ripe-step to n timers spots first timed =
    let c = comes to n timers first timed.distinct in
    let f = found (slice_get spots n) c.due (sym (timed.dues n) ∙ c.is) in
    let s = f.0 in
    let at : slice_get spots n ≡ Some s = f.2 in
    let over : nat_le f.1.due to ≡ true = ap (λ d. nat_le d to) f.4 ∙ c.over in
    let set : taken_at n spots ≡ slice_set spots n (taken s) = (λ i. option_map_or (λ r. slice_set spots n (taken r)) (at i) spots) in (
      ap (map (ripened to)) set ∙ map-set (ripened to) spots n (taken s) s at (ripened-taken to s f.1 f.3 over),
      subst (λ l. AreTimed (after_due to timers) l) (sym set)
          (timed-set timers (after_due to timers) spots n (taken s) s (place-within spots n s at) at
          (λ e m. c.rest m ∙ (λ i. if nat_eq n m then due-taken s f.1 f.3 i else due_of m timers)) (λ d. c.distinct) timed),
    )

-- where no timer comes, each hold is left
pub none-due : (to : ℕ) (timers : List Timer) → All (λ t. to < t.0) timers → (n d : ℕ) → due_of n timers ≡ Some d → to < d
none-due to [] all n d h = absurd (let bad : ◌≡◌ {A = Option ℕ} None (Some d) = h in cc)
none-due to (x ∷ xs) all n d h = by (nat_eq x.1 n) h (none-due to xs (All-tail (λ t. to < t.0) x xs all) n d)
  where
    by : (b : Bool) → (if b then Some x.0 else due_of n xs) ≡ Some d → (due_of n xs ≡ Some d → to < d) → to < d
    by true k rest = (let e : x.0 ≡ d = cc in omega (arith, e, All-head (λ t. to < t.0) x xs all))
    by false k rest = rest k

spot-left : (to : ℕ) (s : Spot) → ((d : ℕ) → due_in s ≡ Some d → to < d) → ripened to s ≡ s
spot-left to s far = by s.hold refl
  where
    by : (o : Option Held) → s.hold ≡ o → ripened_by to s o ≡ s
    by None q = refl
    by (Some h) q =
        let late = far h.due (ap (option_map (λ (h : Held). h.due)) q) in
        let not-over : nat_le h.due to ≡ false = grind (arith, nat_tests, late) in
        (λ i. if not-over i then record s { hold = None; fired = Some h.value } else s)

all-left : (to : ℕ) (spots : List Spot) → ((n d : ℕ) → option_and_then due_in (slice_get spots n) ≡ Some d → to < d) → map (ripened to) spots ≡ spots
all-left to [] far = refl
all-left to (s ∷ ss) far = (λ i. spot-left to s (far 0) i ∷ all-left to ss (λ n d h. far (suc n) d h) i)

-- LAW: where each due comes later, no hold is over
pub none-ripens : (to : ℕ) (timers : List Timer) (spots : List Spot) → ((n d : ℕ) → due_of n timers ≡ Some d → to < d) → AreTimed timers spots → map (ripened to) spots ≡ spots
none-ripens to timers spots later timed = all-left to spots (λ n d h. later n d (timed.dues n ∙ h))

-- LAW: and so where no timer comes
pub ripe-end : (to : ℕ) (timers : List Timer) (spots : List Spot) → All (λ t. to < t.0) timers → AreTimed timers spots → map (ripened to) spots ≡ spots
ripe-end to timers spots all timed = none-ripens to timers spots (none-due to timers all) timed

pub none-first : (to : ℕ) (timers : List Timer) → first_due to timers ≡ None → after_due to timers ≡ timers
none-first to [] h = refl
none-first to (x ∷ xs) h = by (nat_le x.0 to) h
  where
    by : (b : Bool) → ◌≡◌ {A = Option ℕ} (if b then Some x.1 else None) None → (if b then xs else x ∷ xs) ≡ x ∷ xs
    by true k = absurd (let bad : ◌≡◌ {A = Option ℕ} (Some x.1) None = k in cc)
    by false k = refl
