-- A number that left the range stays out of it, whatever digits follow.
use Rattle.std.proofs.Common.{◌≡◌, ◌∙◌, inl, inr, ℕ, ◌+◌, ◌*◌, ◌%◌, ◌^◌, ◌<◌, ◌≤◌, true, false, List, [], ◌∷◌, ◌++◌, length, Option, Some, None, option_and_then, append_assoc, refl, sym, ap, arith}
use Rattle.std.specs.Prelude.{is_none, nat_eq, ◌==◌}
use Rattle.std.specs.Char.{is_ascii_digit}
use Rattle.std.specs.List.{list_all}
use Rattle.std.specs.Str.Parse.{digits_value}
use Rattle.std.proofs.Math.Nat.{one-le-pow, mul-le-mul_right}
use Rattle.std.proofs.lemmas.Bool.{and_parts, cases_lt, eqb-true}
use Rattle.std.proofs.lemmas.Bool.Decides.{nat_tests}
use Rattle.std.proofs.lemmas.List.{length-append}
use Rattle.std.proofs.lemmas.Nat.{pow-add}
use Rattle.ha_value.specs.declared.value.Num.{Num}
use Rattle.ha_value.specs.Lists.{some_all, before_first, after_first}
use Rattle.ha_value.specs.Numbers.{nearest, number_from, kept_in_range, read_number, signed}
use Rattle.ha_value.proofs.NumberLemmas.{nearest-IsNear}
use Rattle.ha_value.proofs.DigitLemmas.{value-append, whole-some, whole-none, fixed-some, fixed-no_places, fixed-no_units}
use Rattle.reading.proofs.Basics.{chosen_is}
use Rattle.tpl_parse.proofs.ZeroPlaces.{nearest_ten}
use Rattle.tpl_parse.proofs.CutNumbers.{StaysOut}

-- ---- values

nearest_grows : (n m d : ℕ) → 0 < d → n ≤ m → nearest n d ≤ nearest m d
nearest_grows n m d some le = elim (cases_lt (nearest m d) (nearest n d)) [
  | inr h ↦ h
  | inl h ↦
      let p = nearest-IsNear n d some in
      let q = nearest-IsNear m d some in
      let step : (nearest m d + 1) * d ≤ nearest n d * d = mul-le-mul_right d (omega arith) in
      let one : (nearest m d + 1) * d ≡ nearest m d * d + d = omega arith in
      let here : 2 * (nearest n d * d) ≡ 2 * n + d = omega (arith, p.below, q.above) in
      let there : 2 * m ≡ 2 * (nearest m d * d) + d = omega (arith, p.below, q.above) in
      let even : nearest n d % 2 ≡ 0 = p.even_below here in
      let even' : nearest m d % 2 ≡ 0 = q.even_above there in
      elim (cases_lt (nearest m d + 1) (nearest n d)) [
        | inl more ↦
            let two : (nearest m d + 2) * d ≤ nearest n d * d = mul-le-mul_right d (omega arith) in
            let twice : (nearest m d + 2) * d ≡ nearest m d * d + 2 * d = omega arith in
            absurd (omega (arith, p.below, q.above))
        | inr less ↦ absurd (omega (arith, even, even'))
      ]
]

abbrev places_of : List ℕ → ℕ
places_of p = nearest (digits_value 10 p * 1_000_000) (10 ^ length p)

places_step : (p : List ℕ) (z : ℕ) → places_of p ≤ places_of (p ++ z ∷ [])
places_step p z =
    let joined : digits_value 10 (p ++ z ∷ []) ≡ digits_value 10 p * 10 + digits_value 10 (z ∷ []) = value-append p (z ∷ []) ∙ omega arith in
    let power : 10 ^ length (p ++ z ∷ []) ≡ 10 ^ length p * 10 = ap (λ x. 10 ^ x) (length-append p (z ∷ [])) ∙ pow-add 10 (length p) 1 in
    let some : 0 < 10 ^ length p = one-le-pow (length p) 10 (omega arith) in
    let grows : nearest (digits_value 10 p * 1_000_000 * 10) (10 ^ length p * 10) ≤ nearest (digits_value 10 (p ++ z ∷ []) * 1_000_000) (10 ^ length p * 10) =
    nearest_grows (digits_value 10 p * 1_000_000 * 10) (digits_value 10 (p ++ z ∷ []) * 1_000_000) (10 ^ length p * 10) (omega (arith, some)) (omega (arith, joined)) in
    let left : nearest (digits_value 10 p * 1_000_000 * 10) (10 ^ length p * 10) ≡ places_of p = nearest_ten (digits_value 10 p * 1_000_000) (10 ^ length p) some in
    let right : places_of (p ++ z ∷ []) ≡ nearest (digits_value 10 (p ++ z ∷ []) * 1_000_000) (10 ^ length p * 10) = ap (λ x. nearest (digits_value 10 (p ++ z ∷ []) * 1_000_000) x) power in
    omega (arith, grows, left, right)

append_empty : (p : List ℕ) → p ++ [] ≡ p
append_empty [] = refl
append_empty (x ∷ p) = ap (λ (t : List ℕ). x ∷ t) (append_empty p)

places_grow : (p q : List ℕ) → places_of p ≤ places_of (p ++ q)
places_grow p [] = omega (arith, ap places_of (append_empty p))
places_grow p (z ∷ q) =
    let more = places_grow (p ++ z ∷ []) q in
    omega (arith, places_step p z, more, ap places_of (append_assoc p (z ∷ []) q))

-- ---- digits

all_front : (p q : List ℕ) → list_all is_ascii_digit (p ++ q) ≡ true → list_all is_ascii_digit p ≡ true
all_front [] q h = refl
all_front (x ∷ p) q h = let k = and_parts (is_ascii_digit x) (list_all is_ascii_digit (p ++ q)) h in rw k.0 (all_front p q k.1)

value_front : (p q : List ℕ) → digits_value 10 p ≤ digits_value 10 (p ++ q)
value_front p q =
    let more : 1 * digits_value 10 p ≤ 10 ^ length q * digits_value 10 p = mul-le-mul_right (digits_value 10 p) (one-le-pow (length q) 10 (omega arith)) in
    omega (arith, value-append p q, more)

abbrev whole_number : List ℕ → Option Num
whole_number w = option_and_then kept_in_range (number_from false w None)

abbrev fixed_number : List ℕ → List ℕ → Option Num
fixed_number w p = option_and_then kept_in_range (number_from false w (Some p))

-- ---- a number with no dot yet

units_of : (w : List ℕ) (o : Option (List ℕ)) → is_none (option_and_then kept_in_range (number_from false w o)) ≡ false → (some_all is_ascii_digit w ≡ true) × (digits_value 10 w ≤ 1_000_000_000_000)
units_of w o h = elim (chosen_is (some_all is_ascii_digit w)) [
  | inr k ↦ absurd (let e = none_by o (λ both. let v = both.0 in cc) in let u = rw e at h in cc)
  | inl k ↦ elim (cases_lt 1_000_000_000_000 (digits_value 10 w)) [
    | inl more ↦ absurd (let e = none_by o (λ both. omega (arith, more, both.1)) in let u = rw e at h in cc)
    | inr le ↦ (k, le)
  ]
] where
  none_by : (o : Option (List ℕ)) → ((some_all is_ascii_digit w ≡ true) × (digits_value 10 w ≤ 1_000_000_000_000) → ⊥) → option_and_then kept_in_range (number_from false w o) ≡ None
  none_by None never = whole-none false w never
  none_by (Some p) never = fixed-no_units false w p never

whole_stays : (e : ℕ) (p q : List ℕ) (o : Option (List ℕ)) → is_none (option_and_then kept_in_range (number_from false (e ∷ (p ++ q)) o)) ≡ false → is_none (whole_number (e ∷ p)) ≡ false
whole_stays e p q o h =
    let u = units_of (e ∷ (p ++ q)) o h in
    let s = whole-some false (e ∷ p) (all_front (e ∷ p) q u.0) (omega (arith, u.1, value_front (e ∷ p) q)) in
    rw s refl

-- ---- a number with a dot

kept_at_most : (n : ℕ) → is_none (kept_in_range (Num.Fixed (signed false n))) ≡ false → n ≤ 1_000_000_000_000_000_000
kept_at_most n h = elim (cases_lt 1_000_000_000_000_000_000 n) [
  | inl more ↦ absurd (let e : kept_in_range (Num.Fixed (signed false n)) ≡ None = grind (arith, nat_tests) in let u = rw e at h in cc)
  | inr le ↦ le
]

at_most_kept : (n : ℕ) → n ≤ 1_000_000_000_000_000_000 → is_none (kept_in_range (Num.Fixed (signed false n))) ≡ false
at_most_kept n h = let k : kept_in_range (Num.Fixed (signed false n)) ≡ Some (Num.Fixed (signed false n)) = grind (arith, nat_tests) in rw k refl

some_front : (z : ℕ) (p q : List ℕ) → some_all is_ascii_digit ((z ∷ p) ++ q) ≡ true → some_all is_ascii_digit (z ∷ p) ≡ true
some_front z p q h = all_front (z ∷ p) q h

fixed_stays : (w : List ℕ) (z : ℕ) (p q : List ℕ) → is_none (fixed_number w ((z ∷ p) ++ q)) ≡ false → is_none (fixed_number w (z ∷ p)) ≡ false
fixed_stays w z p q h =
    let u = units_of w (Some ((z ∷ p) ++ q)) h in
    elim (chosen_is (some_all is_ascii_digit ((z ∷ p) ++ q))) [
      | inr k ↦ absurd (let e = fixed-no_places false w ((z ∷ p) ++ q) (λ t. cc) in let v = rw e at h in cc)
      | inl k ↦
          let whole = fixed-some false w ((z ∷ p) ++ q) u.0 k in
          let front = fixed-some false w (z ∷ p) u.0 (some_front z p q k) in
          let le = kept_at_most (digits_value 10 w * 1_000_000 + places_of ((z ∷ p) ++ q)) (rw whole at h) in
          rw front (at_most_kept (digits_value 10 w * 1_000_000 + places_of (z ∷ p)) (omega (arith, le, places_grow (z ∷ p) q)))
    ]

-- ---- the text

-- up to the first dot, and from it on
data Dots (p : List ℕ) : Type 0 where
  no_dot : ((q : List ℕ) → before_first 46 (p ++ q) ≡ p ++ before_first 46 q) → ((q : List ℕ) → after_first 46 (p ++ q) ≡ after_first 46 q) → Dots p
  one_dot : (w v : List ℕ) → p ≡ w ++ 46 ∷ v → ((q : List ℕ) → before_first 46 (p ++ q) ≡ w) → ((q : List ℕ) → after_first 46 (p ++ q) ≡ Some (v ++ q)) → Dots p

dots_more : (x : ℕ) (p : List ℕ) → nat_eq x 46 ≡ false → Dots p → Dots (x ∷ p)
dots_more x p h (no_dot b a) = no_dot (λ q. rw h (ap (λ (t : List ℕ). x ∷ t) (b q))) (λ q. rw h (a q))
dots_more x p h (one_dot w v is b a) = one_dot (x ∷ w) v (ap (λ (t : List ℕ). x ∷ t) is) (λ q. rw h (ap (λ (t : List ℕ). x ∷ t) (b q))) (λ q. rw h (a q))

dots_of : (p : List ℕ) → Dots p
dots_of [] = no_dot (λ q. refl) (λ q. refl)
dots_of (x ∷ p) = elim (chosen_is (nat_eq x 46)) [
  | inl h ↦ one_dot [] p (ap (λ (z : ℕ). z ∷ p) (eqb-true x 46 h)) (λ q. rw h refl) (λ q. rw h refl)
  | inr h ↦ dots_more x p h (dots_of p)
]

not_minus : (d : ℕ) → is_ascii_digit d ≡ true → nat_eq d 45 ≡ false
not_minus d h = grind (arith, nat_tests)

not_plus : (d : ℕ) → is_ascii_digit d ≡ true → nat_eq d 43 ≡ false
not_plus d h = grind (arith, nat_tests)

read_is : (e : ℕ) (p : List ℕ) → is_ascii_digit e ≡ true → read_number (e ∷ p) ≡ option_and_then kept_in_range (number_from false (before_first 46 (e ∷ p)) (after_first 46 (e ∷ p)))
unfolding read_number
read_is e p h = rw (not_minus e h, not_plus e h) refl

empty_end : (u w : List ℕ) (l : ℕ) → w ++ 46 ∷ [] ≡ u ++ l ∷ [] → l ≡ 46
empty_end [] [] l e = let h : 46 ≡ l = cc in sym h
empty_end [] (x ∷ w) l e = absurd (omega (arith, ap length e, length-append w (46 ∷ [])))
empty_end (y ∷ u) [] l e = absurd (omega (arith, ap length e, length-append u (l ∷ [])))
empty_end (y ∷ u) (x ∷ w) l e = empty_end u w l (ap (λ (t : List ℕ). tail_of t) e) where
  tail_of : List ℕ → List ℕ
  tail_of [] = []
  tail_of (z ∷ t) = t

module _ (e : ℕ) (p u q : List ℕ) (l : ℕ) (digit : is_ascii_digit e ≡ true) (ends : e ∷ p ≡ u ++ l ∷ []) (bare : (l == 46) ≡ false) where
  stays_by : Dots (e ∷ p) → is_none (read_number (e ∷ (p ++ q))) ≡ false → is_none (read_number (e ∷ p)) ≡ false
  stays_by (no_dot b a) h =
      let all : before_first 46 (e ∷ p) ≡ e ∷ p = ap (λ (t : List ℕ). before_first 46 t) (sym (append_empty (e ∷ p))) ∙ b [] ∙ append_empty (e ∷ p) in
      let none : after_first 46 (e ∷ p) ≡ None = ap (λ (t : List ℕ). after_first 46 t) (sym (append_empty (e ∷ p))) ∙ a [] in
      let whole : read_number (e ∷ (p ++ q)) ≡ option_and_then kept_in_range (number_from false (e ∷ (p ++ before_first 46 q)) (after_first 46 q)) = read_is e (p ++ q) digit ∙ ap (λ (w : List ℕ). option_and_then kept_in_range (number_from false w (after_first 46 (e ∷ (p ++ q))))) (b q) ∙ ap (λ (o : Option (List ℕ)). option_and_then kept_in_range (number_from false (e ∷ (p ++ before_first 46 q)) o)) (a q) in
      let front : read_number (e ∷ p) ≡ whole_number (e ∷ p) = read_is e p digit ∙ ap (λ (w : List ℕ). option_and_then kept_in_range (number_from false w (after_first 46 (e ∷ p)))) all ∙ ap (λ (o : Option (List ℕ)). option_and_then kept_in_range (number_from false (e ∷ p) o)) none in
      ap (λ (o : Option Num). is_none o) front ∙ whole_stays e p (before_first 46 q) (after_first 46 q) (ap (λ (o : Option Num). is_none o) (sym whole) ∙ h)
  stays_by (one_dot w [] is b a) h = absurd (let dot : l ≡ 46 = empty_end u w l (sym is ∙ ends) in let k = rw dot at bare in cc)
  stays_by (one_dot w (z ∷ v) is b a) h =
      let read_of : (t : List ℕ) → read_number (e ∷ (p ++ t)) ≡ fixed_number w ((z ∷ v) ++ t) = λ t.
      read_is e (p ++ t) digit ∙ ap (λ (x : List ℕ). option_and_then kept_in_range (number_from false x (after_first 46 (e ∷ (p ++ t))))) (b t) ∙ ap (λ (o : Option (List ℕ)). option_and_then kept_in_range (number_from false w o)) (a t) in
      let front : read_number (e ∷ p) ≡ fixed_number w (z ∷ v) = ap (λ (t : List ℕ). read_number (e ∷ t)) (sym (append_empty p)) ∙ read_of [] ∙ ap (λ (t : List ℕ). fixed_number w t) (append_empty (z ∷ v)) in
      ap (λ (o : Option Num). is_none o) front ∙ fixed_stays w z v q (ap (λ (o : Option Num). is_none o) (sym (read_of q)) ∙ h)

  stays_read : is_none (read_number (e ∷ (p ++ q))) ≡ false → is_none (read_number (e ∷ p)) ≡ true → ⊥
  stays_read h none = let k = stays_by (dots_of (e ∷ p)) h in cc

pub stays_out : StaysOut
stays_out e p u q l digit ends bare h none = stays_read e p u q l digit ends bare h none
