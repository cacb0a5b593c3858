-- Switches by the places that a table has for their numbers.
use Rattle.std.proofs.Common.{◌≡◌, ℕ, zero, suc, ◌+◌, ◌<◌, ◌≤◌, List, [], ◌∷◌, length, drop, get_or, Bool, true, false, refl, sym, ap, subst, ◌∙◌, rules, arith}
use Rattle.std.specs.Prelude.{Option, Some, None, find, nat_eq, nat_lt, option_and_then, option_map, slice_get, slice_index_or, slice_set, ◌&&◌, if◌then◌else◌}
use Rattle.ha_config.specs.declared.config.Automation.{Automation}
use Rattle.ha_config.proofs.EqualLemmas.{and_left, and_right}
use Rattle.ha_config.proofs.ListLemmas.{none-some, some-same, true-false}
use Rattle.ha_sight.specs.Sight.{Automations, switch_at}
use Rattle.switch_book.specs.Book.{AreKept, Switch, are_placed, each_from, is_place, on_there, reset, restarted, turned, with_switch}
use Rattle.switch_book.proofs.BookLemmas.{drop-past, next-item, storable-restarted, storable-turned}

eq-of : (a b : ℕ) → nat_eq a b ≡ true → a ≡ b
eq-of a b e = search (rules, e)

pub less-of : (a b : ℕ) → nat_lt a b ≡ true → a < b
less-of a b e = search (rules, e)

place-is : (n : ℕ) (o : Option ℕ) → is_place n o ≡ true → o ≡ Some n
place-is n None e = absurd (true-false (sym e))
place-is n (Some m) e = ap Some (sym (eq-of n m e))

-- ---- one by one

pub placed-next : (places : List ℕ) (s : Automations) (n : ℕ) (x : Switch) → n < length s → x ≡ get_or s n x → is_place n (slice_get places x.0) ≡ true
    → are_placed places (n + 1) (drop (n + 1) s) ≡ are_placed places n (drop n s)
placed-next places s n x lt is e =
    (let more : n + 1 ≡ suc n = omega arith in λ i. are_placed places (more i) (drop (more i) s))
    ∙ (λ i. sym e i && are_placed places (suc n) (drop (suc n) s))
    ∙ (λ i. are_placed places n (sym (next-item s n x lt is) i))

pub placed-not : (places : List ℕ) (s : Automations) (n : ℕ) (x : Switch) → n < length s → x ≡ get_or s n x → is_place n (slice_get places x.0) ≡ false → false ≡ are_placed places n (drop n s)
placed-not places s n x lt is e = (λ i. sym e i && are_placed places (suc n) (drop (suc n) s)) ∙ (λ i. are_placed places n (sym (next-item s n x lt is) i))

pub placed-end : (places : List ℕ) (s : Automations) (n : ℕ) → length s ≤ n → true ≡ are_placed places n (drop n s)
placed-end places s n past = λ i. are_placed places n (sym (drop-past n s past) i)

-- ---- who has a number

module _ (places : List ℕ) (a : ℕ) where
  -- a switch of this number has its place in the table under it
  own : (n : ℕ) (y : Switch) (s : Automations) → are_placed places n (y ∷ s) ≡ true → nat_eq y.0 a ≡ true → slice_get places a ≡ Some n
  own n y s h q =
      subst (λ m. slice_get places m ≡ Some n) (eq-of y.0 a q)
      (place-is n (slice_get places y.0) (and_left (is_place n (slice_get places y.0)) (are_placed places (suc n) s) h))

  later : (n : ℕ) (y : Switch) (s : Automations) → are_placed places n (y ∷ s) ≡ true → are_placed places (suc n) s ≡ true
  later n y s h = and_right (is_place n (slice_get places y.0)) (are_placed places (suc n) s) h

  -- at no two places
  once : (m n : ℕ) → slice_get places a ≡ Some m → slice_get places a ≡ Some n → m ≡ n
  once m n e f = some-same m n (sym e ∙ f)

  apart : (n i : ℕ) (y : Switch) (s : Automations) → are_placed places n (y ∷ s) ≡ true → slice_get places a ≡ Some (n + suc i) → nat_eq y.0 a ≡ false
  apart n i y s h at = by (nat_eq y.0 a) refl
    where
      by : (b : Bool) → nat_eq y.0 a ≡ b → nat_eq y.0 a ≡ false
      by false q = q
      by true q = absurd (let same = once n (n + suc i) (own n y s h q) at in omega (arith, same))

  pub placed-found : (s : Automations) (n i : ℕ) (x : Switch) → are_placed places n s ≡ true → slice_get places a ≡ Some (n + i) → slice_get s i ≡ Some x → nat_eq x.0 a ≡ true → find (λ (p : Switch). nat_eq p.0 a) s ≡ Some x
  placed-found [] n i x h at there e = absurd (none-some x there)
  placed-found (y ∷ s) n zero x h at there e = (λ i. if (ap (λ (p : Switch). nat_eq p.0 a) (some-same y x there) ∙ e) i then Some y else find (λ (p : Switch). nat_eq p.0 a) s) ∙ there
  placed-found (y ∷ s) n (suc k) x h at there e =
      (λ i. if apart n k y s h at i then Some y else find (λ (p : Switch). nat_eq p.0 a) s)
      ∙ placed-found s (suc n) k x (later n y s h) (at ∙ (let next : n + suc k ≡ suc n + k = omega arith in ap Some next)) there e

  pub placed-missing : (s : Automations) (n : ℕ) → are_placed places n s ≡ true → ((i : ℕ) (x : Switch) → slice_get places a ≡ Some (n + i) → slice_get s i ≡ Some x → nat_eq x.0 a ≡ false)
      → find (λ (p : Switch). nat_eq p.0 a) s ≡ None
  placed-missing [] n h apart-there = refl
  placed-missing (y ∷ s) n h apart-there =
      by (nat_eq y.0 a) refl
      (placed-missing s (suc n) (later n y s h) (λ i x at there. apart-there (suc i) x (at ∙ (let next : suc n + i ≡ n + suc i = omega arith in ap Some next)) there))
    where
      by : (b : Bool) → nat_eq y.0 a ≡ b → find (λ (p : Switch). nat_eq p.0 a) s ≡ None → find (λ (p : Switch). nat_eq p.0 a) (y ∷ s) ≡ None
      by true q rest = absurd (true-false (sym q ∙ apart-there 0 y (own n y s h q ∙ (let first : n ≡ n + 0 = omega arith in ap Some first)) refl))
      by false q rest = (λ i. if q i then Some y else find (λ (p : Switch). nat_eq p.0 a) s) ∙ rest

  -- LAW: the switch of a number is the one at its place in the table
  pub on-place : (s : Automations) → are_placed places 0 s ≡ true → option_and_then (on_there s a) (slice_get places a) ≡ switch_at s a
  on-place s h = by (slice_get places a) refl
    where
      missed : find (λ (p : Switch). nat_eq p.0 a) s ≡ None → None ≡ switch_at s a
      missed e = ap (option_map {T = Switch} {U = Bool} (λ p. p.2)) (sym e)

      at-place : (n : ℕ) → slice_get places a ≡ Some n → (o : Option Switch) → slice_get s n ≡ o → option_and_then (λ (p : Switch). if nat_eq p.0 a then Some p.2 else None) o ≡ switch_at s a
      at-place n e None q =
          missed (placed-missing s 0 h (λ i x at there. absurd (let same = once n (0 + i) e at in let here : i ≡ n = omega (arith, same) in none-some x (sym q ∙ (λ k. slice_get s (sym here k)) ∙ there))))
      at-place n e (Some x) q = tested (nat_eq x.0 a) refl
        where
          tested : (b : Bool) → nat_eq x.0 a ≡ b → (if b then Some x.2 else None) ≡ switch_at s a
          tested true r = ap (option_map {T = Switch} {U = Bool} (λ p. p.2)) (sym (placed-found s 0 n x h (e ∙ (let here : n ≡ 0 + n = omega arith in ap Some here)) q r))
          tested false r =
              missed (placed-missing s 0 h (λ i y at there. (let same = once n (0 + i) e at in let here : i ≡ n = omega (arith, same) in
              ap (λ (p : Switch). nat_eq p.0 a) (some-same y x (sym there ∙ (λ k. slice_get s (here k)) ∙ q)) ∙ r)))

      by : (o : Option ℕ) → slice_get places a ≡ o → option_and_then (on_there s a) o ≡ switch_at s a
      by None e = missed (placed-missing s 0 h (λ i x at there. absurd (none-some (0 + i) (sym e ∙ at))))
      by (Some n) e = at-place n e (slice_get s n) refl

  -- ---- one switch is set

  module _ (on : Bool) where
    -- where none has the number all are as they were
    pub turned-none : (s : Automations) → find (λ (p : Switch). nat_eq p.0 a) s ≡ None → with_switch a on s ≡ s
    turned-none [] e = refl
    turned-none (y ∷ s) e = by (nat_eq y.0 a) refl (turned-none s)
      where
        by : (b : Bool) → nat_eq y.0 a ≡ b → (find (λ (p : Switch). nat_eq p.0 a) s ≡ None → with_switch a on s ≡ s) → with_switch a on (y ∷ s) ≡ y ∷ s
        by true q rest = absurd (none-some y (sym e ∙ (λ i. if q i then Some y else find (λ (p : Switch). nat_eq p.0 a) s)))
        by false q rest = λ i. (y.0, y.1, if q i then on else y.2) ∷ rest (sym (λ k. if q k then Some y else find (λ (p : Switch). nat_eq p.0 a) s) ∙ e) i

    turned-place : (s : Automations) (n i : ℕ) (p : Switch) → are_placed places n s ≡ true → slice_get places a ≡ Some (n + i) → i < length s → p ≡ slice_index_or s i p
        → slice_set s i (turned a on p) ≡ with_switch a on s
    turned-place [] n i p h at lt is = absurd (omega (arith, lt))
    turned-place (y ∷ s) n zero p h at lt is =
        (λ i. turned a on (is i) ∷ s)
        ∙ (λ i. turned a on y ∷ sym (turned-none s (placed-missing s (suc n) (later n y s h) (λ k x also there. absurd (let same = once (n + 0) (suc n + k) at also in omega (arith, same))))) i)
    turned-place (y ∷ s) n (suc k) p h at lt is =
        (λ i. (y.0, y.1, if sym (apart n k y s h at) i then on else y.2) ∷ slice_set s k (turned a on p))
        ∙ (λ i. turned a on y ∷ turned-place s (suc n) k p (later n y s h) (at ∙ (let next : n + suc k ≡ suc n + k = omega arith in ap Some next)) (omega (arith, lt)) is i)

    item-at : (s : Automations) (k : ℕ) → k < length s → (p : Switch) × (p ≡ slice_index_or s k p)
    item-at [] k lt = absurd (omega (arith, lt))
    item-at (x ∷ s) zero lt = (x, refl)
    item-at (x ∷ s) (suc k) lt = item-at s k (omega (arith, lt))

    past-end : (s : Automations) (k : ℕ) → length s ≤ k → slice_get s k ≡ None
    past-end [] k le = refl
    past-end (x ∷ s) zero le = absurd (omega (arith, le))
    past-end (x ∷ s) (suc k) le = past-end s k (omega (arith, le))

    -- LAW: where the one at its place in the table is set, the switch of the number is
    pub turned-at : (s new : Automations) (n : ℕ) → are_placed places 0 s ≡ true → slice_get places a ≡ Some n → (nat_lt n (length s) ≡ false → new ≡ s)
        → (nat_lt n (length s) ≡ true → (p : Switch) → p ≡ slice_index_or s n p → new ≡ slice_set s n (turned a on p)) → new ≡ with_switch a on s
    turned-at s new n h e past within = by (nat_lt n (length s)) refl
      where
        less : nat_lt n (length s) ≡ true → n < length s
        less q = search (rules, q)

        beyond : nat_lt n (length s) ≡ false → length s ≤ n
        beyond q = search (rules, q)

        by : (b : Bool) → nat_lt n (length s) ≡ b → new ≡ with_switch a on s
        by true q =
            let one = item-at s n (less q) in
            within q one.0 one.1 ∙ turned-place s 0 n one.0 h (e ∙ (let here : n ≡ 0 + n = omega arith in ap Some here)) (less q) one.1
        by false q =
            past q ∙ sym (turned-none s (placed-missing s 0 h (λ i x at there. absurd (let same = once n (0 + i) e at in let here : i ≡ n = omega (arith, same) in
            none-some x (sym (past-end s n (beyond q)) ∙ (λ k. slice_get s (sym here k)) ∙ there)))))

    pub turned-missing : (s : Automations) → are_placed places 0 s ≡ true → slice_get places a ≡ None → s ≡ with_switch a on s
    turned-missing s h e = sym (turned-none s (placed-missing s 0 h (λ i x at there. absurd (none-some (0 + i) (sym e ∙ at)))))

-- ---- numbers stay where switches change

placed-turned : (places : List ℕ) (a : ℕ) (on : Bool) (n : ℕ) (s : Automations) → are_placed places n (with_switch a on s) ≡ are_placed places n s
placed-turned places a on n [] = refl
placed-turned places a on n (p ∷ s) = ap (λ b. is_place n (slice_get places p.0) && b) (placed-turned places a on (suc n) s)

placed-reset : (places : List ℕ) (all : List Automation) (at n : ℕ) (s : Automations) → are_placed places n (each_from (reset all) at s) ≡ are_placed places n s
placed-reset places all at n [] = refl
placed-reset places all at n (p ∷ s) = ap (λ b. is_place n (slice_get places p.0) && b) (placed-reset places all (suc at) (suc n) s)

pub kept-turned : (a : ℕ) (on : Bool) (s : Automations) (places : List ℕ) → AreKept s places → AreKept (with_switch a on s) places
kept-turned a on s places h = record { storable = storable-turned a on s h.storable; placed = placed-turned places a on 0 s ∙ h.placed }

pub kept-restarted : (all : List Automation) (s : Automations) (places : List ℕ) → AreKept s places → AreKept (restarted all s) places
kept-restarted all s places h = record { storable = storable-restarted all s h.storable; placed = placed-reset places all 0 0 s ∙ h.placed }
