-- One owner more among those that are attached, or one less; and the owners that automations are.
use Rattle.std.proofs.Common.{◌≡◌, ℕ, zero, suc, ◌+◌, ◌<◌, ◌≤◌, inl, inr, List, [], ◌∷◌, ◌++◌, length, filter, Bool, true, false, refl, sym, ap, ◌∙◌, rules, arith}
use Rattle.std.specs.Prelude.{◌⊎◌, Option, Some, None, not, nat_eq, nat_lt, flat_map, slice_get, if◌then◌else◌}
use Rattle.std.specs.List.{enumerate_from}
use Rattle.ha_config.specs.declared.config.Automation.{Automation}
use Rattle.ha_past.specs.Firings.{Owner, owner_named, placed, without_owner}
use Rattle.engine_parts.specs.Owners.{AreAscending, AreBelow, is_automation}
use Rattle.engine_parts.specs.Runs.{first_wait}

less-of : (a b : ℕ) → nat_lt a b ≡ true → a < b
less-of a b e = search (rules, e)

most-of : (a b : ℕ) → nat_lt a b ≡ false → b ≤ a
most-of a b e = search (rules, e)

pub eq-of : (a b : ℕ) → nat_eq a b ≡ true → a ≡ b
eq-of a b e = search (rules, e)

pub eq-self : (a : ℕ) → nat_eq a a ≡ true
eq-self a = search rules

pub apart-of : (a b : ℕ) → (a ≡ b → ⊥) → nat_eq a b ≡ false
apart-of a b h = search (rules, h)

is-less : (a b : ℕ) → a < b → nat_lt a b ≡ true
is-less a b h = search (rules, h)

not-less : (a b : ℕ) → b ≤ a → nat_lt a b ≡ false
not-less a b h = search (rules, h)

differ-of : (a b : ℕ) → nat_eq a b ≡ false → a ≡ b → ⊥
differ-of a b e same = (let self : nat_eq a b ≡ true = (λ i. nat_eq a (sym same i)) ∙ eq-self a in (let bad : ◌≡◌ {A = Bool} true false = sym self ∙ e in cc))

-- ---- one more

-- LAW: the other owners are named as before
pub named-placed : (o : Owner) (p : ℕ) (os : List Owner) → nat_eq o.owner p ≡ false → owner_named p (placed o os) ≡ owner_named p os
named-placed o p [] h = (λ i. if h i then Some o else None)
named-placed o p (x ∷ xs) h = by (nat_lt o.owner x.owner) (named-placed o p xs h)
  where
    by : (b : Bool) → owner_named p (placed o xs) ≡ owner_named p xs → owner_named p (if b then o ∷ x ∷ xs else x ∷ placed o xs) ≡ (if nat_eq x.owner p then Some x else owner_named p xs)
    by true e = (λ i. if h i then Some o else (if nat_eq x.owner p then Some x else owner_named p xs))
    by false e = (λ i. if nat_eq x.owner p then Some x else e i)

-- LAW: they ascend, and are below what they are below
pub ascend-placed : (o : Owner) (n : ℕ) (os : List Owner) → n ≤ o.owner → owner_named o.owner os ≡ None → AreAscending n os → AreAscending n (placed o os)
ascend-placed o n [] le none h = (le, tt)
ascend-placed o n (x ∷ xs) le none h = by (nat_lt o.owner x.owner) refl (nat_eq x.owner o.owner) refl none (ascend-placed o (suc x.owner) xs)
  where
    by : (b : Bool) → nat_lt o.owner x.owner ≡ b → (c : Bool) → nat_eq x.owner o.owner ≡ c → (if c then Some x else owner_named o.owner xs) ≡ None
        → (suc x.owner ≤ o.owner → owner_named o.owner xs ≡ None → AreAscending (suc x.owner) xs → AreAscending (suc x.owner) (placed o xs)) → AreAscending n (if b then o ∷ x ∷ xs else x ∷ placed o xs)
    by true e c f g rec = (le, (omega (arith, less-of o.owner x.owner e), h.1))
    by false e true f g rec = absurd (let bad : ◌≡◌ {A = Option Owner} (Some x) None = g in cc)
    by false e false f g rec = (h.0, rec (above x.owner o.owner (most-of o.owner x.owner e) (differ-of x.owner o.owner f)) g h.1)
      where
        above : (a b : ℕ) → a ≤ b → (a ≡ b → ⊥) → suc a ≤ b
        above a b le apart = search (rules, le, apart)

pub below-placed : (o : Owner) (n : ℕ) (os : List Owner) → o.owner < n → AreBelow n os → AreBelow n (placed o os)
below-placed o n [] lt h = (lt, tt)
below-placed o n (x ∷ xs) lt h = by (nat_lt o.owner x.owner) (below-placed o n xs lt h.1)
  where
    by : (b : Bool) → AreBelow n (placed o xs) → AreBelow n (if b then o ∷ x ∷ xs else x ∷ placed o xs)
    by true rest = (lt, h)
    by false rest = (h.0, rest)

none-high : (n : ℕ) (os : List Owner) → first_wait ≤ n → AreAscending n os → filter is_automation os ≡ []
none-high n [] le h = refl
none-high n (x ∷ xs) le h = (λ i. if not-less x.owner first_wait (omega (arith, le, h.0)) i then x ∷ filter is_automation xs else filter is_automation xs) ∙ none-high (suc x.owner) xs (omega (arith, le, h.0)) h.1

-- LAW: an automation more
pub automations-placed : (o : Owner) (n : ℕ) (os : List Owner) → AreAscending n os → o.owner < first_wait → filter is_automation (placed o os) ≡ placed o (filter is_automation os)
automations-placed o n [] h low = (λ i. if is-less o.owner first_wait low i then o ∷ [] else [])
automations-placed o n (x ∷ xs) h low = by (nat_lt o.owner x.owner) refl (is_automation x) refl (automations-placed o (suc x.owner) xs h.1 low)
  where
    by : (b : Bool) → nat_lt o.owner x.owner ≡ b → (c : Bool) → is_automation x ≡ c → filter is_automation (placed o xs) ≡ placed o (filter is_automation xs)
        → filter is_automation (if b then o ∷ x ∷ xs else x ∷ placed o xs) ≡ placed o (if c then x ∷ filter is_automation xs else filter is_automation xs)
    by true e true f rest =
        (λ i. if is-less o.owner first_wait low i then o ∷ (if f i then x ∷ filter is_automation xs else filter is_automation xs) else (if is_automation x then x ∷ filter is_automation xs else filter is_automation xs))
        ∙ sym (λ i. if e i then o ∷ x ∷ filter is_automation xs else x ∷ placed o (filter is_automation xs))
    by true e false f rest =
        (λ i. if is-less o.owner first_wait low i then o ∷ (if f i then x ∷ filter is_automation xs else filter is_automation xs) else (if is_automation x then x ∷ filter is_automation xs else filter is_automation xs))
        ∙ (λ i. o ∷ gone i) ∙ sym (λ i. placed o (gone i))
      where
        gone : filter is_automation xs ≡ []
        gone = none-high (suc x.owner) xs (omega (arith, most-of x.owner first_wait f)) h.1
    by false e true f rest =
        (λ i. if f i then x ∷ rest i else filter is_automation (placed o xs))
        ∙ sym (λ i. if e i then o ∷ x ∷ filter is_automation xs else x ∷ placed o (filter is_automation xs))
    by false e false f rest = absurd (omega (arith, most-of o.owner x.owner e, most-of x.owner first_wait f, low))

-- ---- one less

filter-twice : {X : Type 0} (p q : X → Bool) (xs : List X) → filter p (filter q xs) ≡ filter q (filter p xs)
filter-twice p q [] = refl
filter-twice {X} p q (x ∷ xs) = by (p x) refl (q x) refl (filter-twice p q xs)
  where
    by : (b : Bool) → p x ≡ b → (c : Bool) → q x ≡ c → filter p (filter q xs) ≡ filter q (filter p xs)
        → filter p (if c then x ∷ filter q xs else filter q xs) ≡ filter q (if b then x ∷ filter p xs else filter p xs)
    by true e true f rest = (λ i. if e i then x ∷ rest i else rest i) ∙ sym (λ i. if f i then x ∷ filter q (filter p xs) else filter q (filter p xs))
    by true e false f rest = rest ∙ sym (λ i. if f i then x ∷ filter q (filter p xs) else filter q (filter p xs))
    by false e true f rest = (λ i. if e i then x ∷ filter p (filter q xs) else filter p (filter q xs)) ∙ rest
    by false e false f rest = rest

-- LAW: an owner less
pub automations-lost : (a : ℕ) (os : List Owner) → filter is_automation (without_owner a os) ≡ without_owner a (filter is_automation os)
automations-lost a os = filter-twice is_automation (λ o. not (nat_eq o.owner a)) os

-- LAW: an automation is named among the automations
pub automation-named : (a : ℕ) (os : List Owner) → a < first_wait → owner_named a os ≡ owner_named a (filter is_automation os)
automation-named a [] lt = refl
automation-named a (x ∷ xs) lt = by (nat_eq x.owner a) refl (is_automation x) refl (automation-named a xs lt)
  where
    by : (b : Bool) → nat_eq x.owner a ≡ b → (c : Bool) → is_automation x ≡ c → owner_named a xs ≡ owner_named a (filter is_automation xs)
        → (if b then Some x else owner_named a xs) ≡ owner_named a (if c then x ∷ filter is_automation xs else filter is_automation xs)
    by true e true f rest = sym (λ i. if e i then Some x else owner_named a (filter is_automation xs))
    by true e false f rest = absurd (omega (arith, eq-of x.owner a e, most-of x.owner first_wait f, lt))
    by false e true f rest = rest ∙ sym (λ i. if e i then Some x else owner_named a (filter is_automation xs))
    by false e false f rest = rest

-- ---- the owners of automations

-- each gives its own owner, or none
abbrev pub Gives : (ℕ × Automation → List Owner) → Type 0
Gives G = (y : ℕ × Automation) → (G y ≡ []) ⊎ ((o : Owner) × (G y ≡ o ∷ []) × (o.owner ≡ y.0))

pub flat-same : {X : Type 0} (F G : X → List Owner) → ((y : X) → F y ≡ G y) → (ys : List X) → flat_map F ys ≡ flat_map G ys
flat-same F G same [] = refl
flat-same F G same (y ∷ ys) = (λ i. same y i ++ flat-same F G same ys i)

pub flat-range : (F G : ℕ × Automation → List Owner) (n : ℕ) (all : List Automation) → ((i : ℕ) (y : Automation) → i < n + length all → F (i, y) ≡ G (i, y)) → flat_map F (enumerate_from n all) ≡ flat_map G (enumerate_from n all)
flat-range F G n [] h = refl
flat-range F G n (y ∷ ys) h = (λ i. h n y (omega arith) i ++ flat-range F G (n + 1) ys (λ m z lt. h m z (omega (arith, lt))) i)

pub filter-append : {X : Type 0} (p : X → Bool) (xs ys : List X) → filter p (xs ++ ys) ≡ filter p xs ++ filter p ys
filter-append p [] ys = refl
filter-append p (x ∷ xs) ys = by (p x) (filter-append p xs ys)
  where
    by : (b : Bool) → filter p (xs ++ ys) ≡ filter p xs ++ filter p ys → (if b then x ∷ filter p (xs ++ ys) else filter p (xs ++ ys)) ≡ (if b then x ∷ filter p xs else filter p xs) ++ filter p ys
    by true e = ap (λ l. x ∷ l) e
    by false e = e

module _ (o : Owner) (G G' : ℕ × Automation → List Owner) (gives : Gives G) (same : (y : ℕ × Automation) → nat_eq y.0 o.owner ≡ false → G' y ≡ G y) where
  -- those behind it come later
  placed-first : (n : ℕ) (all : List Automation) → o.owner < n → placed o (flat_map G (enumerate_from n all)) ≡ o ∷ flat_map G (enumerate_from n all)
  placed-first n [] lt = refl
  placed-first n (x ∷ xs) lt = by (G (n, x)) (placed-first (n + 1) xs (omega (arith, lt))) (gives (n, x))
    where
      by : (l : List Owner) → placed o (flat_map G (enumerate_from (n + 1) xs)) ≡ o ∷ flat_map G (enumerate_from (n + 1) xs) → (l ≡ []) ⊎ ((w : Owner) × (l ≡ w ∷ []) × (w.owner ≡ n))
          → placed o (l ++ flat_map G (enumerate_from (n + 1) xs)) ≡ o ∷ (l ++ flat_map G (enumerate_from (n + 1) xs))
      by l rest (inl e) = (λ i. placed o (e i ++ flat_map G (enumerate_from (n + 1) xs))) ∙ rest ∙ sym (λ i. o ∷ (e i ++ flat_map G (enumerate_from (n + 1) xs)))
      by l rest (inr (w, e, own)) =
          (λ i. placed o (e i ++ flat_map G (enumerate_from (n + 1) xs)))
          ∙ (λ i. if is-less o.owner w.owner (omega (arith, own, lt)) i then o ∷ w ∷ flat_map G (enumerate_from (n + 1) xs) else w ∷ placed o (flat_map G (enumerate_from (n + 1) xs)))
          ∙ sym (λ i. o ∷ (e i ++ flat_map G (enumerate_from (n + 1) xs)))

  rest-same : (n : ℕ) (all : List Automation) → o.owner < n → flat_map G' (enumerate_from n all) ≡ flat_map G (enumerate_from n all)
  rest-same n [] lt = refl
  rest-same n (x ∷ xs) lt = (λ i. same (n, x) (apart-of n o.owner (λ e. omega (arith, e, lt))) i ++ rest-same (n + 1) xs (omega (arith, lt)) i)

  -- LAW: one that was off is on
  pub placed-in : (n i : ℕ) (all : List Automation) (x : Automation) → o.owner ≡ n + i → slice_get all i ≡ Some x → G (o.owner, x) ≡ [] → G' (o.owner, x) ≡ o ∷ []
      → placed o (flat_map G (enumerate_from n all)) ≡ flat_map G' (enumerate_from n all)
  placed-in n i [] x at e off on = absurd (let bad : ◌≡◌ {A = Option Automation} None (Some x) = e in cc)
  placed-in n zero (y ∷ ys) x at e off on =
      (let here : n ≡ o.owner = omega (arith, at) in
      let own : y ≡ x = cc in
      (λ i. placed o (G (here i, own i) ++ flat_map G (enumerate_from (n + 1) ys)))
      ∙ (λ i. placed o (off i ++ flat_map G (enumerate_from (n + 1) ys)))
      ∙ placed-first (n + 1) ys (omega (arith, at))
      ∙ (λ i. o ∷ sym (rest-same (n + 1) ys (omega (arith, at))) i)
      ∙ (λ i. sym on i ++ flat_map G' (enumerate_from (n + 1) ys))
      ∙ (λ i. G' (sym here i, sym own i) ++ flat_map G' (enumerate_from (n + 1) ys)))
  placed-in n (suc i) (y ∷ ys) x at e off on = by (placed-in (n + 1) i ys x (omega (arith, at)) e off on) (gives (n, y))
    where
      stays : G' (n, y) ≡ G (n, y)
      stays = same (n, y) (apart-of n o.owner (λ f. omega (arith, f, at)))

      by : placed o (flat_map G (enumerate_from (n + 1) ys)) ≡ flat_map G' (enumerate_from (n + 1) ys) → (G (n, y) ≡ []) ⊎ ((w : Owner) × (G (n, y) ≡ w ∷ []) × (w.owner ≡ n)) → placed o (G (n, y) ++ flat_map G (enumerate_from (n + 1) ys)) ≡ G' (n, y) ++ flat_map G' (enumerate_from (n + 1) ys)
      by rest (inl none) = (λ k. placed o (none k ++ flat_map G (enumerate_from (n + 1) ys))) ∙ rest ∙ sym (λ k. (stays ∙ none) k ++ flat_map G' (enumerate_from (n + 1) ys))
      by rest (inr (w, one, own)) =
          (λ k. placed o (one k ++ flat_map G (enumerate_from (n + 1) ys)))
          ∙ (λ k. if not-less o.owner w.owner (omega (arith, own, at)) k then o ∷ w ∷ flat_map G (enumerate_from (n + 1) ys) else w ∷ placed o (flat_map G (enumerate_from (n + 1) ys)))
          ∙ (λ k. w ∷ rest k)
          ∙ sym (λ k. (stays ∙ one) k ++ flat_map G' (enumerate_from (n + 1) ys))

module _ (a : ℕ) (G G' : ℕ × Automation → List Owner) (gives : Gives G) where
  -- LAW: one that was on is off
  pub taken-out : ((y : ℕ × Automation) → nat_eq y.0 a ≡ false → G' y ≡ G y) → ((y : ℕ × Automation) → nat_eq y.0 a ≡ true → G' y ≡ []) → (ys : List (ℕ × Automation))
      → without_owner a (flat_map G ys) ≡ flat_map G' ys
  taken-out same off [] = refl
  taken-out same off (y ∷ ys) =
      filter-append (λ w. not (nat_eq w.owner a)) (G y) (flat_map G ys)
      ∙ (λ i. one (nat_eq y.0 a) refl (gives y) i ++ taken-out same off ys i)
    where
      one : (b : Bool) → nat_eq y.0 a ≡ b → (G y ≡ []) ⊎ ((w : Owner) × (G y ≡ w ∷ []) × (w.owner ≡ y.0)) → without_owner a (G y) ≡ G' y
      one true e (inl none) = (λ i. without_owner a (none i)) ∙ sym (off y e)
      one true e (inr (w, is, own)) = (λ i. without_owner a (is i)) ∙ (λ i. if not (((λ k. nat_eq (own k) a) ∙ e) i) then w ∷ [] else []) ∙ sym (off y e)
      one false e (inl none) = (λ i. without_owner a (none i)) ∙ sym (same y e ∙ none)
      one false e (inr (w, is, own)) = (λ i. without_owner a (is i)) ∙ (λ i. if not (((λ k. nat_eq (own k) a) ∙ e) i) then w ∷ [] else []) ∙ sym (same y e ∙ is)

  -- LAW: one that is off is not named
  pub none-named : ((y : ℕ × Automation) → nat_eq y.0 a ≡ true → G y ≡ []) → (ys : List (ℕ × Automation)) → owner_named a (flat_map G ys) ≡ None
  none-named off [] = refl
  none-named off (y ∷ ys) = by (nat_eq y.0 a) refl (none-named off ys) (gives y)
    where
      by : (b : Bool) → nat_eq y.0 a ≡ b → owner_named a (flat_map G ys) ≡ None → (G y ≡ []) ⊎ ((w : Owner) × (G y ≡ w ∷ []) × (w.owner ≡ y.0)) → owner_named a (G y ++ flat_map G ys) ≡ None
      by true e rest h = (λ i. owner_named a (off y e i ++ flat_map G ys)) ∙ rest
      by false e rest (inl none) = (λ i. owner_named a (none i ++ flat_map G ys)) ∙ rest
      by false e rest (inr (w, is, own)) =
          (λ i. owner_named a (is i ++ flat_map G ys)) ∙ (λ i. if ((λ k. nat_eq (own k) a) ∙ e) i then Some w else owner_named a (flat_map G ys)) ∙ rest
