-- Where an owner stands among owners that ascend.
use Rattle.std.proofs.Common.{◌≡◌, ℕ, zero, suc, ◌+◌, ◌<◌, ◌≤◌, List, [], ◌∷◌, length, map, get_or, Bool, true, false, refl, sym, ap, subst, ◌∙◌, arith, inl, inr}
use Rattle.std.specs.Prelude.{Option, Some, None, MatchOption, nat_lt, slice_get}
use Rattle.std.specs.List.{list_all}
use Rattle.std.proofs.lemmas.Bool.Decides.{eqb_tells, leb_tells, nat_tests}
use Rattle.ha_config.proofs.EqualLemmas.{and_left, and_right}
use Rattle.trig_set.specs.declared.owners.Attached.{Attached}
use Rattle.trig_set.specs.Order.{ascend, owner_of}
use Rattle.trig_set.specs.Stands.{AtOwner}
use Rattle.trig_set.proofs.SpotLemmas.{get-at}

lt-of : (a b : ℕ) → nat_lt a b ≡ true → a < b
lt-of a b h = grind (arith, nat_tests, h)

above-at : (m : ℕ) (xs : List Attached) (k : ℕ) (b : Attached) → list_all (λ y. nat_lt m y.owner) (map owner_of xs) ≡ true → slice_get xs k ≡ Some b → m < b.owner
above-at m [] k b h at = cc
above-at m (x ∷ xs) zero b h at = (let e : x ≡ b = cc in subst (λ (y : Attached). m < y.owner) e (lt-of m x.owner (and_left (nat_lt m x.owner) _ h)))
above-at m (x ∷ xs) (suc k) b h at = above-at m xs k b (and_right (nat_lt m x.owner) _ h) at

-- LAW: owners that ascend have lesser numbers before greater ones
pub ascends-at : (xs : List Attached) (i k : ℕ) (a b : Attached) → ascend (map owner_of xs) ≡ true → slice_get xs i ≡ Some a → slice_get xs k ≡ Some b → i < k → a.owner < b.owner
ascends-at [] i k a b h at bt lt = cc
ascends-at (x ∷ xs) zero zero a b h at bt lt = absurd (omega (arith, lt))
ascends-at (x ∷ xs) zero (suc k) a b h at bt lt =
    (let e : x ≡ a = cc in subst (λ (y : Attached). y.owner < b.owner) e (above-at x.owner xs k b (and_left (list_all (λ y. nat_lt x.owner y.owner) (map owner_of xs)) _ h) bt))
ascends-at (x ∷ xs) (suc i) zero a b h at bt lt = absurd (omega (arith, lt))
ascends-at (x ∷ xs) (suc i) (suc k) a b h at bt lt = ascends-at xs i k a b (and_right (list_all (λ y. nat_lt x.owner y.owner) (map owner_of xs)) _ h) at bt (omega (arith, lt))

-- before the first place the numbers are less, from the second on they are not
pub record Between (owner low high n : ℕ) (a : Attached) : Type 0 where
  pub less : n < low → a.owner < owner
  pub least : high ≤ n → owner ≤ a.owner

at-then : (P Q : Attached → Type 0) (xs : List Attached) (n : ℕ) → ((a : Attached) → slice_get xs n ≡ Some a → P a → Q a) → AtOwner xs n P → AtOwner xs n Q
at-then P Q xs n f = by (slice_get xs n) refl
  where
    by : (o : Option Attached) → slice_get xs n ≡ o → MatchOption o (Unit {0}) P → MatchOption o (Unit {0}) Q
    by None e h = tt
    by (Some a) e h = f a e h

-- LAW: at first all places are between
pub between-all : (xs : List Attached) (owner n : ℕ) → AtOwner xs n (Between owner 0 (length xs) n)
between-all xs owner n = by (slice_get xs n) refl
  where
    beyond : {X : Type 0} (xs : List X) (n : ℕ) (a : X) → length xs ≤ n → slice_get xs n ≡ Some a → ⊥
    beyond [] n a le e = cc
    beyond (x ∷ xs) zero a le e = omega (arith, le)
    beyond (x ∷ xs) (suc n) a le e = beyond xs n a (omega (arith, le)) e

    by : (o : Option Attached) → slice_get xs n ≡ o → MatchOption o (Unit {0}) (Between owner 0 (length xs) n)
    by None e = tt
    by (Some a) e = record { less = λ lt. absurd (omega (arith, lt)); least = λ le. absurd (beyond xs n a le e) }

module _ (xs : List Attached) (low high middle owner : ℕ) (d : Attached) (within : middle < length xs) (asc : ascend (map owner_of xs) ≡ true) (n : ℕ) where
  at-middle : slice_get xs middle ≡ Some (get_or xs middle d)
  at-middle = get-at xs middle d within

  same-place : (a : Attached) → slice_get xs n ≡ Some a → n ≡ middle → a.owner ≡ (get_or xs middle d).owner
  same-place a at same = (let e : Some a ≡ Some (get_or xs middle d) = sym at ∙ (λ i. slice_get xs (same i)) ∙ at-middle in let q : a ≡ get_or xs middle d = cc in ap (λ (y : Attached). y.owner) q)

  -- LAW: where the number in the middle is less, so are those before it
  pub between-above : (get_or xs middle d).owner < owner → AtOwner xs n (Between owner low high n) → AtOwner xs n (Between owner (middle + 1) high n)
  between-above less = at-then (Between owner low high n) (Between owner (middle + 1) high n) xs n
      (λ a at b. record {
        less = λ lt. elim (eqb_tells n middle) [
          | inl same ↦ (let e = same-place a at same.1 in omega (arith, e, less))
          | inr other ↦ (let apart = other.1 in let below = ascends-at xs n middle a (get_or xs middle d) asc at at-middle (omega (arith, lt, apart)) in omega (arith, below, less))
        ];
        least = b.least;
      })

  -- LAW: and where it is not, neither are those behind it
  pub between-below : owner ≤ (get_or xs middle d).owner → AtOwner xs n (Between owner low high n) → AtOwner xs n (Between owner low middle n)
  between-below more = at-then (Between owner low high n) (Between owner low middle n) xs n
      (λ a at b. record {
        less = b.less;
        least = λ le. elim (eqb_tells n middle) [
          | inl same ↦ (let e = same-place a at same.1 in omega (arith, e, more))
          | inr other ↦ (let apart = other.1 in let above = ascends-at xs middle n (get_or xs middle d) a asc at-middle at (omega (arith, le, apart)) in omega (arith, above, more))
        ];
      })

-- LAW: where nothing is between, those before are the lesser ones
pub between-none : (xs : List Attached) (low high owner n : ℕ) → high ≤ low → AtOwner xs n (Between owner low high n) → AtOwner xs n (λ a. nat_lt a.owner owner ≡ nat_lt n low)
between-none xs low high owner n le = at-then (Between owner low high n) (λ a. nat_lt a.owner owner ≡ nat_lt n low) xs n
    (λ a at b. elim (leb_tells low n) [
      | inl from ↦ (let behind = from.1 in let least = b.least (omega (arith, le, behind)) in grind (arith, nat_tests, behind, least))
      | inr under ↦ (let before = under.1 in let less = b.less (omega (arith, before)) in grind (arith, nat_tests, before, less))
    ])

-- LAW: an owner stands behind the lesser ones
pub behind-there : (xs : List Attached) (place owner : ℕ) → place ≤ length xs → ascend (map owner_of xs) ≡ true → ((n : ℕ) → AtOwner xs n (λ a. nat_lt a.owner owner ≡ nat_lt n place))
    → (n : ℕ) → AtOwner xs n (λ a. a.owner ≡ owner → place ≡ n)
behind-there xs place owner fits asc behind n = by (slice_get xs n) refl (behind n)
  where
    some : (a : Attached) → slice_get xs n ≡ Some a → a.owner ≡ owner → place < n → (o : Option Attached) → slice_get xs place ≡ o → MatchOption o (Unit {0}) (λ b. nat_lt b.owner owner ≡ nat_lt place place) → place ≡ n
    some a at is lt None e h = absurd (none xs place n a (omega (arith, lt)) e at)
      where
        none : {X : Type 0} (ys : List X) (k m : ℕ) (b : X) → k ≤ m → slice_get ys k ≡ None → slice_get ys m ≡ Some b → ⊥
        none [] k m b le e at = cc
        none (y ∷ ys) zero m b le e at = cc
        none (y ∷ ys) (suc k) zero b le e at = omega (arith, le)
        none (y ∷ ys) (suc k) (suc m) b le e at = none ys k m b (omega (arith, le)) e at
    some a at is lt (Some b) e h = (let less = ascends-at xs place n b a asc e at lt in absurd (let bad : ◌≡◌ {A = Bool} true false = grind (arith, nat_tests, less, is, h) in cc))

    by : (o : Option Attached) → slice_get xs n ≡ o → MatchOption o (Unit {0}) (λ a. nat_lt a.owner owner ≡ nat_lt n place) → MatchOption o (Unit {0}) (λ a. a.owner ≡ owner → place ≡ n)
    by None at h = tt
    by (Some a) at h = λ is. elim (leb_tells n place) [
      | inl le ↦ (let most = le.1 in elim (eqb_tells n place) [
        | inl same ↦ sym same.1
        | inr other ↦ (let apart = other.1 in absurd (let bad : ◌≡◌ {A = Bool} true false = grind (arith, nat_tests, most, apart, is, h) in cc))
      ])
      | inr gt ↦ some a at is gt.1 (slice_get xs place) refl (behind place)
    ]
