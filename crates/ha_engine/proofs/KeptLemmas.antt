-- Whether a list of pairs is the one that is listed of units in some order.
use Rattle.std.proofs.Common.{◌≡◌, ℕ, zero, suc, ◌+◌, ◌-◌, ◌<◌, ◌≤◌, List, [], ◌∷◌, length, drop, get_or, Bool, true, false, refl, sym, ap, ◌∙◌, arith, Option}
use Rattle.std.specs.Prelude.{Some, None, is_some, nat_eq, option_map, slice_get, unwrap_or, ◌&&◌, if◌then◌else◌}
use Rattle.std.specs.List.{cons_option}
use Rattle.std.specs.Option.{option_map_or}
use Rattle.ha_config.specs.declared.config.Automation.{Automation}
use Rattle.ha_config.specs.Names.{name_in, names_of}
use Rattle.ha_config.specs.Words.{Text, comes_before, numbers_from, same, up_to}
use Rattle.ha_config.proofs.ListLemmas.{none-some, true-false}
use Rattle.ha_whole.specs.Whole.{same_pairs_by}
use Rattle.segment_carry.specs.ByName.{listed, put_by_name, rule_order, sorted}
use Rattle.ha_engine.specs.Places.{ArePlaces}
use Rattle.ha_engine.proofs.LastsLemmas.{apart-of, next-equal}

-- ---- places in an order

-- LAW: what stands in the order is a place
pub places-at : (n : ℕ) (order : List ℕ) (i d : ℕ) → ArePlaces n order → i < length order → get_or order i d < n
places-at n [] i d h lt = absurd (omega (arith, lt))
places-at n (a ∷ as') zero d h lt = h.0
places-at n (a ∷ as') (suc i) d h lt = places-at n as' i d h.1 (omega (arith, lt))

places-put : (n : ℕ) (names : List Text) (a : ℕ) (as' : List ℕ) → a < n → ArePlaces n as' → ArePlaces n (put_by_name names a as')
places-put n names a [] lt h = (lt, tt)
places-put n names a (b ∷ bs) lt h = by (comes_before (name_in names a) (name_in names b)) (places-put n names a bs lt h.1)
  where
    by : (c : Bool) → ArePlaces n (put_by_name names a bs) → ArePlaces n (if c then a ∷ b ∷ bs else b ∷ put_by_name names a bs)
    by true later = (lt, (h.0, h.1))
    by false later = (h.0, later)

places-sorted : (n : ℕ) (names : List Text) (as' : List ℕ) → ArePlaces n as' → ArePlaces n (sorted names as')
places-sorted n names [] h = tt
places-sorted n names (a ∷ rest) h = places-put n names a (sorted names rest) h.0 (places-sorted n names rest h.1)

places-from : (n low m : ℕ) → low + m ≤ n → ArePlaces n (numbers_from low m)
places-from n low zero le = tt
places-from n low (suc m) le = (omega (arith, le), places-from n (low + 1) m (omega (arith, le)))

names-many : (us : List Automation) → length (names_of us) ≡ length us
names-many [] = refl
names-many (u ∷ us) = ap suc (names-many us)

-- LAW: the order of the names has places of the automations alone
pub order-places : (us : List Automation) → ArePlaces (length us) (rule_order us)
order-places us =
    (let many = names-many us in
    places-sorted (length us) (names_of us) (up_to (length (names_of us))) (places-from (length us) 0 (length (names_of us)) (omega (arith, many))))

-- LAW: the name at a place
pub name-there : (us : List Automation) (a : ℕ) (x : Automation) → a < length us → x ≡ get_or us a x → x.name ≡ name_in (names_of us) a
name-there [] a x lt is = absurd (omega (arith, lt))
name-there (u ∷ us) zero x lt is = ap (λ (y : Automation). y.name) is
name-there (u ∷ us) (suc a) x lt is = name-there us a x (omega (arith, lt)) is

-- ---- pairs one after the other

pub drop-next : {X : Type 0} (xs : List X) (i : ℕ) (d : X) → i < length xs → drop i xs ≡ get_or xs i d ∷ drop (i + 1) xs
drop-next [] i d lt = absurd (omega (arith, lt))
drop-next (x ∷ xs) zero d lt = refl
drop-next (x ∷ xs) (suc i) d lt = drop-next xs i d (omega (arith, lt)) ∙ (let next : suc i + 1 ≡ suc (i + 1) = omega arith in λ k. get_or xs i d ∷ drop (sym next k) (x ∷ xs))

drop-there : {X : Type 0} (xs : List X) (i : ℕ) (x : X) → slice_get xs i ≡ Some x → (drop i xs ≡ x ∷ drop (i + 1) xs) × (i < length xs)
drop-there [] i x e = absurd (none-some x e)
drop-there (y ∷ xs) zero x e = ((λ k. unwrap_or (e k) y ∷ xs), omega arith)
drop-there (y ∷ xs) (suc i) x e = (let got = drop-there xs i x e in let next : suc i + 1 ≡ suc (i + 1) = omega arith in (got.0 ∙ (λ k. x ∷ drop (sym next k) (y ∷ xs)), omega (arith, got.1)))

drop-past : {X : Type 0} (xs : List X) (i : ℕ) → slice_get xs i ≡ None → drop i xs ≡ []
drop-past [] zero e = refl
drop-past [] (suc i) e = refl
drop-past (y ∷ xs) zero e = absurd (none-some y (sym e))
drop-past (y ∷ xs) (suc i) e = drop-past xs i e

drop-all : {X : Type 0} (xs : List X) (n : ℕ) → length xs ≤ n → drop n xs ≡ []
drop-all [] zero le = refl
drop-all [] (suc n) le = refl
drop-all (x ∷ xs) zero le = absurd (omega (arith, le))
drop-all (x ∷ xs) (suc n) le = drop-all xs n (omega (arith, le))

module _ {X : Type 0} (alike : X → X → Bool) where
  -- whether what stands at a place is one of this name and value, where there is a value
  abbrev pub agrees : Option (Text × X) → Text → Option X → Bool
  agrees pair name o = option_map_or (λ v. option_map_or (λ p. same p.0 name && alike p.1 v) pair false) o true

  -- how many pairs a value is
  abbrev pub pairs_in : Option X → ℕ
  pairs_in o = if is_some o then 1 else 0

  passes : (kept : List (Text × X)) (passed : ℕ) (name : Text) (o : Option X) (rest : List (Text × X)) → passed ≤ length kept → agrees (slice_get kept passed) name o ≡ true
      → (same_pairs_by alike (drop passed kept) (option_map_or (λ v. (name, v) ∷ rest) o rest) ≡ same_pairs_by alike (drop (passed + pairs_in o) kept) rest) × (passed + pairs_in o ≤ length kept)
  passes kept passed name None rest le e = (let none : passed ≡ passed + 0 = omega arith in ((λ i. same_pairs_by alike (drop (none i) kept) rest), omega (arith, le)))
  passes kept passed name (Some v) rest le e = by (slice_get kept passed) refl e
    where
      by : (o : Option (Text × X)) → slice_get kept passed ≡ o → agrees o name (Some v) ≡ true
          → (same_pairs_by alike (drop passed kept) ((name, v) ∷ rest) ≡ same_pairs_by alike (drop (passed + 1) kept) rest) × (passed + 1 ≤ length kept)
      by None is e = absurd (true-false (sym e))
      by (Some p) is e =
          (let got = drop-there kept passed p is in (
            (λ i. same_pairs_by alike (got.0 i) ((name, v) ∷ rest)) ∙ (λ i. e i && same_pairs_by alike (drop (passed + 1) kept) rest),
            omega (arith, got.1),
          ))

  differs : (kept : List (Text × X)) (passed : ℕ) (name : Text) (o : Option X) (rest : List (Text × X)) → agrees (slice_get kept passed) name o ≡ false
      → same_pairs_by alike (drop passed kept) (option_map_or (λ v. (name, v) ∷ rest) o rest) ≡ false
  differs kept passed name None rest e = absurd (true-false e)
  differs kept passed name (Some v) rest e = by (slice_get kept passed) refl e
    where
      by : (o : Option (Text × X)) → slice_get kept passed ≡ o → agrees o name (Some v) ≡ false → same_pairs_by alike (drop passed kept) ((name, v) ∷ rest) ≡ false
      by None is e = (λ i. same_pairs_by alike (drop-past kept passed is i) ((name, v) ∷ rest))
      by (Some p) is e = (λ i. same_pairs_by alike ((drop-there kept passed p is).0 i) ((name, v) ∷ rest)) ∙ (λ i. e i && same_pairs_by alike (drop (passed + 1) kept) rest)

  module _ (names : List Text) (value : ℕ → Option X) where
    listed-at : (order : List ℕ) (i : ℕ) → i < length order
        → listed names value (drop i order) ≡ option_map_or (λ v. (name_in names (get_or order i 0), v) ∷ listed names value (drop (i + 1) order)) (value (get_or order i 0)) (listed names value (drop (i + 1) order))
    listed-at order i lt = (λ k. listed names value (drop-next order i 0 lt k)) ∙ by (name_in names (get_or order i 0)) (value (get_or order i 0)) (listed names value (drop (i + 1) order))
      where
        by : (name : Text) (o : Option X) (rest : List (Text × X)) → cons_option (option_map {T = X} {U = Text × X} (λ v. (name, v)) o) rest ≡ option_map_or (λ v. (name, v) ∷ rest) o rest
        by name None rest = refl
        by name (Some v) rest = refl

    -- LAW: what is left, where the next one agrees
    pub pairs-step : (kept : List (Text × X)) (order : List ℕ) (i passed next : ℕ) → i < length order → passed ≤ length kept → agrees (slice_get kept passed) (name_in names (get_or order i 0)) (value (get_or order i 0)) ≡ true
        → next ≡ passed + pairs_in (value (get_or order i 0))
        → (same_pairs_by alike (drop next kept) (listed names value (drop (i + 1) order)) ≡ same_pairs_by alike (drop passed kept) (listed names value (drop i order))) × (next ≤ length kept)
    pairs-step kept order i passed next lt le e is =
        (let got = passes kept passed (name_in names (get_or order i 0)) (value (get_or order i 0)) (listed names value (drop (i + 1) order)) le e in (
          (λ k. same_pairs_by alike (drop (is k) kept) (listed names value (drop (i + 1) order))) ∙ sym got.0 ∙ (λ k. same_pairs_by alike (drop passed kept) (sym (listed-at order i lt) k)),
          omega (arith, is, got.1),
        ))

    -- LAW: where it does not, the lists are not the same
    pub pairs-stop : (kept : List (Text × X)) (order : List ℕ) (i passed : ℕ) → i < length order → agrees (slice_get kept passed) (name_in names (get_or order i 0)) (value (get_or order i 0)) ≡ false
        → same_pairs_by alike (drop passed kept) (listed names value (drop i order)) ≡ false
    pairs-stop kept order i passed lt e =
        (λ k. same_pairs_by alike (drop passed kept) (listed-at order i lt k)) ∙ differs kept passed (name_in names (get_or order i 0)) (value (get_or order i 0)) (listed names value (drop (i + 1) order)) e

    -- LAW: behind all of them none is left where as many passed
    pub pairs-end : (kept : List (Text × X)) (order : List ℕ) (i passed : ℕ) → length order ≤ i → passed ≤ length kept
        → same_pairs_by alike (drop passed kept) (listed names value (drop i order)) ≡ nat_eq passed (length kept)
    pairs-end kept order i passed past le = (λ k. same_pairs_by alike (drop passed kept) (listed names value (drop-all order i past k))) ∙ by kept passed le
      where
        by : (ps : List (Text × X)) (n : ℕ) → n ≤ length ps → same_pairs_by alike (drop n ps) [] ≡ nat_eq n (length ps)
        by [] zero h = refl
        by [] (suc n) h = absurd (omega (arith, h))
        by (p ∷ ps) zero h = sym (apart-of 0 (suc (length ps)) (λ e. omega (arith, e)))
        by (p ∷ ps) (suc n) h = by ps n (omega (arith, h)) ∙ next-equal n (length ps)

-- LAW: no pair is more than one
pub pairs-few : {X : Type 0} (o : Option X) → (if is_some o then 1 else 0) ≤ 1
pairs-few None = omega arith
pairs-few (Some v) = omega arith
