-- A free name is there, so that the names of all automations are distinct.
use Rattle.std.proofs.Common.{◌≡◌, ◌∙◌, ap, sym, subst, refl, ℕ, zero, suc, ◌+◌, ◌<◌, ◌^◌, Bool, true, false, cond, List, [], ◌∷◌, ◌++◌, length, map, arith, Option, Some, None, decimal, codes}
use Rattle.std.specs.Prelude.{◌||◌, not, bytes_eq, unwrap_or}
use Rattle.std.specs.List.{list_any, find, range_with_len, IsDistinct, AllByRecursion}
use Rattle.std.specs.Cmp.{IsEquivalence}
use Rattle.std.proofs.lemmas.Bool.{and_parts}
use Rattle.std.proofs.lemmas.List.{append_cancel_left, length-map}
use Rattle.std.proofs.lemmas.List.FromFn.{length-map-range_with_len}
use Rattle.std.proofs.lemmas.Slice.Eq.{bytes_eq-Decides}
use Rattle.std.proofs.lemmas.Fmt.{decimal_is_IsNumeral}
use Rattle.std.specs.Str.Parse.{digits_value}
use Rattle.std.proofs.lemmas.Map.Made.{length-le_from_is_member}
use Rattle.ha_config.specs.ValueFacts.{all_distinct}
use Rattle.ha_config.specs.Words.{same}
use Rattle.ha_config.specs.declared.config.Automation.{Automation}
use Rattle.conf_laws.proofs.Joined.{pair}
use Rattle.conf_auto.specs.Names.{free_name, free_number, is_taken, numbered, with_number}

abbrev Text : Type 0
Text = List ℕ

agree : (p q : Bool) → (p ≡ true → q ≡ true) → (q ≡ true → p ≡ true) → p ≡ q
agree true q h k = sym (h refl)
agree false true h k = k refl
agree false false h k = refl

turned : (a b : Text) → bytes_eq a b ≡ bytes_eq b a
turned a b =
    let left = bytes_eq-Decides a b in
    let right = bytes_eq-Decides b a in
    agree (bytes_eq a b) (bytes_eq b a) (λ h. right.1 (sym (left.0 h))) (λ h. left.1 (sym (right.0 h)))

equal_texts : IsEquivalence bytes_eq
equal_texts = record {
  refl = λ x. (bytes_eq-Decides x x).1 refl;
  symm = turned;
  congr = λ x y z e. ap (λ w. bytes_eq w z) ((bytes_eq-Decides x y).0 e);
}

is_false : (b : Bool) → (b ≡ true → ⊥) → b ≡ false
is_false true h = absurd (h refl)
is_false false h = refl

among : (name : Text) (all : List Automation) → list_any (bytes_eq name) (map (λ (a : Automation). a.name) all) ≡ is_taken all name
among name [] = refl
among name (a ∷ all) = λ i. turned name a.name i || among name all i

-- ---- of one number more than there are automations one is free

numbered_apart : (name : Text) (a b : ℕ) → a < b → b < 2 ^ 64 → bytes_eq (numbered name a) (numbered name b) ≡ false
numbered_apart name a b lt small = is_false (bytes_eq (numbered name a) (numbered name b)) (λ h.
    let same' = append_cancel_left (name ++ codes "_") (decimal a) (decimal b) ((bytes_eq-Decides (numbered name a) (numbered name b)).0 h) in
    let number : a ≡ b = sym ((decimal_is_IsNumeral a (omega arith)).1) ∙ ap (digits_value 10) same' ∙ (decimal_is_IsNumeral b small).1 in
    omega arith)

later_apart : (name : Text) (a b n : ℕ) → a < b → b + n < 2 ^ 64 → AllByRecursion (λ y. bytes_eq (numbered name a) y ≡ false) (map (numbered name) (range_with_len b n))
later_apart name a b zero lt small = tt
later_apart name a b (suc n) lt small = (numbered_apart name a b lt (omega arith), later_apart name a (b + 1) n (omega arith) (omega arith))

all_apart : (name : Text) (a n : ℕ) → a + n < 2 ^ 64 → IsDistinct bytes_eq (map (numbered name) (range_with_len a n))
unfolding IsDistinct
all_apart name a zero small = tt
all_apart name a (suc n) small = (later_apart name a (a + 1) n (omega arith) (omega arith), all_apart name (a + 1) n (omega arith))

module _ (all : List Automation) (name : Text) where
  abbrev free : ℕ → Bool
  free n = not (is_taken all (numbered name n))

  abbrev Members : List Text → Type 0
  Members xs = (q : Text) → list_any (bytes_eq q) xs ≡ true → list_any (bytes_eq q) (map (λ (a : Automation). a.name) all) ≡ true

  member_more : (x : Text) (xs : List Text) → is_taken all x ≡ true → Members xs → Members (x ∷ xs)
  member_more x xs here rest q = by (bytes_eq q x) refl
    where
      by : (b : Bool) → bytes_eq q x ≡ b → (b || list_any (bytes_eq q) xs) ≡ true → list_any (bytes_eq q) (map (λ (a : Automation). a.name) all) ≡ true
      by true e h = among q all ∙ ap (is_taken all) ((bytes_eq-Decides q x).0 e) ∙ here
      by false e h = rest q h

  none_free : (a n : ℕ) → find free (range_with_len a n) ≡ None → Members (map (numbered name) (range_with_len a n))
  none_free a zero h = λ q k. absurd cc
  none_free a (suc n) h = by (is_taken all (numbered name a)) refl h (none_free (a + 1) n)
    where
      by : (b : Bool) → is_taken all (numbered name a) ≡ b → cond (not b) (Some a) (find free (range_with_len (a + 1) n)) ≡ None
          → (find free (range_with_len (a + 1) n) ≡ None → Members (map (numbered name) (range_with_len (a + 1) n))) → Members (numbered name a ∷ map (numbered name) (range_with_len (a + 1) n))
      by true e k rest = member_more (numbered name a) (map (numbered name) (range_with_len (a + 1) n)) e (rest k)
      by false e k rest = absurd cc

  some_free : length all + 3 < 2 ^ 64 → find free (range_with_len 2 (length all + 1)) ≡ None → ⊥
  some_free small h =
      let le = length-le_from_is_member equal_texts (map (numbered name) (range_with_len 2 (length all + 1))) (map (λ (a : Automation). a.name) all)
      (all_apart name 2 (length all + 1) (omega arith)) (none_free 2 (length all + 1) h) in
      omega (arith, le, length-map-range_with_len (numbered name) 2 (length all + 1), length-map all (λ (a : Automation). a.name))

  found_free : (ns : List ℕ) (n : ℕ) → find free ns ≡ Some n → is_taken all (numbered name n) ≡ false
  found_free [] n h = absurd cc
  found_free (m ∷ ns) n h = by (is_taken all (numbered name m)) refl h (found_free ns n)
    where
      by : (b : Bool) → is_taken all (numbered name m) ≡ b → cond (not b) (Some m) (find free ns) ≡ Some n
          → (find free ns ≡ Some n → is_taken all (numbered name n) ≡ false) → is_taken all (numbered name n) ≡ false
      by true e k rest = rest k
      by false e k rest = let here : m ≡ n = cc in subst (λ x. is_taken all (numbered name x) ≡ false) here e

  number_free : length all + 3 < 2 ^ 64 → is_taken all (with_number all name) ≡ false
  number_free small = by (free_number all name) refl
    where
      by : (o : Option ℕ) → free_number all name ≡ o → is_taken all (numbered name (unwrap_or o 2)) ≡ false
      by (Some n) e = found_free (range_with_len 2 (length all + 1)) n e
      by None e = absurd (some_free small e)

  pub name_free : length all + 3 < 2 ^ 64 → is_taken all (free_name all name) ≡ false
  name_free small = by (is_taken all name) refl
    where
      by : (b : Bool) → is_taken all name ≡ b → is_taken all (cond b (with_number all name) name) ≡ false
      by true e = number_free small
      by false e = e

-- the number of a free name is small, where one was found
found_small : (test : ℕ → Bool) (a n k : ℕ) → find test (range_with_len a n) ≡ Some k → k < a + n
found_small test a zero k h = absurd cc
found_small test a (suc n) k h = by (test a) h (found_small test (a + 1) n k)
  where
    by : (b : Bool) → cond b (Some a) (find test (range_with_len (a + 1) n)) ≡ Some k → (find test (range_with_len (a + 1) n) ≡ Some k → k < a + 1 + n) → k < a + suc n
    by true e rest = let here : a ≡ k = cc in omega arith
    by false e rest = omega (arith, rest e)

pub number_small : (all : List Automation) (name : Text) → unwrap_or (free_number all name) 2 < length all + 4
number_small all name = by (free_number all name) refl
  where
    by : (o : Option ℕ) → free_number all name ≡ o → unwrap_or o 2 < length all + 4
    by (Some n) e = omega (arith, found_small (λ m. not (is_taken all (numbered name m))) 2 (length all + 1) n e)
    by None e = omega arith

-- ---- names that are apart stay so with one more

or_parts : (a b : Bool) → (a || b) ≡ false → (a ≡ false) × (b ≡ false)
or_parts true b h = absurd cc
or_parts false b h = (refl, h)

step : (b x y : Bool) → (not x ≡ true → not y ≡ true) → not (b || x) ≡ true → not (b || y) ≡ true
step true x y f h = absurd cc
step false x y f h = f h

not_any : (k : Text) (all : List Automation) (a : Automation) → not (list_any (same k) (map (λ (x : Automation). x.name) all)) ≡ true → bytes_eq k a.name ≡ false
    → not (list_any (same k) (map (λ (x : Automation). x.name) (all ++ a ∷ []))) ≡ true
not_any k [] a h e = ap (λ b. not (b || false)) e
not_any k (x ∷ all) a h e =
    step (bytes_eq k x.name) (list_any (same k) (map (λ (y : Automation). y.name) all)) (list_any (same k) (map (λ (y : Automation). y.name) (all ++ a ∷ []))) (λ g. not_any k all a g e) h

pub distinct_more : (all : List Automation) (a : Automation) → all_distinct (map (λ (x : Automation). x.name) all) ≡ true → is_taken all a.name ≡ false
    → all_distinct (map (λ (x : Automation). x.name) (all ++ a ∷ [])) ≡ true
distinct_more [] a h k = refl
distinct_more (x ∷ all) a h k =
    let two = and_parts (not (list_any (same x.name) (map (λ (y : Automation). y.name) all))) (all_distinct (map (λ (y : Automation). y.name) all)) h in
    let apart = or_parts (bytes_eq x.name a.name) (is_taken all a.name) k in
    pair (not (list_any (same x.name) (map (λ (y : Automation). y.name) (all ++ a ∷ [])))) (all_distinct (map (λ (y : Automation). y.name) (all ++ a ∷ [])))
    (not_any x.name all a two.0 apart.0) (distinct_more all a two.1 apart.1)
