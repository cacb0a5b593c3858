-- The first of a name stands for the name.
use Rattle.std.proofs.Common.{◌≡◌, ℕ, zero, suc, ◌+◌, ◌<◌, List, [], ◌∷◌, ◌++◌, length, map, get_or, Bool, true, false, refl, sym, ap, subst, ◌∙◌, rules, arith}
use Rattle.std.specs.Prelude.{Some, nat_eq, nat_lt, slice_get, unwrap_or, if◌then◌else◌, ◌&&◌}
use Rattle.std.specs.List.{list_all}
use Rattle.ha_config.specs.declared.config.Automation.{Automation}
use Rattle.ha_config.specs.Names.{name_of, names_of}
use Rattle.ha_config.specs.Words.{Text, same}
use Rattle.ha_config.proofs.EqualLemmas.{same-refl, same-sound}
use Rattle.ha_config.proofs.ListLemmas.{true-false}
use Rattle.ha_journal.specs.Journal.{Journal, names, units}
use Rattle.unit_book.specs.Book.{first_from, firsts_of}

-- the name of unit a, by the names of all
abbrev pub text_at : List Text → ℕ → Text
text_at names a = get_or names a []

pub text-name : (us : List Automation) (a : ℕ) → text_at (names_of us) a ≡ name_of us a
text-name [] a = refl
text-name (u ∷ us) zero = refl
text-name (u ∷ us) (suc a) = text-name us a

eq-of : (a b : ℕ) → nat_eq a b ≡ true → a ≡ b
eq-of a b e = search (rules, e)

equal-self : (a : ℕ) → nat_eq a a ≡ true
equal-self a = search rules

is-less : (a b : ℕ) → a < b → nat_lt a b ≡ true
is-less a b lt = search (rules, lt)

-- ---- one name

-- where some have the name, the first has it
pub first-found : (name : Text) (xs : List Text) (k a : ℕ) → a < length xs → same (text_at xs a) name ≡ true → (i : ℕ) × (first_from k name xs ≡ k + i) × (i < length xs) × (same (text_at xs i) name ≡ true)
first-found name [] k a lt e = absurd (omega (arith, lt))
first-found name (x ∷ xs) k a lt e = by (same x name) refl (rest a lt e (λ b less named. first-found name xs (suc k) b less named))
  where
    rest : (a : ℕ) → a < suc (length xs) → same (text_at (x ∷ xs) a) name ≡ true
        → ((b : ℕ) → b < length xs → same (text_at xs b) name ≡ true → (i : ℕ) × (first_from (suc k) name xs ≡ suc k + i) × (i < length xs) × (same (text_at xs i) name ≡ true))
        → same x name ≡ false → (i : ℕ) × (first_from (suc k) name xs ≡ suc k + i) × (i < length xs) × (same (text_at xs i) name ≡ true)
    rest zero lt e later other = absurd (true-false (sym e ∙ other))
    rest (suc a) lt e later other = later a (omega (arith, lt)) e

    by : (b : Bool) → same x name ≡ b → (same x name ≡ false → (i : ℕ) × (first_from (suc k) name xs ≡ suc k + i) × (i < length xs) × (same (text_at xs i) name ≡ true)) → (i : ℕ) × ((if b then k else first_from (suc k) name xs) ≡ k + i) × (i < suc (length xs)) × (same (text_at (x ∷ xs) i) name ≡ true)
    by true named later = (0, (let one : k ≡ k + 0 = omega arith in one), omega arith, named)
    by false other later =
        let got = later other in
        (suc got.0, got.1 ∙ (let one : suc k + got.0 ≡ k + suc got.0 = omega arith in one), omega (arith, got.2), got.3)

-- ---- of all

mapped-get : {A B : Type 0} (g : A → B) (xs : List A) (a : ℕ) (d : A) → a < length xs → slice_get (map g xs) a ≡ Some (g (get_or xs a d))
mapped-get g [] a d lt = absurd (omega (arith, lt))
mapped-get g (x ∷ xs) zero d lt = refl
mapped-get g (x ∷ xs) (suc a) d lt = mapped-get g xs a d (omega (arith, lt))

module _ (names : List Text) where
  -- the first unit of the name of unit a
  abbrev pub first : ℕ → ℕ
  first a = unwrap_or (slice_get (firsts_of names) a) a

  pub first-at : (a : ℕ) → a < length names → first a ≡ first_from 0 (text_at names a) names
  first-at a lt = (λ i. unwrap_or (mapped-get (λ name. first_from 0 name names) names a [] lt i) a)

  found : (a : ℕ) → a < length names → (i : ℕ) × (first a ≡ i) × (i < length names) × (same (text_at names i) (text_at names a) ≡ true)
  found a lt =
      let got = first-found (text_at names a) names 0 a lt (same-refl (text_at names a)) in
      (got.0, first-at a lt ∙ got.1 ∙ (let none : 0 + got.0 ≡ got.0 = omega arith in none), got.2, got.3)

  -- LAW: the first of a known one is known
  pub first-within : (a : ℕ) → a < length names → first a < length names
  first-within a lt = let got = found a lt in subst (λ n. n < length names) (sym got.1) got.2

  pub first-named : (a : ℕ) → a < length names → text_at names (first a) ≡ text_at names a
  first-named a lt = let got = found a lt in (λ i. text_at names (got.1 i)) ∙ same-sound (text_at names got.0) (text_at names a) got.3

  -- LAW: two units have the same first exactly where they have the same name
  pub first-same : (a b : ℕ) → a < length names → b < length names → nat_eq (first a) (first b) ≡ same (text_at names a) (text_at names b)
  first-same a b la lb = by (same (text_at names a) (text_at names b)) (nat_eq (first a) (first b)) refl refl
    where
      by : (p q : Bool) → same (text_at names a) (text_at names b) ≡ p → nat_eq (first a) (first b) ≡ q → q ≡ p
      by true true e h = refl
      by false false e h = refl
      by true false e h =
          let is : text_at names a ≡ text_at names b = same-sound (text_at names a) (text_at names b) e in
          let one : first a ≡ first b = first-at a la ∙ (λ i. first_from 0 (is i) names) ∙ sym (first-at b lb) in
          sym h ∙ (λ i. nat_eq (one i) (first b)) ∙ equal-self (first b)
      by false true e h =
          let one : first a ≡ first b = eq-of (first a) (first b) h in
          let is : text_at names a ≡ text_at names b = sym (first-named a la) ∙ (λ i. text_at names (one i)) ∙ first-named b lb in
          sym ((λ i. same (is i) (text_at names b)) ∙ same-refl (text_at names b)) ∙ e

pub firsts-many : (names : List Text) → length (firsts_of names) ≡ length names
firsts-many names = by names
  where
    by : (xs : List Text) → length (map (λ name. first_from 0 name names) xs) ≡ length xs
    by [] = refl
    by (x ∷ xs) = ap suc (by xs)

-- LAW: each first is the number of one of them
pub firsts-within : (names : List Text) → list_all (λ n. nat_lt n (length (firsts_of names))) (firsts_of names) ≡ true
firsts-within names = (λ i. list_all (λ n. nat_lt n (firsts-many names i)) (firsts_of names)) ∙ by names [] refl
  where
    there : (ys xs : List Text) (x : Text) → (length ys < length (ys ++ (x ∷ xs))) × (text_at (ys ++ (x ∷ xs)) (length ys) ≡ x)
    there [] xs x = (omega arith, refl)
    there (y ∷ ys) xs x = let got = there ys xs x in (omega (arith, got.0), got.1)

    own : (xs ys : List Text) (x : Text) → names ≡ ys ++ (x ∷ xs) → nat_lt (first_from 0 x names) (length names) ≡ true
    own xs ys x is =
        let at = there ys xs x in
        let lt : length ys < length names = subst (λ (l : List Text). length ys < length l) (sym is) at.0 in
        let has : same (text_at names (length ys)) x ≡ true = (λ i. same (text_at (is i) (length ys)) x) ∙ (λ i. same (at.1 i) x) ∙ same-refl x in
        let got = first-found x names 0 (length ys) lt has in
        let none : first_from 0 x names ≡ got.0 = got.1 ∙ (let less : 0 + got.0 ≡ got.0 = omega arith in less) in
        is-less (first_from 0 x names) (length names) (subst (λ n. n < length names) (sym none) got.2)

    snoc-more : (ys : List Text) (x : Text) (xs : List Text) → ys ++ (x ∷ xs) ≡ (ys ++ (x ∷ [])) ++ xs
    snoc-more [] x xs = refl
    snoc-more (y ∷ ys) x xs = ap (λ l. y ∷ l) (snoc-more ys x xs)

    by : (xs ys : List Text) → names ≡ ys ++ xs → list_all (λ n. nat_lt n (length names)) (map (λ name. first_from 0 name names) xs) ≡ true
    by [] ys is = refl
    by (x ∷ xs) ys is = (λ i. own xs ys x is i && by xs (ys ++ (x ∷ [])) (is ∙ snoc-more ys x xs) i)

pub names-count : (us : List Automation) → length (names_of us) ≡ length us
names-count [] = refl
names-count (u ∷ us) = ap suc (names-count us)

-- LAW: each unit of a journal has its name
pub names-many : (j : Journal) → length (names j) ≡ length (units j)
names-many j = names-count (units j)
