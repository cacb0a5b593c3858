-- Names in their byte order, of which some are left out.
use Rattle.std.proofs.Common.{◌≡◌, ℕ, ◌<◌, ◌⊎◌, inl, inr, Bool, true, false, cond, List, [], ◌∷◌, refl, ◌∙◌, arith}
use Rattle.std.specs.Prelude.{filter, is_some, nat_eq, nat_le, nat_lt, ◌&&◌, if◌then◌else◌}
use Rattle.std.specs.List.{list_all}
use Rattle.std.specs.Str.{is_utf8}
use Rattle.std.proofs.lemmas.Bool.Decides.{nat_tests}
use Rattle.ha_clock.specs.Local.{last_moment}
use Rattle.ha_config.specs.declared.config.Automation.{Automation}
use Rattle.ha_config.specs.Names.{automation_named, of_automations}
use Rattle.ha_config.specs.Sound.{AreSoundMoments, are_in_name_order}
use Rattle.ha_config.specs.Words.{Text, comes_before}
use Rattle.ha_config.proofs.EqualLemmas.{and_left, and_right}

-- ---- the order of texts

below : (a b : ℕ) → nat_lt a b ≡ true → a < b
below a b h = grind (arith, nat_tests)

is-below : (a b : ℕ) → a < b → nat_lt a b ≡ true
is-below a b h = grind (arith, nat_tests)

equal : (a b : ℕ) → nat_eq a b ≡ true → a ≡ b
equal a b h = grind (arith, nat_tests)

not-less : (a b : ℕ) → a ≡ b → nat_lt a b ≡ false
not-less a b h = grind (arith, nat_tests)

is-equal : (a b : ℕ) → a ≡ b → nat_eq a b ≡ true
is-equal a b h = grind (arith, nat_tests)

-- of two texts the first has the lesser byte at the front, or the same and comes first behind it
front-is : (x y : ℕ) (xs ys : Text) → comes_before (x ∷ xs) (y ∷ ys) ≡ true → (x < y) ⊎ ((x ≡ y) × (comes_before xs ys ≡ true))
front-is x y xs ys h = by (nat_lt x y) (nat_eq x y) refl refl h
  where
    by : (s t : Bool) → nat_lt x y ≡ s → nat_eq x y ≡ t → (if s then true else (if t then comes_before xs ys else false)) ≡ true → (x < y) ⊎ ((x ≡ y) × (comes_before xs ys ≡ true))
    by true t e f k = inl (below x y e)
    by false true e f k = inr (equal x y f, k)
    by false false e f k = absurd (cc)

pub further : (a b c : Text) → comes_before a b ≡ true → comes_before b c ≡ true → comes_before a c ≡ true
further [] [] c h k = absurd (cc)
further [] (y ∷ b) [] h k = absurd (cc)
further [] (y ∷ b) (z ∷ c) h k = refl
further (x ∷ a) [] c h k = absurd (cc)
further (x ∷ a) (y ∷ b) [] h k = absurd (cc)
further (x ∷ a) (y ∷ b) (z ∷ c) h k = by (front-is x y a b h) (front-is y z b c k) (further a b c)
  where
    first : x < z → comes_before (x ∷ a) (z ∷ c) ≡ true
    first lt = rw (is-below x z lt) refl

    by : (x < y) ⊎ ((x ≡ y) × (comes_before a b ≡ true)) → (y < z) ⊎ ((y ≡ z) × (comes_before b c ≡ true))
        → (comes_before a b ≡ true → comes_before b c ≡ true → comes_before a c ≡ true) → comes_before (x ∷ a) (z ∷ c) ≡ true
    by (inl p) (inl q) rest = first (omega (arith, p, q))
    by (inl p) (inr q) rest = first (omega (arith, p, q.0))
    by (inr p) (inl q) rest = first (omega (arith, p.0, q))
    by (inr p) (inr q) rest = rw (not-less x z (p.0 ∙ q.0), is-equal x z (p.0 ∙ q.0)) (rest p.1 q.1)

-- ---- pairs in the order of their names

-- a name that comes before the first of these
abbrev pub ComesFirst : {X : Type 0} → Text → List (Text × X) → Type 0
ComesFirst t [] = Unit {0}
ComesFirst t (p ∷ ps) = comes_before t p.0 ≡ true

pub first-parts : {X : Type 0} (p : Text × X) (ps : List (Text × X)) → are_in_name_order (p ∷ ps) ≡ true → ComesFirst p.0 ps × (are_in_name_order ps ≡ true)
first-parts p [] h = (tt, refl)
first-parts p (q ∷ qs) h = (and_left (comes_before p.0 q.0) (are_in_name_order (q ∷ qs)) h, and_right (comes_before p.0 q.0) (are_in_name_order (q ∷ qs)) h)

first-joined : {X : Type 0} (p : Text × X) (ps : List (Text × X)) → ComesFirst p.0 ps → are_in_name_order ps ≡ true → are_in_name_order (p ∷ ps) ≡ true
first-joined p [] first o = refl
first-joined p (q ∷ qs) first o = (λ i. first i && o i)

first-further : {X : Type 0} (t : Text) (p : Text × X) (ps : List (Text × X)) → comes_before t p.0 ≡ true → ComesFirst p.0 ps → ComesFirst t ps
first-further t p [] before first = tt
first-further t p (q ∷ qs) before first = further t p.0 q.0 before first

module _ {X : Type 0} (keep : Text × X → Bool) where
  first-kept : (t : Text) (ps : List (Text × X)) → ComesFirst t ps → are_in_name_order ps ≡ true → ComesFirst t (filter keep ps)
  first-kept t [] first o = tt
  first-kept t (p ∷ ps) first o =
      let parts = first-parts p ps o in
      by (keep p) (first-kept t ps (first-further t p ps first parts.0) parts.1)
    where
      by : (b : Bool) → ComesFirst t (filter keep ps) → ComesFirst t (cond b (p ∷ filter keep ps) (filter keep ps))
      by true later = first
      by false later = later

  -- LAW: what is kept of them stands in that order too
  pub ordered-kept : (ps : List (Text × X)) → are_in_name_order ps ≡ true → are_in_name_order (filter keep ps) ≡ true
  ordered-kept [] o = refl
  ordered-kept (p ∷ ps) o =
      let parts = first-parts p ps o in
      by (keep p) (first-kept p.0 ps parts.0 parts.1) (ordered-kept ps parts.1)
    where
      by : (b : Bool) → ComesFirst p.0 (filter keep ps) → are_in_name_order (filter keep ps) ≡ true → are_in_name_order (cond b (p ∷ filter keep ps) (filter keep ps)) ≡ true
      by true first later = first-joined p (filter keep ps) first later
      by false first later = later

  pub all-kept : (test : Text × X → Bool) (ps : List (Text × X)) → list_all test ps ≡ true → list_all test (filter keep ps) ≡ true
  all-kept test [] h = refl
  all-kept test (p ∷ ps) h = by (keep p) (and_left (test p) (list_all test ps) h) (all-kept test ps (and_right (test p) (list_all test ps) h))
    where
      by : (b : Bool) → test p ≡ true → list_all test (filter keep ps) ≡ true → list_all test (cond b (p ∷ filter keep ps) (filter keep ps)) ≡ true
      by true here later = (λ i. here i && later i)
      by false here later = later

  pub each-kept : (ps : List (Text × X)) → list_all keep (filter keep ps) ≡ true
  each-kept [] = refl
  each-kept (p ∷ ps) = by (keep p) refl (each-kept ps)
    where
      by : (b : Bool) → keep p ≡ b → list_all keep (filter keep ps) ≡ true → list_all keep (cond b (p ∷ filter keep ps) (filter keep ps)) ≡ true
      by true here later = (λ i. here i && later i)
      by false here later = later

  -- where all are kept, nothing is left out
  pub none-left-out : (ps : List (Text × X)) → list_all keep ps ≡ true → filter keep ps ≡ ps
  none-left-out [] h = refl
  none-left-out (p ∷ ps) h = by (keep p) (and_left (keep p) (list_all keep ps) h) (none-left-out ps (and_right (keep p) (list_all keep ps) h))
    where
      by : (b : Bool) → b ≡ true → filter keep ps ≡ ps → cond b (p ∷ filter keep ps) (filter keep ps) ≡ p ∷ ps
      by true here later = (λ i. p ∷ later i)
      by false here later = absurd (cc)

-- LAW: of moments that a store gives those of names that an automation has are such moments too
pub moments-kept : (all : List Automation) (ms : List (Text × ℕ)) → AreSoundMoments ms → AreSoundMoments (of_automations all ms)
moments-kept all ms s =
    let keep : Text × ℕ → Bool = λ p. is_some (automation_named all p.0) in
    record {
      ordered = ordered-kept keep ms s.ordered;
      utf8 = all-kept keep (λ p. is_utf8 p.0) ms s.utf8;
      in_time = all-kept keep (λ p. nat_le p.1 last_moment) ms s.in_time;
    }

pub moments-named : (all : List Automation) (ms : List (Text × ℕ)) → list_all (λ p. is_some (automation_named all p.0)) (of_automations all ms) ≡ true
moments-named all ms = each-kept (λ p. is_some (automation_named all p.0)) ms

-- where each name is one of an automation, they are all kept
pub moments-all-named : (all : List Automation) (ms : List (Text × ℕ)) → list_all (λ p. is_some (automation_named all p.0)) ms ≡ true → of_automations all ms ≡ ms
moments-all-named all ms h = none-left-out (λ p. is_some (automation_named all p.0)) ms h
