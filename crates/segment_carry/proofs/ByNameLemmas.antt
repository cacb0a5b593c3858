-- What is listed by names is in the order of the names.
use Rattle.std.proofs.Common.{◌≡◌, ◌∙◌, ap, refl, sym, ℕ, zero, suc, ◌+◌, ◌-◌, ◌<◌, ◌≤◌, inl, inr, Bool, true, false, cond, Option, List, [], ◌∷◌, ◌++◌, length, get_or, take, arith}
use Rattle.std.specs.Prelude.{◌⊎◌, Some, None, filter_map, insert, map, nat_eq, nat_lt, not, option_map, position, slice_get, unwrap_or, if◌then◌else◌}
use Rattle.std.specs.List.{cons_option, enumerate_from, position_or_len, prefix_len}
use Rattle.std.specs.Option.{option_map_or}
use Rattle.std.proofs.lemmas.Bool.Decides.{nat_tests}
use Rattle.std.proofs.lemmas.Cmp.{same_from_slice_cmp_tested}
use Rattle.std.proofs.lemmas.List.{get_or_default, length-map, take_all, take_more}
use Rattle.std.proofs.lemmas.List.Elements.{filter_map-append}
use Rattle.std.proofs.lemmas.Option.{slice_get-get_or}
use Rattle.std.specs.Ordering.{nat_cmp, is_lt, is_some_and}
use Rattle.std.specs.Cmp.Lexicographic.{slice_partial_cmp}
use Rattle.ha_config.specs.declared.config.Automation.{Automation}
use Rattle.ha_config.specs.Words.{Text, comes_before, numbers_from, same, up_to}
use Rattle.ha_config.specs.Names.{name_in, name_of, names_of}
use Rattle.ha_config.proofs.EqualLemmas.{same-refl, same-sound}
use Rattle.ha_config.proofs.ListLemmas.{none-some, some-same, true-false}
use Rattle.ha_whole.specs.Named.{in_name_order, placed_by_name}
use Rattle.segment_carry.specs.ByName.{by_name, listed, put_by_name, sorted}

-- ---- the order of texts

below : (a b : ℕ) → nat_lt a b ≡ true → a < b
below a b h = grind (arith, nat_tests)

is-below : (a b : ℕ) → a < b → nat_lt a b ≡ true
is-below a b h = grind (arith, nat_tests)

equal : (a b : ℕ) → nat_eq a b ≡ true → a ≡ b
equal a b h = grind (arith, nat_tests)

not-less : (a b : ℕ) → a ≡ b → nat_lt a b ≡ false
not-less a b h = grind (arith, nat_tests)

is-equal : (a b : ℕ) → a ≡ b → nat_eq a b ≡ true
is-equal a b h = grind (arith, nat_tests)

above : (a b : ℕ) → nat_lt a b ≡ false → nat_eq a b ≡ false → b < a
above a b h k = grind (arith, nat_tests)

-- of two texts the first has the lesser byte at the front, or the same and comes first behind it
front-is : (x y : ℕ) (xs ys : Text) → comes_before (x ∷ xs) (y ∷ ys) ≡ true → (x < y) ⊎ ((x ≡ y) × (comes_before xs ys ≡ true))
front-is x y xs ys h = by (nat_lt x y) (nat_eq x y) refl refl h
  where
    by : (s t : Bool) → nat_lt x y ≡ s → nat_eq x y ≡ t → (if s then true else (if t then comes_before xs ys else false)) ≡ true → (x < y) ⊎ ((x ≡ y) × (comes_before xs ys ≡ true))
    by true t e f k = inl (below x y e)
    by false true e f k = inr (equal x y f, k)
    by false false e f k = absurd (cc)

-- and where it does not come first
front-not : (x y : ℕ) (xs ys : Text) → comes_before (x ∷ xs) (y ∷ ys) ≡ false → (y < x) ⊎ ((x ≡ y) × (comes_before xs ys ≡ false))
front-not x y xs ys h = by (nat_lt x y) (nat_eq x y) refl refl h
  where
    by : (s t : Bool) → nat_lt x y ≡ s → nat_eq x y ≡ t → (if s then true else (if t then comes_before xs ys else false)) ≡ false → (y < x) ⊎ ((x ≡ y) × (comes_before xs ys ≡ false))
    by true t e f k = absurd (cc)
    by false true e f k = inr (equal x y f, k)
    by false false e f k = inl (above x y e f)

pub further : (a b c : Text) → comes_before a b ≡ true → comes_before b c ≡ true → comes_before a c ≡ true
further [] [] c h k = absurd (cc)
further [] (y ∷ b) [] h k = absurd (cc)
further [] (y ∷ b) (z ∷ c) h k = refl
further (x ∷ a) [] c h k = absurd (cc)
further (x ∷ a) (y ∷ b) [] h k = absurd (cc)
further (x ∷ a) (y ∷ b) (z ∷ c) h k = by (front-is x y a b h) (front-is y z b c k) (further a b c)
  where
    first : x < z → comes_before (x ∷ a) (z ∷ c) ≡ true
    first lt = rw (is-below x z lt) refl

    by : (x < y) ⊎ ((x ≡ y) × (comes_before a b ≡ true)) → (y < z) ⊎ ((y ≡ z) × (comes_before b c ≡ true))
        → (comes_before a b ≡ true → comes_before b c ≡ true → comes_before a c ≡ true) → comes_before (x ∷ a) (z ∷ c) ≡ true
    by (inl p) (inl q) rest = first (omega (arith, p, q))
    by (inl p) (inr q) rest = first (omega (arith, p, q.0))
    by (inr p) (inl q) rest = first (omega (arith, p.0, q))
    by (inr p) (inr q) rest = rw (not-less x z (p.0 ∙ q.0), is-equal x z (p.0 ∙ q.0)) (rest p.1 q.1)

-- no text comes before itself
pub before-itself : (t : Text) → comes_before t t ≡ false
before-itself [] = refl
before-itself (x ∷ t) = rw (not-less x x refl, is-equal x x refl) (before-itself t)

-- of two texts that differ one comes before the other
pub or-before : (a b : Text) → same a b ≡ false → comes_before a b ≡ false → comes_before b a ≡ true
or-before [] [] h k = absurd (true-false h)
or-before [] (y ∷ b) h k = absurd (true-false k)
or-before (x ∷ a) [] h k = refl
or-before (x ∷ a) (y ∷ b) h k = by (front-not x y a b k) (or-before a b)
  where
    by : (y < x) ⊎ ((x ≡ y) × (comes_before a b ≡ false)) → (same a b ≡ false → comes_before a b ≡ false → comes_before b a ≡ true) → comes_before (y ∷ b) (x ∷ a) ≡ true
    by (inl lt) rest = rw (is-below y x lt) refl
    by (inr e) rest = rw (not-less y x (sym e.0), is-equal y x (sym e.0)) (rest (differ e.0) e.1)
      where
        differ : x ≡ y → same a b ≡ false
        differ f = other (same a b) refl
          where
            other : (c : Bool) → same a b ≡ c → same a b ≡ false
            other true g = absurd (true-false (sym (same-refl (x ∷ a)) ∙ (λ i. same (x ∷ a) (f i ∷ same-sound a b g i)) ∙ h))
            other false g = g

-- what comes before a text comes before each that does not
between : (p q r : Text) → comes_before p q ≡ true → comes_before r q ≡ false → comes_before p r ≡ true
between [] [] r h k = absurd (cc)
between [] (y ∷ b) [] h k = absurd (cc)
between [] (y ∷ b) (z ∷ c) h k = refl
between (x ∷ a) [] r h k = absurd (cc)
between (x ∷ a) (y ∷ b) [] h k = absurd (cc)
between (x ∷ a) (y ∷ b) (z ∷ c) h k = by (front-is x y a b h) (front-not z y c b k) (between a b c)
  where
    first : x < z → comes_before (x ∷ a) (z ∷ c) ≡ true
    first lt = rw (is-below x z lt) refl

    by : (x < y) ⊎ ((x ≡ y) × (comes_before a b ≡ true)) → (y < z) ⊎ ((z ≡ y) × (comes_before c b ≡ false))
        → (comes_before a b ≡ true → comes_before c b ≡ false → comes_before a c ≡ true) → comes_before (x ∷ a) (z ∷ c) ≡ true
    by (inl p) (inl q) rest = first (omega (arith, p, q))
    by (inl p) (inr q) rest = first (omega (arith, p, q.0))
    by (inr p) (inl q) rest = first (omega (arith, p.0, q))
    by (inr p) (inr q) rest = rw (not-less x z (p.0 ∙ sym q.0), is-equal x z (p.0 ∙ sym q.0)) (rest p.1 q.1)

-- the value of a pair of number and automation, with the name
abbrev pub given : {X : Type 0} → (ℕ → Option X) → ℕ × Automation → Option (Text × X)
given value p = option_map (λ v. (p.1.name, v)) (value p.0)

module _ (names : List Text) where
  -- the text comes before the names of all these
  abbrev AllAfter : Text → List ℕ → Type 0
  AllAfter p [] = Unit {0}
  AllAfter p (b ∷ bs) = (comes_before p (name_in names b) ≡ true) × AllAfter p bs

  -- what comes before one of these by name comes before those behind it
  abbrev IsSorted : List ℕ → Type 0
  IsSorted [] = Unit {0}
  IsSorted (b ∷ bs) = ((p : Text) → comes_before p (name_in names b) ≡ true → AllAfter p bs) × IsSorted bs

  after-put : (p : Text) (a : ℕ) (bs : List ℕ) → AllAfter p bs → comes_before p (name_in names a) ≡ true → AllAfter p (put_by_name names a bs)
  after-put p a [] h lt = (lt, tt)
  after-put p a (b ∷ bs) h lt = by (comes_before (name_in names a) (name_in names b)) (after-put p a bs h.1 lt)
    where
      by : (c : Bool) → AllAfter p (put_by_name names a bs) → AllAfter p (if c then a ∷ b ∷ bs else b ∷ put_by_name names a bs)
      by true rest = (lt, h)
      by false rest = (h.0, rest)

  sorted-put : (a : ℕ) (bs : List ℕ) → IsSorted bs → IsSorted (put_by_name names a bs)
  sorted-put a [] h = ((λ p lt. tt), tt)
  sorted-put a (b ∷ bs) h = by (comes_before (name_in names a) (name_in names b)) refl (sorted-put a bs h.1)
    where
      by : (c : Bool) → comes_before (name_in names a) (name_in names b) ≡ c → IsSorted (put_by_name names a bs) → IsSorted (if c then a ∷ b ∷ bs else b ∷ put_by_name names a bs)
      by true e rest = ((λ p lt. (let far = further p (name_in names a) (name_in names b) lt e in (far, h.0 p far))), h)
      by false e rest = ((λ p lt. after-put p a bs (h.0 p lt) (between p (name_in names b) (name_in names a) lt e)), rest)

  sorted-all : (chosen : List ℕ) → IsSorted (sorted names chosen)
  sorted-all [] = tt
  sorted-all (a ∷ rest) = sorted-put a (sorted names rest) (sorted-all rest)

  module _ {X : Type 0} (value : ℕ → Option X) where
    abbrev pair_of : ℕ → X → Text × X
    pair_of a v = (name_in names a, v)

    -- a pair whose name comes before all stands in front
    placed-front : (p : Text) (v : X) (bs : List ℕ) → AllAfter p bs → placed_by_name {X = X} (p, v) (listed names value bs) ≡ (p, v) ∷ listed names value bs
    placed-front p v [] h = refl
    placed-front p v (b ∷ bs) h = by (value b) (placed-front p v bs h.1)
      where
        by : (o : Option X) → placed_by_name {X = X} (p, v) (listed names value bs) ≡ (p, v) ∷ listed names value bs
            → placed_by_name {X = X} (p, v) (cons_option (option_map (pair_of b) o) (listed names value bs)) ≡ (p, v) ∷ cons_option (option_map (pair_of b) o) (listed names value bs)
        by None rest = rest
        by (Some w) rest = (λ i. if h.0 i then (p, v) ∷ pair_of b w ∷ listed names value bs else pair_of b w ∷ placed_by_name {X = X} (p, v) (listed names value bs))

    listed-put : (a : ℕ) (v : X) → value a ≡ Some v → (bs : List ℕ) → IsSorted bs → listed names value (put_by_name names a bs) ≡ placed_by_name {X = X} (pair_of a v) (listed names value bs)
    listed-put a v is [] h = (λ i. cons_option (option_map (pair_of a) (is i)) [])
    listed-put a v is (b ∷ bs) h = by (comes_before (name_in names a) (name_in names b)) refl (listed-put a v is bs h.1)
      where
        behind : comes_before (name_in names a) (name_in names b) ≡ false → (o : Option X) → listed names value (put_by_name names a bs) ≡ placed_by_name {X = X} (pair_of a v) (listed names value bs)
            → cons_option (option_map (pair_of b) o) (listed names value (put_by_name names a bs)) ≡ placed_by_name {X = X} (pair_of a v) (cons_option (option_map (pair_of b) o) (listed names value bs))
        behind e None rest = rest
        behind e (Some w) rest =
            (λ i. pair_of b w ∷ rest i)
            ∙ (λ i. if sym e i then pair_of a v ∷ pair_of b w ∷ listed names value bs else pair_of b w ∷ placed_by_name {X = X} (pair_of a v) (listed names value bs))

        by : (c : Bool) → comes_before (name_in names a) (name_in names b) ≡ c → listed names value (put_by_name names a bs) ≡ placed_by_name {X = X} (pair_of a v) (listed names value bs)
            → listed names value (if c then a ∷ b ∷ bs else b ∷ put_by_name names a bs) ≡ placed_by_name {X = X} (pair_of a v) (listed names value (b ∷ bs))
        by true e rest = (λ i. cons_option (option_map (pair_of a) (is i)) (listed names value (b ∷ bs))) ∙ sym (placed-front (name_in names a) v (b ∷ bs) (e, h.0 (name_in names a) e))
        by false e rest = behind e (value b) rest

    listed-skip : (a : ℕ) → value a ≡ None → (bs : List ℕ) → listed names value (put_by_name names a bs) ≡ listed names value bs
    listed-skip a is [] = (λ i. cons_option (option_map (pair_of a) (is i)) [])
    listed-skip a is (b ∷ bs) = by (comes_before (name_in names a) (name_in names b)) (listed-skip a is bs)
      where
        by : (c : Bool) → listed names value (put_by_name names a bs) ≡ listed names value bs → listed names value (if c then a ∷ b ∷ bs else b ∷ put_by_name names a bs) ≡ listed names value (b ∷ bs)
        by true rest = (λ i. cons_option (option_map (pair_of a) (is i)) (listed names value (b ∷ bs)))
        by false rest = (λ i. cons_option (option_map (pair_of b) (value b)) (rest i))

    listed-sorted : (chosen : List ℕ) → listed names value (sorted names chosen) ≡ in_name_order {X = X} (listed names value chosen)
    listed-sorted [] = refl
    listed-sorted (a ∷ rest) = by (value a) refl (listed-sorted rest)
      where
        by : (o : Option X) → value a ≡ o → listed names value (sorted names rest) ≡ in_name_order {X = X} (listed names value rest)
            → listed names value (put_by_name names a (sorted names rest)) ≡ in_name_order {X = X} (listed names value (a ∷ rest))
        by None is later = listed-skip a is (sorted names rest) ∙ later ∙ (λ i. in_name_order {X = X} (cons_option (option_map (pair_of a) (sym is i)) (listed names value rest)))
        by (Some v) is later =
            listed-put a v is (sorted names rest) (sorted-all rest)
            ∙ ap (placed_by_name {X = X} (pair_of a v)) later
            ∙ (λ i. in_name_order {X = X} (cons_option (option_map (pair_of a) (sym is i)) (listed names value rest)))

    listed-from : (n : ℕ) (xs : List Automation) → ((i : ℕ) (x : Automation) → slice_get xs i ≡ Some x → slice_get names (n + i) ≡ Some x.name)
        → filter_map (given value) (enumerate_from n xs) ≡ listed names value (numbers_from n (length xs))
    listed-from n [] h = refl
    listed-from n (x ∷ xs) h =
        let here : slice_get names n ≡ Some x.name = (let e : n ≡ n + 0 = omega arith in ap (slice_get names) e ∙ h 0 x refl) in
        let later : (i : ℕ) (y : Automation) → slice_get xs i ≡ Some y → slice_get names ((n + 1) + i) ≡ Some y.name
        = λ i y is. (let e : (n + 1) + i ≡ n + suc i = omega arith in ap (slice_get names) e ∙ h (suc i) y is) in
        (λ i. cons_option (option_map (λ v. (unwrap_or (sym here i) [], v)) (value n)) (listed-from (n + 1) xs later i))

-- the name at a place is that of what stands there
name-there : (all : List Automation) (i : ℕ) (x : Automation) → slice_get all i ≡ Some x → slice_get (names_of all) i ≡ Some x.name
name-there [] i x is = absurd (none-some x is)
name-there (y ∷ all) zero x is = (λ k. Some (some-same y x is k).name)
name-there (y ∷ all) (suc i) x is = name-there all i x is

module _ (all : List Automation) {X : Type 0} (value : ℕ → Option X) where
  listed-all : filter_map (given value) (enumerate_from 0 all) ≡ listed (names_of all) value (up_to (length all))
  listed-all = listed-from (names_of all) value 0 all (λ i x is. (let e : 0 + i ≡ i = omega arith in ap (slice_get (names_of all)) e ∙ name-there all i x is))

  -- LAW: what is listed by name are the values of all, in the order of their names
  pub listed-by-name : listed (names_of all) value (by_name (names_of all)) ≡ in_name_order {X = X} (filter_map (given value) (enumerate_from 0 all))
  listed-by-name =
      listed-sorted (names_of all) value (up_to (length (names_of all)))
      ∙ (λ i. in_name_order {X = X} (listed (names_of all) value (up_to (length-map all (λ (a : Automation). a.name) i))))
      ∙ ap (in_name_order {X = X}) (sym listed-all)

-- ---- by the automations in force

-- what each of these has that has one, by what it is, is what is listed of their places
pub given-each : {Y X : Type 0} (rule : Y → Automation) (value : Y → Option X) (f : ℕ → Option X) (n : ℕ) (ys : List Y) → ((i : ℕ) (y : Y) → slice_get ys i ≡ Some y → f (n + i) ≡ value y)
    → filter_map (given f) (enumerate_from n (map {A = Y} {B = Automation} rule ys)) ≡ filter_map (λ y. option_map (λ v. ((rule y).name, v)) (value y)) ys
given-each rule value f n [] h = refl
given-each {Y} {X} rule value f n (y ∷ ys) h =
    let here : f n ≡ value y = (let e : n ≡ n + 0 = omega arith in ap f e ∙ h 0 y refl) in
    λ i. cons_option (option_map {T = X} {U = Text × X} (λ v. ((rule y).name, v)) (here i)) (given-each rule value f (n + 1) ys (λ k z is. (let e : (n + 1) + k ≡ n + suc k = omega arith in ap f e ∙ h (suc k) z is)) i)

-- those that all have one
pub all-given : {Y X : Type 0} (rule : Y → Automation) (value : Y → X) (ys : List Y) → filter_map (λ y. option_map (λ v. ((rule y).name, v)) (Some (value y))) ys ≡ map {A = Y} {B = Text × X} (λ y. ((rule y).name, value y)) ys
all-given rule value [] = refl
all-given rule value (y ∷ ys) = λ i. ((rule y).name, value y) ∷ all-given rule value ys i

-- ---- how they are put in order

pub text-order : (xs ys : Text) (r : Bool) → r ≡ is_some_and is_lt (slice_partial_cmp (λ x y. Some (nat_cmp x y)) xs ys) → r ≡ comes_before xs ys
text-order = same_from_slice_cmp_tested nat_cmp is_lt comes_before refl (λ _ _. refl) (λ _ _. refl) (λ x y xs ys o h. grind (arith, nat_tests))

-- one that is inserted before the first that it comes before
pub inserted : (names : List Text) (a : ℕ) (bs : List ℕ) → insert bs (position_or_len (λ b. comes_before (name_in names a) (name_in names b)) bs) a ≡ put_by_name names a bs
inserted names a [] = refl
inserted names a (b ∷ bs) = by (comes_before (name_in names a) (name_in names b)) (inserted names a bs)
  where
    next : (m : ℕ) → insert (b ∷ bs) (1 + m) a ≡ b ∷ insert bs m a
    next m = (let e : 1 + m ≡ suc m = omega arith in λ i. insert (b ∷ bs) (e i) a)

    by : (c : Bool) → insert bs (position_or_len (λ b. comes_before (name_in names a) (name_in names b)) bs) a ≡ put_by_name names a bs
        → insert (b ∷ bs) (cond (not c) (1 + position_or_len (λ b. comes_before (name_in names a) (name_in names b)) bs) 0) a ≡ (if c then a ∷ b ∷ bs else b ∷ put_by_name names a bs)
    by true rest = refl
    by false rest = next (position_or_len (λ b. comes_before (name_in names a) (name_in names b)) bs) ∙ ap (λ (l : List ℕ). b ∷ l) rest

pub prefix-most : {X : Type 0} (p : X → Bool) (xs : List X) → prefix_len p xs ≤ length xs
prefix-most p [] = omega arith
prefix-most p (x ∷ xs) = by (p x) (prefix-most p xs)
  where
    by : (b : Bool) → prefix_len p xs ≤ length xs → cond b (1 + prefix_len p xs) 0 ≤ length (x ∷ xs)
    by true le = omega (arith, le)
    by false le = omega arith

-- the place of the first that passes, else how many there are
pub place-is : {X : Type 0} (p : X → Bool) (xs : List X) → unwrap_or (position p xs) (length xs) ≡ position_or_len p xs
place-is p xs = by (nat_lt (position_or_len p xs) (length xs)) refl (prefix-most (λ x. not (p x)) xs)
  where
    by : (b : Bool) → nat_lt (position_or_len p xs) (length xs) ≡ b → position_or_len p xs ≤ length xs → unwrap_or (cond b (Some (position_or_len p xs)) None) (length xs) ≡ position_or_len p xs
    by true e le = refl
    by false e le = (let ge : length xs ≤ position_or_len p xs = grind (arith, nat_tests) in omega (arith, le, ge))

module _ (names : List Text) (a : ℕ) (order seen : List ℕ) (place : ℕ) (same : seen ≡ order)
    (is : place ≡ unwrap_or (position (λ b. comes_before (name_in names a) (name_in names b)) seen) (length seen)) where
  place-of : place ≡ position_or_len (λ b. comes_before (name_in names a) (name_in names b)) order
  place-of = is ∙ place-is (λ b. comes_before (name_in names a) (name_in names b)) seen ∙ (λ i. position_or_len (λ b. comes_before (name_in names a) (name_in names b)) (same i))

  pub place-within : place ≤ length order
  place-within = (let le = prefix-most (λ x. not (comes_before (name_in names a) (name_in names x))) order in omega (arith, place-of, le))

  pub put-there : (new : List ℕ) → new ≡ insert order place a → new ≡ put_by_name names a order
  put-there new e = e ∙ (λ i. insert order (place-of i) a) ∙ inserted names a order

-- the last ones are in order, and then one more
pub one-more : (names : List Text) (n left : ℕ) → 0 < left → left ≤ n → put_by_name names (left - 1) (sorted names (numbers_from left (n - left))) ≡ sorted names (numbers_from (left - 1) (n - (left - 1)))
one-more names n left more within =
    let count : suc (n - left) ≡ n - (left - 1) = omega (arith, more, within) in
    let first : left ≡ (left - 1) + 1 = omega (arith, more) in
    (λ i. put_by_name names (left - 1) (sorted names (numbers_from (first i) (n - left))))
    ∙ (λ i. sorted names (numbers_from (left - 1) (count i)))

pub none-left : (names : List Text) (n : ℕ) → sorted names (numbers_from n (n - n)) ≡ []
none-left names n = (let e : n - n ≡ 0 = omega arith in λ i. sorted names (numbers_from n (e i)))

pub all-left : (names : List Text) (n : ℕ) → sorted names (numbers_from 0 (n - 0)) ≡ sorted names (up_to n)
all-left names n = (let e : n - 0 ≡ n = omega arith in λ i. sorted names (numbers_from 0 (e i)))

-- ---- one more of them

-- what is listed with one automation more
pub listed-more : {X : Type 0} (names : List Text) (value : ℕ → Option X) (order : List ℕ) (i a : ℕ) → i < length order → a ≡ get_or order i a
    → listed names value (take (i + 1) order) ≡ listed names value (take i order) ++ option_map_or (λ v. (name_in names a, v) ∷ []) (value a) []
listed-more {X} names value order i a lt is =
    ap (listed names value) (take_more order i a lt)
    ∙ filter_map-append (λ b. option_map {T = X} {U = Text × X} (λ v. (name_in names b, v)) (value b)) (take i order) (get_or order i a ∷ [])
    ∙ (λ k. listed names value (take i order) ++ cons_option (option_map {T = X} {U = Text × X} (λ v. (name_in names (sym is k), v)) (value (sym is k))) [])
    ∙ (λ k. listed names value (take i order) ++ one (value a) k)
  where
    one : (o : Option X) → cons_option (option_map {T = X} {U = Text × X} (λ v. (name_in names a, v)) o) [] ≡ option_map_or (λ v. (name_in names a, v) ∷ []) o []
    one None = refl
    one (Some v) = refl

-- so it is where the value of the next one in the order is put behind the others
pub listed-next : {X : Type 0} (names : List Text) (value : ℕ → Option X) (order : List ℕ) (i : ℕ) (made new : List (Text × X)) (o : Option X)
    → i < length order → made ≡ listed names value (take i order) → o ≡ value (get_or order i 0)
    → new ≡ made ++ option_map_or (λ v. (name_in names (get_or order i 0), v) ∷ []) o [] → new ≡ listed names value (take (i + 1) order)
listed-next {X} names value order i made new o lt before told is =
    is
    ∙ (λ k. before k ++ option_map_or {T = X} {U = List (Text × X)} (λ v. (name_in names a, v) ∷ []) (told k) [])
    ∙ sym (listed-more names value order i a lt (get_or_default order i 0 a lt))
  where
    a : ℕ
    a = get_or order i 0

-- the name of the automation at a place
pub named-at : (all : List Automation) (at : ℕ) (d : Automation) → at < length all → (get_or all at d).name ≡ name_of all at
named-at all at d lt = (λ i. option_map_or {T = Automation} {U = Text} (λ x. x.name) (sym (slice_get-get_or all at d lt) i) [])

-- ---- all names in turn

name-place : (all : List Automation) (n : ℕ) → get_or (names_of all) n [] ≡ name_of all n
name-place [] n = refl
name-place (x ∷ all) zero = refl
name-place (x ∷ all) (suc n) = name-place all n

-- one name more behind those before it
pub names-more : (all : List Automation) (n : ℕ) (old new : List Text) (x : Text) → n < length all → old ≡ take n (names_of all) → x ≡ name_of all n → new ≡ old ++ (x ∷ []) → new ≡ take (n + 1) (names_of all)
names-more all n old new x lt before told is =
    let count = length-map all (λ (a : Automation). a.name) in
    is ∙ (λ i. before i ++ ((told ∙ sym (name-place all n)) i ∷ [])) ∙ sym (take_more (names_of all) n [] (omega (arith, lt, count)))

-- none is left
pub names-done : (all : List Automation) (n : ℕ) (made : List Text) → length all ≤ n → made ≡ take n (names_of all) → made ≡ names_of all
names-done all n made past is =
    let count = length-map all (λ (a : Automation). a.name) in
    is ∙ take_all n (names_of all) (omega (arith, past, count))
