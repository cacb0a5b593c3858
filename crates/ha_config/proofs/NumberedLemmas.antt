-- Units with their numbers, where a configuration comes into force behind another.
use Rattle.std.proofs.Common.{◌≡◌, ℕ, zero, suc, ◌+◌, ◌<◌, ◌≤◌, ◌⊎◌, inl, inr, List, [], ◌∷◌, ◌++◌, length, map, Bool, true, false, refl, sym, ap, subst, ◌∙◌, rules, arith, Option}
use Rattle.std.specs.Prelude.{Some, None, is_none, nat_eq, slice_get, find, option_map, ◌||◌, if◌then◌else◌}
use Rattle.std.specs.List.{enumerate_from}
use Rattle.std.specs.Option.{option_map_or}
use Rattle.std.proofs.lemmas.Bool.{eqb-true}
use Rattle.ha_config.specs.declared.config.Automation.{Automation}
use Rattle.ha_config.specs.Names.{named_among}
use Rattle.ha_config.specs.Numbered.{AreUnits, fresh, has_number, keeps_number, kept_number, numbered}
use Rattle.ha_config.specs.Words.{Text, same}
use Rattle.ha_config.proofs.EqualLemmas.{same-sound}
use Rattle.ha_config.proofs.ListLemmas.{none-some, some-same, true-false}

-- ---- parts of a longer list

pub get-front : {X : Type 0} (xs ys : List X) (n : ℕ) → n < length xs → slice_get (xs ++ ys) n ≡ slice_get xs n
get-front [] ys n lt = absurd (omega (arith, lt))
get-front (x ∷ xs) ys zero lt = refl
get-front (x ∷ xs) ys (suc n) lt = get-front xs ys n (omega (arith, lt))

pub get-within : {X : Type 0} (xs : List X) (n : ℕ) (x : X) → slice_get xs n ≡ Some x → n < length xs
get-within [] n x e = absurd (none-some x e)
get-within (y ∷ ys) zero x e = omega arith
get-within (y ∷ ys) (suc n) x e = omega (arith, get-within ys n x e)

get-middle : {X : Type 0} (us : List X) (y : X) (vs : List X) → slice_get (us ++ (y ∷ vs)) (length us) ≡ Some y
get-middle [] y vs = refl
get-middle (u ∷ us) y vs = get-middle us y vs

snoc-append : {X : Type 0} (us : List X) (y : X) (vs : List X) → (us ++ (y ∷ [])) ++ vs ≡ us ++ (y ∷ vs)
snoc-append [] y vs = refl
snoc-append (u ∷ us) y vs = ap (λ l. u ∷ l) (snoc-append us y vs)

length-snoc : {X : Type 0} (us : List X) (y : X) → length (us ++ (y ∷ [])) ≡ suc (length us)
length-snoc [] y = refl
length-snoc (u ∷ us) y = omega (arith, length-snoc us y)

pub length-front : {X : Type 0} (xs ys : List X) → length xs ≤ length (xs ++ ys)
length-front [] ys = omega arith
length-front (x ∷ xs) ys = omega (arith, length-front xs ys)

-- ---- what is kept, and what is new

module _ {A : Type 0} (equal : A → A → Bool) where
  pub fresh-kept : (old : List (ℕ × A)) (y : A) (ys : List A) (n : ℕ) → kept_number equal old y ≡ Some n → fresh equal old (y ∷ ys) ≡ fresh equal old ys
  fresh-kept old y ys n e = (λ i. if is_none (e i) then y ∷ fresh equal old ys else fresh equal old ys)

  pub fresh-new : (old : List (ℕ × A)) (y : A) (ys : List A) → kept_number equal old y ≡ None → fresh equal old (y ∷ ys) ≡ y ∷ fresh equal old ys
  fresh-new old y ys e = (λ i. if is_none (e i) then y ∷ fresh equal old ys else fresh equal old ys)

  pub numbered-kept : (old : List (ℕ × A)) (free : ℕ) (y : A) (ys : List A) (n : ℕ) → kept_number equal old y ≡ Some n → numbered equal old free (y ∷ ys) ≡ (n, y) ∷ numbered equal old free ys
  numbered-kept old free y ys n e = (λ i. option_map_or (λ m. (m, y) ∷ numbered equal old free ys) (e i) ((free, y) ∷ numbered equal old (suc free) ys))

  pub numbered-new : (old : List (ℕ × A)) (free : ℕ) (y : A) (ys : List A) → kept_number equal old y ≡ None → numbered equal old free (y ∷ ys) ≡ (free, y) ∷ numbered equal old (suc free) ys
  numbered-new old free y ys e = (λ i. option_map_or (λ m. (m, y) ∷ numbered equal old free ys) (e i) ((free, y) ∷ numbered equal old (suc free) ys))

  -- the first of those in force, or one behind it
  kept-first : (p : ℕ × A) (old : List (ℕ × A)) (y : A) (b : Bool) → equal p.1 y ≡ b → kept_number equal (p ∷ old) y ≡ option_map {T = ℕ × A} (λ q. q.0) (if b then Some p else find (λ q. equal q.1 y) old)
  kept-first p old y b s = (λ i. option_map {T = ℕ × A} (λ q. q.0) (if s i then Some p else find (λ q. equal q.1 y) old))

  differs : (m n : ℕ) → n < m → nat_eq m n ≡ false
  differs m n lt = search (rules, lt)

  -- LAW: of the numbers that were there those are in force afterwards that one which comes into force keeps
  pub kept-numbers : (old : List (ℕ × A)) (free : ℕ) (ys : List A) (n : ℕ) → n < free → has_number (numbered equal old free ys) n ≡ keeps_number equal old ys n
  kept-numbers old free [] n lt = refl
  kept-numbers old free (y ∷ ys) n lt = by (kept_number equal old y) refl (kept-numbers old free ys n lt) (kept-numbers old (suc free) ys n (omega (arith, lt)))
    where
      by : (o : Option ℕ) → kept_number equal old y ≡ o → has_number (numbered equal old free ys) n ≡ keeps_number equal old ys n → has_number (numbered equal old (suc free) ys) n ≡ keeps_number equal old ys n
          → has_number (numbered equal old free (y ∷ ys)) n ≡ keeps_number equal old (y ∷ ys) n
      by (Some m) e rest later =
          (λ i. has_number (option_map_or (λ m. (m, y) ∷ numbered equal old free ys) (e i) ((free, y) ∷ numbered equal old (suc free) ys)) n)
          ∙ (λ i. nat_eq m n || rest i)
          ∙ (λ i. option_map_or (λ k. nat_eq k n) (sym e i) false || keeps_number equal old ys n)
      by None e rest later =
          (λ i. has_number (option_map_or (λ m. (m, y) ∷ numbered equal old free ys) (e i) ((free, y) ∷ numbered equal old (suc free) ys)) n)
          ∙ (λ i. differs free n lt i || later i)
          ∙ (λ i. option_map_or (λ k. nat_eq k n) (sym e i) false || keeps_number equal old ys n)

  -- LAW: without their numbers they are what comes into force
  pub numbered-are : (old : List (ℕ × A)) (free : ℕ) (ys : List A) → map {A = ℕ × A} {B = A} (λ p. p.1) (numbered equal old free ys) ≡ ys
  numbered-are old free [] = refl
  numbered-are old free (y ∷ ys) = by (kept_number equal old y) refl (numbered-are old free ys) (numbered-are old (suc free) ys)
    where
      by : (o : Option ℕ) → kept_number equal old y ≡ o → map {A = ℕ × A} {B = A} (λ p. p.1) (numbered equal old free ys) ≡ ys
          → map {A = ℕ × A} {B = A} (λ p. p.1) (numbered equal old (suc free) ys) ≡ ys → map {A = ℕ × A} {B = A} (λ p. p.1) (numbered equal old free (y ∷ ys)) ≡ y ∷ ys
      by (Some n) e rest later = ap (map {A = ℕ × A} {B = A} (λ p. p.1)) (numbered-kept old free y ys n e) ∙ ap (λ l. y ∷ l) rest
      by None e rest later = ap (map {A = ℕ × A} {B = A} (λ p. p.1)) (numbered-new old free y ys e) ∙ ap (λ l. y ∷ l) later

  -- a number that is kept was there
  pub kept-there : (old : List (ℕ × A)) (y : A) (n : ℕ) → kept_number equal old y ≡ Some n → has_number old n ≡ true
  kept-there [] y n e = absurd (none-some n e)
  kept-there (p ∷ old) y n e = by (equal p.1 y) refl (λ f. kept-there old y n f)
    where
      itself : (m : ℕ) → nat_eq m m ≡ true
      itself m = search rules

      or-true : (b : Bool) → (b || true) ≡ true
      or-true true = refl
      or-true false = refl

      by : (b : Bool) → equal p.1 y ≡ b → (kept_number equal old y ≡ Some n → has_number old n ≡ true) → has_number (p ∷ old) n ≡ true
      by true s rec =
          let at : p.0 ≡ n = some-same p.0 n (sym (kept-first p old y true s) ∙ e) in
          (λ i. nat_eq (at i) n || has_number old n) ∙ (λ i. itself n i || has_number old n)
      by false s rec = (λ i. nat_eq p.0 n || rec (sym (kept-first p old y false s) ∙ e) i) ∙ or-true (nat_eq p.0 n)

  -- each number was there, or is a new one
  abbrev pub AreNumbers : List (ℕ × A) → ℕ → List (ℕ × A) → Type 0
  AreNumbers old free [] = Unit {0}
  AreNumbers old free (p ∷ ps) = ((has_number old p.0 ≡ true) ⊎ (free ≤ p.0)) × AreNumbers old free ps

  weaker : (old : List (ℕ × A)) (free later : ℕ) → free ≤ later → (ps : List (ℕ × A)) → AreNumbers old later ps → AreNumbers old free ps
  weaker old free later le [] h = tt
  weaker old free later le (p ∷ ps) h = (by h.0, weaker old free later le ps h.1)
    where
      by : (has_number old p.0 ≡ true) ⊎ (later ≤ p.0) → (has_number old p.0 ≡ true) ⊎ (free ≤ p.0)
      by (inl g) = inl g
      by (inr g) = inr (omega (arith, g, le))

  pub are-numbers : (old : List (ℕ × A)) (free : ℕ) (ys : List A) → AreNumbers old free (numbered equal old free ys)
  are-numbers old free [] = tt
  are-numbers old free (y ∷ ys) = by (kept_number equal old y) refl (are-numbers old free ys) (are-numbers old (suc free) ys)
    where
      by : (o : Option ℕ) → kept_number equal old y ≡ o → AreNumbers old free (numbered equal old free ys) → AreNumbers old (suc free) (numbered equal old (suc free) ys)
          → AreNumbers old free (numbered equal old free (y ∷ ys))
      by (Some n) e rest later = subst (AreNumbers old free) (sym (numbered-kept old free y ys n e)) (inl (kept-there old y n e), rest)
      by None e rest later = subst (AreNumbers old free) (sym (numbered-new old free y ys e)) (inr (omega arith), weaker old free (suc free) (omega arith) (numbered equal old (suc free) ys) later)

-- ---- numbers of all units

module _ {A : Type 0} (unit : A → Automation) where
  -- LAW: what has its number among units has it among more
  pub units-front : (us vs : List Automation) (ps : List (ℕ × A)) → AreUnits unit us ps → AreUnits unit (us ++ vs) ps
  units-front us vs [] h = tt
  units-front us vs (p ∷ ps) h = (get-front us vs p.0 (get-within us p.0 (unit p.1) h.0) ∙ h.0, units-front us vs ps h.1)

  -- LAW: numbered from n on they are units, where n stand before them
  pub units-opened : (front : List Automation) (ys : List A) (n : ℕ) → length front ≡ n → AreUnits unit (front ++ map unit ys) (enumerate_from n ys)
  units-opened front [] n len = tt
  units-opened front (y ∷ ys) n len = (
    (λ i. slice_get (front ++ (unit y ∷ map unit ys)) (sym len i)) ∙ get-middle front (unit y) (map unit ys),
    subst (λ us. AreUnits unit us (enumerate_from (n + 1) ys)) (snoc-append front (unit y) (map unit ys))
        (units-opened (front ++ (unit y ∷ [])) ys (n + 1) (omega (arith, length-snoc front (unit y), len))),
  )

  -- LAW: a number that is there is one of the units'
  pub number-below : (us : List Automation) (old : List (ℕ × A)) (n : ℕ) → AreUnits unit us old → has_number old n ≡ true → n < length us
  number-below us [] n are h = absurd (true-false (sym h))
  number-below us (p ∷ old) n are h = by (nat_eq p.0 n) refl (λ g. number-below us old n are.1 g)
    where
      by : (b : Bool) → nat_eq p.0 n ≡ b → (has_number old n ≡ true → n < length us) → n < length us
      by true e rec = subst (λ m. m < length us) (eqb-true p.0 n e) (get-within us p.0 (unit p.1) are.0)
      by false e rec = rec ((λ i. sym e i || has_number old n) ∙ h)

  module _ (equal : A → A → Bool) (sound : (x y : A) → equal x y ≡ true → x ≡ y) where
    -- what is kept is among them, with its number
    found-unit : (us : List Automation) (old : List (ℕ × A)) (y : A) (n : ℕ) → AreUnits unit us old → kept_number equal old y ≡ Some n → slice_get us n ≡ Some (unit y)
    found-unit us [] y n h e = absurd (none-some n e)
    found-unit us (p ∷ old) y n h e = by (equal p.1 y) refl (λ f. found-unit us old y n h.1 f)
      where
        by : (b : Bool) → equal p.1 y ≡ b → (kept_number equal old y ≡ Some n → slice_get us n ≡ Some (unit y)) → slice_get us n ≡ Some (unit y)
        by true s rec =
            let at : p.0 ≡ n = some-same p.0 n (sym (kept-first equal p old y true s) ∙ e) in
            (λ i. slice_get us (sym at i)) ∙ h.0 ∙ ap (λ z. Some (unit z)) (sound p.1 y s)
        by false s rec = rec (sym (kept-first equal p old y false s) ∙ e)

    -- LAW: what comes into force has its numbers among the units that were and those that are new
    pub units-numbered : (us : List Automation) (old : List (ℕ × A)) (free : ℕ) (ys : List A) → length us ≡ free → AreUnits unit us old
        → AreUnits unit (us ++ map unit (fresh equal old ys)) (numbered equal old free ys)
    units-numbered us old free [] len h = tt
    units-numbered us old free (y ∷ ys) len h =
        by (kept_number equal old y) refl (units-numbered us old free ys len h)
        (units-numbered (us ++ (unit y ∷ [])) old (suc free) ys (length-snoc us (unit y) ∙ ap suc len) (units-front us (unit y ∷ []) old h))
      where
        by : (o : Option ℕ) → kept_number equal old y ≡ o → AreUnits unit (us ++ map unit (fresh equal old ys)) (numbered equal old free ys)
            → AreUnits unit ((us ++ (unit y ∷ [])) ++ map unit (fresh equal old ys)) (numbered equal old (suc free) ys)
            → AreUnits unit (us ++ map unit (fresh equal old (y ∷ ys))) (numbered equal old free (y ∷ ys))
        by (Some n) e rest later =
            let there = found-unit us old y n h e in
            let at : slice_get (us ++ map unit (fresh equal old ys)) n ≡ Some (unit y) = get-front us (map unit (fresh equal old ys)) n (get-within us n (unit y) there) ∙ there in
            subst (λ (l : List A). AreUnits unit (us ++ map unit l) (numbered equal old free (y ∷ ys))) (sym (fresh-kept equal old y ys n e))
            (subst (AreUnits unit (us ++ map unit (fresh equal old ys))) (sym (numbered-kept equal old free y ys n e)) (at, rest))
        by None e same later =
            let at : slice_get (us ++ (unit y ∷ map unit (fresh equal old ys))) free ≡ Some (unit y)
            = (λ i. slice_get (us ++ (unit y ∷ map unit (fresh equal old ys))) (sym len i)) ∙ get-middle us (unit y) (map unit (fresh equal old ys)) in
            let rest : AreUnits unit (us ++ (unit y ∷ map unit (fresh equal old ys))) (numbered equal old (suc free) ys)
            = subst (λ vs. AreUnits unit vs (numbered equal old (suc free) ys)) (snoc-append us (unit y) (map unit (fresh equal old ys))) later in
            subst (λ (l : List A). AreUnits unit (us ++ map unit l) (numbered equal old free (y ∷ ys))) (sym (fresh-new equal old y ys e))
            (subst (AreUnits unit (us ++ (unit y ∷ map unit (fresh equal old ys)))) (sym (numbered-new equal old free y ys e)) (at, rest))

pub map-itself : (xs : List Automation) → map {A = Automation} {B = Automation} (λ x. x) xs ≡ xs
map-itself [] = refl
map-itself (x ∷ xs) = ap (λ l. x ∷ l) (map-itself xs)

-- ---- names

-- LAW: the one that is found by a name has this name
pub named-unit : (us : List Automation) (ps : List (ℕ × Automation)) (name : Text) (a : ℕ) → AreUnits (λ x. x) us ps → named_among ps name ≡ Some a
    → option_map_or (λ (x : Automation). x.name) (slice_get us a) [] ≡ name
named-unit us [] name a h e = absurd (none-some a e)
named-unit us (p ∷ ps) name a h e = by (same p.1.name name) refl (λ f. named-unit us ps name a h.1 f)
  where
    named-first : (b : Bool) → same p.1.name name ≡ b → named_among (p ∷ ps) name ≡ option_map {T = ℕ × Automation} (λ q. q.0) (if b then Some p else find (λ q. same q.1.name name) ps)
    named-first b s = (λ i. option_map {T = ℕ × Automation} (λ q. q.0) (if s i then Some p else find (λ q. same q.1.name name) ps))

    by : (b : Bool) → same p.1.name name ≡ b → (named_among ps name ≡ Some a → option_map_or (λ (x : Automation). x.name) (slice_get us a) [] ≡ name)
        → option_map_or (λ (x : Automation). x.name) (slice_get us a) [] ≡ name
    by true s rec =
        let at : p.0 ≡ a = some-same p.0 a (sym (named-first true s) ∙ e) in
        (λ i. option_map_or (λ (x : Automation). x.name) (slice_get us (sym at i)) []) ∙ (λ i. option_map_or (λ (x : Automation). x.name) (h.0 i) []) ∙ same-sound p.1.name name s
    by false s rec = rec (sym (named-first false s) ∙ e)

-- LAW: the one that is found by a name is in force
pub named-there : (ps : List (ℕ × Automation)) (name : Text) (a : ℕ) → named_among ps name ≡ Some a → has_number ps a ≡ true
named-there [] name a e = absurd (none-some a e)
named-there (p ∷ ps) name a e = by (same p.1.name name) refl (λ f. named-there ps name a f)
  where
    itself : (m : ℕ) → nat_eq m m ≡ true
    itself m = search rules

    or-true : (b : Bool) → (b || true) ≡ true
    or-true true = refl
    or-true false = refl

    named-first : (b : Bool) → same p.1.name name ≡ b → named_among (p ∷ ps) name ≡ option_map {T = ℕ × Automation} (λ q. q.0) (if b then Some p else find (λ q. same q.1.name name) ps)
    named-first b s = (λ i. option_map {T = ℕ × Automation} (λ q. q.0) (if s i then Some p else find (λ q. same q.1.name name) ps))

    by : (b : Bool) → same p.1.name name ≡ b → (named_among ps name ≡ Some a → has_number ps a ≡ true) → has_number (p ∷ ps) a ≡ true
    by true s rec =
        let at : p.0 ≡ a = some-same p.0 a (sym (named-first true s) ∙ e) in
        (λ i. nat_eq (at i) a || has_number ps a) ∙ (λ i. itself a i || has_number ps a)
    by false s rec = (λ i. nat_eq p.0 a || rec (sym (named-first false s) ∙ e) i) ∙ or-true (nat_eq p.0 a)
