-- Numbers given one after the other, and the old ones parted.
use Rattle.std.proofs.Common.{◌≡◌, ℕ, zero, suc, ◌+◌, ◌<◌, ◌≤◌, List, [], ◌∷◌, ◌++◌, length, take, drop, get_or, Bool, true, false, refl, sym, ap, subst, ◌∙◌, rules, arith, append_assoc, Option, length-drop, length-take-le, take-append-drop}
use Rattle.std.specs.Prelude.{Some, None, Result, IfOk, is_none, nat_eq, nat_lt, not, filter, find, zip, unwrap_or, option_map, ◌&&◌, ◌||◌, if◌then◌else◌}
use Rattle.std.specs.List.{list_any, list_all}
use Rattle.std.specs.Option.{option_map_or}
use Rattle.std.proofs.lemmas.List.Folds.{list_all-append}
use Rattle.ha_config.specs.Equal.{same_flag}
use Rattle.ha_config.proofs.EqualLemmas.{and_left, and_right}
use Rattle.ha_config.proofs.ListLemmas.{append-nil}
use Rattle.ha_config.proofs.NumberedLemmas.{kept-numbers}
use Rattle.conf_reload.specs.declared.outcome.Plan.{Plan}
use Rattle.ha_config.specs.Numbered.{kept_number, numbered, fresh, has_number, keeps_number}
use Rattle.conf_reload.specs.Plan.{IsPlanOf, numbers_of}

-- ---- the number that is kept

module _ {A : Type 0} (equal : A → A → Bool) where
  pub kept-here : (n : ℕ) (ns : List ℕ) (x : A) (xs : List A) (y : A) → equal x y ≡ true → kept_number equal (zip (n ∷ ns) (x ∷ xs)) y ≡ Some n
  kept-here n ns x xs y e = (λ i. option_map {T = ℕ × A} (λ q. q.0) (if e i then Some (n, x) else find (λ q. equal q.1 y) (zip ns xs)))

  pub kept-later : (n : ℕ) (ns : List ℕ) (x : A) (xs : List A) (y : A) → equal x y ≡ false → kept_number equal (zip (n ∷ ns) (x ∷ xs)) y ≡ kept_number equal (zip ns xs) y
  kept-later n ns x xs y e = (λ i. option_map {T = ℕ × A} (λ q. q.0) (if e i then Some (n, x) else find (λ q. equal q.1 y) (zip ns xs)))

  kept-next : (ns : List ℕ) (us : List A) (i : ℕ) (x y : A) → i < length us → length ns ≡ length us → x ≡ get_or us i x → equal x y ≡ false
      → kept_number equal (zip (drop i ns) (drop i us)) y ≡ kept_number equal (zip (drop (suc i) ns) (drop (suc i) us)) y
  kept-next ns [] i x y lt len is e = absurd (omega (arith, lt))
  kept-next [] (u ∷ us) i x y lt len is e = absurd (omega (arith, len))
  kept-next (n ∷ ns) (u ∷ us) zero x y lt len is e = kept-later n ns u us y ((λ i. equal (sym is i) y) ∙ e)
  kept-next (n ∷ ns) (u ∷ us) (suc i) x y lt len is e = kept-next ns us i x y (omega (arith, lt)) (omega (arith, len)) is e

  -- what is not at this place is behind it
  pub kept-on : (ns : List ℕ) (us : List A) (i : ℕ) (x y : A) → i < length us → length ns ≡ length us → x ≡ get_or us i x → equal x y ≡ false
      → kept_number equal (zip (drop i ns) (drop i us)) y ≡ kept_number equal (zip (drop (i + 1) ns) (drop (i + 1) us)) y
  kept-on ns us i x y lt len is e = kept-next ns us i x y lt len is e ∙ (let up : suc i ≡ i + 1 = omega arith in λ k. kept_number equal (zip (drop (up k) ns) (drop (up k) us)) y)

-- ---- numbers given in turn

-- so many are given, and the rest gives the whole
pub record IsGiven {A : Type 0} (equal : A → A → Bool) (old : List (ℕ × A)) (free : ℕ) (new rest : List A) (given : List ℕ) (next at : ℕ) : Type 0 where
  pub numbers : given ++ numbers_of (numbered equal old next rest) ≡ numbers_of (numbered equal old free new)
  pub count : next + length (fresh equal old rest) ≡ free + length (fresh equal old new)
  pub below : next ≤ free + at

module _ {A : Type 0} (equal : A → A → Bool) (old : List (ℕ × A)) (free : ℕ) (new : List A) where
  pub none-given : IsGiven equal old free new new [] free 0
  none-given = record { numbers = refl; count = refl; below = omega arith }

  pub one-given : (y : A) (rest : List A) (given given' : List ℕ) (next next' at : ℕ)
      → given' ≡ given ++ (unwrap_or (kept_number equal old y) next ∷ []) → next' ≡ option_map_or (λ m. next) (kept_number equal old y) (next + 1)
      → IsGiven equal old free new (y ∷ rest) given next at → IsGiven equal old free new rest given' next' (at + 1)
  one-given y rest given given' next next' at are is g = by (kept_number equal old y) refl are is
    where
      by : (o : Option ℕ) → kept_number equal old y ≡ o → given' ≡ given ++ (unwrap_or o next ∷ []) → next' ≡ option_map_or (λ m. next) o (next + 1)
          → IsGiven equal old free new rest given' next' (at + 1)
      by (Some n) e are is =
          let numbers : numbers_of (numbered equal old next (y ∷ rest)) ≡ n ∷ numbers_of (numbered equal old next rest)
          = (λ i. numbers_of (option_map_or (λ m. (m, y) ∷ numbered equal old next rest) (e i) ((next, y) ∷ numbered equal old (suc next) rest))) in
          let fewer : fresh equal old (y ∷ rest) ≡ fresh equal old rest = (λ i. if is_none (e i) then y ∷ fresh equal old rest else fresh equal old rest) in record {
            numbers = (λ i. are i ++ numbers_of (numbered equal old (is i) rest)) ∙ append_assoc given (n ∷ []) (numbers_of (numbered equal old next rest))
                ∙ (λ i. given ++ sym numbers i) ∙ g.numbers;
            count = (λ i. is i + length (sym fewer i)) ∙ g.count;
            below = omega (arith, is, g.below);
          }
      by None e are is =
          let numbers : numbers_of (numbered equal old next (y ∷ rest)) ≡ next ∷ numbers_of (numbered equal old (suc next) rest)
          = (λ i. numbers_of (option_map_or (λ m. (m, y) ∷ numbered equal old next rest) (e i) ((next, y) ∷ numbered equal old (suc next) rest))) in
          let more : length (fresh equal old (y ∷ rest)) ≡ suc (length (fresh equal old rest)) = (λ i. length (if is_none (e i) then y ∷ fresh equal old rest else fresh equal old rest)) in
          let up : next' ≡ suc next = omega (arith, is) in record {
            numbers = (λ i. are i ++ numbers_of (numbered equal old (up i) rest)) ∙ append_assoc given (next ∷ []) (numbers_of (numbered equal old (suc next) rest))
                ∙ (λ i. given ++ sym numbers i) ∙ g.numbers;
            count = omega (arith, is, more, g.count);
            below = omega (arith, is, g.below);
          }

  pub all-given : (given : List ℕ) (next at : ℕ) → IsGiven equal old free new [] given next at → given ≡ numbers_of (numbered equal old free new)
  all-given given next at g = sym (append-nil given) ∙ g.numbers

  pub all-counted : (given : List ℕ) (next at : ℕ) → IsGiven equal old free new [] given next at → next ≡ free + length (fresh equal old new)
  all-counted given next at g = omega (arith, g.count)

-- ---- the old numbers, parted

pub put-one : (test : ℕ → Bool) (part part' : List ℕ) (n : ℕ) (ns : List ℕ) (b : Bool) → b ≡ test n → part' ≡ (if b then part ++ (n ∷ []) else part) → part' ++ filter test ns ≡ part ++ filter test (n ∷ ns)
put-one test part part' n ns b is put = (λ i. put i ++ filter test ns) ∙ by b ∙ (λ i. part ++ (if is i then n ∷ filter test ns else filter test ns))
  where
    by : (b : Bool) → (if b then part ++ (n ∷ []) else part) ++ filter test ns ≡ part ++ (if b then n ∷ filter test ns else filter test ns)
    by true = append_assoc part (n ∷ []) (filter test ns)
    by false = refl

-- ---- the numbers that are kept

less : (a b : ℕ) → nat_lt a b ≡ true → a < b
less a b h = search (rules, h)

is-less : (a b : ℕ) → a < b → nat_lt a b ≡ true
is-less a b lt = search rules

filter-alike : (f g : ℕ → Bool) (free : ℕ) (ns : List ℕ) → ((n : ℕ) → n < free → f n ≡ g n) → list_all (λ n. nat_lt n free) ns ≡ true → filter f ns ≡ filter g ns
filter-alike f g free [] h all = refl
filter-alike f g free (n ∷ ns) h all =
    let e = h n (less n free (and_left (nat_lt n free) (list_all (λ m. nat_lt m free) ns) all)) in
    let rest = filter-alike f g free ns h (and_right (nat_lt n free) (list_all (λ m. nat_lt m free) ns) all) in
    λ i. if e i then n ∷ rest i else rest i

module _ {A : Type 0} (equal : A → A → Bool) (old : List (ℕ × A)) where
  among-numbers : (ps : List (ℕ × A)) (n : ℕ) → list_any (λ m. nat_eq m n) (numbers_of ps) ≡ has_number ps n
  among-numbers [] n = refl
  among-numbers (p ∷ ps) n = ap (λ b. nat_eq p.0 n || b) (among-numbers ps n)

  pub among-given : (free : ℕ) (ys : List A) (given : List ℕ) (n : ℕ) → given ≡ numbers_of (numbered equal old free ys) → n < free
      → list_any (λ m. nat_eq m n) given ≡ keeps_number equal old ys n
  among-given free ys given n is lt =
      (λ i. list_any (λ m. nat_eq m n) (is i)) ∙ among-numbers (numbered equal old free ys) n ∙ kept-numbers equal old free ys n lt

  -- LAW: the old numbers that are given again are those that are kept, and the others are not
  pub kept-part : (free : ℕ) (ys : List A) (given ns : List ℕ) → given ≡ numbers_of (numbered equal old free ys) → list_all (λ n. nat_lt n free) ns ≡ true
      → filter (λ n. same_flag true (list_any (λ m. nat_eq m n) given)) ns ≡ filter (keeps_number equal old ys) ns
  kept-part free ys given ns is all = filter-alike (λ n. same_flag true (list_any (λ m. nat_eq m n) given)) (keeps_number equal old ys) free ns (λ n lt. among-given free ys given n is lt) all

  pub gone-part : (free : ℕ) (ys : List A) (given ns : List ℕ) → given ≡ numbers_of (numbered equal old free ys) → list_all (λ n. nat_lt n free) ns ≡ true
      → filter (λ n. same_flag false (list_any (λ m. nat_eq m n) given)) ns ≡ filter (λ n. not (keeps_number equal old ys n)) ns
  gone-part free ys given ns is all =
      filter-alike (λ n. same_flag false (list_any (λ m. nat_eq m n) given)) (λ n. not (keeps_number equal old ys n)) free ns
      (λ n lt. by (list_any (λ m. nat_eq m n) given) (keeps_number equal old ys n) (among-given free ys given n is lt)) all
    where
      by : (a b : Bool) → a ≡ b → same_flag false a ≡ not b
      by true true e = refl
      by false false e = refl
      by true false e = cc
      by false true e = cc

  -- no more are new than come into force
  pub fresh-few : (ys : List A) → length (fresh equal old ys) ≤ length ys
  fresh-few [] = omega arith
  fresh-few (y ∷ ys) = by (is_none (kept_number equal old y)) (fresh-few ys)
    where
      by : (b : Bool) → length (fresh equal old ys) ≤ length ys → length (if b then y ∷ fresh equal old ys else fresh equal old ys) ≤ suc (length ys)
      by true le = omega (arith, le)
      by false le = omega (arith, le)

-- ---- the numbers of both kinds

pub front-below : (free count : ℕ) (ns : List ℕ) → list_all (λ n. nat_lt n free) ns ≡ true → list_all (λ n. nat_lt n free) (take count ns) ≡ true
front-below free count ns h =
    and_left (list_all (λ n. nat_lt n free) (take count ns)) (list_all (λ n. nat_lt n free) (drop count ns))
    (sym (list_all-append (λ n. nat_lt n free) (take count ns) (drop count ns)) ∙ ap (list_all (λ n. nat_lt n free)) (take-append-drop count ns) ∙ h)

pub behind-below : (free count : ℕ) (ns : List ℕ) → list_all (λ n. nat_lt n free) ns ≡ true → list_all (λ n. nat_lt n free) (drop count ns) ≡ true
behind-below free count ns h =
    and_right (list_all (λ n. nat_lt n free) (take count ns)) (list_all (λ n. nat_lt n free) (drop count ns))
    (sym (list_all-append (λ n. nat_lt n free) (take count ns) (drop count ns)) ∙ ap (list_all (λ n. nat_lt n free)) (take-append-drop count ns) ∙ h)

pub below-later : (free later : ℕ) (ns : List ℕ) → free ≤ later → list_all (λ n. nat_lt n free) ns ≡ true → list_all (λ n. nat_lt n later) ns ≡ true
below-later free later [] le h = refl
below-later free later (n ∷ ns) le h =
    let here : n < free = less n free (and_left (nat_lt n free) (list_all (λ m. nat_lt m free) ns) h) in
    let above : nat_lt n later ≡ true = is-less n later (omega (arith, here, le)) in
    let rest = below-later free later ns le (and_right (nat_lt n free) (list_all (λ m. nat_lt m free) ns) h) in
    (λ i. above i && list_all (λ m. nat_lt m later) ns) ∙ rest

pub front-whole : (count : ℕ) (ns own : List ℕ) → count ≤ length ns → own ≡ take count ns → length own ≡ count
front-whole count ns own le is = ap length is ∙ length-take-le count ns le

pub behind-whole : (count more : ℕ) (ns own : List ℕ) → length ns ≡ count + more → own ≡ drop count ns → length own ≡ more
behind-whole count more ns own len is = (let left = length-drop count ns in let same = ap length is in omega (arith, len, left, same))

-- a plan by the names that the code has
pub plan-here : {A : Type 0} (equal : A → A → Bool) (ns ns' : List ℕ) (us us' vs vs' : List A) (free : ℕ) {E : Type 0} (r : Result Plan E) → ns ≡ ns' → us ≡ us' → vs ≡ vs'
    → IfOk r (λ p. IsPlanOf equal (zip ns us) ns free vs p) → IfOk r (λ p. IsPlanOf equal (zip ns' us') ns' free vs' p)
plan-here {A} equal ns ns' us us' vs vs' free r numbers old new h =
    subst (λ (l : List ℕ). IfOk r (λ p. IsPlanOf equal (zip l us') l free vs' p)) numbers
    (subst (λ (l : List A). IfOk r (λ p. IsPlanOf equal (zip ns l) ns free vs' p)) old
    (subst (λ (l : List A). IfOk r (λ p. IsPlanOf equal (zip ns us) ns free l p)) new h))
