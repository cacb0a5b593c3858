-- Counts by the first unit of a name, which go by the units of the runs alone.
use Rattle.std.proofs.Common.{◌≡◌, ℕ, zero, suc, ◌+◌, ◌<◌, ◌≤◌, ◌^◌, List, [], ◌∷◌, ◌++◌, length, map, Bool, true, false, cond, refl, sym, ap, subst, ◌∙◌, rules, arith, Option}
use Rattle.std.specs.Prelude.{Some, None, Result, Ok, Err, OnOk, OnErr, IfOk, nat_eq, nat_lt, slice_get, slice_index_or, sum_by, unwrap_or, ◌&&◌, if◌then◌else◌}
use Rattle.std.specs.List.{list_all}
use Rattle.std.proofs.lemmas.List.Sums.{count_by-le-length, sum_by-cons}
use Rattle.ha_config.specs.declared.config.Mode.{Mode}
use Rattle.ha_config.specs.Words.{Pairs, numbers_from, or_else, up_to}
use Rattle.ha_config.proofs.EqualLemmas.{and_left, and_right}
use Rattle.ha_config.proofs.ListLemmas.{append-nil, none-some, some-same}
use Rattle.ha_model.specs.declared.record.EndCause.{EndCause}
use Rattle.ha_model.specs.declared.record.Record.{Record}
use Rattle.ha_model.specs.Records.{Records, is_restart_mode, joined, lets_in, live_count, replace_all}
use Rattle.run_modes.specs.declared.admission.Admission.{Admission}
use Rattle.run_modes.specs.Lanes.{first_of}
use Rattle.run_modes.specs.Table.{admission, attempted, begin_first, called_on, ended_at, end_one, is_live, is_stopped, live_of, new_run, stopped, told}
use Rattle.segment_runs.specs.Segment.{number_at}
use Rattle.named_runs.specs.Named.{first_in, runs_named}
use Rattle.named_runs.specs.Told.{is_admission, is_admitted}

abbrev pub units_of : Records → List ℕ
units_of rs = map {A = Record} {B = ℕ} (λ r. r.automation) rs

-- ---- what leaves the units

same-mapped : (f : Record → Record) → ((r : Record) → (f r).automation ≡ r.automation) → (rs : Records) → units_of (map {A = Record} {B = Record} f rs) ≡ units_of rs
same-mapped f same [] = refl
same-mapped f same (r ∷ rs) = (λ i. same r i ∷ same-mapped f same rs i)

pub units-stopped : (which : Option ℕ) (place : ℕ) (cause : EndCause) (rs : Records) → units_of (stopped which place cause rs) ≡ units_of rs
units-stopped which place cause rs = same-mapped (λ r. if is_stopped which r then end_one true place cause r else r) (λ r. by r (is_stopped which r)) rs
  where
    by : (r : Record) (b : Bool) → (if b then end_one true place cause r else r).automation ≡ r.automation
    by r true = refl
    by r false = refl

pub units-called : (serial : ℕ) (rs : Records) → units_of (called_on serial rs) ≡ units_of rs
units-called serial rs = same-mapped (λ r. if nat_eq r.serial serial then record r { calls = suc r.calls } else r) (λ r. by r (nat_eq r.serial serial)) rs
  where
    by : (r : Record) (b : Bool) → (if b then record r { calls = suc r.calls } else r).automation ≡ r.automation
    by r true = refl
    by r false = refl

units-begun : (a place : ℕ) (rs : Records) → units_of (begin_first a place rs) ≡ units_of rs
units-begun a place [] = refl
units-begun a place (r ∷ rs) = by (is_live a r) (units-begun a place rs)
  where
    by : (b : Bool) → units_of (begin_first a place rs) ≡ units_of rs
        → units_of (if b then record r { begin = or_else r.begin (Some place) } ∷ rs else r ∷ begin_first a place rs) ≡ r.automation ∷ units_of rs
    by true h = refl
    by false h = ap (λ l. r.automation ∷ l) h

pub units-ended : (serial place : ℕ) (cause : EndCause) (rs : Records) → units_of (ended_at serial place cause rs) ≡ units_of rs
units-ended serial place cause [] = refl
units-ended serial place cause (r ∷ rs) = by (nat_eq r.serial serial) (units-ended serial place cause rs)
  where
    by : (b : Bool) → units_of (ended_at serial place cause rs) ≡ units_of rs
        → units_of (if b then record r { end = Some (place, cause) } ∷ begin_first r.automation place rs else r ∷ ended_at serial place cause rs) ≡ r.automation ∷ units_of rs
    by true h = ap (λ l. r.automation ∷ l) (units-begun r.automation place rs)
    by false h = ap (λ l. r.automation ∷ l) h

units-replaced : (a place : ℕ) (rs : Records) → units_of (replace_all a place rs) ≡ units_of rs
units-replaced a place [] = refl
units-replaced a place (r ∷ rs) = (λ i. r.automation ∷ units-replaced a place rs i)

units-append : (rs : Records) (r : Record) → units_of (rs ++ (r ∷ [])) ≡ units_of rs ++ (r.automation ∷ [])
units-append [] r = refl
units-append (x ∷ xs) r = ap (λ l. x.automation ∷ l) (units-append xs r)

-- ---- an attempt

-- LAW: one that is admitted has its unit behind the others
pub units-attempted : (a : ℕ) (mode : Mode) (max place order number : ℕ) (env : Pairs) (rs : Records)
    → units_of (attempted a mode max place order number env rs) ≡ units_of rs ++ (if is_admission (admission a mode max rs) then a ∷ [] else [])
units-attempted a mode max place order number env rs = by (lets_in mode max (live_count a rs))
  where
    new : Record
    new = new_run rs a mode place order number env

    let-in : (m : Mode) (serial : ℕ) (o : Option ℕ) → is_admission (told m serial o) ≡ true
    let-in Mode.Single serial o = refl
    let-in Mode.Restart serial None = refl
    let-in Mode.Restart serial (Some old) = refl
    let-in Mode.Queued serial None = refl
    let-in Mode.Queued serial (Some old) = refl
    let-in Mode.Parallel serial o = refl

    joined-units : (b : Bool) → units_of ((if b then replace_all a place rs else rs) ++ (new ∷ [])) ≡ units_of rs ++ (a ∷ [])
    joined-units true = units-append (replace_all a place rs) new ∙ ap (λ l. l ++ (a ∷ [])) (units-replaced a place rs)
    joined-units false = units-append rs new

    by : (b : Bool) → units_of (if b then joined mode a place rs new else rs)
        ≡ units_of rs ++ (if is_admission (if b then told mode (suc (length rs)) (first_of (live_of a rs)) else Admission.Refused) then a ∷ [] else [])
    by true = joined-units (is_restart_mode mode) ∙ (λ i. units_of rs ++ (if sym (let-in mode (suc (length rs)) (first_of (live_of a rs))) i then a ∷ [] else []))
    by false = sym (append-nil (units_of rs))

-- LAW: so it is of an attempt that may have found no memory
pub told-units : {E : Type 0} (r : Result Admission E) (a : ℕ) (mode : Mode) (max place order number : ℕ) (env : Pairs) (rs rs' : Records)
    → OnOk r (rs' ≡ attempted a mode max place order number env rs) → IfOk r (λ told. told ≡ admission a mode max rs) → OnErr r (rs' ≡ rs)
    → units_of rs' ≡ units_of rs ++ (if is_admitted r then a ∷ [] else [])
told-units (Ok told) a mode max place order number env rs rs' ok answer err =
    ap units_of ok ∙ units-attempted a mode max place order number env rs ∙ (λ i. units_of rs ++ (if is_admission (sym answer i) then a ∷ [] else []))
told-units (Err e) a mode max place order number env rs rs' ok answer err = ap units_of err ∙ sym (append-nil (units_of rs))

-- ---- counts

abbrev one_of : List ℕ → ℕ → ℕ → ℕ
one_of firsts n a = cond (nat_eq (first_in firsts a) n) 1 0

pub runs-units : (firsts : List ℕ) (n : ℕ) (rs : Records) → runs_named firsts n rs ≡ sum_by (one_of firsts n) (units_of rs)
runs-units firsts n [] = refl
runs-units firsts n (r ∷ rs) =
    sum_by-cons (λ (q : Record). one_of firsts n q.automation) r rs ∙ ap (λ m. one_of firsts n r.automation + m) (runs-units firsts n rs) ∙ sym (sum_by-cons (one_of firsts n) r.automation (units_of rs))

sum-snoc : (f : ℕ → ℕ) (xs : List ℕ) (y : ℕ) → sum_by f (xs ++ (y ∷ [])) ≡ sum_by f xs + f y
sum-snoc f [] y = sum_by-cons f y [] ∙ (let none : f y + 0 ≡ 0 + f y = omega arith in none)
sum-snoc f (x ∷ xs) y =
    sum_by-cons f x (xs ++ (y ∷ [])) ∙ ap (λ m. f x + m) (sum-snoc f xs y) ∙ (let assoc : f x + (sum_by f xs + f y) ≡ (f x + sum_by f xs) + f y = omega arith in assoc) ∙ ap (λ m. m + f y) (sym (sum_by-cons f x xs))

-- LAW: of as many units are as many runs
pub runs-alike : (firsts : List ℕ) (n : ℕ) (rs rs' : Records) → units_of rs' ≡ units_of rs → runs_named firsts n rs' ≡ runs_named firsts n rs
runs-alike firsts n rs rs' e = runs-units firsts n rs' ∙ ap (sum_by (one_of firsts n)) e ∙ sym (runs-units firsts n rs)

pub runs-more : (firsts : List ℕ) (n a : ℕ) (rs rs' : Records) → units_of rs' ≡ units_of rs ++ (a ∷ []) → runs_named firsts n rs' ≡ runs_named firsts n rs + cond (nat_eq (first_in firsts a) n) 1 0
runs-more firsts n a rs rs' e =
    runs-units firsts n rs' ∙ ap (sum_by (one_of firsts n)) e ∙ sum-snoc (one_of firsts n) (units_of rs) a ∙ ap (λ m. m + one_of firsts n a) (sym (runs-units firsts n rs))

pub runs-most : (firsts : List ℕ) (n : ℕ) (rs : Records) → runs_named firsts n rs ≤ length rs
runs-most firsts n rs = count_by-le-length (λ (r : Record). nat_eq (first_in firsts r.automation) n) rs

-- ---- known units

known-units : (m : ℕ) (rs : Records) → list_all (λ r. nat_lt r.automation m) rs ≡ list_all (λ a. nat_lt a m) (units_of rs)
known-units m [] = refl
known-units m (r ∷ rs) = (λ i. nat_lt r.automation m && known-units m rs i)

pub known-alike : (m : ℕ) (rs rs' : Records) → units_of rs' ≡ units_of rs → list_all (λ r. nat_lt r.automation m) rs ≡ true → list_all (λ r. nat_lt r.automation m) rs' ≡ true
known-alike m rs rs' e h = known-units m rs' ∙ ap (list_all (λ a. nat_lt a m)) e ∙ sym (known-units m rs) ∙ h

all-snoc : (test : ℕ → Bool) (xs : List ℕ) (y : ℕ) → list_all test xs ≡ true → test y ≡ true → list_all test (xs ++ (y ∷ [])) ≡ true
all-snoc test [] y h e = (λ i. e i && true)
all-snoc test (x ∷ xs) y h e = (λ i. and_left (test x) (list_all test xs) h i && all-snoc test xs y (and_right (test x) (list_all test xs) h) e i)

pub known-more : (m a : ℕ) (rs rs' : Records) → units_of rs' ≡ units_of rs ++ (a ∷ []) → a < m → list_all (λ r. nat_lt r.automation m) rs ≡ true → list_all (λ r. nat_lt r.automation m) rs' ≡ true
known-more m a rs rs' e lt h =
    known-units m rs' ∙ ap (list_all (λ b. nat_lt b m)) e ∙ all-snoc (λ b. nat_lt b m) (units_of rs) a (sym (known-units m rs) ∙ h) (is-less a m lt)
  where
    is-less : (a b : ℕ) → a < b → nat_lt a b ≡ true
    is-less a b lt = search (rules, lt)

less-of : (a b : ℕ) → nat_lt a b ≡ true → a < b
less-of a b e = search (rules, e)

-- the first of a known unit is known
pub first-known : (m : ℕ) (fs : List ℕ) (a x : ℕ) → list_all (λ n. nat_lt n m) fs ≡ true → slice_get fs a ≡ Some x → x < m
first-known m [] a x h e = absurd (none-some x e)
first-known m (f ∷ fs) zero x h e = subst (λ n. n < m) (some-same f x e) (less-of f m (and_left (nat_lt f m) (list_all (λ n. nat_lt n m) fs) h))
first-known m (f ∷ fs) (suc a) x h e = first-known m fs a x (and_right (nat_lt f m) (list_all (λ n. nat_lt n m) fs) h) e

pub first-is : (fs : List ℕ) (a x : ℕ) → slice_get fs a ≡ Some x → first_in fs a ≡ x
first-is fs a x e = (λ i. unwrap_or (e i) a)

-- ---- counts one by one

less : (a b : ℕ) → nat_lt a b ≡ true → a < b
less a b e = search (rules, e)

not-less : (a b : ℕ) → nat_lt a b ≡ false → b ≤ a
not-less a b e = search (rules, e)

pub past-end : (xs : List ℕ) (n : ℕ) → length xs ≤ n → slice_index_or xs n 0 ≡ 0
past-end [] zero le = refl
past-end [] (suc n) le = refl
past-end (x ∷ xs) zero le = absurd (omega (arith, le))
past-end (x ∷ xs) (suc n) le = past-end xs n (omega (arith, le))

pub none-at : (n : ℕ) → number_at [] n ≡ 0
none-at n = past-end [] n (omega arith)

-- ---- numbers that are small

pub small-none : (ns : List ℕ) (a : ℕ) → a < 0 → number_at ns a < 2 ^ 62
small-none ns a lt = absurd (omega (arith, lt))

pub small-more : (ns : List ℕ) (at v : ℕ) → v ≡ slice_index_or ns at 0 → v < 2 ^ 62 → ((a : ℕ) → a < at → number_at ns a < 2 ^ 62) → (a : ℕ) → a < at + 1 → number_at ns a < 2 ^ 62
small-more ns at v is lt before a below = by (nat_lt a at) refl
  where
    by : (b : Bool) → nat_lt a at ≡ b → number_at ns a < 2 ^ 62
    by true e = before a (less a at e)
    by false e = (let above = not-less a at e in let there : at ≡ a = omega (arith, above, below) in subst (λ n. number_at ns n < 2 ^ 62) there (subst (λ n. n < 2 ^ 62) is lt))

pub small-all : (ns : List ℕ) (at : ℕ) → length ns ≤ at → ((a : ℕ) → a < at → number_at ns a < 2 ^ 62) → (a : ℕ) → number_at ns a < 2 ^ 62
small-all ns at le before a = by (nat_lt a at) refl
  where
    by : (b : Bool) → nat_lt a at ≡ b → number_at ns a < 2 ^ 62
    by true e = before a (less a at e)
    by false e = (let above = not-less a at e in let none = past-end ns a (omega (arith, above, le)) in subst (λ n. n < 2 ^ 62) (sym none) (omega arith))

-- ---- numbers of units one after the other

numbers-snoc : (low n : ℕ) → numbers_from low (suc n) ≡ numbers_from low n ++ ((low + n) ∷ [])
numbers-snoc low zero = (let e : low ≡ low + 0 = omega arith in λ i. e i ∷ [])
numbers-snoc low (suc n) = (let e : (low + 1) + n ≡ low + suc n = omega arith in (λ i. low ∷ numbers-snoc (low + 1) n i) ∙ (λ i. low ∷ (numbers_from (low + 1) n ++ (e i ∷ []))))

map-snoc : (f : ℕ → ℕ) (xs : List ℕ) (y : ℕ) → map f (xs ++ (y ∷ [])) ≡ map f xs ++ (f y ∷ [])
map-snoc f [] y = refl
map-snoc f (x ∷ xs) y = ap (λ l. f x ∷ l) (map-snoc f xs y)

pub numbers-more : (f : ℕ → ℕ) (n : ℕ) (old new : List ℕ) (x : ℕ) → old ≡ map f (up_to n) → x ≡ f n → new ≡ old ++ (x ∷ []) → new ≡ map f (up_to (n + 1))
numbers-more f n old new x before told is =
    is ∙ (λ k. before k ++ (told k ∷ [])) ∙ sym (map-snoc f (up_to n) n)
    ∙ (let none : n ≡ 0 + n = omega arith in λ k. map f (up_to n ++ (none k ∷ []))) ∙ (λ k. map f (sym (numbers-snoc 0 n) k))
    ∙ (let one : suc n ≡ n + 1 = omega arith in λ k. map f (up_to (one k)))

numbers-many : (low n : ℕ) → length (numbers_from low n) ≡ n
numbers-many low zero = refl
numbers-many low (suc n) = ap suc (numbers-many (low + 1) n)

pub numbers-length : (f : ℕ → ℕ) (n : ℕ) → length (map f (up_to n)) ≡ n
numbers-length f n = by (up_to n) ∙ numbers-many 0 n
  where
    by : (xs : List ℕ) → length (map f xs) ≡ length xs
    by [] = refl
    by (x ∷ xs) = ap suc (by xs)

pub numbers-at : (f : ℕ → ℕ) (m n : ℕ) → n < m → slice_index_or (map f (up_to m)) n 0 ≡ f n
numbers-at f m n lt = by 0 m n lt ∙ (let none : 0 + n ≡ n = omega arith in ap f none)
  where
    by : (low k i : ℕ) → i < k → slice_index_or (map f (numbers_from low k)) i 0 ≡ f (low + i)
    by low zero i lt = absurd (omega (arith, lt))
    by low (suc k) zero lt = (let none : low ≡ low + 0 = omega arith in ap f none)
    by low (suc k) (suc i) lt = by (low + 1) k i (omega (arith, lt)) ∙ (let next : (low + 1) + i ≡ low + suc i = omega arith in ap f next)
