-- Branches in their order: lists that ascend, and their members.
use Rattle.std.proofs.Common.{◌≡◌, ℕ, ◌<◌, ◌⊎◌, inl, inr, Bool, true, false, List, [], ◌∷◌, map, refl, sym, ap, subst, ◌∙◌, arith}
use Rattle.std.proofs.lemmas.Bool.Decides.{nat_tests}
use Rattle.std.specs.Prelude.{nat_eq, nat_lt, filter, if◌then◌else◌}
use Rattle.ha_sight.specs.Scripts.{Branch}
use Rattle.ha_config.specs.Words.{comes_before}
use Rattle.ha_sight.specs.Branches.{among, union, union_all}

-- ---- the order

below : (a b : ℕ) → nat_lt a b ≡ true → a < b
below a b h = grind (arith, nat_tests)

is-below : (a b : ℕ) → a < b → nat_lt a b ≡ true
is-below a b h = grind (arith, nat_tests)

not-below : (a b : ℕ) → nat_lt a b ≡ false → nat_eq a b ≡ false → b < a
not-below a b h k = grind (arith, nat_tests)

equal : (a b : ℕ) → nat_eq a b ≡ true → a ≡ b
equal a b h = grind (arith, nat_tests)

not-less : (a b : ℕ) → a ≡ b → nat_lt a b ≡ false
not-less a b h = grind (arith, nat_tests)

is-equal : (a b : ℕ) → a ≡ b → nat_eq a b ≡ true
is-equal a b h = grind (arith, nat_tests)

pub less-first : (x y : ℕ) (xs ys : Branch) → x < y → comes_before (x ∷ xs) (y ∷ ys) ≡ true
less-first x y xs ys lt = rw (is-below x y lt) refl

less-later : (x y : ℕ) (xs ys : Branch) → x ≡ y → comes_before xs ys ≡ true → comes_before (x ∷ xs) (y ∷ ys) ≡ true
less-later x y xs ys e h = rw (not-less x y e, is-equal x y e) h

less-is : (x y : ℕ) (xs ys : Branch) → comes_before (x ∷ xs) (y ∷ ys) ≡ true → (x < y) ⊎ ((x ≡ y) × (comes_before xs ys ≡ true))
less-is x y xs ys h = by (nat_lt x y) (nat_eq x y) refl refl h
  where
    by : (s t : Bool) → nat_lt x y ≡ s → nat_eq x y ≡ t → (if s then true else (if t then comes_before xs ys else false)) ≡ true → (x < y) ⊎ ((x ≡ y) × (comes_before xs ys ≡ true))
    by true t e f k = inl (below x y e)
    by false true e f k = inr (equal x y f, k)
    by false false e f k = absurd (cc)

pub irrefl : (b : Branch) → comes_before b b ≡ true → ⊥
irrefl [] h = absurd (cc)
irrefl (x ∷ xs) h = by (less-is x x xs xs h) (irrefl xs)
  where
    by : (x < x) ⊎ ((x ≡ x) × (comes_before xs xs ≡ true)) → (comes_before xs xs ≡ true → ⊥) → ⊥
    by (inl lt) more = omega (arith, lt)
    by (inr p) more = more p.1

pub trans : (a b c : Branch) → comes_before a b ≡ true → comes_before b c ≡ true → comes_before a c ≡ true
trans [] b [] h k = absurd (no-less b k)
  where
    no-less : (b : Branch) → comes_before b [] ≡ true → ⊥
    no-less [] e = absurd (cc)
    no-less (x ∷ xs) e = absurd (cc)
trans [] b (z ∷ c) h k = refl
trans (x ∷ a) [] c h k = absurd (cc)
trans (x ∷ a) (y ∷ b) [] h k = absurd (cc)
trans (x ∷ a) (y ∷ b) (z ∷ c) h k = by (less-is x y a b h) (less-is y z b c k) (trans a b c)
  where
    by : (x < y) ⊎ ((x ≡ y) × (comes_before a b ≡ true)) → (y < z) ⊎ ((y ≡ z) × (comes_before b c ≡ true))
        → (comes_before a b ≡ true → comes_before b c ≡ true → comes_before a c ≡ true) → comes_before (x ∷ a) (z ∷ c) ≡ true
    by (inl p) (inl q) more = less-first x z a c (omega (arith, p, q))
    by (inl p) (inr q) more = less-first x z a c (omega (arith, p, q.0))
    by (inr p) (inl q) more = less-first x z a c (omega (arith, p.0, q))
    by (inr p) (inr q) more = less-later x z a c (p.0 ∙ q.0) (more p.1 q.1)

order : (b c : Branch) → (comes_before b c ≡ true) ⊎ ((b ≡ c) ⊎ (comes_before c b ≡ true))
order [] [] = inr (inl refl)
order [] (y ∷ c) = inl refl
order (x ∷ b) [] = inr (inr refl)
order (x ∷ b) (y ∷ c) = by (nat_lt x y) (nat_eq x y) refl refl (order b c)
  where
    by : (s t : Bool) → nat_lt x y ≡ s → nat_eq x y ≡ t → (comes_before b c ≡ true) ⊎ ((b ≡ c) ⊎ (comes_before c b ≡ true))
        → (comes_before (x ∷ b) (y ∷ c) ≡ true) ⊎ ((x ∷ b ≡ y ∷ c) ⊎ (comes_before (y ∷ c) (x ∷ b) ≡ true))
    by true t e f more = inl (less-first x y b c (below x y e))
    by false true e f (inl h) = inl (less-later x y b c (equal x y f) h)
    by false true e f (inr (inl h)) = inr (inl (λ i. equal x y f i ∷ h i))
    by false true e f (inr (inr h)) = inr (inr (less-later y x c b (sym (equal x y f)) h))
    by false false e f more = inr (inr (less-first y x c b (not-below x y e f)))

is-not : (t : Bool) → (t ≡ true → ⊥) → t ≡ false
is-not true h = absurd (h refl)
is-not false h = refl

-- ---- lists that ascend

abbrev pub In : Branch → List Branch → Type 0
In b [] = ⊥
In b (x ∷ xs) = (x ≡ b) ⊎ In b xs

abbrev pub AllAfter : Branch → List Branch → Type 0
AllAfter b [] = Unit {0}
AllAfter b (x ∷ xs) = (comes_before b x ≡ true) × AllAfter b xs

abbrev pub Ascends : List Branch → Type 0
Ascends [] = Unit {0}
Ascends (x ∷ xs) = AllAfter x xs × Ascends xs

pub after-in : (b c : Branch) (xs : List Branch) → AllAfter b xs → In c xs → comes_before b c ≡ true
after-in b c [] h k = absurd k
after-in b c (x ∷ xs) h (inl e) = ap (comes_before b) (sym e) ∙ h.0
after-in b c (x ∷ xs) h (inr k) = after-in b c xs h.1 k

pub in-after : (b : Branch) (xs : List Branch) → ((c : Branch) → In c xs → comes_before b c ≡ true) → AllAfter b xs
in-after b [] h = tt
in-after b (x ∷ xs) h = (h x (inl refl), in-after b xs (λ c k. h c (inr k)))

behind-in : (x y c : Branch) (ys : List Branch) → x ≡ y → comes_before x c ≡ true → In c (y ∷ ys) → In c ys
behind-in x y c ys e lt (inl h) = absurd (irrefl c (ap (λ b. comes_before b c) (sym (e ∙ h)) ∙ lt))
behind-in x y c ys e lt (inr k) = k

same-heads : (x y : Branch) (xs ys : List Branch) → AllAfter x xs → AllAfter y ys → In x (y ∷ ys) → In y (x ∷ xs) → x ≡ y
same-heads x y xs ys a b (inl e) k = sym e
same-heads x y xs ys a b (inr h) (inl e) = e
same-heads x y xs ys a b (inr h) (inr k) = absurd (irrefl x (trans x y x (after-in x y xs a k) (after-in y x ys b h)))

-- two lists that ascend and have the same members are the same
pub same-members : (xs ys : List Branch) → Ascends xs → Ascends ys → ((b : Branch) → In b xs → In b ys) → ((b : Branch) → In b ys → In b xs) → xs ≡ ys
same-members [] [] a b f g = refl
same-members [] (y ∷ ys) a b f g = absurd (g y (inl refl))
same-members (x ∷ xs) [] a b f g = absurd (f x (inl refl))
same-members (x ∷ xs) (y ∷ ys) a b f g =
    let e : x ≡ y = same-heads x y xs ys a.0 b.0 (f x (inl refl)) (g y (inl refl)) in
    let rest : xs ≡ ys = same-members xs ys a.1 b.1
    (λ c h. behind-in x y c ys e (after-in x c xs a.0 h) (f c (inr h)))
    (λ c h. behind-in y x c xs (sym e) (after-in y c ys b.0 h) (g c (inr h))) in
    (λ i. e i ∷ rest i)

-- ---- filters

pub filter-in : (p : Branch → Bool) (c : Branch) (xs : List Branch) → In c (filter p xs) → In c xs × (p c ≡ true)
filter-in p c [] h = absurd h
filter-in p c (x ∷ xs) h = by (p x) refl h (filter-in p c xs)
  where
    by : (t : Bool) → p x ≡ t → In c (if t then x ∷ filter p xs else filter p xs) → (In c (filter p xs) → In c xs × (p c ≡ true)) → In c (x ∷ xs) × (p c ≡ true)
    by true e (inl k) more = (inl k, ap p (sym k) ∙ e)
    by true e (inr k) more = (inr (more k).0, (more k).1)
    by false e k more = (inr (more k).0, (more k).1)

pub in-filter : (p : Branch → Bool) (c : Branch) (xs : List Branch) → In c xs → p c ≡ true → In c (filter p xs)
in-filter p c [] h e = absurd h
in-filter p c (x ∷ xs) h e = by (p x) refl h (λ k. in-filter p c xs k e)
  where
    by : (t : Bool) → p x ≡ t → In c (x ∷ xs) → (In c xs → In c (filter p xs)) → In c (if t then x ∷ filter p xs else filter p xs)
    by true f (inl k) more = inl k
    by true f (inr k) more = inr (more k)
    by false f (inl k) more = absurd (let z : p x ≡ true = ap p k ∙ e in cc)
    by false f (inr k) more = more k

pub filter-ascends : (p : Branch → Bool) (xs : List Branch) → Ascends xs → Ascends (filter p xs)
filter-ascends p [] h = tt
filter-ascends p (x ∷ xs) h = by (p x) (filter-ascends p xs h.1)
  where
    by : (t : Bool) → Ascends (filter p xs) → Ascends (if t then x ∷ filter p xs else filter p xs)
    by true more = (in-after x (filter p xs) (λ c k. after-in x c xs h.0 (filter-in p c xs k).0), more)
    by false more = more

-- ---- one more branch, and lists of branches joined

-- where a branch goes
abbrev Goes : Branch → Branch → List Branch → Type 0
Goes b d ds =
    ((comes_before b d ≡ true) × (among b (d ∷ ds) ≡ b ∷ d ∷ ds))
    ⊎ (((b ≡ d) × (among b (d ∷ ds) ≡ d ∷ ds)) ⊎ ((comes_before d b ≡ true) × (among b (d ∷ ds) ≡ d ∷ among b ds)))

among-by : (b d : Branch) (ds : List Branch) → Goes b d ds
among-by b d ds = by (order b d)
  where
    by : (comes_before b d ≡ true) ⊎ ((b ≡ d) ⊎ (comes_before d b ≡ true)) → Goes b d ds
    by (inl h) = inl (h, rw h refl)
    by (inr (inl e)) =
        let p : comes_before b d ≡ false = is-not (comes_before b d) (λ h. irrefl d (ap (λ c. comes_before c d) (sym e) ∙ h)) in
        let q : comes_before d b ≡ false = is-not (comes_before d b) (λ h. irrefl d (ap (comes_before d) (sym e) ∙ h)) in
        inr (inl (e, rw (p, q) refl))
    by (inr (inr h)) =
        let p : comes_before b d ≡ false = is-not (comes_before b d) (λ k. irrefl b (trans b d b k h)) in
        inr (inr (h, rw (p, h) refl))

one-deeper : (b c d : Branch) (ds : List Branch) → (b ≡ c) ⊎ In c ds → (b ≡ c) ⊎ In c (d ∷ ds)
one-deeper b c d ds (inl e) = inl e
one-deeper b c d ds (inr k) = inr (inr k)

behind-first : (b c d : Branch) (ds : List Branch) → In c (d ∷ among b ds) → (In c (among b ds) → (b ≡ c) ⊎ In c ds) → (b ≡ c) ⊎ In c (d ∷ ds)
behind-first b c d ds (inl e) more = inr (inl e)
behind-first b c d ds (inr k) more = one-deeper b c d ds (more k)

before-all : (b c d : Branch) (ds : List Branch) → In c (b ∷ d ∷ ds) → (b ≡ c) ⊎ In c (d ∷ ds)
before-all b c d ds (inl e) = inl e
before-all b c d ds (inr k) = inr k

among-in : (b c : Branch) (cs : List Branch) → In c (among b cs) → (b ≡ c) ⊎ In c cs
among-in b c [] (inl e) = inl e
among-in b c [] (inr k) = absurd k
among-in b c (d ∷ ds) h = by (among-by b d ds) (among-in b c ds)
  where
    in-it : (l : List Branch) → among b (d ∷ ds) ≡ l → In c l
    in-it l e = subst (λ (x : List Branch). In c x) e h

    by : Goes b d ds → (In c (among b ds) → (b ≡ c) ⊎ In c ds) → (b ≡ c) ⊎ In c (d ∷ ds)
    by (inl p) more = before-all b c d ds (in-it (b ∷ d ∷ ds) p.1)
    by (inr (inl p)) more = inr (in-it (d ∷ ds) p.1)
    by (inr (inr p)) more = behind-first b c d ds (in-it (d ∷ among b ds) p.1) more

among-own : (b : Branch) (cs : List Branch) → In b (among b cs)
among-own b [] = inl refl
among-own b (d ∷ ds) = by (among-by b d ds) (among-own b ds)
  where
    back : (l : List Branch) → among b (d ∷ ds) ≡ l → In b l → In b (among b (d ∷ ds))
    back l e k = subst (λ (x : List Branch). In b x) (sym e) k

    by : Goes b d ds → In b (among b ds) → In b (among b (d ∷ ds))
    by (inl p) more = back (b ∷ d ∷ ds) p.1 (inl refl)
    by (inr (inl p)) more = back (d ∷ ds) p.1 (inl (sym p.0))
    by (inr (inr p)) more = back (d ∷ among b ds) p.1 (inr more)

among-other : (b c : Branch) (cs : List Branch) → In c cs → In c (among b cs)
among-other b c [] h = absurd h
among-other b c (d ∷ ds) h = by (among-by b d ds) h (among-other b c ds)
  where
    back : (l : List Branch) → among b (d ∷ ds) ≡ l → In c l → In c (among b (d ∷ ds))
    back l e k = subst (λ (x : List Branch). In c x) (sym e) k

    by : Goes b d ds → In c (d ∷ ds) → (In c ds → In c (among b ds)) → In c (among b (d ∷ ds))
    by (inl p) k more = back (b ∷ d ∷ ds) p.1 (inr k)
    by (inr (inl p)) k more = back (d ∷ ds) p.1 k
    by (inr (inr p)) (inl e) more = back (d ∷ among b ds) p.1 (inl e)
    by (inr (inr p)) (inr k) more = back (d ∷ among b ds) p.1 (inr (more k))

among-ascends : (b : Branch) (cs : List Branch) → Ascends cs → Ascends (among b cs)
among-ascends b [] h = (tt, tt)
among-ascends b (d ∷ ds) h = by (among-by b d ds) (among-ascends b ds h.1)
  where
    back : (l : List Branch) → among b (d ∷ ds) ≡ l → Ascends l → Ascends (among b (d ∷ ds))
    back l e k = subst (λ (x : List Branch). Ascends x) (sym e) k

    after : comes_before d b ≡ true → (c : Branch) → (b ≡ c) ⊎ In c ds → comes_before d c ≡ true
    after lt c (inl e) = ap (comes_before d) (sym e) ∙ lt
    after lt c (inr k) = after-in d c ds h.0 k

    by : Goes b d ds → Ascends (among b ds) → Ascends (among b (d ∷ ds))
    by (inl p) more = back (b ∷ d ∷ ds) p.1 ((p.0, in-after b ds (λ c k. trans b d c p.0 (after-in d c ds h.0 k))), h)
    by (inr (inl p)) more = back (d ∷ ds) p.1 h
    by (inr (inr p)) more = back (d ∷ among b ds) p.1 (in-after d (among b ds) (λ c k. after p.0 c (among-in b c ds k)), more)

one-more-left : (b c : Branch) (bs cs : List Branch) → In c bs ⊎ In c cs → In c (b ∷ bs) ⊎ In c cs
one-more-left b c bs cs (inl j) = inl (inr j)
one-more-left b c bs cs (inr j) = inr j

pub union-in : (bs cs : List Branch) (c : Branch) → In c (union bs cs) → In c bs ⊎ In c cs
union-in [] cs c h = inr h
union-in (b ∷ bs) cs c h = by (among-in b c (union bs cs) h) (union-in bs cs c)
  where
    by : (b ≡ c) ⊎ In c (union bs cs) → (In c (union bs cs) → In c bs ⊎ In c cs) → In c (b ∷ bs) ⊎ In c cs
    by (inl e) more = inl (inl e)
    by (inr k) more = one-more-left b c bs cs (more k)

pub union-left : (bs cs : List Branch) (c : Branch) → In c bs → In c (union bs cs)
union-left [] cs c h = absurd h
union-left (b ∷ bs) cs c (inl e) = subst (λ (d : Branch). In d (among b (union bs cs))) e (among-own b (union bs cs))
union-left (b ∷ bs) cs c (inr k) = among-other b c (union bs cs) (union-left bs cs c k)

pub union-right : (bs cs : List Branch) (c : Branch) → In c cs → In c (union bs cs)
union-right [] cs c h = h
union-right (b ∷ bs) cs c h = among-other b c (union bs cs) (union-right bs cs c h)

union-ascends : (bs cs : List Branch) → Ascends cs → Ascends (union bs cs)
union-ascends [] cs h = h
union-ascends (b ∷ bs) cs h = among-ascends b (union bs cs) (union-ascends bs cs h)

pub union_all-ascends : (all : List (List Branch)) → Ascends (union_all all)
union_all-ascends [] = tt
union_all-ascends (bs ∷ rest) = union-ascends bs (union_all rest) (union_all-ascends rest)

-- a branch among those of several lists
abbrev pub InSome : Branch → List (List Branch) → Type 0
InSome c [] = ⊥
InSome c (bs ∷ rest) = In c bs ⊎ InSome c rest

pub in-some : (all : List (List Branch)) (c : Branch) → In c (union_all all) → InSome c all
in-some [] c h = absurd h
in-some (bs ∷ rest) c h = by (union-in bs (union_all rest) c h) (in-some rest c)
  where
    by : In c bs ⊎ In c (union_all rest) → (In c (union_all rest) → InSome c rest) → InSome c (bs ∷ rest)
    by (inl k) more = inl k
    by (inr k) more = inr (more k)

pub some-in : (all : List (List Branch)) (c : Branch) → InSome c all → In c (union_all all)
some-in [] c h = absurd h
some-in (bs ∷ rest) c (inl k) = union-left bs (union_all rest) c k
some-in (bs ∷ rest) c (inr k) = union-right bs (union_all rest) c (some-in rest c k)

-- ---- branches below a list of a parallel block

pub below-in : (i : ℕ) (c : Branch) (xs : List Branch) → In c xs → In (i ∷ c) (map (λ d. i ∷ d) xs)
below-in i c [] h = absurd h
below-in i c (x ∷ xs) (inl e) = inl (ap (λ d. i ∷ d) e)
below-in i c (x ∷ xs) (inr k) = inr (below-in i c xs k)

after-below : (i : ℕ) (x : Branch) (xs : List Branch) → AllAfter x xs → AllAfter (i ∷ x) (map (λ d. i ∷ d) xs)
after-below i x [] k = tt
after-below i x (y ∷ ys) k = (less-later i i x y refl k.0, after-below i x ys k.1)

pub below-ascends : (i : ℕ) (xs : List Branch) → Ascends xs → Ascends (map (λ d. i ∷ d) xs)
below-ascends i [] h = tt
below-ascends i (x ∷ xs) h = (after-below i x xs h.0, below-ascends i xs h.1)
