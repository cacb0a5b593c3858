-- Owners put in and taken out.
use Rattle.std.proofs.Common.{get_or, ◌≡◌, ℕ, zero, suc, ◌<◌, ◌≤◌, List, [], ◌∷◌, ◌++◌, length, map, filter, take, drop, Bool, true, false, refl, sym, ap, subst, ◌∙◌, arith}
use Rattle.std.specs.Prelude.{IsNone, MatchOption, Option, Some, None, insert, not, nat_eq, nat_lt, slice_get, if◌then◌else◌}
use Rattle.std.proofs.lemmas.Bool.Decides.{nat_tests}
use Rattle.trig_set.specs.declared.owners.Attached.{Attached}
use Rattle.ha_past.specs.Firings.{Owner, owner_named, placed, without_owner}
use Rattle.trig_set.specs.Order.{ascend, owner_of}
use Rattle.trig_set.specs.Stands.{AtOwner, AllOwners}
use Rattle.trig_set.proofs.SpotLemmas.{get-at}

-- LAW: where those before come before it, and it comes before the one that stands there, an owner is at its place
pub insert-placed : (owners : List Attached) (place : ℕ) (o : Owner) → place ≤ length owners → ((k : ℕ) → k < place → MatchOption (slice_get owners k) (Unit {0}) (λ a. nat_lt o.owner a.owner ≡ false))
    → MatchOption (slice_get owners place) (Unit {0}) (λ a. nat_lt o.owner a.owner ≡ true)
    → insert (map owner_of owners) place o ≡ placed o (map owner_of owners)
insert-placed [] zero o le before here = refl
insert-placed [] (suc p) o le before here = absurd (omega (arith, le))
insert-placed (a ∷ rest) zero o le before here = (λ i. if sym here i then o ∷ owner_of a ∷ map owner_of rest else owner_of a ∷ placed o (map owner_of rest))
insert-placed (a ∷ rest) (suc p) o le before here =
    (λ i. owner_of a ∷ insert-placed rest p o (omega (arith, le)) (λ k lt. before (suc k) (omega (arith, lt))) here i)
    ∙ (λ i. if sym (before 0 (omega arith)) i then o ∷ owner_of a ∷ map owner_of rest else owner_of a ∷ placed o (map owner_of rest))

pub map-insert : {X Y : Type 0} (f : X → Y) (xs : List X) (n : ℕ) (v : X) → map f (insert xs n v) ≡ insert (map f xs) n (f v)
map-insert f [] zero v = refl
map-insert f [] (suc n) v = refl
map-insert f (x ∷ xs) zero v = refl
map-insert f (x ∷ xs) (suc n) v = (λ i. f x ∷ map-insert f xs n v i)

pub all-insert : (P : Attached → Type 0) (xs : List Attached) (n : ℕ) (v : Attached) → AllOwners xs P → P v → AllOwners (insert xs n v) P
all-insert P [] zero v all here zero = here
all-insert P [] zero v all here (suc m) = tt
all-insert P [] (suc n) v all here zero = here
all-insert P [] (suc n) v all here (suc m) = tt
all-insert P (x ∷ xs) zero v all here zero = here
all-insert P (x ∷ xs) zero v all here (suc m) = all m
all-insert P (x ∷ xs) (suc n) v all here zero = all zero
all-insert P (x ∷ xs) (suc n) v all here (suc m) = all-insert P xs n v (λ k. all (suc k)) here m

-- nobody has the number
pub none-named : (owners : List Attached) (owner n : ℕ) → IsNone (owner_named owner (map owner_of owners)) → AtOwner owners n (λ a. nat_eq a.owner owner ≡ false)
none-named [] owner n none = tt
none-named (x ∷ xs) owner n none = by (nat_eq x.owner owner) refl (λ h. none-named xs owner) none n
  where
    by : (b : Bool) → nat_eq x.owner owner ≡ b → (IsNone (owner_named owner (map owner_of xs)) → (k : ℕ) → IsNone (owner_named owner (map owner_of xs)) → AtOwner xs k (λ a. nat_eq a.owner owner ≡ false))
        → IsNone (if b then Some (owner_of x) else owner_named owner (map owner_of xs)) → (n : ℕ) → AtOwner (x ∷ xs) n (λ a. nat_eq a.owner owner ≡ false)
    by true e rest h n = absurd (let bad : ◌≡◌ {A = Bool} true false = h in cc)
    by false e rest h zero = e
    by false e rest h (suc n) = rest h n h

not-before : (a owner n place : ℕ) → nat_lt a owner ≡ nat_lt n place → n < place → nat_lt owner a ≡ false
not-before a owner n place h lt = grind (arith, nat_tests, h, lt)

comes-before : (a owner place : ℕ) → nat_lt a owner ≡ nat_lt place place → nat_eq a owner ≡ false → nat_lt owner a ≡ true
comes-before a owner place h apart = grind (arith, nat_tests, h, apart)

-- LAW: behind those of lesser numbers a new owner is at its place
pub behind-placed : (owners : List Attached) (place : ℕ) (o : Owner) → place ≤ length owners → ((n : ℕ) → AtOwner owners n (λ a. nat_lt a.owner o.owner ≡ nat_lt n place))
    → IsNone (owner_named o.owner (map owner_of owners)) → insert (map owner_of owners) place o ≡ placed o (map owner_of owners)
behind-placed owners place o fits behind none =
    insert-placed owners place o fits
    (λ k lt. before k lt (slice_get owners k) (behind k))
    (here (slice_get owners place) (behind place) (none-named owners o.owner place none))
  where
    before : (k : ℕ) → k < place → (q : Option Attached) → MatchOption q (Unit {0}) (λ a. nat_lt a.owner o.owner ≡ nat_lt k place) → MatchOption q (Unit {0}) (λ a. nat_lt o.owner a.owner ≡ false)
    before k lt None h = tt
    before k lt (Some a) h = not-before a.owner o.owner k place h lt

    here : (q : Option Attached) → MatchOption q (Unit {0}) (λ a. nat_lt a.owner o.owner ≡ nat_lt place place) → MatchOption q (Unit {0}) (λ a. nat_eq a.owner o.owner ≡ false) → MatchOption q (Unit {0}) (λ a. nat_lt o.owner a.owner ≡ true)
    here None h apart = tt
    here (Some a) h apart = comes-before a.owner o.owner place h apart

-- those that are left
abbrev pub is_other : ℕ → Attached → Bool
is_other n a = not (nat_eq a.owner n)

pub map-left : (n : ℕ) (xs : List Attached) → map owner_of (filter (is_other n) xs) ≡ without_owner n (map owner_of xs)
map-left n [] = refl
map-left n (x ∷ xs) = by (is_other n x) (map-left n xs)
  where
    by : (b : Bool) → map owner_of (filter (is_other n) xs) ≡ without_owner n (map owner_of xs) → map owner_of (if b then x ∷ filter (is_other n) xs else filter (is_other n) xs) ≡ (if b then owner_of x ∷ without_owner n (map owner_of xs) else without_owner n (map owner_of xs))
    by true e = (λ i. owner_of x ∷ e i)
    by false e = e

pub all-left : (P : Attached → Type 0) (n : ℕ) (xs : List Attached) → AllOwners xs P → AllOwners (filter (is_other n) xs) P
all-left P n [] all m = all m
all-left P n (x ∷ xs) all m = by (is_other n x) (all-left P n xs (λ k. all (suc k))) m
  where
    cons : (ys : List Attached) → AllOwners ys P → (m : ℕ) → AtOwner (x ∷ ys) m P
    cons ys h zero = all zero
    cons ys h (suc m) = h m

    by : (b : Bool) → AllOwners (filter (is_other n) xs) P → (m : ℕ) → AtOwner (if b then x ∷ filter (is_other n) xs else filter (is_other n) xs) m P
    by true h m = cons (filter (is_other n) xs) h m
    by false h m = h m

kept-other : (owner : ℕ) (x : Attached) (ys zs : List Attached) → nat_eq x.owner owner ≡ false → ys ≡ zs → x ∷ ys ≡ (if is_other owner x then x ∷ zs else zs)
kept-other owner x ys zs e same = (λ i. x ∷ same i) ∙ (λ i. if not (sym e i) then x ∷ zs else zs)

differs : (a owner n m : ℕ) → (a ≡ owner → n ≡ m) → nat_eq n m ≡ false → nat_eq a owner ≡ false
differs a owner n m f h = by (nat_eq a owner) refl
  where
    by : (b : Bool) → nat_eq a owner ≡ b → b ≡ false
    by true e = (let q : a ≡ owner = grind (arith, nat_tests, e) in let w = f q in grind (arith, nat_tests, w, h))
    by false e = refl

-- LAW: where nobody stands at the one place where an owner may, nobody goes
pub none-left-out : (xs : List Attached) (owner : ℕ) → ((n : ℕ) → AtOwner xs n (λ a. nat_eq a.owner owner ≡ false)) → xs ≡ filter (is_other owner) xs
none-left-out [] owner apart = refl
none-left-out (x ∷ xs) owner apart = kept-other owner x xs (filter (is_other owner) xs) (apart 0) (none-left-out xs owner (λ n. apart (suc n)))

each-apart : (xs : List Attached) (place owner : ℕ) → ((n : ℕ) → AtOwner xs n (λ a. a.owner ≡ owner → place ≡ n)) → ((n : ℕ) → nat_eq place n ≡ false → AtOwner xs n (λ a. nat_eq a.owner owner ≡ false))
each-apart xs place owner there n other = by (slice_get xs n) (there n)
  where
    by : (o : Option Attached) → MatchOption o (Unit {0}) (λ a. a.owner ≡ owner → place ≡ n) → MatchOption o (Unit {0}) (λ a. nat_eq a.owner owner ≡ false)
    by None h = tt
    by (Some a) h = differs a.owner owner place n h other

-- LAW: where it is not there, nobody goes
pub left-absent : (xs : List Attached) (place owner : ℕ) → ((n : ℕ) → AtOwner xs n (λ a. a.owner ≡ owner → place ≡ n)) → AtOwner xs place (λ a. nat_eq a.owner owner ≡ false) → xs ≡ filter (is_other owner) xs
left-absent xs place owner there here = none-left-out xs owner (λ n. by n (nat_eq place n) refl)
  where
    by : (n : ℕ) (b : Bool) → nat_eq place n ≡ b → AtOwner xs n (λ a. nat_eq a.owner owner ≡ false)
    by n true e = (let q : place ≡ n = grind (arith, nat_tests, e) in subst (λ m. AtOwner xs m (λ a. nat_eq a.owner owner ≡ false)) q here)
    by n false e = each-apart xs place owner there n e

-- LAW: where it is, it alone goes
pub left-present : (xs : List Attached) (place owner : ℕ) (b : Attached) → ((n : ℕ) → AtOwner xs n (λ a. a.owner ≡ owner → place ≡ n)) → slice_get xs place ≡ Some b → b.owner ≡ owner
    → take place xs ++ drop (suc place) xs ≡ filter (is_other owner) xs
left-present [] place owner b there at is = absurd (let bad : ◌≡◌ {A = Option Attached} None (Some b) = at in cc)
left-present (x ∷ xs) zero owner b there at is =
    let same : x ≡ b = cc in
    let e : nat_eq x.owner owner ≡ true = (λ i. nat_eq ((same i).owner) owner) ∙ (grind (arith, nat_tests, is)) in
    none-left-out xs owner (λ n. each-apart (x ∷ xs) zero owner there (suc n) (grind (arith, nat_tests)))
    ∙ (λ i. if not (sym e i) then x ∷ filter (is_other owner) xs else filter (is_other owner) xs)
left-present (x ∷ xs) (suc p) owner b there at is =
    kept-other owner x (take p xs ++ drop (suc p) xs) (filter (is_other owner) xs)
    (each-apart (x ∷ xs) (suc p) owner there zero (grind (arith, nat_tests)))
    (left-present xs p owner b (λ n. fewer n (slice_get xs n) (there (suc n))) at is)
  where
    fewer : (n : ℕ) (o : Option Attached) → MatchOption o (Unit {0}) (λ a. a.owner ≡ owner → suc p ≡ suc n) → MatchOption o (Unit {0}) (λ a. a.owner ≡ owner → p ≡ n)
    fewer n None h = tt
    fewer n (Some a) h = λ q. (let w = h q in omega (arith, w))

-- LAW: the one that stands where an owner may is taken out
pub taken-out : (xs seen new : List Attached) (place owner : ℕ) (b : Attached) → seen ≡ xs → (ascend (map owner_of seen) ≡ true → (n : ℕ) → AtOwner seen n (λ a. a.owner ≡ owner → place ≡ n))
    → ascend (map owner_of xs) ≡ true → place < length xs → b ≡ get_or xs place b → b.owner ≡ owner → new ≡ take place xs ++ drop (suc place) xs → new ≡ filter (is_other owner) xs
taken-out xs seen new place owner b v there asc lt at is rest =
    rest ∙ left-present xs place owner b
    (subst (λ l. (n : ℕ) → AtOwner l n (λ a. a.owner ≡ owner → place ≡ n)) v (there (ap (λ l. ascend (map owner_of l)) v ∙ asc)))
    (get-at xs place b lt ∙ ap Some (sym at)) is
