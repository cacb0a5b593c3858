-- Numbers that come one after the other, each listed once.
use Rattle.std.proofs.Common.{◌≡◌, ◌∙◌, ap, ℕ, ◌+◌, ◌<◌, Bool, true, false, refl, List, [], ◌∷◌, ◌++◌, length, get_or, take, sym, arith, append-nil}
use Rattle.std.proofs.lemmas.List.{take_more}
use Rattle.std.proofs.lemmas.Bool.Decides.{nat_tests}
use Rattle.std.specs.Prelude.{Option, Some, None, ◌||◌, nat_eq, filter_map, if◌then◌else◌}
use Rattle.std.specs.List.{cons_option}
use Rattle.ha_sight.specs.Once.{each_number_once, has_number, with_number, without_number}

-- LEMMA: the items up to a place, and the one there
pub front-more : {X : Type 0} (xs : List X) (i : ℕ) (x : X) → i < length xs → x ≡ get_or xs i x → take (i + 1) xs ≡ take i xs ++ (x ∷ [])
front-more xs i x lt is = take_more xs i x lt ∙ (λ k. take i xs ++ (sym is k ∷ []))

among-without : (n x : ℕ) (xs : List ℕ) → nat_eq n x ≡ false → has_number n (without_number x xs) ≡ has_number n xs
among-without n x [] e = refl
among-without n x (y ∷ ys) e = by (nat_eq x y) refl (among-without n x ys e)
  where
    other : (x y : ℕ) → nat_eq x y ≡ true → nat_eq n x ≡ nat_eq n y
    other x y h = (let z : x ≡ y = grind (arith, nat_tests) in ap (nat_eq n) z)

    by : (b : Bool) → nat_eq x y ≡ b → has_number n (without_number x ys) ≡ has_number n ys → has_number n (without_number x (y ∷ ys)) ≡ has_number n (y ∷ ys)
    by true h more = (let z : nat_eq n y ≡ false = sym (other x y h) ∙ e in rw (h, z) more)
    by false h more = rw h (ap (λ b. nat_eq n y || b) more)

once-among : (n : ℕ) (xs : List ℕ) → has_number n (each_number_once xs) ≡ has_number n xs
once-among n [] = refl
once-among n (x ∷ xs) = by (nat_eq n x) refl (once-among n xs)
  where
    by : (b : Bool) → nat_eq n x ≡ b → has_number n (each_number_once xs) ≡ has_number n xs → has_number n (each_number_once (x ∷ xs)) ≡ has_number n (x ∷ xs)
    by true h more = rw h refl
    by false h more = rw h (among-without n x (each_number_once xs) h ∙ more)

without-append : (x : ℕ) (xs ys : List ℕ) → without_number x (xs ++ ys) ≡ without_number x xs ++ without_number x ys
without-append x [] ys = refl
without-append x (z ∷ xs) ys = by (nat_eq x z) refl (without-append x xs ys)
  where
    by : (b : Bool) → nat_eq x z ≡ b → without_number x (xs ++ ys) ≡ without_number x xs ++ without_number x ys
        → without_number x (z ∷ (xs ++ ys)) ≡ without_number x (z ∷ xs) ++ without_number x ys
    by true h more = rw h more
    by false h more = rw h (ap (λ l. z ∷ l) more)

abbrev tail_of : Bool → ℕ → List ℕ
tail_of b n = if b then [] else n ∷ []

flipped : (n x : ℕ) → nat_eq x n ≡ nat_eq n x
flipped n x = grind (arith, nat_tests)

without-tail : (n x : ℕ) (b : Bool) → without_number x (tail_of b n) ≡ tail_of (nat_eq n x || b) n
without-tail n x true = by (nat_eq n x)
  where
    by : (b : Bool) → [] ≡ tail_of (b || true) n
    by true = refl
    by false = refl
without-tail n x false = by (nat_eq n x) (flipped n x)
  where
    by : (b : Bool) → nat_eq x n ≡ b → without_number x (n ∷ []) ≡ tail_of (b || false) n
    by true h = rw h refl
    by false h = rw h refl

once-more : (n : ℕ) (xs : List ℕ) → each_number_once (xs ++ (n ∷ [])) ≡ each_number_once xs ++ tail_of (has_number n xs) n
once-more n [] = refl
once-more n (x ∷ xs) =
    (λ k. x ∷ without_number x (once-more n xs k))
    ∙ ap (λ l. x ∷ l) (without-append x (each_number_once xs) (tail_of (has_number n xs) n) ∙ ap (λ l. without_number x (each_number_once xs) ++ l) (without-tail n x (has_number n xs)))

-- ---- one more item, which may have a number

behind-none : {Y : Type 0} (a b : List Y) (o : Option Y) → a ≡ b → cons_option o a ≡ cons_option o b
behind-none a b None h = h
behind-none a b (Some z) h = ap (λ l. z ∷ l) h

filtered-none : {X Y : Type 0} (f : X → Option Y) (xs : List X) (x : X) → f x ≡ None → filter_map f (xs ++ (x ∷ [])) ≡ filter_map f xs
filtered-none f [] x e = rw e refl
filtered-none f (y ∷ ys) x e = behind-none (filter_map f (ys ++ (x ∷ []))) (filter_map f ys) (f y) (filtered-none f ys x e)

behind-some : {Y : Type 0} (a b c : List Y) (o : Option Y) → a ≡ b ++ c → cons_option o a ≡ cons_option o b ++ c
behind-some a b c None h = h
behind-some a b c (Some w) h = ap (λ l. w ∷ l) h

filtered-some : {X Y : Type 0} (f : X → Option Y) (xs : List X) (x : X) (y : Y) → f x ≡ Some y → filter_map f (xs ++ (x ∷ [])) ≡ filter_map f xs ++ (y ∷ [])
filtered-some f [] x y e = rw e refl
filtered-some f (z ∷ zs) x y e = behind-some (filter_map f (zs ++ (x ∷ []))) (filter_map f zs) (y ∷ []) (f z) (filtered-some f zs x y e)

-- LEMMA: the numbers of the items up to a place, each once, and that of the one there
pub once-with : {X : Type 0} (f : X → Option ℕ) (xs : List X) (i : ℕ) (x : X) → i < length xs → x ≡ get_or xs i x
    → each_number_once (filter_map f (take (i + 1) xs)) ≡ with_number (f x) (each_number_once (filter_map f (take i xs)))
once-with {X} f xs i x lt is = ap (λ l. each_number_once (filter_map f l)) (front-more xs i x lt is) ∙ by (f x) refl
  where
    tail : (n : ℕ) (b : Bool) → each_number_once (filter_map f (take i xs)) ++ tail_of b n ≡ (if b then each_number_once (filter_map f (take i xs)) else each_number_once (filter_map f (take i xs)) ++ (n ∷ []))
    tail n true = append-nil (each_number_once (filter_map f (take i xs)))
    tail n false = refl

    by : (o : Option ℕ) → f x ≡ o → each_number_once (filter_map f (take i xs ++ (x ∷ []))) ≡ with_number o (each_number_once (filter_map f (take i xs)))
    by None e = ap each_number_once (filtered-none f (take i xs) x e)
    by (Some n) e =
        ap each_number_once (filtered-some f (take i xs) x n e) ∙ once-more n (filter_map f (take i xs)) ∙ tail n (has_number n (filter_map f (take i xs)))
        ∙ (λ k. if sym (once-among n (filter_map f (take i xs))) k then each_number_once (filter_map f (take i xs)) else each_number_once (filter_map f (take i xs)) ++ (n ∷ []))
