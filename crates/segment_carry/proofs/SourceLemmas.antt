-- Counts and flags by source, as a walk along entries makes them.
use Rattle.std.proofs.Common.{◌≡◌, ◌∙◌, ap, refl, sym, ℕ, zero, suc, ◌+◌, ◌<◌, ◌≤◌, Bool, true, false, cond, List, [], ◌∷◌, ◌++◌, length, ◌||◌, arith, get_or}
use Rattle.std.specs.Prelude.{count_by, filter, map, slice_index, take, if◌then◌else◌}
use Rattle.std.specs.List.{list_any}
use Rattle.std.proofs.lemmas.List.{take_more, map-append}
use Rattle.std.proofs.lemmas.List.Folds.{list_any_more}
use Rattle.std.proofs.lemmas.List.Sums.{sum_by-append, count_by-le-length}
use Rattle.std.proofs.lemmas.List.Elements.{filter-append}
use Rattle.ha_config.specs.Words.{numbers_from, up_to}
use Rattle.segment_carry.specs.Sources.{is_true_at}

-- ---- one element more

plain : (n : ℕ) → 0 + n ≡ n
plain n = omega arith

pub count-more : {X : Type 0} (p : X → Bool) (xs : List X) (i : ℕ) (x : X) → i < length xs → x ≡ get_or xs i x → count_by p (take (i + 1) xs) ≡ count_by p (take i xs) + (if p x then 1 else 0)
count-more p xs i x lt is =
    ap (count_by p) (take_more xs i x lt)
    ∙ sum_by-append (λ y. cond (p y) 1 0) (take i xs) (get_or xs i x ∷ [])
    ∙ (λ k. count_by p (take i xs) + plain (cond (p (get_or xs i x)) 1 0) k)
    ∙ (λ k. count_by p (take i xs) + (if p (sym is k) then 1 else 0))

pub any-more : {X : Type 0} (p : X → Bool) (xs : List X) (i : ℕ) (x : X) → i < length xs → x ≡ get_or xs i x → list_any p (take (i + 1) xs) ≡ (list_any p (take i xs) || p x)
any-more p xs i x lt is = list_any_more p xs i x lt ∙ (λ k. list_any p (take i xs) || p (sym is k))

length-front : {X : Type 0} (i : ℕ) (xs : List X) → i ≤ length xs → length (take i xs) ≡ i
length-front zero xs h = refl
length-front (suc i) [] h = absurd (omega (arith, h))
length-front (suc i) (x ∷ xs) h = (let e = length-front i xs (omega (arith, h)) in omega (arith, e))

-- what is counted so far is no more than the places so far
pub count-most : {X : Type 0} (p : X → Bool) (xs : List X) (i : ℕ) → i ≤ length xs → count_by p (take i xs) ≤ i
count-most p xs i le = (let a = count_by-le-length p (take i xs) in let b = length-front i xs le in omega (arith, a, b))

pub or-assoc : (a b c : Bool) → ((a || b) || c) ≡ (a || (b || c))
or-assoc true b c = refl
or-assoc false b c = refl

-- ---- numbers one after the other

numbers-snoc : (low n : ℕ) → numbers_from low (suc n) ≡ numbers_from low n ++ ((low + n) ∷ [])
numbers-snoc low zero = (let e : low ≡ low + 0 = omega arith in λ i. e i ∷ [])
numbers-snoc low (suc n) = (let e : (low + 1) + n ≡ low + suc n = omega arith in (λ i. low ∷ numbers-snoc (low + 1) n i) ∙ (λ i. low ∷ (numbers_from (low + 1) n ++ (e i ∷ []))))

pub up-more : (n : ℕ) → up_to (n + 1) ≡ up_to n ++ (n ∷ [])
up-more n = (let e : n + 1 ≡ suc n = omega arith in let f : 0 + n ≡ n = omega arith in (λ i. up_to (e i)) ∙ numbers-snoc 0 n ∙ (λ i. up_to n ++ (f i ∷ [])))

pub map-more : {X : Type 0} (f : ℕ → X) (n : ℕ) → map f (up_to n) ++ (f n ∷ []) ≡ map f (up_to (n + 1))
map-more {X} f n = sym (map-append {A = ℕ} {B = X} f (up_to n) (n ∷ [])) ∙ (λ i. map {A = ℕ} {B = X} f (sym (up-more n) i))

pub pushed-more : {X : Type 0} (f : ℕ → X) (n : ℕ) (old new : List X) (x : X) → old ≡ map f (up_to n) → x ≡ f n → new ≡ old ++ (x ∷ []) → new ≡ map f (up_to (n + 1))
pushed-more f n old new x before told is = is ∙ (λ k. before k ++ (told k ∷ [])) ∙ map-more f n

pub filter-more : (p : ℕ → Bool) (n : ℕ) → filter p (up_to n) ++ (if p n then n ∷ [] else []) ≡ filter p (up_to (n + 1))
filter-more p n = sym (filter-append p (up_to n) (n ∷ [])) ∙ (λ i. filter p (sym (up-more n) i))

-- ---- lists that say the same of each number below n

length-numbers : (low n : ℕ) → length (numbers_from low n) ≡ n
length-numbers low zero = refl
length-numbers low (suc n) = (let e = length-numbers (low + 1) n in omega (arith, e))

length-made : {X : Type 0} (f : ℕ → X) (ns : List ℕ) → length (map f ns) ≡ length ns
length-made f [] = refl
length-made f (n ∷ ns) = (let e = length-made f ns in omega (arith, e))

pub length-sixteen : {X : Type 0} (f : ℕ → X) (xs : List X) → xs ≡ map f (up_to 16) → length xs ≡ 16
length-sixteen f xs e = ap length e ∙ length-made f (up_to 16) ∙ length-numbers 0 16

-- a list is what a function makes of the numbers from low on, where it has that at each place
made-from : (f : ℕ → ℕ) (low : ℕ) (xs : List ℕ) → ((i : ℕ) → i < length xs → slice_index xs i ≡ f (low + i)) → xs ≡ map f (numbers_from low (length xs))
made-from f low [] h = refl
made-from f low (x ∷ xs) h =
    let here : x ≡ f low = h 0 (omega arith) ∙ (let e : low + 0 ≡ low = omega arith in ap f e) in
    let later = made-from f (low + 1) xs (λ i lt. h (suc i) (omega (arith, lt)) ∙ (let e : low + suc i ≡ (low + 1) + i = omega arith in ap f e)) in
    λ i. here i ∷ later i

pub made-sixteen : (f : ℕ → ℕ) (xs : List ℕ) → length xs ≡ 16 → ((i : ℕ) → i < 16 → slice_index xs i ≡ f i) → xs ≡ map f (up_to 16)
made-sixteen f xs n h =
    made-from f 0 xs (λ i lt. h i (omega (arith, lt, n)) ∙ (let e : i ≡ 0 + i = omega arith in ap f e)) ∙ (λ i. map {A = ℕ} {B = ℕ} f (numbers_from 0 (n i)))

pub map-same : {X : Type 0} (f g : ℕ → X) (low n : ℕ) → ((i : ℕ) → i < n → f (low + i) ≡ g (low + i)) → map f (numbers_from low n) ≡ map g (numbers_from low n)
map-same f g low zero h = refl
map-same f g low (suc n) h =
    let e : low + 0 ≡ low = omega arith in
    let here : f low ≡ g low = sym (ap f e) ∙ h 0 (omega arith) ∙ ap g e in
    let later = map-same f g (low + 1) n (λ i lt. (let e : (low + 1) + i ≡ low + suc i = omega arith in ap f e ∙ h (suc i) (omega (arith, lt)) ∙ sym (ap g e))) in
    λ i. here i ∷ later i

pub filter-same : (p q : ℕ → Bool) (low n : ℕ) → ((i : ℕ) → i < n → p (low + i) ≡ q (low + i)) → filter p (numbers_from low n) ≡ filter q (numbers_from low n)
filter-same p q low zero h = refl
filter-same p q low (suc n) h =
    let e : low + 0 ≡ low = omega arith in
    let here : p low ≡ q low = sym (ap p e) ∙ h 0 (omega arith) ∙ ap q e in
    let later = filter-same p q (low + 1) n (λ i lt. (let e : (low + 1) + i ≡ low + suc i = omega arith in ap p e ∙ h (suc i) (omega (arith, lt)) ∙ sym (ap q e))) in
    λ i. cond (here i) (low ∷ later i) (later i)

-- the flags that are made of the first sixteen numbers
pub flag-at : (f : ℕ → Bool) (low n i : ℕ) → i < n → is_true_at (map f (numbers_from low n)) i ≡ f (low + i)
flag-at f low zero i lt = absurd (omega (arith, lt))
flag-at f low (suc n) zero lt = (let e : low ≡ low + 0 = omega arith in ap f e)
flag-at f low (suc n) (suc i) lt = (let e : (low + 1) + i ≡ low + suc i = omega arith in flag-at f (low + 1) n i (omega (arith, lt)) ∙ ap f e)

-- the counts that are made of the first sixteen numbers, and more of each
count-at : (f : ℕ → ℕ) (low n i : ℕ) → i < n → slice_index (map f (numbers_from low n)) i ≡ f (low + i)
count-at f low zero i lt = absurd (omega (arith, lt))
count-at f low (suc n) zero lt = (let e : low ≡ low + 0 = omega arith in ap f e)
count-at f low (suc n) (suc i) lt = (let e : (low + 1) + i ≡ low + suc i = omega arith in count-at f (low + 1) n i (omega (arith, lt)) ∙ ap f e)

pub counted-sixteen : (f g : ℕ → ℕ) (old new : List ℕ) → old ≡ map f (up_to 16) → length new ≡ length old → ((k : ℕ) → k < 16 → slice_index new k ≡ slice_index old k + g k) → new ≡ map (λ k. f k + g k) (up_to 16)
counted-sixteen f g old new is len more =
    made-sixteen (λ k. f k + g k) new (len ∙ length-sixteen f old is) (λ k lt. more k lt ∙ (λ i. slice_index (is i) k + g k) ∙ (λ i. first k lt i + g k))
  where
    first : (k : ℕ) → k < 16 → slice_index (map f (up_to 16)) k ≡ f k
    first k lt = (let e : 0 + k ≡ k = omega arith in count-at f 0 16 k lt ∙ ap f e)
