-- How the pairs of blocks, in one list, change with the blocks.
use Rattle.std.proofs.Common.{◌≡◌, ℕ, zero, suc, ◌+◌, ◌-◌, ◌<◌, ◌≤◌, List, [], ◌∷◌, ◌++◌, length, take, drop, slice_set, get_or, insert, refl, sym, ap, ◌∙◌, arith}
use Rattle.ha_value.specs.declared.value.Value.{Value}
use Rattle.ha_config.specs.Words.{Text, Pairs}
use Rattle.ha_sight.specs.Scripts.{Scopes, flat, outer, add_inside}
use Rattle.script_step.specs.Cuts.{cut, total, add_at}

take-drop : {X : Type 0} (n : ℕ) (xs : List X) → take n xs ++ drop n xs ≡ xs
take-drop zero xs = refl
take-drop (suc n) [] = refl
take-drop (suc n) (x ∷ xs) = ap (λ l. x ∷ l) (take-drop n xs)

drop-length : {X : Type 0} (n : ℕ) (xs : List X) → length (drop n xs) ≡ length xs - n
drop-length zero xs = omega arith
drop-length (suc n) [] = omega arith
drop-length (suc n) (x ∷ xs) = drop-length n xs ∙ omega arith

nothing-left : {X : Type 0} (xs : List X) → 0 ≡ length xs → xs ≡ []
nothing-left [] e = refl
nothing-left (x ∷ xs) e = absurd (omega (arith, e))

pub flat-cut : (ns : List ℕ) (ps : Pairs) → total ns ≡ length ps → flat (cut ns ps) ≡ ps
flat-cut [] ps e = sym (nothing-left ps e)
flat-cut (n ∷ ns) ps e = ap (λ l. take n ps ++ l) (flat-cut ns (drop n ps) (omega (arith, e, drop-length n ps))) ∙ take-drop n ps

pub total-snoc : (ns : List ℕ) (n : ℕ) → total (ns ++ (n ∷ [])) ≡ total ns + n
total-snoc [] n = omega arith
total-snoc (m ∷ ns) n = omega (arith, total-snoc ns n)

pub take-all : {X : Type 0} (xs : List X) (n : ℕ) → length xs ≤ n → take n xs ≡ xs
take-all [] zero h = refl
take-all [] (suc n) h = refl
take-all (x ∷ xs) zero h = absurd (omega (arith, h))
take-all (x ∷ xs) (suc n) h = ap (λ l. x ∷ l) (take-all xs n (omega (arith, h)))

pub cut-open : (ns : List ℕ) (ps : Pairs) → cut (ns ++ (0 ∷ [])) ps ≡ cut ns ps ++ ([] ∷ [])
cut-open [] ps = refl
cut-open (n ∷ ns) ps = ap (λ l. take n ps ∷ l) (cut-open ns (drop n ps))

take-take : {X : Type 0} (n m : ℕ) (xs : List X) → n ≤ m → take n (take m xs) ≡ take n xs
take-take zero m xs h = refl
take-take (suc n) zero xs h = absurd (omega (arith, h))
take-take (suc n) (suc m) [] h = refl
take-take (suc n) (suc m) (x ∷ xs) h = ap (λ l. x ∷ l) (take-take n m xs (omega (arith, h)))

suc-plus : (n m : ℕ) → suc n + m ≡ suc (n + m)
suc-plus n m = omega arith

take-nothing : (X : Type 0) (m : ℕ) → ◌≡◌ {A = List X} [] (take m [])
take-nothing X zero = refl
take-nothing X (suc m) = refl

drop-take : {X : Type 0} (n m : ℕ) (xs : List X) → drop n (take (n + m) xs) ≡ take m (drop n xs)
drop-take zero m xs = ap (λ k. take k xs) (zero-plus m)
  where
    zero-plus : (m : ℕ) → 0 + m ≡ m
    zero-plus m = omega arith
drop-take {X} (suc n) m [] = ap (λ k. drop (suc n) (take k [])) (suc-plus n m) ∙ take-nothing X m
drop-take (suc n) m (x ∷ xs) = ap (λ k. drop (suc n) (take k (x ∷ xs))) (suc-plus n m) ∙ drop-take n m xs

outer-more : (block : Pairs) (ns : List ℕ) (n : ℕ) (ps : Pairs) → outer (block ∷ cut (ns ++ (n ∷ [])) ps) ≡ block ∷ outer (cut (ns ++ (n ∷ [])) ps)
outer-more block [] n ps = refl
outer-more block (m ∷ ns) n ps = refl

-- without the last block, the pairs before it are left
pub cut-close : (ns : List ℕ) (n : ℕ) (ps : Pairs) → outer (cut (ns ++ (n ∷ [])) ps) ≡ cut ns (take (total ns) ps)
cut-close [] n ps = refl
cut-close (m ∷ ns) n ps =
    outer-more (take m ps) ns n (drop m ps)
    ∙ (λ i. sym (take-take m (m + total ns) ps (omega arith)) i ∷ (cut-close ns n (drop m ps) ∙ ap (cut ns) (sym (drop-take m (total ns) ps))) i)

pub length-take : {X : Type 0} (n : ℕ) (xs : List X) → n ≤ length xs → length (take n xs) ≡ n
length-take zero xs h = refl
length-take (suc n) [] h = absurd (omega (arith, h))
length-take (suc n) (x ∷ xs) h = ap suc (length-take n xs (omega (arith, h)))

pub take-shorter : {X : Type 0} (n : ℕ) (xs : List X) → length (take n xs) ≤ length xs
take-shorter zero xs = omega arith
take-shorter (suc n) [] = omega arith
take-shorter (suc n) (x ∷ xs) = omega (arith, take-shorter n xs)

-- ---- one more pair in block k

pub length-cut : (ns : List ℕ) (ps : Pairs) → length (cut ns ps) ≡ length ns
length-cut [] ps = refl
length-cut (n ∷ ns) ps = ap suc (length-cut ns (drop n ps))

take-add : {X : Type 0} (n : ℕ) (xs : List X) (x : X) (ys : List X) → length xs ≡ n → (take (n + 1) (xs ++ (x ∷ ys)) ≡ xs ++ (x ∷ [])) × (drop (n + 1) (xs ++ (x ∷ ys)) ≡ ys)
take-add n [] x ys e = (let z : n + 1 ≡ 1 = omega (arith, e) in ((λ i. take (z i) (x ∷ ys)), (λ i. drop (z i) (x ∷ ys))))
take-add n (y ∷ xs) x ys e =
    let m : n ≡ suc (length xs) = omega (arith, e) in
    let z : n + 1 ≡ suc (length xs + 1) = omega (arith, m) in
    let later = take-add (length xs) xs x ys refl in
    ((λ i. take (z i) (y ∷ (xs ++ (x ∷ ys)))) ∙ ap (λ l. y ∷ l) later.0, (λ i. drop (z i) (y ∷ (xs ++ (x ∷ ys)))) ∙ later.1)

take-more : {X : Type 0} (n m : ℕ) (xs : List X) → take n (take (n + m) xs) ≡ take n xs
take-more n m xs = take-take n (n + m) xs (omega arith)

drop-nothing : (X : Type 0) (m : ℕ) → ◌≡◌ {A = List X} [] (drop m [])
drop-nothing X zero = refl
drop-nothing X (suc m) = refl

pub drop-plus : {X : Type 0} (n m : ℕ) (xs : List X) → drop (n + m) xs ≡ drop m (drop n xs)
drop-plus zero m xs = (let z : 0 + m ≡ m = omega arith in ap (λ k. drop k xs) z)
drop-plus {X} (suc n) m [] = (let z : suc n + m ≡ suc (n + m) = omega arith in ap (λ k. drop k []) z ∙ drop-nothing X m)
drop-plus (suc n) m (x ∷ xs) = (let z : suc n + m ≡ suc (n + m) = omega arith in ap (λ k. drop k (x ∷ xs)) z ∙ drop-plus n m xs)

take-front : {X : Type 0} (n : ℕ) (xs ys : List X) → n ≤ length xs → take n (xs ++ ys) ≡ take n xs
take-front zero xs ys h = refl
take-front (suc n) [] ys h = absurd (omega (arith, h))
take-front (suc n) (x ∷ xs) ys h = ap (λ l. x ∷ l) (take-front n xs ys (omega (arith, h)))

drop-front : {X : Type 0} (n : ℕ) (xs ys : List X) → n ≤ length xs → drop n (xs ++ ys) ≡ drop n xs ++ ys
drop-front zero xs ys h = refl
drop-front (suc n) [] ys h = absurd (omega (arith, h))
drop-front (suc n) (x ∷ xs) ys h = drop-front n xs ys (omega (arith, h))

pub total-take : (k : ℕ) (ns : List ℕ) → total (take k ns) ≤ total ns
total-take zero ns = omega arith
total-take (suc k) [] = omega arith
total-take (suc k) (n ∷ ns) = omega (arith, total-take k ns)

pub cut-add : (ns : List ℕ) (ps : Pairs) (k d : ℕ) (p : Text × Value) → k < length ns → total ns ≡ length ps
    → cut (slice_set ns k (get_or ns k d + 1)) (insert ps (total (take (suc k) ns)) p) ≡ add_at k p (cut ns ps)
cut-add [] ps k d p lt e = absurd (omega (arith, lt))
cut-add (n ∷ ns) ps zero d p lt e =
    let z : n + 0 ≡ n = omega arith in
    let at = take-add n (take n ps) p (drop n ps) (length-take n ps (omega (arith, e))) in
    (λ i. cut ((n + 1) ∷ ns) (insert ps (z i) p)) ∙ (λ i. at.0 i ∷ cut ns (at.1 i))
cut-add (n ∷ ns) ps (suc k) d p lt e =
    let t = total (take (suc k) ns) in
    let short : n ≤ length (take (n + t) ps) = omega (arith, length-take (n + t) ps (omega (arith, e, total-take (suc k) ns))) in
    (λ i. (take-front n (take (n + t) ps) (p ∷ drop (n + t) ps) short ∙ take-more n t ps) i
    ∷ cut (slice_set ns k (get_or ns k d + 1)) ((drop-front n (take (n + t) ps) (p ∷ drop (n + t) ps) short ∙ (λ j. drop-take n t ps j ++ (p ∷ drop-plus n t ps j))) i))
    ∙ ap (λ l. take n ps ∷ l) (cut-add ns (drop n ps) k d p (omega (arith, lt)) (omega (arith, e, drop-length n ps)))

pub total-next : (ns : List ℕ) (i : ℕ) → i < length ns → total (take (i + 1) ns) ≡ total (take i ns) + get_or ns i 0
total-next [] i lt = absurd (omega (arith, lt))
total-next (n ∷ ns) zero lt = omega arith
total-next (n ∷ ns) (suc i) lt =
    let z : suc i + 1 ≡ suc (i + 1) = omega arith in
    (λ k. total (take (z k) (n ∷ ns))) ∙ omega (arith, total-next ns i (omega (arith, lt)))

pub get-total : (ns : List ℕ) (k : ℕ) → k < length ns → get_or ns k 0 ≤ total ns
get-total [] k lt = absurd (omega (arith, lt))
get-total (n ∷ ns) zero lt = omega arith
get-total (n ∷ ns) (suc k) lt = omega (arith, get-total ns k (omega (arith, lt)))

-- the last block is the innermost
pub add-last : (scopes : Scopes) (n : ℕ) (p : Text × Value) → n ≡ length scopes → 0 < n → add_at (n - 1) p scopes ≡ add_inside p scopes
add-last [] n p e lt = absurd (omega (arith, e, lt))
add-last (x ∷ []) n p e lt = (let z : n - 1 ≡ 0 = omega (arith, e) in ap (λ k. add_at k p (x ∷ [])) z)
add-last (x ∷ y ∷ scopes) n p e lt =
    let z : n - 1 ≡ suc (n - 1 - 1) = omega (arith, e) in
    ap (λ k. add_at k p (x ∷ y ∷ scopes)) z ∙ ap (λ l. x ∷ l) (add-last (y ∷ scopes) (n - 1) p (omega (arith, e)) (omega (arith, e)))

pub total-set : (ns : List ℕ) (k d : ℕ) → k < length ns → total (slice_set ns k (get_or ns k d + 1)) ≡ total ns + 1
total-set [] k d lt = absurd (omega (arith, lt))
total-set (n ∷ ns) zero d lt = omega arith
total-set (n ∷ ns) (suc k) d lt = omega (arith, total-set ns k d (omega (arith, lt)))

pub length-insert : {X : Type 0} (xs : List X) (i : ℕ) (x : X) → i ≤ length xs → length (insert xs i x) ≡ length xs + 1
length-insert xs zero x h = omega arith
length-insert [] (suc i) x h = absurd (omega (arith, h))
length-insert (y ∷ xs) (suc i) x h = omega (arith, length-insert xs i x (omega (arith, h)))

-- a block that was just opened is the innermost
pub add-open : (scopes : Scopes) (p : Text × Value) → add_inside p (scopes ++ ([] ∷ [])) ≡ scopes ++ ((p ∷ []) ∷ [])
add-open [] p = refl
add-open (x ∷ []) p = refl
add-open (x ∷ y ∷ scopes) p = ap (λ l. x ∷ l) (add-open (y ∷ scopes) p)
