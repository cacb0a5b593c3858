-- The ready pairs, run by run, and how they change where one run changes.
use Rattle.std.proofs.Common.{◌≡◌, ℕ, zero, suc, ◌+◌, ◌-◌, ◌<◌, ◌≤◌, List, [], ◌∷◌, ◌++◌, length, map, filter, Bool, true, false, refl, sym, subst, ◌∙◌, rules, arith, append_assoc}
use Rattle.std.specs.Prelude.{Some, nat_eq, nat_lt, slice_get, flat_map, if◌then◌else◌}
use Rattle.std.specs.Option.{option_map_or}
use Rattle.ha_model.specs.declared.record.Record.{Record}
use Rattle.ha_journal.specs.Journal.{Journal, units}
use Rattle.ha_sight.specs.Scripts.{Branch}
use Rattle.ha_sight.specs.Branches.{branches_of}
use Rattle.ha_model.specs.Records.{Records, actions_of}
use Rattle.ha_model.specs.Lawful.{Right, is_running, may_step, ready, ready_of}
use Rattle.ha_model.proofs.StepLaws.{Numbered, numbered-of}
use Rattle.ha_config.proofs.ListLemmas.{true-false}
use Rattle.ha_ready.specs.ReadyPairs.{ready_branches, branches_at, pairs_of, pairs_from, with_run, changed_at}

-- ---- the list of the definition, run by run

one-run : (all : Records) (j : Journal) (r : Record) → ready_of all j r ≡ pairs_of r.serial (ready_branches all j r)
one-run all j r = by (is_running (length j) r)
  where
    by : (c : Bool) → (if c then map (λ b. (r.serial, b)) (filter (may_step all j r) (branches_of (actions_of (units j) r.automation))) else [])
        ≡ pairs_of r.serial (if c then filter (may_step all j r) (branches_of (actions_of (units j) r.automation)) else [])
    by true = refl
    by false = refl

flat-pairs : (all : Records) (j : Journal) (n : ℕ) (rs : Records) (L : ℕ → List Branch) → Numbered n rs
    → ((i : ℕ) (r : Record) → slice_get rs i ≡ Some r → L (suc (n + i)) ≡ ready_branches all j r) → flat_map (ready_of all j) rs ≡ pairs_from n (length rs) L
unfolding Numbered
flat-pairs all j n [] L h same = refl
flat-pairs all j n (r ∷ rs) L h same =
    let at : n + 0 ≡ n = omega arith in
    let here : L (suc n) ≡ ready_branches all j r = (λ i. L (suc (sym at i))) ∙ same 0 r refl in
    (λ i. one-run all j r i ++ flat_map (ready_of all j) rs)
    ∙ (λ i. pairs_of (h.0 i) (sym here i) ++ flat_map (ready_of all j) rs)
    ∙ (λ i. pairs_of (suc n) (L (suc n)) ++ flat-pairs all j (suc n) rs L h.1 (λ m x e. (let later : suc (suc n + m) ≡ suc (n + suc m) = omega arith in (λ i. L (later i))) ∙ same (suc m) x e) i)

-- LAW: the ready pairs stand run by run
pub ready-pairs : (j : Journal) (rs : Records) → Right j rs → ready rs j ≡ pairs_from 0 (length rs) (branches_at rs j)
ready-pairs j rs right =
    flat-pairs rs j 0 rs (branches_at rs j) (subst (Numbered 0) (sym right.records_are) (numbered-of j))
    (λ i r e. (let at : suc (0 + i) - 1 ≡ i = omega arith in (λ q. option_map_or (ready_branches rs j) (slice_get rs (at q)) [])) ∙ (λ q. option_map_or (ready_branches rs j) (e q) []))

-- ---- one run changes

filter-append : {X : Type 0} (p : X → Bool) (xs ys : List X) → filter p (xs ++ ys) ≡ filter p xs ++ filter p ys
filter-append p [] ys = refl
filter-append p (x ∷ xs) ys = by (p x) (filter-append p xs ys)
  where
    by : (b : Bool) → filter p (xs ++ ys) ≡ filter p xs ++ filter p ys → (if b then x ∷ filter p (xs ++ ys) else filter p (xs ++ ys)) ≡ (if b then x ∷ filter p xs else filter p xs) ++ filter p ys
    by true e = (λ i. x ∷ e i)
    by false e = e

not-less : (a b : ℕ) → b ≤ a → nat_lt a b ≡ false
not-less a b le = search rules

is-less : (a b : ℕ) → a < b → nat_lt a b ≡ true
is-less a b lt = search rules

-- a test of the serial alone keeps all pairs of a run, or none
keeps-run : (p : ℕ → Bool) (s : ℕ) → p s ≡ true → (bs : List Branch) → filter (λ x. p x.0) (pairs_of s bs) ≡ pairs_of s bs
keeps-run p s e [] = refl
keeps-run p s e (b ∷ bs) = (λ i. if e i then (s, b) ∷ keeps-run p s e bs i else keeps-run p s e bs i)

drops-run : (p : ℕ → Bool) (s : ℕ) → p s ≡ false → (bs : List Branch) → filter (λ x. p x.0) (pairs_of s bs) ≡ []
drops-run p s e [] = refl
drops-run p s e (b ∷ bs) = (λ i. if e i then (s, b) ∷ drops-run p s e bs i else drops-run p s e bs i)

keeps-later : (p : ℕ → Bool) (n m : ℕ) (L : ℕ → List Branch) → ((s : ℕ) → n < s → p s ≡ true) → filter (λ x. p x.0) (pairs_from n m L) ≡ pairs_from n m L
keeps-later p n zero L h = refl
keeps-later p n (suc m) L h =
    filter-append (λ x. p x.0) (pairs_of (suc n) (L (suc n))) (pairs_from (suc n) m L)
    ∙ (λ i. keeps-run p (suc n) (h (suc n) (omega arith)) (L (suc n)) i ++ keeps-later p (suc n) m L (λ s lt. h s (omega arith)) i)

drops-later : (p : ℕ → Bool) (n m : ℕ) (L : ℕ → List Branch) → ((s : ℕ) → n < s → p s ≡ false) → filter (λ x. p x.0) (pairs_from n m L) ≡ []
drops-later p n zero L h = refl
drops-later p n (suc m) L h =
    filter-append (λ x. p x.0) (pairs_of (suc n) (L (suc n))) (pairs_from (suc n) m L)
    ∙ (λ i. drops-run p (suc n) (h (suc n) (omega arith)) (L (suc n)) i ++ drops-later p (suc n) m L (λ s lt. h s (omega arith)) i)

pub pairs-same : (n m : ℕ) (L L' : ℕ → List Branch) → ((q : ℕ) → n < q → q ≤ n + m → L q ≡ L' q) → pairs_from n m L ≡ pairs_from n m L'
pairs-same n zero L L' h = refl
pairs-same n (suc m) L L' h = (λ i. pairs_of (suc n) (h (suc n) (omega arith) (omega arith) i) ++ pairs-same (suc n) m L L' (λ q lt le. h q (omega arith) (omega arith)) i)

pub not-equal : (a b : ℕ) → a < b → nat_eq a b ≡ false
not-equal a b lt = search rules

not-equal-above : (a b : ℕ) → b < a → nat_eq a b ≡ false
not-equal-above a b lt = search rules

pub equal-self : (a b : ℕ) → a ≡ b → nat_eq a b ≡ true
equal-self a b e = search (rules, e)

pub eq-of : (a b : ℕ) → nat_eq a b ≡ true → a ≡ b
eq-of a b e = search (rules, e)

pub ne-of : (a b : ℕ) → nat_eq a b ≡ false → a ≡ b → ⊥
ne-of a b e h = true-false (sym (equal-self a b h) ∙ e)

-- LAW: where one run changes, its pairs alone do
pub change-run : (n m s : ℕ) (bs : List Branch) (L : ℕ → List Branch) → n < s → s ≤ n + m → with_run s bs (pairs_from n m L) ≡ pairs_from n m (changed_at s bs L)
change-run n zero s bs L lt le = absurd (omega arith)
change-run n (suc m) s bs L lt le = by (nat_eq (suc n) s) refl (λ less. change-run (suc n) m s bs L less (omega (arith, le)))
  where
    by : (c : Bool) → nat_eq (suc n) s ≡ c → (suc n < s → with_run s bs (pairs_from (suc n) m L) ≡ pairs_from (suc n) m (changed_at s bs L)) → with_run s bs (pairs_of (suc n) (L (suc n)) ++ pairs_from (suc n) m L) ≡ pairs_of (suc n) (if c then bs else L (suc n)) ++ pairs_from (suc n) m (changed_at s bs L)
    by true e rec =
        let at : suc n ≡ s = eq-of (suc n) s e in
        let first = pairs_of (suc n) (L (suc n)) in
        let rest = pairs_from (suc n) m L in
        let low : filter (λ x. nat_lt x.0 s) (first ++ rest) ≡ []
        = filter-append (λ x. nat_lt x.0 s) first rest
        ∙ (λ i. drops-run (λ q. nat_lt q s) (suc n) (not-less (suc n) s (omega (arith, at))) (L (suc n)) i ++ drops-later (λ q. nat_lt q s) (suc n) m L (λ q less. not-less q s (omega (arith, at, less))) i) in
        let high : filter (λ x. nat_lt s x.0) (first ++ rest) ≡ rest
        = filter-append (λ x. nat_lt s x.0) first rest
        ∙ (λ i. drops-run (λ q. nat_lt s q) (suc n) (not-less s (suc n) (omega (arith, at))) (L (suc n)) i ++ keeps-later (λ q. nat_lt s q) (suc n) m L (λ q less. is-less s q (omega (arith, at, less))) i) in
        let later : rest ≡ pairs_from (suc n) m (changed_at s bs L)
        = pairs-same (suc n) m L (changed_at s bs L) (λ q less top. (let other = not-equal-above q s (omega (arith, at, less)) in λ i. if sym other i then bs else L q)) in
        (λ i. low i ++ (pairs_of s bs ++ high i)) ∙ (λ i. pairs_of (sym at i) bs ++ later i)
    by false e rec =
        let less : suc n < s = omega (arith, lt, ne-of (suc n) s e) in
        let first = pairs_of (suc n) (L (suc n)) in
        let rest = pairs_from (suc n) m L in
        let low : filter (λ x. nat_lt x.0 s) (first ++ rest) ≡ first ++ filter (λ x. nat_lt x.0 s) rest
        = filter-append (λ x. nat_lt x.0 s) first rest
        ∙ (λ i. keeps-run (λ q. nat_lt q s) (suc n) (is-less (suc n) s less) (L (suc n)) i ++ filter (λ x. nat_lt x.0 s) rest) in
        let high : filter (λ x. nat_lt s x.0) (first ++ rest) ≡ filter (λ x. nat_lt s x.0) rest
        = filter-append (λ x. nat_lt s x.0) first rest
        ∙ (λ i. drops-run (λ q. nat_lt s q) (suc n) (not-less s (suc n) (omega (arith, less))) (L (suc n)) i ++ filter (λ x. nat_lt s x.0) rest) in
        (λ i. low i ++ (pairs_of s bs ++ high i))
        ∙ append_assoc first (filter (λ x. nat_lt x.0 s) rest) (pairs_of s bs ++ filter (λ x. nat_lt s x.0) rest)
        ∙ (λ i. first ++ rec less i)

-- LAW: runs that have no pairs add none
pub no-more-pairs : (n m m' : ℕ) (L : ℕ → List Branch) → m ≤ m' → ((q : ℕ) → n + m < q → L q ≡ []) → pairs_from n m' L ≡ pairs_from n m L
no-more-pairs n zero zero L le h = refl
no-more-pairs n (suc m) zero L le h = absurd (omega arith)
no-more-pairs n zero (suc m') L le h =
    (λ i. pairs_of (suc n) (h (suc n) (omega arith) i) ++ no-more-pairs (suc n) zero m' L (omega arith) (λ q lt. h q (omega (arith, lt))) i)
no-more-pairs n (suc m) (suc m') L le h =
    (λ i. pairs_of (suc n) (L (suc n)) ++ no-more-pairs (suc n) m m' L (omega arith) (λ q lt. h q (omega (arith, lt))) i)
