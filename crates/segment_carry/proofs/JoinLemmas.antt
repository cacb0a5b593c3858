-- Numbers under names may be put in any order of the names, and two lists in that order are joined in one pass.
use Rattle.std.proofs.Common.{◌≡◌, ◌∙◌, ap, refl, sym, subst, ℕ, zero, suc, ◌+◌, ◌-◌, ◌<◌, ◌≤◌, Bool, true, false, List, [], ◌∷◌, ◌++◌, length, take, drop, get_or, drop-cons, arith, rules}
use Rattle.std.specs.Prelude.{Result, Ok, Err, IfOk, Some, None, nat_eq, nat_le, nat_lt, slice_get, if◌then◌else◌}
use Rattle.std.specs.Option.{option_map_or}
use Rattle.std.proofs.lemmas.Bool.Decides.{nat_tests}
use Rattle.ha_config.specs.Words.{Text, comes_before, same}
use Rattle.ha_config.proofs.EqualLemmas.{same-refl, same-sound}
use Rattle.ha_config.proofs.ListLemmas.{none-some, some-same, true-false}
use Rattle.ha_config.proofs.OrderLemmas.{further}
use Rattle.segment_carry.specs.ByName.{Ascends, StandsBefore, back_of, front_of, numbers_with, past, put_all, with_number, with_some}
use Rattle.segment_carry.specs.Closing.{number_in}

-- ---- the order of names

less-self : (x : ℕ) → nat_lt x x ≡ false
less-self x = grind (arith, nat_tests)

eq-of : (a b : ℕ) → nat_eq a b ≡ true → a ≡ b
eq-of a b e = search (rules, e)

less : (a b : ℕ) → nat_lt a b ≡ false → nat_eq a b ≡ false → nat_lt b a ≡ true
less a b e f = grind (arith, nat_tests)

never-self : (a : Text) → comes_before a a ≡ false
never-self [] = refl
never-self (x ∷ a) = (λ i. if less-self x i then true else (if nat_eq x x then never-self a i else false)) ∙ both (nat_eq x x)
  where
    both : (b : Bool) → (if b then false else false) ≡ false
    both true = refl
    both false = refl

-- what stands before another does not stand behind it, and is another
one-way : (a b : Text) → comes_before a b ≡ true → comes_before b a ≡ false
one-way a b h = by (comes_before b a) refl
  where
    by : (c : Bool) → comes_before b a ≡ c → comes_before b a ≡ false
    by true e = absurd (true-false (sym (further a b a h e) ∙ never-self a))
    by false e = e

others : (a b : Text) → comes_before a b ≡ true → same b a ≡ false
others a b h = by (same b a) refl
  where
    by : (c : Bool) → same b a ≡ c → same b a ≡ false
    by true e = absurd (true-false (sym h ∙ (λ i. comes_before a (same-sound b a e i)) ∙ never-self a))
    by false e = e

total : (a b : Text) → comes_before a b ≡ false → same a b ≡ false → comes_before b a ≡ true
total [] [] h e = absurd (true-false (sym (same-refl []) ∙ e))
total [] (y ∷ b) h e = absurd (true-false h)
total (x ∷ a) [] h e = refl
total (x ∷ a) (y ∷ b) h e = by (nat_lt x y) (nat_eq x y) refl refl h (total a b)
  where
    rest : x ≡ y → same a b ≡ false
    rest is = tested (same a b) refl
      where
        tested : (c : Bool) → same a b ≡ c → same a b ≡ false
        tested true f = absurd (true-false (sym (same-refl (x ∷ a)) ∙ (λ i. same (x ∷ a) (is i ∷ same-sound a b f i)) ∙ e))
        tested false f = f

    self : nat_eq y y ≡ true
    self = search rules

    by : (s t : Bool) → nat_lt x y ≡ s → nat_eq x y ≡ t → (if s then true else (if t then comes_before a b else false)) ≡ false → (comes_before a b ≡ false → same a b ≡ false → comes_before b a ≡ true)
        → comes_before (y ∷ b) (x ∷ a) ≡ true
    by true t p q k behind = absurd (true-false k)
    by false true p q k behind =
        let is : x ≡ y = eq-of x y q in
        (λ i. if nat_lt y (is i) then true else (if nat_eq y (is i) then comes_before b a else false))
        ∙ (λ i. if less-self y i then true else (if self i then comes_before b a else false)) ∙ behind k (rest is)
    by false false p q k behind = λ i. if less x y p q i then true else (if nat_eq y x then comes_before b a else false)

before-all : (a : Text) (p : Text × ℕ) (ps : List (Text × ℕ)) → comes_before a p.0 ≡ true → StandsBefore p.0 ps → StandsBefore a ps
before-all a p [] h g = tt
before-all a p (q ∷ qs) h g = (further a p.0 q.0 h g.0, before-all a p qs h g.1)

-- ---- one name is put

-- how it goes at the first pair
put-past : (a : Text) (n : ℕ) (p : Text × ℕ) (ps : List (Text × ℕ)) → comes_before p.0 a ≡ true → with_number a n (p ∷ ps) ≡ p ∷ with_number a n ps
put-past a n p ps h = λ i. if h i then p ∷ with_number a n ps else (if same p.0 a then (a, n) ∷ ps else (a, n) ∷ p ∷ ps)

put-same : (a : Text) (n : ℕ) (p : Text × ℕ) (ps : List (Text × ℕ)) → comes_before p.0 a ≡ false → same p.0 a ≡ true → with_number a n (p ∷ ps) ≡ (a, n) ∷ ps
put-same a n p ps h e = λ i. if h i then p ∷ with_number a n ps else (if e i then (a, n) ∷ ps else (a, n) ∷ p ∷ ps)

put-first : (a : Text) (n : ℕ) (p : Text × ℕ) (ps : List (Text × ℕ)) → comes_before p.0 a ≡ false → same p.0 a ≡ false → with_number a n (p ∷ ps) ≡ (a, n) ∷ p ∷ ps
put-first a n p ps h e = λ i. if h i then p ∷ with_number a n ps else (if e i then (a, n) ∷ ps else (a, n) ∷ p ∷ ps)

-- LAW: of two numbers under one name the last counts
put-twice : (a : Text) (n m : ℕ) (ps : List (Text × ℕ)) → with_number a n (with_number a m ps) ≡ with_number a n ps
put-twice a n m [] = put-same a n (a, m) [] (never-self a) (same-refl a)
put-twice a n m (p ∷ ps) = by (comes_before p.0 a) (same p.0 a) refl refl (put-twice a n m ps)
  where
    by : (s t : Bool) → comes_before p.0 a ≡ s → same p.0 a ≡ t → with_number a n (with_number a m ps) ≡ with_number a n ps → with_number a n (with_number a m (p ∷ ps)) ≡ with_number a n (p ∷ ps)
    by true t h e rest = ap (with_number a n) (put-past a m p ps h) ∙ put-past a n p (with_number a m ps) h ∙ ap (λ l. p ∷ l) rest ∙ sym (put-past a n p ps h)
    by false true h e rest = ap (with_number a n) (put-same a m p ps h e) ∙ put-same a n (a, m) ps (never-self a) (same-refl a) ∙ sym (put-same a n p ps h e)
    by false false h e rest = ap (with_number a n) (put-first a m p ps h e) ∙ put-same a n (a, m) (p ∷ ps) (never-self a) (same-refl a) ∙ sym (put-first a n p ps h e)

-- LAW: two names are put in either order
put-swapped : (a b : Text) (n m : ℕ) (ps : List (Text × ℕ)) → comes_before a b ≡ true → with_number a n (with_number b m ps) ≡ with_number b m (with_number a n ps)
put-swapped a b n m [] lt = put-first a n (b, m) [] (one-way a b lt) (others a b lt) ∙ sym (put-past b m (a, n) [] lt)
put-swapped a b n m (p ∷ ps) lt = by (comes_before p.0 a) (same p.0 a) refl refl (put-swapped a b n m ps lt)
  where
    -- where neither of a list's first pair and the new one stands before a name, or has it, the name comes first
    in-front : comes_before p.0 a ≡ false → same p.0 a ≡ false → with_number a n (with_number b m (p ∷ ps)) ≡ (a, n) ∷ with_number b m (p ∷ ps)
    in-front h e = tested (comes_before p.0 b) (same p.0 b) refl refl
      where
        tested : (s t : Bool) → comes_before p.0 b ≡ s → same p.0 b ≡ t → with_number a n (with_number b m (p ∷ ps)) ≡ (a, n) ∷ with_number b m (p ∷ ps)
        tested true t k f = ap (with_number a n) (put-past b m p ps k) ∙ put-first a n p (with_number b m ps) h e ∙ ap (λ l. (a, n) ∷ l) (sym (put-past b m p ps k))
        tested false true k f = ap (with_number a n) (put-same b m p ps k f) ∙ put-first a n (b, m) ps (one-way a b lt) (others a b lt) ∙ ap (λ l. (a, n) ∷ l) (sym (put-same b m p ps k f))
        tested false false k f = ap (with_number a n) (put-first b m p ps k f) ∙ put-first a n (b, m) (p ∷ ps) (one-way a b lt) (others a b lt) ∙ ap (λ l. (a, n) ∷ l) (sym (put-first b m p ps k f))

    by : (s t : Bool) → comes_before p.0 a ≡ s → same p.0 a ≡ t → with_number a n (with_number b m ps) ≡ with_number b m (with_number a n ps) → with_number a n (with_number b m (p ∷ ps)) ≡ with_number b m (with_number a n (p ∷ ps))
    by true t h e rest =
        let over = further p.0 a b h lt in
        ap (with_number a n) (put-past b m p ps over) ∙ put-past a n p (with_number b m ps) h ∙ ap (λ l. p ∷ l) rest
        ∙ sym (ap (with_number b m) (put-past a n p ps h) ∙ put-past b m p (with_number a n ps) over)
    by false true h e rest =
        let over : comes_before p.0 b ≡ true = (λ i. comes_before (same-sound p.0 a e i) b) ∙ lt in
        ap (with_number a n) (put-past b m p ps over) ∙ put-same a n p (with_number b m ps) h e
        ∙ sym (ap (with_number b m) (put-same a n p ps h e) ∙ put-past b m (a, n) ps lt)
    by false false h e rest = in-front h e ∙ sym (ap (with_number b m) (put-first a n p ps h e) ∙ put-past b m (a, n) (p ∷ ps) lt)

-- ---- all of a list are put

put-behind : (a : Text) (n : ℕ) (qs ps : List (Text × ℕ)) → StandsBefore a qs → with_number a n (put_all qs ps) ≡ put_all qs (with_number a n ps)
put-behind a n [] ps h = refl
put-behind a n (q ∷ qs) ps h = put-behind a n qs (with_number q.0 q.1 ps) h.1 ∙ ap (put_all qs) (put-swapped a q.0 n q.1 ps h.0)

-- LAW: what is put into a list is put behind it
put-within : (a : Text) (n : ℕ) (qs ps : List (Text × ℕ)) → Ascends qs → put_all (with_number a n qs) ps ≡ with_number a n (put_all qs ps)
put-within a n [] ps h = refl
put-within a n (q ∷ qs) ps h = by (comes_before q.0 a) (same q.0 a) refl refl (put-within a n qs (with_number q.0 q.1 ps) h.1)
  where
    by : (s t : Bool) → comes_before q.0 a ≡ s → same q.0 a ≡ t → put_all (with_number a n qs) (with_number q.0 q.1 ps) ≡ with_number a n (put_all qs (with_number q.0 q.1 ps))
        → put_all (with_number a n (q ∷ qs)) ps ≡ with_number a n (put_all qs (with_number q.0 q.1 ps))
    by true t k e rest = ap (λ l. put_all l ps) (put-past a n q qs k) ∙ rest
    by false true k e rest =
        let is : q.0 ≡ a = same-sound q.0 a e in
        ap (λ l. put_all l ps) (put-same a n q qs k e)
        ∙ ap (put_all qs) (sym (put-twice a n q.1 ps))
        ∙ sym (put-behind a n qs (with_number a q.1 ps) (subst (λ (t : Text). StandsBefore t qs) is h.0))
        ∙ (λ i. with_number a n (put_all qs (with_number (sym is i) q.1 ps)))
    by false false k e rest =
        let lt = total q.0 a k e in
        ap (λ l. put_all l ps) (put-first a n q qs k e) ∙ sym (put-behind a n (q ∷ qs) ps (lt, before-all a q qs lt h.0))

-- ---- names stay in their order

before-put : (b a : Text) (n : ℕ) (qs : List (Text × ℕ)) → comes_before b a ≡ true → StandsBefore b qs → StandsBefore b (with_number a n qs)
before-put b a n [] lt h = (lt, tt)
before-put b a n (q ∷ qs) lt h = by (comes_before q.0 a) (same q.0 a) (before-put b a n qs lt h.1)
  where
    by : (s t : Bool) → StandsBefore b (with_number a n qs) → StandsBefore b (if s then q ∷ with_number a n qs else (if t then (a, n) ∷ qs else (a, n) ∷ q ∷ qs))
    by true t rest = (h.0, rest)
    by false true rest = (lt, h.1)
    by false false rest = (lt, h)

put-ascends : (a : Text) (n : ℕ) (qs : List (Text × ℕ)) → Ascends qs → Ascends (with_number a n qs)
put-ascends a n [] h = (tt, tt)
put-ascends a n (q ∷ qs) h = by (comes_before q.0 a) (same q.0 a) refl refl (put-ascends a n qs h.1)
  where
    by : (s t : Bool) → comes_before q.0 a ≡ s → same q.0 a ≡ t → Ascends (with_number a n qs) → Ascends (if s then q ∷ with_number a n qs else (if t then (a, n) ∷ qs else (a, n) ∷ q ∷ qs))
    by true t k e rest = (before-put q.0 a n qs k h.0, rest)
    by false true k e rest = (subst (λ (t : Text). StandsBefore t qs) (same-sound q.0 a e) h.0, h.1)
    by false false k e rest = (let lt = total q.0 a k e in ((lt, before-all a q qs lt h.0), h))

-- LAW: joined lists are in that order
pub joined-ascends : (rs qs : List (Text × ℕ)) → Ascends qs → Ascends (put_all rs qs)
joined-ascends [] qs h = h
joined-ascends (r ∷ rs) qs h = joined-ascends rs (with_number r.0 r.1 qs) (put-ascends r.0 r.1 qs h)

-- LAW: to put what was joined is to put the one and then the other
pub joined-put : (rs qs ps : List (Text × ℕ)) → Ascends qs → put_all (put_all rs qs) ps ≡ put_all rs (put_all qs ps)
joined-put [] qs ps h = refl
joined-put (r ∷ rs) qs ps h = joined-put rs (with_number r.0 r.1 qs) ps (put-ascends r.0 r.1 qs h) ∙ ap (put_all rs) (put-within r.0 r.1 qs ps h)

-- ---- one pass

with-split : (a : Text) (n : ℕ) (ps : List (Text × ℕ)) → with_number a n ps ≡ front_of a ps ++ ((a, n) ∷ past a (back_of a ps))
with-split a n [] = refl
with-split a n (p ∷ ps) = by (comes_before p.0 a) (with-split a n ps)
  where
    behind : (t : Bool) → (if t then (a, n) ∷ ps else (a, n) ∷ p ∷ ps) ≡ (a, n) ∷ (if t then ps else p ∷ ps)
    behind true = refl
    behind false = refl

    by : (s : Bool) → with_number a n ps ≡ front_of a ps ++ ((a, n) ∷ past a (back_of a ps))
        → (if s then p ∷ with_number a n ps else (if same p.0 a then (a, n) ∷ ps else (a, n) ∷ p ∷ ps)) ≡ (if s then p ∷ front_of a ps else []) ++ ((a, n) ∷ past a (if s then back_of a ps else p ∷ ps))
    by true rest = ap (λ l. p ∷ l) rest
    by false rest = behind (same p.0 a)

put-over : (q : Text × ℕ) (b : Text) (m : ℕ) (ps ys : List (Text × ℕ)) → comes_before q.0 b ≡ true → with_number b m (front_of q.0 ps ++ (q ∷ ys)) ≡ front_of q.0 ps ++ (q ∷ with_number b m ys)
put-over q b m [] ys lt = put-past b m q ys lt
put-over q b m (p ∷ ps) ys lt = by (comes_before p.0 q.0) refl (put-over q b m ps ys lt)
  where
    by : (s : Bool) → comes_before p.0 q.0 ≡ s → with_number b m (front_of q.0 ps ++ (q ∷ ys)) ≡ front_of q.0 ps ++ (q ∷ with_number b m ys)
        → with_number b m ((if s then p ∷ front_of q.0 ps else []) ++ (q ∷ ys)) ≡ (if s then p ∷ front_of q.0 ps else []) ++ (q ∷ with_number b m ys)
    by true h rest = put-past b m p (front_of q.0 ps ++ (q ∷ ys)) (further p.0 q.0 b h lt) ∙ ap (λ l. p ∷ l) rest
    by false h rest = put-past b m q ys lt

all-over : (q : Text × ℕ) (qs ps ys : List (Text × ℕ)) → StandsBefore q.0 qs → put_all qs (front_of q.0 ps ++ (q ∷ ys)) ≡ front_of q.0 ps ++ (q ∷ put_all qs ys)
all-over q [] ps ys h = refl
all-over q (r ∷ rs) ps ys h = ap (put_all rs) (put-over q r.0 r.1 ps ys h.0) ∙ all-over q rs ps (with_number r.0 r.1 ys) h.1

-- LAW: the first that is put stands behind those of the list whose names stand before its own
one-joined : (q : Text × ℕ) (qs ps : List (Text × ℕ)) → StandsBefore q.0 qs → put_all (q ∷ qs) ps ≡ front_of q.0 ps ++ (q ∷ put_all qs (past q.0 (back_of q.0 ps)))
one-joined q qs ps h = ap (put_all qs) (with-split q.0 q.1 ps) ∙ all-over q qs ps (past q.0 (back_of q.0 ps)) h

ascends-from : (k : ℕ) (qs : List (Text × ℕ)) → Ascends qs → Ascends (drop k qs)
ascends-from zero qs h = h
ascends-from (suc k) [] h = h
ascends-from (suc k) (q ∷ qs) h = ascends-from k qs h.1

pub next-item : {X : Type 0} (xs : List X) (i : ℕ) (x : X) → i < length xs → x ≡ get_or xs i x → drop i xs ≡ x ∷ drop (suc i) xs
next-item xs i x lt is = drop-cons xs i x lt ∙ (λ k. sym is k ∷ drop (suc i) xs)

pub drop-past : {X : Type 0} (k : ℕ) (xs : List X) → length xs ≤ k → drop k xs ≡ []
drop-past zero [] le = refl
drop-past zero (x ∷ xs) le = absurd (omega (arith, le))
drop-past (suc k) [] le = refl
drop-past (suc k) (x ∷ xs) le = drop-past k xs (omega (arith, le))

append_of : {X : Type 0} (xs ys zs : List X) → (xs ++ ys) ++ zs ≡ xs ++ (ys ++ zs)
append_of [] ys zs = refl
append_of (x ∷ xs) ys zs = ap (λ l. x ∷ l) (append_of xs ys zs)

pub snoc-of : {X : Type 0} (xs : List X) (x : X) (ys : List X) → (xs ++ (x ∷ [])) ++ ys ≡ xs ++ (x ∷ ys)
snoc-of xs x ys = append_of xs (x ∷ []) ys

-- LAW: one more of those that are put is joined
pub join-more : (left right whole made front new : List (Text × ℕ)) (at to next after : ℕ) (q : Text × ℕ) → Ascends right → to < length right → q ≡ get_or right to q
    → made ++ put_all (drop to right) (drop at left) ≡ whole → front ≡ made ++ front_of q.0 (drop at left) → new ≡ front ++ (q ∷ [])
    → drop next left ≡ back_of q.0 (drop at left) → drop after left ≡ past q.0 (drop next left) → new ++ put_all (drop (to + 1) right) (drop after left) ≡ whole
join-more left right whole made front new at to next after q h lt is before fronted pushed back behind =
    let one : to + 1 ≡ suc to = omega arith in
    let item : drop to right ≡ q ∷ drop (suc to) right = next-item right to q lt is in
    let order : Ascends (q ∷ drop (suc to) right) = subst (λ (l : List (Text × ℕ)). Ascends l) item (ascends-from to right h) in
    (λ i. pushed i ++ put_all (drop (one i) right) (drop after left))
    ∙ snoc-of front q (put_all (drop (suc to) right) (drop after left))
    ∙ (λ i. fronted i ++ (q ∷ put_all (drop (suc to) right) (drop after left)))
    ∙ append_of made (front_of q.0 (drop at left)) (q ∷ put_all (drop (suc to) right) (drop after left))
    ∙ (λ i. made ++ (front_of q.0 (drop at left) ++ (q ∷ put_all (drop (suc to) right) ((behind ∙ (λ k. past q.0 (back k))) i))))
    ∙ (λ i. made ++ sym (one-joined q (drop (suc to) right) (drop at left) order.0) i)
    ∙ (λ i. made ++ put_all (sym item i) (drop at left))
    ∙ before

-- LAW: none is left to be put
pub join-done : (left right whole made new : List (Text × ℕ)) (at to : ℕ) → length right ≤ to → made ++ put_all (drop to right) (drop at left) ≡ whole → new ≡ made ++ drop at left → new ≡ whole
join-done left right whole made new at to past before is = is ∙ (λ i. made ++ put_all (sym (drop-past to right past) i) (drop at left)) ∙ before

pub rest-more : (left whole made new : List (Text × ℕ)) (to : ℕ) (p : Text × ℕ) → to < length left → p ≡ get_or left to p → made ++ drop to left ≡ whole → new ≡ made ++ (p ∷ []) → new ++ drop (to + 1) left ≡ whole
rest-more left whole made new to p lt is before pushed =
    (let one : to + 1 ≡ suc to = omega arith in λ i. pushed i ++ drop (one i) left) ∙ snoc-of made p (drop (suc to) left) ∙ (λ i. made ++ sym (next-item left to p lt is) i) ∙ before

-- ---- those at the front

pub front-more : (name : Text) (left whole made new : List (Text × ℕ)) (to : ℕ) (p : Text × ℕ) → to < length left → p ≡ get_or left to p → comes_before p.0 name ≡ true
    → made ++ front_of name (drop to left) ≡ whole → new ≡ made ++ (p ∷ []) → new ++ front_of name (drop (to + 1) left) ≡ whole
front-more name left whole made new to p lt is h before pushed =
    (let one : to + 1 ≡ suc to = omega arith in λ i. pushed i ++ front_of name (drop (one i) left))
    ∙ snoc-of made p (front_of name (drop (suc to) left))
    ∙ (λ i. made ++ (if sym h i then p ∷ front_of name (drop (suc to) left) else []))
    ∙ (λ i. made ++ front_of name (sym (next-item left to p lt is) i)) ∙ before

pub back-more : (name : Text) (left : List (Text × ℕ)) (to : ℕ) (p : Text × ℕ) → to < length left → p ≡ get_or left to p → comes_before p.0 name ≡ true → back_of name (drop (to + 1) left) ≡ back_of name (drop to left)
back-more name left to p lt is h =
    (let one : to + 1 ≡ suc to = omega arith in λ i. back_of name (drop (one i) left))
    ∙ (λ i. if sym h i then back_of name (drop (suc to) left) else p ∷ drop (suc to) left)
    ∙ (λ i. back_of name (sym (next-item left to p lt is) i))

pub front-here : (name : Text) (left : List (Text × ℕ)) (to : ℕ) (p : Text × ℕ) → to < length left → p ≡ get_or left to p → comes_before p.0 name ≡ false → front_of name (drop to left) ≡ []
front-here name left to p lt is h = (λ i. front_of name (next-item left to p lt is i)) ∙ (λ i. if h i then p ∷ front_of name (drop (suc to) left) else [])

pub back-here : (name : Text) (left : List (Text × ℕ)) (to : ℕ) (p : Text × ℕ) → to < length left → p ≡ get_or left to p → comes_before p.0 name ≡ false → drop to left ≡ back_of name (drop to left)
back-here name left to p lt is h =
    next-item left to p lt is ∙ (λ i. if sym h i then back_of name (drop (suc to) left) else p ∷ drop (suc to) left) ∙ (λ i. back_of name (sym (next-item left to p lt is) i))

-- ---- the one behind a place, where it has the name

pub behind-there : (name : Text) (left : List (Text × ℕ)) (at : ℕ) → option_map_or (λ (p : Text × ℕ). same p.0 name) (slice_get left at) false ≡ true → drop (at + 1) left ≡ past name (drop at left)
behind-there name left at h = (let one : at + 1 ≡ suc at = omega arith in λ i. drop (one i) left) ∙ by left at h
  where
    by : (xs : List (Text × ℕ)) (k : ℕ) → option_map_or (λ (p : Text × ℕ). same p.0 name) (slice_get xs k) false ≡ true → drop (suc k) xs ≡ past name (drop k xs)
    by [] k e = absurd (true-false (sym e))
    by (x ∷ xs) zero e = λ i. if sym e i then xs else x ∷ xs
    by (x ∷ xs) (suc k) e = by xs k e

pub behind-other : (name : Text) (left : List (Text × ℕ)) (at : ℕ) → option_map_or (λ (p : Text × ℕ). same p.0 name) (slice_get left at) false ≡ false → drop at left ≡ past name (drop at left)
behind-other name left at h = by left at h
  where
    by : (xs : List (Text × ℕ)) (k : ℕ) → option_map_or (λ (p : Text × ℕ). same p.0 name) (slice_get xs k) false ≡ false → drop k xs ≡ past name (drop k xs)
    by [] zero e = refl
    by [] (suc k) e = refl
    by (x ∷ xs) zero e = λ i. if sym e i then xs else x ∷ xs
    by (x ∷ xs) (suc k) e = by xs k e

pub there-within : (name : Text) (left : List (Text × ℕ)) (at : ℕ) → option_map_or (λ (p : Text × ℕ). same p.0 name) (slice_get left at) false ≡ true → at < length left
there-within name [] at h = absurd (true-false (sym h))
there-within name (x ∷ xs) zero h = omega arith
there-within name (x ∷ xs) (suc at) h = (let lt = there-within name xs at h in omega (arith, lt))

-- ---- the numbers of units

numbers-alike : (f g : ℕ → ℕ) → ((a : ℕ) → f a ≡ g a) → (n : ℕ) (names : List Text) (ps : List (Text × ℕ)) → numbers_with f n names ps ≡ numbers_with g n names ps
numbers-alike f g same n [] ps = refl
numbers-alike f g same n (name ∷ names) ps = numbers-alike f g same (suc n) names (with_some name (f n) ps) ∙ (λ i. numbers_with g (suc n) names (with_some name (same n i) ps))

numbers-moved : (f : ℕ → ℕ) (k n : ℕ) (names : List Text) (ps : List (Text × ℕ)) → numbers_with f (k + n) names ps ≡ numbers_with (λ a. f (k + a)) n names ps
numbers-moved f k n [] ps = refl
numbers-moved f k n (name ∷ names) ps =
    (let next : suc (k + n) ≡ k + suc n = omega arith in λ i. numbers_with f (next i) names (with_some name (f (k + n)) ps)) ∙ numbers-moved f k (suc n) names (with_some name (f (k + n)) ps)

numbers-cut : (f : ℕ → ℕ) (n k : ℕ) (names : List Text) (ps : List (Text × ℕ)) → k ≤ length names → numbers_with f (n + k) (drop k names) (numbers_with f n (take k names) ps) ≡ numbers_with f n names ps
numbers-cut f n zero names ps le = (let none : n + 0 ≡ n = omega arith in λ i. numbers_with f (none i) names ps)
numbers-cut f n (suc k) [] ps le = absurd (omega (arith, le))
numbers-cut f n (suc k) (name ∷ names) ps le =
    (let next : n + suc k ≡ suc n + k = omega arith in λ i. numbers_with f (next i) (drop k names) (numbers_with f (suc n) (take k names) (with_some name (f n) ps)))
    ∙ numbers-cut f (suc n) k names (with_some name (f n) ps) (omega (arith, le))

number-behind : (last : List ℕ) (k a : ℕ) → number_in (drop k last) a ≡ number_in last (k + a)
number-behind last zero a = (let none : a ≡ 0 + a = omega arith in λ i. number_in last (none i))
number-behind [] (suc k) a = none-there a ∙ sym (none-there (suc k + a))
  where
    none-there : (b : ℕ) → number_in [] b ≡ 0
    none-there zero = refl
    none-there (suc b) = refl
number-behind (x ∷ last) (suc k) a = number-behind last k a ∙ (let next : suc (k + a) ≡ suc k + a = omega arith in λ i. number_in (x ∷ last) (next i))

-- LAW: the numbers of two halves, joined, are those of the whole
pub halves-put : (last : List ℕ) (names : List Text) (k : ℕ) (left right made ps : List (Text × ℕ)) → k ≤ length names → Ascends left
    → ((xs : List (Text × ℕ)) → put_all left xs ≡ numbers_with (number_in last) 0 (take k names) xs)
    → ((xs : List (Text × ℕ)) → put_all right xs ≡ numbers_with (number_in (drop k last)) 0 (drop k names) xs)
    → made ≡ put_all right left → put_all made ps ≡ numbers_with (number_in last) 0 names ps
halves-put last names k left right made ps le h one two is =
    let first : List (Text × ℕ) = numbers_with (number_in last) 0 (take k names) ps in
    (λ i. put_all (is i) ps) ∙ joined-put right left ps h ∙ two (put_all left ps) ∙ ap (numbers_with (number_in (drop k last)) 0 (drop k names)) (one ps)
    ∙ numbers-alike (number_in (drop k last)) (λ a. number_in last (k + a)) (number-behind last k) 0 (drop k names) first
    ∙ sym (numbers-moved (number_in last) k 0 (drop k names) first)
    ∙ (let none : k + 0 ≡ 0 + k = omega arith in λ i. numbers_with (number_in last) (none i) (drop k names) first)
    ∙ numbers-cut (number_in last) 0 k names ps le

-- LAW: the number of one unit
pub one-put : (last : List ℕ) (names : List Text) (name : Text) (k : ℕ) (made ps : List (Text × ℕ)) → length names ≤ 1 → slice_get names 0 ≡ Some name → k ≡ number_in last 0
    → put_all made ps ≡ with_some name k ps → put_all made ps ≡ numbers_with (number_in last) 0 names ps
one-put last [] name k made ps le there is put = absurd (none-some name there)
one-put last (x ∷ []) name k made ps le there is put = put ∙ (λ i. with_some (sym (some-same x name there) i) (is i) ps)
one-put last (x ∷ y ∷ names) name k made ps le there is put = absurd (omega (arith, le))

pub told-put : {E : Type 0} (last : List ℕ) (names : List Text) (name : Text) (k : ℕ) (r : Result (List (Text × ℕ)) E) → length names ≤ 1 → slice_get names 0 ≡ Some name → k ≡ number_in last 0
    → IfOk r (λ made. (ps : List (Text × ℕ)) → put_all made ps ≡ with_some name k ps) → IfOk r (λ made. (ps : List (Text × ℕ)) → put_all made ps ≡ numbers_with (number_in last) 0 names ps)
told-put last names name k (Ok made) le there is put = λ ps. one-put last names name k made ps le there is (put ps)
told-put last names name k (Err e) le there is put = tt

pub none-put : (last : List ℕ) (names : List Text) (ps : List (Text × ℕ)) → slice_get names 0 ≡ None → ps ≡ numbers_with (number_in last) 0 names ps
none-put last [] ps there = refl
none-put last (x ∷ names) ps there = absurd (none-some x (sym there))

pub one-some : (name : Text) (k : ℕ) (made ps : List (Text × ℕ)) → nat_eq k 0 ≡ false → made ≡ (name, k) ∷ [] → put_all made ps ≡ with_some name k ps
one-some name k made ps h is = (λ i. put_all (is i) ps) ∙ (λ i. if sym h i then ps else with_number name k ps)

pub one-none : (name : Text) (k : ℕ) (made ps : List (Text × ℕ)) → nat_eq k 0 ≡ true → made ≡ [] → put_all made ps ≡ with_some name k ps
one-none name k made ps h is = (λ i. put_all (is i) ps) ∙ (λ i. if sym h i then ps else with_number name k ps)

pub one-ascends : (made : List (Text × ℕ)) (p : Text × ℕ) → made ≡ p ∷ [] → Ascends made
one-ascends made p is = subst (λ (l : List (Text × ℕ)). Ascends l) (sym is) (tt, tt)

pub none-ascends : (made : List (Text × ℕ)) → made ≡ [] → Ascends made
none-ascends made is = subst (λ (l : List (Text × ℕ)). Ascends l) (sym is) tt

pub short-behind : (last : List ℕ) (k : ℕ) → nat_le (length last) k ≡ true → [] ≡ drop k last
short-behind last k h = sym (drop-past k last (search (rules, h)))
