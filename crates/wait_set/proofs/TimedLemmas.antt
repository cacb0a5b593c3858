-- The timers of the waits, when one of them changes or goes.
use Rattle.std.proofs.Common.{◌≡◌, ℕ, zero, suc, ◌+◌, ◌<◌, List, [], ◌∷◌, ◌++◌, length, take, drop, set, get_or, map, filter, Bool, true, false, refl, sym, ap, subst, ◌∙◌, rules, arith, Option}
use Rattle.std.specs.Prelude.{Some, None, nat_eq, is_some, is_none, ◌&&◌, ◌||◌, if◌then◌else◌}
use Rattle.std.specs.List.{list_any}
use Rattle.std.proofs.lemmas.Bool.{eqb-true}
use Rattle.ha_sight.specs.declared.waiting.WaitEnd.{WaitEnd}
use Rattle.ha_journal.specs.declared.firing.Firing.{Firing}
use Rattle.ha_sight.specs.Sight.{Sight}
use Rattle.ha_config.specs.Words.{or_else}
use Rattle.timer_queue.specs.Timers.{Timer, removed}
use Rattle.timer_queue.proofs.TimerLemmas.{due_of-removed}
use Rattle.wait_set.specs.declared.asked.Asked.{Asked}
use Rattle.wait_set.specs.Asked.{noted_one, ends_in, owners_ended}
use Rattle.wait_set.specs.Timers.{due_in, due_for, AreApart, AreTimed}

-- ---- one wait among the others

pub other-owner : (i : ℕ) (asks : List Asked) (x : Asked) (o : ℕ) → i < length asks → x ≡ get_or asks i x → list_any (λ b. nat_eq b.owner o) asks ≡ false → nat_eq x.owner o ≡ false
other-owner i [] x o lt is none = absurd (omega arith)
other-owner zero (y ∷ ys) x o lt is none = (λ k. nat_eq (is k).owner o) ∙ or-left (nat_eq y.owner o) (list_any (λ b. nat_eq b.owner o) ys) none
  where
    or-left : (a b : Bool) → (a || b) ≡ false → a ≡ false
    or-left true b e = cc
    or-left false b e = refl
other-owner (suc i) (y ∷ ys) x o lt is none = other-owner i ys x o (omega arith) is (or-right (nat_eq y.owner o) (list_any (λ b. nat_eq b.owner o) ys) none)
  where
    or-right : (a b : Bool) → (a || b) ≡ false → b ≡ false
    or-right true b e = cc
    or-right false b e = e

equal-self : (a : ℕ) → nat_eq a a ≡ true
equal-self a = search rules

pub flip : (a b : ℕ) (c : Bool) → nat_eq a b ≡ c → nat_eq b a ≡ c
flip a b true e = search (rules, e)
flip a b false e = search (rules, e)

pub due-set : (i : ℕ) (asks : List Asked) (x y : Asked) (o : ℕ) → AreApart asks → i < length asks → x ≡ get_or asks i x → y.owner ≡ x.owner
    → due_for o (set asks i y) ≡ (if nat_eq x.owner o then due_in y else due_for o asks)
due-set i [] x y o apart lt is same = absurd (omega arith)
due-set zero (z ∷ zs) x y o apart lt is same =
    (λ k. if nat_eq (same k) o then due_in y else due_for o zs) ∙ by (nat_eq x.owner o) ∙ (λ k. if nat_eq x.owner o then due_in y else if nat_eq (is k).owner o then due_in z else due_for o zs)
  where
    by : (b : Bool) → (if b then due_in y else due_for o zs) ≡ (if b then due_in y else if b then due_in z else due_for o zs)
    by true = refl
    by false = refl
due-set (suc i) (z ∷ zs) x y o apart lt is same =
    by (due-set i zs x y o apart.1 (omega arith) is same) (nat_eq z.owner o) refl (nat_eq x.owner o) refl
  where
    differ : nat_eq x.owner z.owner ≡ false
    differ = other-owner i zs x z.owner (omega arith) is apart.0

    by : due_for o (set zs i y) ≡ (if nat_eq x.owner o then due_in y else due_for o zs) → (b : Bool) → nat_eq z.owner o ≡ b → (c : Bool) → nat_eq x.owner o ≡ c
        → (if b then due_in z else due_for o (set zs i y)) ≡ (if c then due_in y else if b then due_in z else due_for o zs)
    by ih true e true f = (let h : false ≡ true = sym differ ∙ (λ k. nat_eq x.owner (eqb-true z.owner o e k)) ∙ f in cc)
    by ih true e false f = refl
    by ih false e c f = ih ∙ (λ k. if f k then due_in y else due_for o zs)

any-set : (i : ℕ) (asks : List Asked) (x y : Asked) (o : ℕ) → i < length asks → x ≡ get_or asks i x → y.owner ≡ x.owner → list_any (λ b. nat_eq b.owner o) (set asks i y) ≡ list_any (λ b. nat_eq b.owner o) asks
any-set i [] x y o lt is same = refl
any-set zero (z ∷ zs) x y o lt is same = (λ k. nat_eq ((same ∙ ap (λ a. a.owner) is) k) o || list_any (λ b. nat_eq b.owner o) zs)
any-set (suc i) (z ∷ zs) x y o lt is same = (λ k. nat_eq z.owner o || any-set i zs x y o (omega arith) is same k)

pub apart-set : (i : ℕ) (asks : List Asked) (x y : Asked) → AreApart asks → i < length asks → x ≡ get_or asks i x → y.owner ≡ x.owner → AreApart (set asks i y)
apart-set i [] x y apart lt is same = tt
apart-set zero (z ∷ zs) x y apart lt is same = ((λ k. list_any (λ b. nat_eq b.owner ((same ∙ ap (λ a. a.owner) is) k)) zs) ∙ apart.0, apart.1)
apart-set (suc i) (z ∷ zs) x y apart lt is same = (any-set i zs x y z.owner (omega arith) is same ∙ apart.0, apart-set i zs x y apart.1 (omega arith) is same)

pub due-at : (i : ℕ) (asks : List Asked) (x : Asked) → AreApart asks → i < length asks → x ≡ get_or asks i x → due_for x.owner asks ≡ due_in x
due-at i [] x apart lt is = absurd (omega arith)
due-at zero (z ∷ zs) x apart lt is = (λ k. if nat_eq (sym is k).owner x.owner then due_in z else due_for x.owner zs) ∙ (λ k. if equal-self x.owner k then due_in z else due_for x.owner zs) ∙ ap due_in (sym is)
due-at (suc i) (z ∷ zs) x apart lt is =
    (λ k. if flip x.owner z.owner false (other-owner i zs x z.owner (omega arith) is apart.0) k then due_in z else due_for x.owner zs) ∙ due-at i zs x apart.1 (omega arith) is

-- LEMMA: a wait that does not end here keeps its timer, and one that ends loses it
pub timed-noted : (i : ℕ) (asks : List Asked) (x y : Asked) (ts : List Timer) → AreTimed asks ts → i < length asks → x ≡ get_or asks i x → y.owner ≡ x.owner → due_in y ≡ due_in x → AreTimed (set asks i y) ts
timed-noted i asks x y ts timed lt is same due = record {
  apart = apart-set i asks x y timed.apart lt is same;
  dues = λ o. timed.dues o ∙ by o (nat_eq x.owner o) refl ∙ sym (due-set i asks x y o timed.apart lt is same);
}
  where
    by : (o : ℕ) (b : Bool) → nat_eq x.owner o ≡ b → due_for o asks ≡ (if nat_eq x.owner o then due_in y else due_for o asks)
    by o true e = (λ k. due_for (sym (eqb-true x.owner o e) k) asks) ∙ due-at i asks x timed.apart lt is ∙ sym due ∙ (λ k. if sym e k then due_in y else due_for o asks)
    by o false e = (λ k. if sym e k then due_in y else due_for o asks)

pub timed-ended : (i : ℕ) (asks : List Asked) (x y : Asked) (ts : List Timer) → AreTimed asks ts → i < length asks → x ≡ get_or asks i x → y.owner ≡ x.owner → due_in y ≡ None → AreTimed (set asks i y) (removed x.owner ts)
timed-ended i asks x y ts timed lt is same none = record {
  apart = apart-set i asks x y timed.apart lt is same;
  dues = λ o. due_of-removed o x.owner ts ∙ (λ k. if nat_eq x.owner o then sym none k else timed.dues o k) ∙ sym (due-set i asks x y o timed.apart lt is same);
}

-- ---- the walk along the waits

pub step : (f : List Asked → List Asked) (i : ℕ) (xs : List Asked) (x y : Asked) → i < length xs → x ≡ get_or xs i x → ((zs : List Asked) → f (x ∷ zs) ≡ y ∷ f zs) → take (suc i) (set xs i y) ++ f (drop (suc i) (set xs i y)) ≡ take i xs ++ f (drop i xs)
step f i [] x y lt is h = absurd (omega arith)
step f zero (z ∷ zs) x y lt is h = sym (h zs) ∙ (λ k. f (is k ∷ zs))
step f (suc i) (z ∷ zs) x y lt is h = ap (λ t. z ∷ t) (step f i zs x y (omega arith) is h)

pub due-kept : (x y : Asked) → y.ask ≡ x.ask → (x.end ≡ None → y.end ≡ None) → (e : Option WaitEnd) → x.end ≡ e → (is_some x.end ≡ true → is_some y.end ≡ true) → due_in y ≡ due_in x
due-kept x y ask none None g some = (λ k. if is_none (none g k) then y.ask.due else None) ∙ ap (λ a. a.due) ask ∙ (λ k. if is_none (sym g k) then x.ask.due else None)
due-kept x y ask none (Some v) g some = ended y.end (some (λ k. is_some (g k))) ∙ (λ k. if is_none (sym g k) then x.ask.due else None)
  where
    ended : (e : Option WaitEnd) → is_some e ≡ true → (if is_none e then y.ask.due else None) ≡ None
    ended None h = cc
    ended (Some w) h = refl

pub due-lost : (y : Asked) → is_some y.end ≡ true → due_in y ≡ None
due-lost y h = by y.end h
  where
    by : (e : Option WaitEnd) → is_some e ≡ true → (if is_none e then y.ask.due else None) ≡ None
    by None h = cc
    by (Some w) h = refl

-- ---- whether the entry ends the wait, as the code says it

pub ends-some : (x y : Asked) (b : Bool) → b ≡ (is_none x.end && is_some y.end) → b ≡ true → is_some y.end ≡ true
ends-some x y b is so = right (is_none x.end) (is_some y.end) (sym is ∙ so)
  where
    right : (p q : Bool) → (p && q) ≡ true → q ≡ true
    right true q e = e
    right false q e = cc

pub ends-none : (x y : Asked) (b : Bool) → b ≡ (is_none x.end && is_some y.end) → b ≡ false → x.end ≡ None → y.end ≡ None
ends-none x y b is none begun = by y.end ((λ k. is_none (sym begun k) && is_some y.end) ∙ sym is ∙ none)
  where
    by : (e : Option WaitEnd) → is_some e ≡ false → e ≡ None
    by None h = refl
    by (Some w) h = cc

pub stays-some : (x y : Asked) (z : Option WaitEnd) → y.end ≡ or_else x.end z → is_some x.end ≡ true → is_some y.end ≡ true
stays-some x y z is some = (λ k. is_some (is k)) ∙ by x.end some
  where
    by : (e : Option WaitEnd) → is_some e ≡ true → is_some (or_else e z) ≡ true
    by None h = cc
    by (Some w) h = refl

pub step-one : (f : List Asked → List Asked) (i : ℕ) (xs : List Asked) (x y : Asked) → i < length xs → x ≡ get_or xs i x → ((zs : List Asked) → f (x ∷ zs) ≡ y ∷ f zs) → take (i + 1) (set xs i y) ++ f (drop (i + 1) (set xs i y)) ≡ take i xs ++ f (drop i xs)
step-one f i xs x y lt is h = subst (λ n. take n (set xs i y) ++ f (drop n (set xs i y)) ≡ take i xs ++ f (drop i xs)) (one i) (step f i xs x y lt is h)
  where
    one : (i : ℕ) → suc i ≡ i + 1
    one i = search arith

rest-of : (i : ℕ) (xs : List Asked) (x y : Asked) → i < length xs → x ≡ get_or xs i x → drop i xs ≡ x ∷ drop (suc i) (set xs i y)
rest-of i [] x y lt is = absurd (omega arith)
rest-of zero (z ∷ zs) x y lt is = (λ k. sym is k ∷ zs)
rest-of (suc i) (z ∷ zs) x y lt is = rest-of i zs x y (omega arith) is

pub owners-cons : (q : ℕ) (s : Sight) (fired : List Firing) (x : Asked) (zs : List Asked) (e : Bool) → ends_in q s fired x ≡ e → owners_ended q s fired (x ∷ zs) ≡ (if e then x.owner ∷ owners_ended q s fired zs else owners_ended q s fired zs)
owners-cons q s fired x zs e h = (λ k. map {A = Asked} {B = ℕ} (λ a. a.owner) (if h k then x ∷ filter (ends_in q s fired) zs else filter (ends_in q s fired) zs)) ∙ by e
  where
    by : (e : Bool) → map {A = Asked} {B = ℕ} (λ a. a.owner) (if e then x ∷ filter (ends_in q s fired) zs else filter (ends_in q s fired) zs) ≡ (if e then x.owner ∷ owners_ended q s fired zs else owners_ended q s fired zs)
    by true = refl
    by false = refl

one-more : (i : ℕ) → suc i ≡ i + 1
one-more i = search arith

pub owners-step : (q : ℕ) (s : Sight) (fired : List Firing) (i : ℕ) (xs : List Asked) (x y : Asked) (e : Bool) → i < length xs → x ≡ get_or xs i x → y ≡ noted_one q s fired x → e ≡ (is_none x.end && is_some y.end)
    → owners_ended q s fired (drop i xs) ≡ (if e then x.owner ∷ owners_ended q s fired (drop (i + 1) (set xs i y)) else owners_ended q s fired (drop (i + 1) (set xs i y)))
owners-step q s fired i xs x y e lt is same ends =
    ap (owners_ended q s fired) (rest-of i xs x y lt is)
    ∙ owners-cons q s fired x (drop (suc i) (set xs i y)) e (sym (ends ∙ (λ k. is_none x.end && is_some (same k).end)))
    ∙ (λ k. if e then x.owner ∷ owners_ended q s fired (drop (one-more i k) (set xs i y)) else owners_ended q s fired (drop (one-more i k) (set xs i y)))
