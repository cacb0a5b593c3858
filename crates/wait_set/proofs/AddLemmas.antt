-- One wait more, in place of the ended ones of its run and branch.
use Rattle.std.proofs.Common.{◌≡◌, ℕ, ◌+◌, List, [], ◌∷◌, ◌++◌, filter, Bool, true, false, refl, sym, ◌∙◌, Option}
use Rattle.std.specs.Prelude.{Some, None, not, nat_eq, is_none, ◌&&◌, ◌||◌, if◌then◌else◌}
use Rattle.std.specs.List.{list_any}
use Rattle.std.proofs.lemmas.Bool.{eqb-true}
use Rattle.timer_queue.specs.Timers.{Timer, due_of}
use Rattle.timer_queue.proofs.TimerLemmas.{due_of-inserted}
use Rattle.wait_set.specs.declared.asked.Asked.{Asked}
use Rattle.wait_set.specs.Asked.{added, is_of}
use Rattle.wait_set.specs.Timers.{due_in, due_for, timer_added, AreApart, AreTimed}
use Rattle.wait_set.proofs.TimedLemmas.{flip}
use Rattle.wait_set.proofs.CutLemmas.{none-for, or-left, or-right}

any-filter : (p f : Asked → Bool) (asks : List Asked) → list_any p asks ≡ false → list_any p (filter f asks) ≡ false
any-filter p f [] h = refl
any-filter p f (z ∷ zs) h = by (any-filter p f zs (or-right (p z) (list_any p zs) h)) (f z)
  where
    by : list_any p (filter f zs) ≡ false → (b : Bool) → list_any p (if b then z ∷ filter f zs else filter f zs) ≡ false
    by rest true = (λ k. or-left (p z) (list_any p zs) h k || list_any p (filter f zs)) ∙ rest
    by rest false = rest

apart-filter : (f : Asked → Bool) (asks : List Asked) → AreApart asks → AreApart (filter f asks)
apart-filter f [] apart = tt
apart-filter f (z ∷ zs) apart = by (apart-filter f zs apart.1) (f z)
  where
    by : AreApart (filter f zs) → (b : Bool) → AreApart (if b then z ∷ filter f zs else filter f zs)
    by rest true = (any-filter (λ b. nat_eq b.owner z.owner) f zs apart.0, rest)
    by rest false = rest

-- the waits that go have ended, so no due goes
due-filter : (g : Asked → Bool) (o : ℕ) (asks : List Asked) → AreApart asks → list_any (λ a. g a && is_none a.end) asks ≡ false → due_for o (filter (λ a. not (g a)) asks) ≡ due_for o asks
due-filter g o [] apart h = refl
due-filter g o (z ∷ zs) apart h = by (due-filter g o zs apart.1 (or-right (g z && is_none z.end) (list_any (λ a. g a && is_none a.end) zs) h)) (g z) refl
  where
    over : is_none z.end ≡ false → due_for o zs ≡ (if nat_eq z.owner o then due_in z else due_for o zs)
    over e = at (nat_eq z.owner o) refl
      where
        at : (c : Bool) → nat_eq z.owner o ≡ c → due_for o zs ≡ (if c then due_in z else due_for o zs)
        at true f = none-for o zs ((λ k. list_any (λ b. nat_eq b.owner (sym (eqb-true z.owner o f) k)) zs) ∙ apart.0) ∙ sym (λ k. if e k then z.ask.due else None)
        at false f = refl

    by : due_for o (filter (λ a. not (g a)) zs) ≡ due_for o zs → (b : Bool) → g z ≡ b → due_for o (if not b then z ∷ filter (λ a. not (g a)) zs else filter (λ a. not (g a)) zs) ≡ (if nat_eq z.owner o then due_in z else due_for o zs)
    by rest true e = rest ∙ over ((λ k. sym e k && is_none z.end) ∙ or-left (g z && is_none z.end) (list_any (λ a. g a && is_none a.end) zs) h)
    by rest false e = (λ k. if nat_eq z.owner o then due_in z else rest k)

any-snoc : (p : Asked → Bool) (xs : List Asked) (a : Asked) → list_any p xs ≡ false → p a ≡ false → list_any p (xs ++ (a ∷ [])) ≡ false
any-snoc p [] a h k = (λ i. k i || false)
any-snoc p (x ∷ xs) a h k = (λ i. or-left (p x) (list_any p xs) h i || list_any p (xs ++ (a ∷ []))) ∙ any-snoc p xs a (or-right (p x) (list_any p xs) h) k

apart-snoc : (xs : List Asked) (a : Asked) → AreApart xs → list_any (λ b. nat_eq b.owner a.owner) xs ≡ false → AreApart (xs ++ (a ∷ []))
apart-snoc [] a apart h = (refl, tt)
apart-snoc (x ∷ xs) a apart h = (
  any-snoc (λ b. nat_eq b.owner x.owner) xs a apart.0 (flip x.owner a.owner false (or-left (nat_eq x.owner a.owner) (list_any (λ b. nat_eq b.owner a.owner) xs) h)),
  apart-snoc xs a apart.1 (or-right (nat_eq x.owner a.owner) (list_any (λ b. nat_eq b.owner a.owner) xs) h),
)

due-snoc : (o : ℕ) (xs : List Asked) (a : Asked) → list_any (λ b. nat_eq b.owner a.owner) xs ≡ false → due_for o (xs ++ (a ∷ [])) ≡ (if nat_eq a.owner o then due_in a else due_for o xs)
due-snoc o [] a h = refl
due-snoc o (x ∷ xs) a h = by (due-snoc o xs a (or-right (nat_eq x.owner a.owner) (list_any (λ b. nat_eq b.owner a.owner) xs) h)) (nat_eq x.owner o) refl (nat_eq a.owner o) refl
  where
    differ : nat_eq x.owner a.owner ≡ false
    differ = or-left (nat_eq x.owner a.owner) (list_any (λ b. nat_eq b.owner a.owner) xs) h

    by : due_for o (xs ++ (a ∷ [])) ≡ (if nat_eq a.owner o then due_in a else due_for o xs) → (b : Bool) → nat_eq x.owner o ≡ b → (c : Bool) → nat_eq a.owner o ≡ c
        → (if b then due_in x else due_for o (xs ++ (a ∷ []))) ≡ (if c then due_in a else if b then due_in x else due_for o xs)
    by ih true e true f = (let h : false ≡ true = sym differ ∙ (λ k. nat_eq x.owner (eqb-true a.owner o f k)) ∙ e in cc)
    by ih true e false f = refl
    by ih false e c f = ih ∙ (λ k. if f k then due_in a else due_for o xs)

timer-due : (due : Option ℕ) (owner q : ℕ) (ts : List Timer) → due_of owner ts ≡ None → due_of q (timer_added due owner ts) ≡ (if nat_eq owner q then due else due_of q ts)
timer-due (Some d) owner q ts none = due_of-inserted q (d, owner) ts none
timer-due None owner q ts none = by (nat_eq owner q) refl
  where
    by : (b : Bool) → nat_eq owner q ≡ b → due_of q ts ≡ (if b then None else due_of q ts)
    by true e = (λ k. due_of (sym (eqb-true owner q e) k) ts) ∙ none
    by false e = refl

-- LEMMA: an owner that no wait has has no timer
pub no-timer : (o : ℕ) (asks : List Asked) (ts : List Timer) → AreTimed asks ts → list_any (λ b. nat_eq b.owner o) asks ≡ false → due_of o ts ≡ None
no-timer o asks ts timed h = timed.dues o ∙ none-for o asks h

-- LEMMA: with its due the timers fit the waits with it
pub timed-added : (a : Asked) (asks : List Asked) (ts : List Timer) → AreTimed asks ts → list_any (λ b. nat_eq b.owner a.owner) asks ≡ false
    → list_any (λ b. is_of a.ask.serial a.ask.branch b && is_none b.end) asks ≡ false → a.end ≡ None → AreTimed (added a asks) (timer_added a.ask.due a.owner ts)
timed-added a asks ts timed fresh pending none = record {
  apart = apart-snoc kept a (apart-filter (λ b. not (is_of a.ask.serial a.ask.branch b)) asks timed.apart) left;
  dues = λ o. timer-due a.ask.due a.owner o ts (no-timer a.owner asks ts timed fresh)
      ∙ (λ k. if nat_eq a.owner o then (if is_none (sym none k) then a.ask.due else None) else timed.dues o k)
      ∙ sym (λ k. if nat_eq a.owner o then due_in a else due-filter (is_of a.ask.serial a.ask.branch) o asks timed.apart pending k)
      ∙ sym (due-snoc o kept a left);
}
  where
    kept : List Asked
    kept = filter (λ b. not (is_of a.ask.serial a.ask.branch b)) asks

    left : list_any (λ b. nat_eq b.owner a.owner) kept ≡ false
    left = any-filter (λ b. nat_eq b.owner a.owner) (λ b. not (is_of a.ask.serial a.ask.branch b)) asks fresh
