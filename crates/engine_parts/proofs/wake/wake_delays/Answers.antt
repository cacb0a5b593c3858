use Rattle.std.proofs.Common.{◌≡◌, ◌⊎◌, inl, inr, ℕ, List, [], ◌∷◌, ◌++◌, ◌<◌, ◌≤◌, map, filter, Bool, true, false, refl, sym, ap, subst, ◌∙◌, rules, arith}
use Rattle.std.specs.Prelude.{All, Option, Some, None, is_some, nat_eq, nat_le, if◌then◌else◌}
use Rattle.std.proofs.lemmas.List.Elements.{All-head, All-tail}
use Rattle.timer_queue.specs.Timers.{Timer, after_due, due_of, first_due}
use Rattle.ha_ready.specs.Agree.{AgreesBut, touched}
use Rattle.engine_parts.specs.Touched.{due_places}
use Rattle.engine_parts.proofs.wake.wake_delays.Goals as goal

is-over : (a b : ℕ) → b < a → nat_le a b ≡ false
is-over a b lt = search rules

-- where no timer is due, there is no due place
none-due : (at : ℕ) (delays : List Timer) → All (λ t. at < t.0) delays → due_places at delays ≡ []
none-due at [] h = refl
none-due at (t ∷ ts) h =
    (λ i. map (λ (y : ℕ × ℕ). y.1) (if is-over t.0 at (All-head (λ (y : ℕ × ℕ). at < y.0) t ts h) i then t ∷ filter (λ y. nat_le y.0 at) ts else filter (λ y. nat_le y.0 at) ts))
    ∙ none-due at ts (All-tail (λ (y : ℕ × ℕ). at < y.0) t ts h)

-- and none behind the first timer
none-after : (at : ℕ) (delays : List Timer) → All (λ t. at < t.0) delays → due_places at (after_due at delays) ≡ []
none-after at [] h = refl
none-after at (t ∷ ts) h =
    (λ i. due_places at (if is-over t.0 at (All-head (λ (y : ℕ × ℕ). at < y.0) t ts h) i then ts else t ∷ ts))
    ∙ none-due at (t ∷ ts) h

-- a due that was in the queue is over, or still there
kept-after : (at p due : ℕ) (ts : List Timer) → due_of p ts ≡ Some due → (due ≤ at) ⊎ (due_of p (after_due at ts) ≡ Some due)
kept-after at p due [] e = absurd (let bad : ◌≡◌ {A = Option ℕ} None (Some due) = e in cc)
kept-after at p due (t ∷ ts) e = by (nat_eq t.1 p) (nat_le t.0 at) refl e
  where
    at-most-of : (a b : ℕ) → nat_le a b ≡ true → a ≤ b
    at-most-of a b e = search (rules, e)

    by : (c d : Bool) → nat_le t.0 at ≡ d → (if c then Some t.0 else due_of p ts) ≡ Some due → (due ≤ at) ⊎ (due_of p (if d then ts else t ∷ ts) ≡ Some due)
    by true true f is = (let same : t.0 ≡ due = cc in inl (omega (arith, same, at-most-of t.0 at f)))
    by false true f is = inr is
    by c false f is = inr e

kept-left : (at p due : ℕ) (ts ts' : List Timer) → ts' ≡ after_due at ts → (due ≤ at) ⊎ (due_of p ts ≡ Some due) → (due ≤ at) ⊎ (due_of p ts' ≡ Some due)
kept-left at p due ts ts' rest (inl over) = inl over
kept-left at p due ts ts' rest (inr e) = subst (λ (l : List Timer). (due ≤ at) ⊎ (due_of p l ≡ Some due)) (sym rest) (kept-after at p due ts e)

-- the place of the first due timer
place-first : (at place : ℕ) (ts : List Timer) → first_due at ts ≡ Some place → due_places at ts ≡ place ∷ due_places at (after_due at ts)
place-first at place [] e = absurd (let bad : ◌≡◌ {A = Option ℕ} None (Some place) = e in cc)
place-first at place (t ∷ ts) e = by (nat_le t.0 at) e
  where
    by : (d : Bool) → (if d then Some t.1 else None) ≡ Some place
        → map (λ (y : ℕ × ℕ). y.1) (if d then t ∷ filter (λ y. nat_le y.0 at) ts else filter (λ y. nat_le y.0 at) ts) ≡ place ∷ due_places at (if d then ts else t ∷ ts)
    by true is = (let same : t.1 ≡ place = cc in λ i. same i ∷ due_places at ts)
    by false is = absurd (let bad : ◌≡◌ {A = Option ℕ} None (Some place) = is in cc)

pub returns-clause-over : goal.returns-clause-over
returns-clause-over c =
    let none : is_some c.pop.result ≡ false = ap is_some c.in_default.is in
    (λ i. due_places c.args.now (c.pop.ensures.rest i)) ∙ none-after c.args.now c.due.delays (c.pop.ensures.none none)

pub returns-clause-agree : goal.returns-clause-agree
returns-clause-agree c told rs left waking h =
    let none : is_some c.pop.result ≡ false = ap is_some c.in_default.is in
    let empty : due_places c.args.now c.due.delays ≡ [] = none-due c.args.now c.due.delays (c.pop.ensures.none none) in
    subst (λ places. AgreesBut told (touched c.args.journal.now (places ++ left)) rs c.args.journal.now c.due.ready.pairs.items) empty (c.due.invariant.agree told rs left waking h)

pub due-preserved : goal.due-preserved
due-preserved c = record {
  queue = λ p due e. kept-left c.args.now p due c.due.delays c.pop.new.delays c.pop.ensures.rest (c.due.invariant.queue p due e);
  early = λ n h. c.pop.ensures.early n (c.due.invariant.early n h);
  agree = λ told rs left waking h. c.in_ok-wake_one.ensures told rs (due_places c.args.now c.pop.new.delays ++ left) waking
      (subst (λ (l : List ℕ). AgreesBut told (touched c.args.journal.now l) rs c.args.journal.now c.due.ready.pairs.items)
      (ap (λ (l : List ℕ). l ++ left) (place-first c.args.now c.in-Some.place c.due.delays (sym c.pop.ensures.first ∙ c.in-Some.is) ∙ ap (λ ts. c.in-Some.place ∷ due_places c.args.now ts) (sym c.pop.ensures.rest)))
      (c.due.invariant.agree told rs left waking h));
}

pub returns-clause-early : goal.returns-clause-early
returns-clause-early c n h = c.pop.ensures.early n (c.due.invariant.early n h)
