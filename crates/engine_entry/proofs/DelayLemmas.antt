-- A delay that a step began, in the queue.
use Rattle.std.proofs.Common.{◌≡◌, ℕ, ◌<◌, ◌≤◌, ◌⊎◌, inl, inr, List, [], ◌∷◌, map, filter, Bool, true, false, refl, sym, ◌∙◌, rules}
use Rattle.std.specs.Prelude.{Option, Some, None, nat_eq, nat_le, ◌||◌, if◌then◌else◌}
use Rattle.std.specs.List.{list_any}
use Rattle.timer_queue.specs.Timers.{Timer, due_of, inserted, is_before}
use Rattle.timer_queue.proofs.TimerLemmas.{due_of-inserted}
use Rattle.wait_set.specs.Timers.{timer_added}
use Rattle.engine_parts.specs.Kept.{KeysBelow}
use Rattle.engine_parts.specs.Touched.{due_places, QueueKept}

-- LAW: no key is at or above what all are below
pub none_due : (p : ℕ) (ts : List Timer) → KeysBelow p ts → due_of p ts ≡ None
none_due p [] h = refl
none_due p (t ∷ ts) h = (λ i. if apart t.1 h.0 i then Some t.0 else due_of p ts) ∙ none_due p ts h.1
  where
    apart : (m : ℕ) → m < p → nat_eq m p ≡ false
    apart m lt = search (rules, lt)

keys-inserted : (n : ℕ) (t : Timer) (ts : List Timer) → t.1 < n → KeysBelow n ts → KeysBelow n (inserted t ts)
keys-inserted n t [] lt h = (lt, tt)
keys-inserted n t (x ∷ ts) lt h = by (is_before t x) (keys-inserted n t ts lt h.1)
  where
    by : (c : Bool) → KeysBelow n (inserted t ts) → KeysBelow n (if c then t ∷ x ∷ ts else x ∷ inserted t ts)
    by true rest = (lt, h)
    by false rest = (h.0, rest)

-- LAW: the key of a delay that began at a place is below the next
pub keys-added : (n p : ℕ) (due : Option ℕ) (ts : List Timer) → p < n → KeysBelow n ts → KeysBelow n (timer_added due p ts)
keys-added n p None ts lt h = h
keys-added n p (Some due) ts lt h = keys-inserted n (due, p) ts lt h

-- LAW: no due was lost
pub queue-added : (at p : ℕ) (due : Option ℕ) (ts : List Timer) → KeysBelow p ts → QueueKept at ts (timer_added due p ts)
queue-added at p None ts h q d e = inr e
queue-added at p (Some due) ts h q d e = inr (due_of-inserted q (due, p) ts (none_due p ts h) ∙ by (nat_eq p q) refl)
  where
    eq-of : (a b : ℕ) → nat_eq a b ≡ true → a ≡ b
    eq-of a b h = search (rules, h)

    by : (c : Bool) → nat_eq p q ≡ c → (if c then Some due else due_of q ts) ≡ Some d
    by true same = absurd (let bad : ◌≡◌ {A = Option ℕ} None (Some d) = sym (none_due p ts h) ∙ (λ i. due_of (eq-of p q same i) ts) ∙ e in cc)
    by false other = e

-- LAW: and that of the delay is there
pub due-added : (p due : ℕ) (ts : List Timer) → KeysBelow p ts → due_of p (timer_added (Some due) p ts) ≡ Some due
due-added p due ts h = due_of-inserted p (due, p) ts (none_due p ts h) ∙ (λ i. if self i then Some due else due_of p ts)
  where
    self : nat_eq p p ≡ true
    self = search rules

-- LAW: what loses no due twice loses none
pub queue-both : (at : ℕ) (a b c : List Timer) → QueueKept at a b → QueueKept at b c → QueueKept at a c
queue-both at a b c f g p due e = by (f p due e)
  where
    by : (due ≤ at) ⊎ (due_of p b ≡ Some due) → (due ≤ at) ⊎ (due_of p c ≡ Some due)
    by (inl over) = inl over
    by (inr still) = g p due still

-- ---- places of delays that are over

or-left : (a b : Bool) → (a || b) ≡ false → a ≡ false
or-left true b h = absurd (let bad : ◌≡◌ {A = Bool} true false = h in cc)
or-left false b h = refl

or-right : (a b : Bool) → (a || b) ≡ false → b ≡ false
or-right true b h = absurd (let bad : ◌≡◌ {A = Bool} true false = h in cc)
or-right false b h = h

or-false : (a b : Bool) → a ≡ false → b ≡ false → (a || b) ≡ false
or-false a b p q = (λ i. p i || q i)

module _ (test : ℕ → Bool) (at : ℕ) where
  fewer : (t : Timer) (ts : List Timer) → list_any test (due_places at (inserted t ts)) ≡ false → list_any test (due_places at ts) ≡ false
  fewer t [] h = refl
  fewer t (x ∷ ts) h = by (is_before t x) h (fewer t ts)
    where
      skip : (c : Bool) → list_any test (map (λ (y : Timer). y.1) (if c then t ∷ filter (λ y. nat_le y.0 at) (x ∷ ts) else filter (λ y. nat_le y.0 at) (x ∷ ts))) ≡ false → list_any test (due_places at (x ∷ ts)) ≡ false
      skip true g = or-right (test t.1) (list_any test (due_places at (x ∷ ts))) g
      skip false g = g

      keep : (c : Bool) → list_any test (map (λ (y : Timer). y.1) (if c then x ∷ filter (λ y. nat_le y.0 at) (inserted t ts) else filter (λ y. nat_le y.0 at) (inserted t ts))) ≡ false
          → (list_any test (due_places at (inserted t ts)) ≡ false → list_any test (due_places at ts) ≡ false)
          → list_any test (map (λ (y : Timer). y.1) (if c then x ∷ filter (λ y. nat_le y.0 at) ts else filter (λ y. nat_le y.0 at) ts)) ≡ false
      keep true g rec =
          or-false (test x.1) (list_any test (due_places at ts)) (or-left (test x.1) (list_any test (due_places at (inserted t ts))) g) (rec (or-right (test x.1) (list_any test (due_places at (inserted t ts))) g))
      keep false g rec = rec g

      by : (c : Bool) → list_any test (due_places at (if c then t ∷ x ∷ ts else x ∷ inserted t ts)) ≡ false → (list_any test (due_places at (inserted t ts)) ≡ false → list_any test (due_places at ts) ≡ false)
          → list_any test (due_places at (x ∷ ts)) ≡ false
      by true g rec = skip (nat_le t.0 at) g
      by false g rec = keep (nat_le x.0 at) g rec

  -- LAW: where no place passes with the delay, none did without it
  pub places-added : (due : Option ℕ) (p : ℕ) (ts : List Timer) → list_any test (due_places at (timer_added due p ts)) ≡ false → list_any test (due_places at ts) ≡ false
  places-added None p ts h = h
  places-added (Some due) p ts h = fewer (due, p) ts h
