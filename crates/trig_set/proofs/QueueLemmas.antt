-- The queue of the owners by their earliest due.
use Rattle.std.proofs.Common.{◌≡◌, ℕ, zero, suc, List, [], ◌∷◌, filter, map, Bool, true, false, refl, sym, subst, ◌∙◌, arith, inl, inr}
use Rattle.std.specs.Prelude.{Option, Some, None, MatchOption, not, nat_eq, slice_get, if◌then◌else◌}
use Rattle.std.proofs.lemmas.Bool.Decides.{leb_tells, nat_tests}
use Rattle.timer_queue.specs.Timers.{IsLeast, Timer, due_of, removed}
use Rattle.timer_queue.proofs.TimerLemmas.{due_of-removed}
use Rattle.trig_set.specs.declared.owners.Attached.{Attached}
use Rattle.trig_set.specs.Order.{ascend, owner_of}
use Rattle.trig_set.specs.Queued.{HasDue}
use Rattle.trig_set.specs.Stands.{AllOwners, AtOwner}
use Rattle.trig_set.proofs.HalvesLemmas.{ascends-at}
use Rattle.trig_set.proofs.PlaceLemmas.{is_other}

eq-self : (n : ℕ) → nat_eq n n ≡ true
eq-self n = grind (arith, nat_tests)

-- what the queue has for an owner stays what it has
due-along : (a : Attached) (old new : List Timer) → due_of a.owner new ≡ due_of a.owner old → HasDue old a → HasDue new a
due-along a old new same has = subst (λ o. IsLeast o a.timers) (sym same) has

-- LAW: an owner's earliest due is set
pub enqueued : (old new : List Timer) (a : Attached) (first : Option ℕ) → IsLeast first a.timers → ((n : ℕ) → due_of n new ≡ (if nat_eq a.owner n then first else due_of n old)) → HasDue new a
enqueued old new a first least set = subst (λ o. IsLeast o a.timers) (sym (set a.owner ∙ (λ i. if eq-self a.owner i then first else due_of a.owner old))) least

-- LAW: those of the other owners stay
pub kept-elsewhere : (owners : List Attached) (place n : ℕ) (a : Attached) (old new : List Timer) → slice_get owners place ≡ Some a → ((m : ℕ) → nat_eq a.owner m ≡ false → due_of m new ≡ due_of m old)
    → ascend (map owner_of owners) ≡ true → nat_eq place n ≡ false → AtOwner owners n (HasDue old) → AtOwner owners n (HasDue new)
kept-elsewhere owners place n a old new here others asc apart = by (slice_get owners n) refl
  where
    differ : (b : Attached) → slice_get owners n ≡ Some b → nat_eq a.owner b.owner ≡ false
    differ b there = elim (leb_tells place n) [
      | inl le ↦ (let at-most = le.1 in let less = ascends-at owners place n a b asc here there (grind (arith, nat_tests, at-most, apart)) in grind (arith, nat_tests, less))
      | inr gt ↦ (let over = gt.1 in let less = ascends-at owners n place b a asc there here over in grind (arith, nat_tests, less))
    ]

    by : (o : Option Attached) → slice_get owners n ≡ o → MatchOption o (Unit {0}) (HasDue old) → MatchOption o (Unit {0}) (HasDue new)
    by None there has = tt
    by (Some b) there has = due-along b old new (others b.owner (differ b there)) has

-- LAW: where the queue has the same for an owner, it has its due
pub due-same : (owners : List Attached) (n : ℕ) (old new : List Timer) → ascend (map owner_of owners) ≡ true → AtOwner owners n (HasDue old)
    → AtOwner owners n (λ a. ascend (map owner_of owners) ≡ true → due_of a.owner new ≡ due_of a.owner old) → AtOwner owners n (HasDue new)
due-same owners n old new asc = by (slice_get owners n)
  where
    by : (o : Option Attached) → MatchOption o (Unit {0}) (HasDue old) → MatchOption o (Unit {0}) (λ a. ascend (map owner_of owners) ≡ true → due_of a.owner new ≡ due_of a.owner old) → MatchOption o (Unit {0}) (HasDue new)
    by None has same = tt
    by (Some a) has same = due-along a old new (same asc) has

other-turned : (a b : ℕ) → nat_eq b a ≡ false → nat_eq a b ≡ false
other-turned a b h = grind (arith, nat_tests, h)

-- LAW: those that are left without an owner have their dues in the queue without it
pub left-queued : (n : ℕ) (queue : List Timer) (xs : List Attached) → AllOwners xs (HasDue queue) → AllOwners (filter (is_other n) xs) (HasDue (removed n queue))
left-queued n queue [] all m = all m
left-queued n queue (x ∷ xs) all m = by (nat_eq x.owner n) refl (left-queued n queue xs (λ k. all (suc k))) m
  where
    cons : (ys : List Attached) → HasDue (removed n queue) x → AllOwners ys (HasDue (removed n queue)) → (m : ℕ) → AtOwner (x ∷ ys) m (HasDue (removed n queue))
    cons ys here h zero = here
    cons ys here h (suc m) = h m

    by : (b : Bool) → nat_eq x.owner n ≡ b → AllOwners (filter (is_other n) xs) (HasDue (removed n queue)) → (m : ℕ) → AtOwner (if not b then x ∷ filter (is_other n) xs else filter (is_other n) xs) m (HasDue (removed n queue))
    by true is h m = h m
    by false is h m =
        cons (filter (is_other n) xs)
        (due-along x queue (removed n queue) (due_of-removed x.owner n queue ∙ (λ i. if other-turned n x.owner is i then None else due_of x.owner queue)) (all zero)) h m
