-- The owners without one of them.
use Rattle.std.proofs.Common.{◌≡◌, ℕ, suc, ◌+◌, ◌≤◌, length, subst, ap, List, [], ◌∷◌, filter, Bool, true, false, refl, sym, ◌∙◌, rules, arith}
use Rattle.std.specs.Prelude.{Some, not, nat_eq, nat_lt, if◌then◌else◌}
use Rattle.ha_past.specs.Firings.{Owner, owner_named, without_owner}
use Rattle.trig_set.specs.Stands.{attached}
use Rattle.trig_set.specs.declared.set.TrigSet.{TrigSet}
use Rattle.wait_set.specs.Asked.{WaitTable}
use Rattle.ha_journal.specs.Journal.{Journal}
use Rattle.engine_parts.specs.Owners.{AreAscending, AreBelow, is_automation}
use Rattle.engine_parts.specs.Pending.{AreOthers}
use Rattle.engine_parts.specs.Kept.{Owned, AreOwned}
use Rattle.engine_parts.specs.Runs.{first_wait}
use Rattle.engine_parts.proofs.WaitWords.{owned-without}

eq-of : (a b : ℕ) → nat_eq a b ≡ true → a ≡ b
eq-of a b e = search (rules, e)

-- LAW: the other owners are the same
pub named-without : (o p : ℕ) (os : List Owner) → nat_eq p o ≡ false → owner_named p (without_owner o os) ≡ owner_named p os
named-without o p [] h = refl
named-without o p (x ∷ os) h = by (nat_eq x.owner o) refl (named-without o p os h)
  where
    other : nat_eq x.owner o ≡ true → nat_eq x.owner p ≡ false
    other e = turned x.owner p o (eq-of x.owner o e) h
      where
        turned : (x p o : ℕ) → x ≡ o → nat_eq p o ≡ false → nat_eq x p ≡ false
        turned x p o e h = search (rules, e, h)

    by : (c : Bool) → nat_eq x.owner o ≡ c → owner_named p (without_owner o os) ≡ owner_named p os
        → owner_named p (if not c then x ∷ without_owner o os else without_owner o os) ≡ (if nat_eq x.owner p then Some x else owner_named p os)
    by true e rest = rest ∙ sym (λ i. if other e i then Some x else owner_named p os)
    by false e rest = (λ i. if nat_eq x.owner p then Some x else rest i)

-- LAW: they ascend, and are below what they were below
pub ascend-lower : (n m : ℕ) (os : List Owner) → n ≤ m → AreAscending m os → AreAscending n os
ascend-lower n m [] le h = tt
ascend-lower n m (x ∷ os) le h = (omega (arith, le, h.0), h.1)

pub ascend-without : (o n : ℕ) (os : List Owner) → AreAscending n os → AreAscending n (without_owner o os)
ascend-without o n [] h = tt
ascend-without o n (x ∷ os) h = by (nat_eq x.owner o) (ascend-without o (suc x.owner) os h.1)
  where
    by : (c : Bool) → AreAscending (suc x.owner) (without_owner o os) → AreAscending n (if not c then x ∷ without_owner o os else without_owner o os)
    by true rest = ascend-lower n (suc x.owner) (without_owner o os) (omega (arith, h.0)) rest
    by false rest = (h.0, rest)

pub below-without : (o n : ℕ) (os : List Owner) → AreBelow n os → AreBelow n (without_owner o os)
below-without o n [] h = tt
below-without o n (x ∷ os) h = by (nat_eq x.owner o) (below-without o n os h.1)
  where
    by : (c : Bool) → AreBelow n (without_owner o os) → AreBelow n (if not c then x ∷ without_owner o os else without_owner o os)
    by true rest = rest
    by false rest = (h.0, rest)

pub below-more : (n m : ℕ) (os : List Owner) → n ≤ m → AreBelow n os → AreBelow m os
below-more n m [] le h = tt
below-more n m (x ∷ os) le h = (omega (arith, le, h.0), below-more n m os le h.1)

-- LAW: without the owner of a wait the automations are the same
pub automations-without : (o : ℕ) (os : List Owner) → first_wait ≤ o → filter is_automation (without_owner o os) ≡ filter is_automation os
automations-without o [] le = refl
automations-without o (x ∷ os) le = by (nat_eq x.owner o) refl (automations-without o os le)
  where
    high : (a : ℕ) → first_wait ≤ a → nat_lt a first_wait ≡ false
    high a h = search (rules, h)

    by : (c : Bool) → nat_eq x.owner o ≡ c → filter is_automation (without_owner o os) ≡ filter is_automation os
        → filter is_automation (if not c then x ∷ without_owner o os else without_owner o os) ≡ (if is_automation x then x ∷ filter is_automation os else filter is_automation os)
    by true e rest = rest ∙ sym (λ i. if high x.owner (omega (arith, eq-of x.owner o e, le)) i then x ∷ filter is_automation os else filter is_automation os)
    by false e rest = (λ i. if is_automation x then x ∷ rest i else rest i)

-- LAW: an owner that is none of the pending waits' may be detached
pub owned-detached : (j : Journal) (o : ℕ) (F : List ℕ) (t t' : TrigSet) (w : WaitTable) → first_wait ≤ o → attached t' ≡ without_owner o (attached t) → AreOthers (o ∷ F) w.asks → Owned j t w → Owned j t' w
owned-detached j o F t t' w low rest others owned = record {
  automations_attached = ap (filter is_automation) rest ∙ automations-without o (attached t) low ∙ owned.automations_attached;
  ascend = subst (AreAscending 0) (sym rest) (ascend-without o 0 (attached t) owned.ascend);
  early = subst (AreBelow (first_wait + length j)) (sym rest) (below-without o (first_wait + length j) (attached t) owned.early);
  waits_owned = subst (λ (l : List Owner). AreOwned (length j) l w.asks) (sym rest)
      (owned-without o (length j) F (attached t) (without_owner o (attached t)) w.asks (λ p apart. named-without o p (attached t) apart) others owned.waits_owned);
  apart = owned.apart;
}
