-- The firings of one owner among those of all.
use Rattle.std.proofs.Common.{◌≡◌, ℕ, suc, ◌+◌, ◌<◌, List, [], ◌∷◌, ◌++◌, map, filter, Bool, true, false, refl, ◌∙◌, rules, arith, append-nil}
use Rattle.std.specs.Prelude.{Option, Some, None, nat_eq, find, if◌then◌else◌}
use Rattle.ha_journal.specs.declared.firing.Firing.{Firing}
use Rattle.ha_journal.specs.Journal.{Journal}
use Rattle.ha_journal.specs.Triggers.{Fired, firings as fired_by}
use Rattle.ha_past.specs.Firings.{Owner, firing_by, owner_named, firings_of, firings}
use Rattle.ha_value.specs.declared.value.Value.{Value}
use Rattle.ha_sight.specs.Scripts.{Ask}
use Rattle.ha_journal.specs.Waits.{all_fired}
use Rattle.wait_set.specs.declared.asked.Asked.{Asked}
use Rattle.wait_set.specs.Asked.{value_of, fired_values}
use Rattle.wait_set.specs.Stands.{AreFired}
use Rattle.engine_parts.specs.Kept.{AreOwned}
use Rattle.engine_parts.specs.Owners.{AreAscending}
use Rattle.engine_parts.proofs.AttemptLemmas.{filter-append, kept-by}

eq-of : (a b : ℕ) → nat_eq a b ≡ true → a ≡ b
eq-of a b e = search (rules, e)

above : (a b : ℕ) → b < a → nat_eq a b ≡ false
above a b lt = search rules

-- the firings of owners above a number are none of its
pub none-above : (j : Journal) (p o n : ℕ) (os : List Owner) → o < n → AreAscending n os → filter (λ (f : Firing). nat_eq f.owner o) (firings j p os) ≡ []
none-above j p o n [] lt h = refl
none-above j p o n (x ∷ os) lt h =
    filter-append (λ (f : Firing). nat_eq f.owner o) (firings_of j p x) (firings j p os)
    ∙ (λ i. kept-by (λ q. nat_eq q o) x false (above x.owner o (omega (arith, lt, h.0))) (fired_by j x.triggers x.since p) i ++ none-above j p o (suc x.owner) os (omega (arith, lt, h.0)) h.1 i)

-- LAW: the firings of an owner that is attached, among those of all, are its own, in order
pub firings-of-one : (j : Journal) (p o n : ℕ) (os : List Owner) (w : Owner) → AreAscending n os → owner_named o os ≡ Some w → filter (λ (f : Firing). nat_eq f.owner o) (firings j p os) ≡ firings_of j p w
firings-of-one j p o n [] w h e = absurd (let bad : ◌≡◌ {A = Option Owner} None (Some w) = e in cc)
firings-of-one j p o n (x ∷ os) w h e = by (nat_eq x.owner o) refl e (λ later. firings-of-one j p o (suc x.owner) os w h.1 later)
  where
    by : (b : Bool) → nat_eq x.owner o ≡ b → (if b then Some x else find (λ y. nat_eq y.owner o) os) ≡ Some w → (owner_named o os ≡ Some w → filter (λ (f : Firing). nat_eq f.owner o) (firings j p os) ≡ firings_of j p w)
        → filter (λ (f : Firing). nat_eq f.owner o) (firings_of j p x ++ firings j p os) ≡ firings_of j p w
    by true own found rec =
        let same : x ≡ w = cc in
        filter-append (λ (f : Firing). nat_eq f.owner o) (firings_of j p x) (firings j p os)
        ∙ (λ i. kept-by (λ q. nat_eq q o) x true own (fired_by j x.triggers x.since p) i ++ none-above j p o (suc x.owner) os (omega (arith, eq-of x.owner o own)) h.1 i)
        ∙ append-nil (firings_of j p x)
        ∙ (λ i. firings_of j p (same i))
    by false other found rec =
        filter-append (λ (f : Firing). nat_eq f.owner o) (firings_of j p x) (firings j p os)
        ∙ (λ i. kept-by (λ q. nat_eq q o) x false other (fired_by j x.triggers x.since p) i ++ rec found i)

-- what the firings of an owner give
values-of : (o : Owner) (fs : List Fired) → map {A = Firing} {B = Value} (λ f. value_of f.env) (map (firing_by o) fs) ≡ map (λ f. f.variables) fs
values-of o [] = refl
values-of o (f ∷ fs) = (λ i. f.variables ∷ values-of o fs i)

module _ (k : Journal) (q : ℕ) where
  -- LAW: where the triggers of each pending wait are attached under its owner, all firings tell the waits what they are to be told
  pub waits-told : (n : ℕ) (os : List Owner) (asks : List Asked) → AreAscending 0 os → AreOwned n os asks → AreFired k q (firings k q os) asks
  waits-told n os [] ascending known = tt
  waits-told n os (a ∷ asks) ascending known = (λ pending ask same. one pending ask same, waits-told n os asks ascending known.1)
    where
      own : Owner
      own = record { owner = a.owner; triggers = a.ask.triggers; since = a.place }

      one : a.end ≡ None → (ask : Ask) → a.ask.triggers ≡ ask.triggers → fired_values a.owner (firings k q os) ≡ all_fired k ask a.place q
      one pending ask same =
          (λ i. map {A = Firing} {B = Value} (λ f. value_of f.env) (firings-of-one k q a.owner 0 os own ascending (known.0.attached pending) i))
          ∙ values-of own (fired_by k a.ask.triggers a.place q)
          ∙ (λ i. map (λ f. f.variables) (fired_by k (same i) a.place q))
