-- At most one entry is the one that a trigger's firing counts from.
use Rattle.std.proofs.Common.{◌≡◌, ℕ, zero, suc, ◌<◌, ◌≤◌, Bool, true, refl, sym, ◌∙◌, arith, inl, inr, Option}
use Rattle.std.specs.Prelude.{◌-◌, Some, None, not, is_some, nat_eq, nat_lt, ◌&&◌, ◌||◌}
use Rattle.std.specs.List.{list_all, list_any}
use Rattle.std.proofs.lemmas.Bool.{eqb-true}
use Rattle.std.proofs.lemmas.Bool.Decides.{eqb_tells, leb_tells}
use Rattle.ha_value.specs.declared.value.EntityId.{EntityId}
use Rattle.ha_config.specs.declared.config.Trigger.{Trigger}
use Rattle.ha_journal.specs.Journal.{Journal}
use Rattle.ha_journal.specs.Moves.{moves}
use Rattle.ha_sight.specs.Rules.{starts}
use Rattle.ha_journal.specs.Holds.{same_watched, between, fires}
use Rattle.ha_config.proofs.EqualLemmas.{and_left, and_right}
use Rattle.ha_config.proofs.ListLemmas.{true-false}
use Rattle.ha_past.specs.Holds.{is_over}
use Rattle.ha_past.proofs.HoldLaws.{at-between, still, fires-asked}

module _ (j : Journal) (t : Trigger) (e : Option EntityId) (since p : ℕ) where
  -- it moved at place i, after its since, and from there on what it watches stayed as it was
  abbrev stood_from : ℕ → Bool
  stood_from i = (nat_lt since i && moves j t e i) && list_all (same_watched j t.rule e i) (between j i p)

  stood-moves : (i : ℕ) → stood_from i ≡ true → moves j t e i ≡ true
  stood-moves i h = and_right (nat_lt since i) (moves j t e i) (and_left _ _ h)

  stood-stays : (i q : ℕ) → stood_from i ≡ true → i ≤ q → q ≤ p → same_watched j t.rule e i q ≡ true
  stood-stays i q h le below = at-between j (same_watched j t.rule e i) i p q (and_right (nat_lt since i && moves j t e i) _ h) le below

  no-later : (held : is_some t.hold ≡ true) (i k : ℕ) → stood_from i ≡ true → stood_from k ≡ true → k ≤ p → i < k → ⊥
  no-later held i zero h g le lt = absurd (omega (arith, lt))
  no-later held i (suc q) h g le lt =
      true-false (sym (stood-moves (suc q) g)
      ∙ still j i q t e held (stood-moves i h) (stood-stays i q h (omega (arith, lt)) (omega (arith, le))) (stood-stays i (suc q) h (omega (arith, lt)) le))

  one-stood : (held : is_some t.hold ≡ true) (i k : ℕ) → i ≤ p → k ≤ p → stood_from i ≡ true → stood_from k ≡ true → i ≡ k
  one-stood held i k one two h g = elim (eqb_tells i k) [
    | inl same ↦ same.1
    | inr other ↦ (let apart = other.1 in elim (leb_tells k i) [
      | inl high ↦ (let below = high.1 in absurd (no-later held k i g h one (omega (arith, below, apart))))
      | inr low ↦ (let below = low.1 in absurd (no-later held i k h g two below))
    ])
  ]

  held-stood : (d i : ℕ) → t.hold ≡ Some d → fires j t e since p i ≡ true → stood_from i ≡ true
  held-stood d i hold h = and_left _ (not (list_any (is_over j t e since d i) (between j i (p - 1)))) (and_left _ (is_over j t e since d i p) (sym (fires-asked j t e since d p i hold) ∙ h))

  -- without a `for` that is the place itself
  abbrev at_once : Trigger
  at_once = record t { hold = None }

  place-of : (i : ℕ) → fires j at_once e since p i ≡ true → i ≡ p
  place-of i h = eqb-true i p (and_left (nat_eq i p) (moves j at_once e p) (and_left _ (nat_lt since p || starts t.rule) h))

-- LAW: it fires at a place by one entry at most
pub one-move : (j : Journal) (t : Trigger) (e : Option EntityId) (since p i k : ℕ) → i ≤ p → k ≤ p → fires j t e since p i ≡ true → fires j t e since p k ≡ true → i ≡ k
one-move j t e since p i k one two h g = by t.hold refl
  where
    by : (o : Option ℕ) → t.hold ≡ o → i ≡ k
    by None none =
        let same : t ≡ at_once j t e since p = (λ q. record t { hold = none q }) in
        place-of j t e since p i ((λ q. fires j (sym same q) e since p i) ∙ h) ∙ sym (place-of j t e since p k ((λ q. fires j (sym same q) e since p k) ∙ g))
    by (Some d) hold = one-stood j t e since p (λ q. is_some (hold q)) i k one two (held-stood j t e since p d i hold h) (held-stood j t e since p d k hold g)
