-- The times of a rule among the seconds of a day and those that lie so far back.
use Rattle.std.proofs.Common.{◌≡◌, ◌∙◌, ◌+◌, ◌-◌, ◌%◌, ◌<◌, ◌≤◌, ◌↔◌, ◌⊎◌, inl, inr, ⊎_elim, ap, sym, refl, arith, ℕ, Bool, true, false, List, [], ◌∷◌, ◌&&◌, ◌||◌, nat_eq, nat_le, nat_lt}
use Rattle.std.specs.List.{list_any}
use Rattle.std.proofs.lemmas.Bool.Decides.{leb_tells, nat_tests}
use Rattle.ha_config.specs.declared.config.TriggerRule.{TriggerRule}
use Rattle.ha_sight.specs.Rules.{second_fits}
use Rattle.time_match.specs.Times.{HasTime, HasTimeBack}

-- ---- listed seconds

either_of : (a b : Bool) → (a || b) ≡ true → (a ≡ true) ⊎ (b ≡ true)
either_of true b h = inl refl
either_of false b h = inr h

or_right : (a b : Bool) → b ≡ true → (a || b) ≡ true
or_right true b h = refl
or_right false b h = h

abbrev Listed : List ℕ → ℕ → ℕ → Type 0
Listed xs first end = (s : ℕ) × ((first ≤ s) × (s < end) × (list_any (nat_eq s) xs ≡ true))

listed-found : (xs : List ℕ) (first end : ℕ) → list_any (λ s. nat_le first s && nat_lt s end) xs ≡ true → Listed xs first end
listed-found [] first end h = absurd (let bad : ◌≡◌ {A = Bool} false true = h in cc)
listed-found (x ∷ xs) first end h = elim (either_of (nat_le first x && nat_lt x end) (list_any (λ s. nat_le first s && nat_lt s end) xs) h) [
  | inl here ↦ (x, (grind (arith, nat_tests, here), grind (arith, nat_tests, here), (let e : nat_eq x x ≡ true = grind (arith, nat_tests) in ap (λ b. b || list_any (nat_eq x) xs) e)))
  | inr there ↦ (let f = listed-found xs first end there in (f.0, (f.1.0, f.1.1, or_right (nat_eq f.0 x) _ f.1.2)))
]

listed-there : (xs : List ℕ) (first end s : ℕ) → first ≤ s → s < end → list_any (nat_eq s) xs ≡ true → list_any (λ s. nat_le first s && nat_lt s end) xs ≡ true
listed-there [] first end s low high h = absurd (let bad : ◌≡◌ {A = Bool} false true = h in cc)
listed-there (x ∷ xs) first end s low high h = elim (either_of (nat_eq s x) (list_any (nat_eq s) xs) h) [
  | inl here ↦ (let within : (nat_le first x && nat_lt x end) ≡ true = grind (arith, nat_tests, here, low, high) in ap (λ b. b || list_any (λ s. nat_le first s && nat_lt s end) xs) within)
  | inr there ↦ or_right (nat_le first x && nat_lt x end) _ (listed-there xs first end s low high there)
]

-- LAW: a listed second that lies between is a time between
pub listed : (xs : List ℕ) (first end : ℕ) → (list_any (λ s. nat_le first s && nat_lt s end) xs ≡ true) ↔ HasTime (TriggerRule.Time xs) first end
listed xs first end = (listed-found xs first end, λ p. listed-there xs first end p.0 p.1.0 p.1.1 p.1.2)

-- ---- seconds that lie back

module _ (rule : TriggerRule) (last count : ℕ) (within : last < 86_400) where
  -- a time that lies k seconds back
  back-at : (s k : ℕ) → k < count → (last + 86_400 - k % 86_400) % 86_400 ≡ s → second_fits rule s ≡ true → HasTimeBack rule last count
  back-at s k lt e h = (k, (lt, ap (second_fits rule) e ∙ h))

  -- LAW: a whole day back each second of the day lies
  pub whole-day : 86_400 ≤ count → HasTime rule 0 86_400 ↔ HasTimeBack rule last count
  whole-day all = (to, λ p. ((last + 86_400 - p.0 % 86_400) % 86_400, (omega arith, omega arith, p.1.1)))
    where
      to : HasTime rule 0 86_400 → HasTimeBack rule last count
      to p =
          let s = p.0 in
          let below = p.1.1 in
          elim (leb_tells p.0 last) [
            | inl early ↦ (let early = early.1 in back-at p.0 (last - p.0) (omega (arith, all)) (omega arith) p.1.2)
            | inr late ↦ (let late = late.1 in back-at p.0 (last + 86_400 - p.0) (omega (arith, all, below)) (omega (arith, below)) p.1.2)
          ]

  -- LAW: before midnight does not count where no more seconds lie back than the day has had
  pub same-day : count ≤ last + 1 → HasTime rule (last + 1 - count) (last + 1) ↔ HasTimeBack rule last count
  same-day few = (
    λ p. (let s = p.0 in let low = p.1.0 in let high = p.1.1 in back-at p.0 (last - p.0) (omega (arith, few, low, high)) (omega (arith, high)) p.1.2),
    λ p. (let k = p.0 in let lt = p.1.0 in
        let e : (last + 86_400 - p.0 % 86_400) % 86_400 ≡ last - p.0 = omega (arith, few, lt) in
        (last - p.0, (omega (arith, few, lt), omega arith, ap (second_fits rule) (sym e) ∙ p.1.1))),
  )

  -- LAW: else the day before goes on
  pub day-before : last + 1 < count → count < 86_400 → (HasTime rule 0 (last + 1) ⊎ HasTime rule (86_400 + last + 1 - count) 86_400) ↔ HasTimeBack rule last count
  day-before more less = (⊎_elim here there, from)
    where
      here : HasTime rule 0 (last + 1) → HasTimeBack rule last count
      here p = let s = p.0 in let high = p.1.1 in back-at p.0 (last - p.0) (omega (arith, more)) (omega (arith, high)) p.1.2

      there : HasTime rule (86_400 + last + 1 - count) 86_400 → HasTimeBack rule last count
      there p = let s = p.0 in let low = p.1.0 in let high = p.1.1 in back-at p.0 (last + 86_400 - p.0) (omega (arith, more, less, low, high)) (omega (arith, more, less, low, high)) p.1.2

      from : HasTimeBack rule last count → HasTime rule 0 (last + 1) ⊎ HasTime rule (86_400 + last + 1 - count) 86_400
      from p = let lt = p.1.0 in elim (leb_tells p.0 last) [
        | inl same ↦ (let same = same.1 in
            let e : (last + 86_400 - p.0 % 86_400) % 86_400 ≡ last - p.0 = omega (arith, same) in
            inl (last - p.0, (omega arith, omega arith, ap (second_fits rule) (sym e) ∙ p.1.1)))
        | inr before ↦ (let before = before.1 in
            let e : (last + 86_400 - p.0 % 86_400) % 86_400 ≡ last + 86_400 - p.0 = omega (arith, before, lt, less) in
            inr (last + 86_400 - p.0, (omega (arith, lt, less), omega (arith, before), ap (second_fits rule) (sym e) ∙ p.1.1)))
      ]
