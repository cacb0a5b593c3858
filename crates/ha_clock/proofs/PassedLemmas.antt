-- The search over seconds finds a second for which the test holds.
use Rattle.std.proofs.Common.{◌≡◌, ◌∙◌, ◌≤◌, ◌<◌, ◌+◌, ◌-◌, ◌*◌, ◌/◌, ap, sym, refl, arith, ℕ, zero, suc, Bool, true, false, ◌||◌, List, inl, inr, ◌⊎◌, ◌↔◌}
use Rattle.std.proofs.lemmas.Bool.Decides.{leb_tells}
use Rattle.ha_clock.specs.Local.{second_of_day}
use Rattle.ha_clock.specs.Passed.{PassesSecond, holds_in, passed_count, passes_second}

-- one of the n seconds up to `last`, with a local second of the day for which the test holds
pub record Found (zone : List ℕ) (test : ℕ → Bool) (last n : ℕ) : Type 0 where
  pub second : ℕ
  pub low : last < second + n
  pub high : second ≤ last
  pub holds : test (second_of_day zone (second * 1000)) ≡ true

either_of : (a b : Bool) → (a || b) ≡ true → (a ≡ true) ⊎ (b ≡ true)
either_of true b h = inl refl
either_of false b h = inr h

later_holds : (a b : Bool) → b ≡ true → (a || b) ≡ true
later_holds true b h = refl
later_holds false b h = h

found : (zone : List ℕ) (test : ℕ → Bool) (last n : ℕ) → n ≤ last + 1 → holds_in zone test last n ≡ true → Found zone test last n
unfolding holds_in
found zone test last zero fits h = absurd (let bad : ◌≡◌ {A = Bool} false true = h in cc)
found zone test last (suc n) fits h = elim (either_of (test (second_of_day zone (last * 1000))) (holds_in zone test (last - 1) n) h) [
  | inl here ↦ record {
    second = last;
    low = omega arith;
    high = omega arith;
    holds = here;
  }
  | inr there ↦ elim (leb_tells last 0) [
    | inl first ↦
        let at : last ≡ 0 = omega (arith, first.1) in
        let none : n ≡ 0 = omega (arith, first.1) in
        let bad : ◌≡◌ {A = Bool} false true = sym (ap (holds_in zone test (last - 1)) none) ∙ there in
        absurd (cc)
    | inr more ↦
        let past = more.1 in
        let rest = found zone test (last - 1) n (omega arith) there in
        let low = rest.low in
        let high = rest.high in
        record {
          second = rest.second;
          low = omega arith;
          high = omega arith;
          holds = rest.holds;
        }
  ]
]

searched : (zone : List ℕ) (test : ℕ → Bool) (last n s : ℕ) → last < s + n → s ≤ last → test (second_of_day zone (s * 1000)) ≡ true → holds_in zone test last n ≡ true
unfolding holds_in
searched zone test last zero s low high h = absurd (omega arith)
searched zone test last (suc n) s low high h = elim (leb_tells last s) [
  | inl here ↦
      let same : s ≡ last = omega (arith, here.1) in
      let holds : test (second_of_day zone (last * 1000)) ≡ true = ap (λ k. test (second_of_day zone (k * 1000))) (sym same) ∙ h in
      ap (λ b. b || holds_in zone test (last - 1) n) holds
  | inr before ↦
      let past = before.1 in
      later_holds (test (second_of_day zone (last * 1000))) (holds_in zone test (last - 1) n) (searched zone test (last - 1) n s (omega arith) (omega arith) h)
]

passed_of : (zone : List ℕ) (test : ℕ → Bool) (from to : ℕ) → Found zone test (to / 1000) (passed_count from to) → PassesSecond zone test from to
passed_of zone test from to f =
    let low = f.low in
    let high = f.high in
    (f.second, (omega arith, omega arith), f.holds)

pub passes_second-PassesSecond : (zone : List ℕ) (test : ℕ → Bool) (from to : ℕ) → (passes_second zone test from to ≡ true) ↔ PassesSecond zone test from to
unfolding passes_second
passes_second-PassesSecond zone test from to = (
  λ h. passed_of zone test from to (found zone test (to / 1000) (passed_count from to) (omega arith) h),
  λ p. let s = p.0 in
      let low = p.1.0 in
      let high = p.1.1 in
      searched zone test (to / 1000) (passed_count from to) p.0 (omega arith) (omega arith) p.2,
)
