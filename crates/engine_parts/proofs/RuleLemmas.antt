-- Units with their numbers, of which some are in force.
use Rattle.std.proofs.Common.{◌≡◌, ℕ, suc, ◌+◌, ◌-◌, ◌<◌, ◌≤◌, List, [], ◌∷◌, ◌++◌, map, Bool, true, false, refl, sym, ◌∙◌, rules, arith}
use Rattle.std.specs.Prelude.{Option, Some, None, ◌&&◌, ◌||◌, nat_eq, nat_le, flat_map, slice_get}
use Rattle.std.specs.List.{enumerate_from}
use Rattle.ha_config.specs.declared.config.Automation.{Automation}
use Rattle.ha_config.specs.Numbered.{AreUnits, has_number}
use Rattle.ha_config.proofs.EqualLemmas.{and_left, and_right}
use Rattle.ha_journal.specs.declared.firing.Firing.{Firing}
use Rattle.engine_parts.specs.Numbers.{ascends_from}

abbrev pub Rules : Type 0
Rules = List (ℕ × Automation)

abbrev pub numbers_of : Rules → List ℕ
numbers_of ps = map {A = ℕ × Automation} {B = ℕ} (λ p. p.0) ps

-- ---- numbers that are among these

pub number-self : (n : ℕ) → nat_eq n n ≡ true
number-self n = search rules

pub eq-of : (a b : ℕ) → nat_eq a b ≡ true → a ≡ b
eq-of a b e = search (rules, e)

least-of : (a b : ℕ) → nat_le a b ≡ true → a ≤ b
least-of a b e = search (rules, e)

pub above : (a b : ℕ) → b < a → nat_eq a b ≡ false
above a b lt = search rules

below : (a b : ℕ) → a < b → nat_eq a b ≡ false
below a b lt = search rules

or-second : (a : Bool) → (a || true) ≡ true
or-second true = refl
or-second false = refl

pub first-number : (p : ℕ × Automation) (ps : Rules) → has_number (p ∷ ps) p.0 ≡ true
first-number p ps = (λ i. number-self p.0 i || has_number ps p.0)

pub later-number : (p : ℕ × Automation) (ps : Rules) (n : ℕ) → has_number ps n ≡ true → has_number (p ∷ ps) n ≡ true
later-number p ps n h = (λ i. nat_eq p.0 n || h i) ∙ or-second (nat_eq p.0 n)

-- numbers that ascend from above one are not it
none-below : (n m : ℕ) (ps : Rules) → n < m → ascends_from m (numbers_of ps) ≡ true → has_number ps n ≡ false
none-below n m [] lt up = refl
none-below n m (p ∷ ps) lt up =
    let least : m ≤ p.0 = least-of m p.0 (and_left (nat_le m p.0) (ascends_from (suc p.0) (numbers_of ps)) up) in
    (λ i. above p.0 n (omega (arith, lt, least)) i || none-below n (suc p.0) ps (omega (arith, lt, least)) (and_right (nat_le m p.0) (ascends_from (suc p.0) (numbers_of ps)) up) i)

-- ---- units from a number on

-- each of these has its place among units that are counted from n on
abbrev pub StandFrom : ℕ → List Automation → Rules → Type 0
StandFrom n us [] = Unit {0}
StandFrom n us (p ∷ ps) = (slice_get us (p.0 - n) ≡ Some p.1) × StandFrom n us ps

pub stand-first : (us : List Automation) (ps : Rules) → AreUnits (λ (x : Automation). x) us ps → StandFrom 0 us ps
stand-first us [] h = tt
stand-first us (p ∷ ps) h = ((let same : p.0 - 0 ≡ p.0 = omega arith in λ i. slice_get us (same i)) ∙ h.0, stand-first us ps h.1)

stand-next : (n m : ℕ) (u : Automation) (us : List Automation) (ps : Rules) → n < m → ascends_from m (numbers_of ps) ≡ true → StandFrom n (u ∷ us) ps → StandFrom (n + 1) us ps
stand-next n m u us [] lt up h = tt
stand-next n m u us (p ∷ ps) lt up h =
    let least : m ≤ p.0 = least-of m p.0 (and_left (nat_le m p.0) (ascends_from (suc p.0) (numbers_of ps)) up) in
    let place : p.0 - n ≡ suc (p.0 - (n + 1)) = omega (arith, lt, least) in (
      (λ i. slice_get (u ∷ us) (sym place i)) ∙ h.0,
      stand-next n (suc p.0) u us ps (omega (arith, lt, least)) (and_right (nat_le m p.0) (ascends_from (suc p.0) (numbers_of ps)) up) h.1,
    )

le-true : (a b : ℕ) → a ≤ b → nat_le a b ≡ true
le-true a b le = search rules

-- where units that are not among these give nothing, all units give, in order, what these give
abbrev IsChosen : (ℕ × Automation → List Firing) → ℕ → List Automation → Rules → Type 0
IsChosen g n us ps = ascends_from n (numbers_of ps) ≡ true → StandFrom n us ps
    → ((m : ℕ) (u : Automation) → n ≤ m → has_number ps m ≡ false → g (m, u) ≡ []) → flat_map g (enumerate_from n us) ≡ flat_map g ps

-- LAW: where units that are not among these give nothing, all units give, in order, what these give, whose numbers ascend
pub chosen : (g : ℕ × Automation → List Firing) (n : ℕ) (us : List Automation) (ps : Rules) → ascends_from n (numbers_of ps) ≡ true → StandFrom n us ps
    → ((m : ℕ) (u : Automation) → n ≤ m → has_number ps m ≡ false → g (m, u) ≡ []) → flat_map g (enumerate_from n us) ≡ flat_map g ps
chosen g n [] [] up stand none = refl
chosen g n [] (p ∷ ps) up stand none = absurd (let bad : ◌≡◌ {A = Option Automation} None (Some p.1) = stand.0 in cc)
chosen g n (u ∷ us) [] up stand none =
    (λ i. none n u (omega arith) refl i ++ flat_map g (enumerate_from (n + 1) us)) ∙ chosen g (n + 1) us [] refl tt (λ m v le h. none m v (omega (arith, le)) h)
chosen g n (u ∷ us) (p ∷ ps) up stand none = by (nat_eq p.0 n) refl (λ up' stand' none'. chosen g (n + 1) us ps up' stand' none') (λ up' stand' none'. chosen g (n + 1) us (p ∷ ps) up' stand' none')
  where
    least : n ≤ p.0
    least = least-of n p.0 (and_left (nat_le n p.0) (ascends_from (suc p.0) (numbers_of ps)) up)

    later : ascends_from (suc p.0) (numbers_of ps) ≡ true
    later = and_right (nat_le n p.0) (ascends_from (suc p.0) (numbers_of ps)) up

    by : (b : Bool) → nat_eq p.0 n ≡ b → IsChosen g (n + 1) us ps → IsChosen g (n + 1) us (p ∷ ps) → flat_map g ((n, u) ∷ enumerate_from (n + 1) us) ≡ flat_map g (p ∷ ps)
    by true e rest whole =
        let here : p.0 ≡ n = eq-of p.0 n e in
        let zeroth : p.0 - n ≡ 0 = omega (arith, here) in
        let unit : Some u ≡ Some p.1 = (λ i. slice_get (u ∷ us) (sym zeroth i)) ∙ stand.0 in
        let one : u ≡ p.1 = cc in
        let up' : ascends_from (n + 1) (numbers_of ps) ≡ true = (let next : n + 1 ≡ suc p.0 = omega (arith, here) in λ i. ascends_from (next i) (numbers_of ps)) ∙ later in
        (λ i. g (sym here i, one i) ++ rest up' (stand-next n (n + 1) u us ps (omega arith) up' stand.1)
        (λ m v le h. none m v (omega (arith, le)) ((λ k. other m le k || h k))) i)
      where
        other : (m : ℕ) → n + 1 ≤ m → nat_eq p.0 m ≡ false
        other m le = (let here : p.0 ≡ n = eq-of p.0 n e in below p.0 m (omega (arith, here, le)))
    by false e rest whole =
        let more_than : n < p.0 = beyond n p.0 least e in
        let up' : ascends_from (n + 1) (numbers_of (p ∷ ps)) ≡ true = (λ i. le-true (n + 1) p.0 (omega (arith, more_than)) i && later i) in
        (λ i. none n u (omega arith) (none-below n (n + 1) (p ∷ ps) (omega arith) up') i ++ flat_map g (enumerate_from (n + 1) us))
        ∙ whole up' (stand-next n (n + 1) u us (p ∷ ps) (omega arith) up' stand) (λ m v le h. none m v (omega (arith, le)) h)
      where
        beyond : (a b : ℕ) → a ≤ b → nat_eq b a ≡ false → a < b
        beyond a b le other = search (rules, le, other)
