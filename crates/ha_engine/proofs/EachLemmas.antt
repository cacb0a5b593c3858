-- What is done for each unit that a test picks, one after the other.
use Rattle.std.proofs.Common.{◌≡◌, ℕ, zero, suc, ◌+◌, ◌-◌, ◌<◌, ◌≤◌, List, [], ◌∷◌, ◌++◌, length, filter, drop, get_or, Bool, true, false, refl, sym, ap, ◌∙◌, arith}
use Rattle.std.specs.Prelude.{fold, replicate, slice_set, if◌then◌else◌}
use Rattle.ha_config.specs.Words.{numbers_from, up_to}
use Rattle.ha_engine.specs.Reloads.{marked, unmarked}

-- ---- by a test of numbers

-- of so many units those from n on that the test picks
abbrev pub rest_of : (ℕ → Bool) → ℕ → ℕ → List ℕ
rest_of test count n = filter test (numbers_from n (count - n))

pub rest-all : (test : ℕ → Bool) (count : ℕ) → rest_of test count 0 ≡ filter test (up_to count)
rest-all test count = (let e : count - 0 ≡ count = omega arith in λ i. filter test (numbers_from 0 (e i)))

module _ {X : Type 0} (f : X → ℕ → X) where
  -- LAW: what was done for one more
  pub rest-step : (test : ℕ → Bool) (count n : ℕ) (old new : X) → n < count → new ≡ (if test n then f old n else old) → fold f new (rest_of test count (n + 1)) ≡ fold f old (rest_of test count n)
  rest-step test count n old new lt is =
      let e : count - n ≡ suc (count - (n + 1)) = omega (arith, lt) in
      (λ i. fold f (is i) (rest_of test count (n + 1)))
      ∙ by (test n)
      ∙ (λ i. fold f old (filter test (numbers_from n (sym e i))))
    where
      by : (b : Bool) → fold f (if b then f old n else old) (rest_of test count (n + 1)) ≡ fold f old (if b then n ∷ rest_of test count (n + 1) else rest_of test count (n + 1))
      by true = refl
      by false = refl

  -- LAW: none is left
  pub rest-done : (test : ℕ → Bool) (count n : ℕ) (old : X) → count ≤ n → fold f old (rest_of test count n) ≡ old
  rest-done test count n old le = (let e : count - n ≡ 0 = omega (arith, le) in λ i. fold f old (filter test (numbers_from n (e i))))

  -- ---- by marks

  unmarked-here : (marks : List Bool) (n at : ℕ) (d : Bool) (old : X) → at < length marks
      → fold f (if get_or marks at d then old else f old (n + at)) (unmarked (n + (at + 1)) (drop (at + 1) marks)) ≡ fold f old (unmarked (n + at) (drop at marks))
  unmarked-here [] n at d old lt = absurd (omega (arith, lt))
  unmarked-here (m ∷ ms) n zero d old lt =
      (let more : n + (0 + 1) ≡ suc n = omega arith in
      let here : n + 0 ≡ n = omega arith in
      (λ i. fold f (if m then old else f old (here i)) (unmarked (more i) ms)) ∙ by m ∙ (λ i. fold f old (unmarked (sym here i) (m ∷ ms))))
    where
      by : (b : Bool) → fold f (if b then old else f old n) (unmarked (suc n) ms) ≡ fold f old (if b then unmarked (suc n) ms else n ∷ unmarked (suc n) ms)
      by true = refl
      by false = refl
  unmarked-here (m ∷ ms) n (suc at) d old lt =
      (let here : n + suc at ≡ suc n + at = omega arith in
      let more : n + (suc at + 1) ≡ suc n + (at + 1) = omega arith in
      let next : suc at + 1 ≡ suc (at + 1) = omega arith in
      (λ i. fold f (if get_or ms at d then old else f old (here i)) (unmarked (more i) (drop (next i) (m ∷ ms))))
      ∙ unmarked-here ms (suc n) at d old (omega (arith, lt))
      ∙ (λ i. fold f old (unmarked (sym here i) (drop at ms))))

  -- LAW: what was done for one more that has no mark
  pub unmarked-step : (marks : List Bool) (at : ℕ) (d m : Bool) (old new : X) → at < length marks → m ≡ get_or marks at d → new ≡ (if m then old else f old at)
      → fold f new (unmarked (at + 1) (drop (at + 1) marks)) ≡ fold f old (unmarked at (drop at marks))
  unmarked-step marks at d m old new lt m_is is =
      (λ i. fold f ((is ∙ (λ k. if m_is k then old else f old at)) i) (unmarked (at + 1) (drop (at + 1) marks)))
      ∙ (let zero-on : at ≡ 0 + at = omega arith in
      let zero-more : at + 1 ≡ 0 + (at + 1) = omega arith in
      (λ i. fold f (if get_or marks at d then old else f old (zero-on i)) (unmarked (zero-more i) (drop (at + 1) marks)))
      ∙ unmarked-here marks 0 at d old lt
      ∙ (λ i. fold f old (unmarked (sym zero-on i) (drop at marks))))

  pub unmarked-done : (marks : List Bool) (at : ℕ) (old : X) → length marks ≤ at → fold f old (unmarked at (drop at marks)) ≡ old
  unmarked-done marks at old le = (λ i. fold f old (unmarked at (none marks at le i)))
    where
      none : (ms : List Bool) (n : ℕ) → length ms ≤ n → drop n ms ≡ []
      none [] zero le = refl
      none [] (suc n) le = refl
      none (m ∷ ms) zero le = absurd (omega (arith, le))
      none (m ∷ ms) (suc n) le = none ms n (omega (arith, le))

-- ---- the marks

replicate-more : (n : ℕ) → replicate n false ++ (false ∷ []) ≡ replicate (suc n) false
replicate-more zero = refl
replicate-more (suc n) = ap (λ l. false ∷ l) (replicate-more n)

-- LAW: one place more that has no mark
pub unmarked-more : (n : ℕ) (old new : List Bool) → old ≡ replicate n false → new ≡ old ++ (false ∷ []) → new ≡ replicate (n + 1) false
unmarked-more n old new before is = is ∙ ap (λ l. l ++ (false ∷ [])) before ∙ replicate-more n ∙ (let e : suc n ≡ n + 1 = omega arith in λ i. replicate (e i) false)

marked-here : (ns : List ℕ) (i n : ℕ) (marks : List Bool) → i < length ns → n ≡ get_or ns i n → marked (drop i ns) marks ≡ marked (drop (i + 1) ns) (slice_set marks n true)
marked-here [] i n marks lt is = absurd (omega (arith, lt))
marked-here (m ∷ ns) zero n marks lt is = (λ k. marked ns (slice_set marks (sym is k) true))
marked-here (m ∷ ns) (suc i) n marks lt is =
    marked-here ns i n marks (omega (arith, lt)) is ∙ (let next : suc i + 1 ≡ suc (i + 1) = omega arith in λ k. marked (drop (sym next k) (m ∷ ns)) (slice_set marks n true))

-- LAW: with one mark more
pub marked-step : (ns : List ℕ) (i n : ℕ) (old new : List Bool) → i < length ns → n ≡ get_or ns i n → new ≡ slice_set old n true → marked (drop (i + 1) ns) new ≡ marked (drop i ns) old
marked-step ns i n old new lt is made = (λ k. marked (drop (i + 1) ns) (made k)) ∙ sym (marked-here ns i n old lt is)

-- LAW: all are marked
pub marked-done : (ns : List ℕ) (i : ℕ) (marks : List Bool) → length ns ≤ i → marked (drop i ns) marks ≡ marks
marked-done [] zero marks le = refl
marked-done [] (suc i) marks le = refl
marked-done (n ∷ ns) zero marks le = absurd (omega (arith, le))
marked-done (n ∷ ns) (suc i) marks le = marked-done ns i marks (omega (arith, le))
