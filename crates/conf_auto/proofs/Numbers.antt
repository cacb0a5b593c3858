-- The number of runs may be counted no further than one over the most.
use Rattle.std.proofs.Common.{◌≡◌, ◌∙◌, ◌≤◌, ◌<◌, ap, ◌+◌, ◌-◌, refl, sym, arith, ℕ, zero, suc, min, Bool, true, false, cond, List, length, Some, None, Option, inl, inr}
use Rattle.std.specs.Prelude.{not, option_map, option_and_then}
use Rattle.std.specs.List.{find, range_with_len}
use Rattle.ha_config.specs.declared.config.Automation.{Automation}
use Rattle.std.proofs.lemmas.Bool.{cases_lt}
use Rattle.std.proofs.lemmas.Bool.Decides.{nat_tests}
use Rattle.ha_clock.specs.SpanText.{number_of}
use Rattle.conf_field.specs.Kinds.{counted, within}
use Rattle.conf_auto.specs.Automations.{most_of}
use Rattle.conf_auto.specs.Names.{is_taken, numbered}

too_many : (n : ℕ) → 1_001 ≤ n → within 1 1_000 n ≡ None
too_many n h = grind (arith, nat_tests, h)

capped : (n : ℕ) → within 1 1_000 (min 1_001 n) ≡ within 1 1_000 n
capped n = elim (cases_lt n 1_001) [
  | inl lt ↦ ap (within 1 1_000) (let e : min 1_001 n ≡ n = omega arith in e)
  | inr le ↦ ap (within 1 1_000) (let e : min 1_001 n ≡ 1_001 = omega arith in e) ∙ sym (too_many n le)
]

pub most_counted : (text : List ℕ) → option_and_then (within 1 1_000) (counted 1_001 text) ≡ most_of text
most_counted text = by (number_of text)
  where
    by : (o : Option ℕ) → option_and_then (within 1 1_000) (option_map (min 1_001) o) ≡ option_and_then (within 1 1_000) o
    by None = refl
    by (Some n) = capped n

-- ---- the first free number

range_step : (test : ℕ → Bool) (a n : ℕ) → 0 < n → find test (range_with_len a n) ≡ cond (test a) (Some a) (find test (range_with_len (a + 1) (n - 1)))
range_step test a zero h = absurd (omega arith)
range_step test a (suc n) h =
    let down : n ≡ suc n - 1 = omega arith in
    λ i. cond (test a) (Some a) (find test (range_with_len (a + 1) (down i)))

module _ (all : List Automation) (name : List ℕ) (k : ℕ) (within : k < length all + 1) where
  abbrev free : ℕ → Bool
  free n = not (is_taken all (numbered name n))

  abbrev from : ℕ → Option ℕ
  from i = find free (range_with_len (i + 2) (length all + 1 - i))

  step : from k ≡ cond (free (k + 2)) (Some (k + 2)) (from (k + 1))
  step =
      range_step free (k + 2) (length all + 1 - k) (omega arith)
      ∙ (let up : k + 2 + 1 ≡ k + 1 + 2 = omega arith in
      let down : length all + 1 - k - 1 ≡ length all + 1 - (k + 1) = omega arith in
      λ i. cond (free (k + 2)) (Some (k + 2)) (find free (range_with_len (up i) (down i))))

  pub number_here : is_taken all (numbered name (k + 2)) ≡ false → from k ≡ Some (k + 2)
  number_here h = step ∙ ap (λ b. cond (not b) (Some (k + 2)) (from (k + 1))) h

  pub number_further : is_taken all (numbered name (k + 2)) ≡ true → from k ≡ from (k + 1)
  number_further h = step ∙ ap (λ b. cond (not b) (Some (k + 2)) (from (k + 1))) h

pub none_left : (all : List Automation) (name : List ℕ) (k : ℕ) → length all + 1 ≤ k → find (λ n. not (is_taken all (numbered name n))) (range_with_len (k + 2) (length all + 1 - k)) ≡ None
none_left all name k le =
    let empty : length all + 1 - k ≡ 0 = omega arith in
    ap (λ n. find (λ m. not (is_taken all (numbered name m))) (range_with_len (k + 2) n)) empty
