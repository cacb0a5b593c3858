-- The parts of a span may be counted no further than one over the longest span: the sum is then over it as well, and if it is
-- not, each part is counted as it is.
use Rattle.std.proofs.Common.{◌≡◌, ◌∙◌, ◌≤◌, ◌<◌, ap, refl, sym, arith, ℕ, min, nat_lt, Bool, true, false, Some, None, Ok, Err, if◌then◌else◌, inl, inr, ◌⊎◌}
use Rattle.std.proofs.lemmas.Bool.{cases_lt, lt-ltb, ltb-false}
use Rattle.ha_clock.specs.Local.{last_span}
use Rattle.yaml_scan.specs.declared.fault.Code.TheVariants as code
use Rattle.conf_field.specs.Readings.{Read, both, made, unless, bad, fault}
use Rattle.conf_field.specs.Spans.{total, or_zero, parts}
use Rattle.conf_field.specs.Capped.{cap, at_cap, bounded}

-- ---- sums

bigger : (n : ℕ) → (min cap n ≡ n) ⊎ (min cap n ≡ cap)
bigger n = elim (cases_lt cap n) [ inl lt ↦ inr (omega arith) | inr le ↦ inl (omega arith) ]

same_part : (n : ℕ) → n ≤ last_span → min cap n ≡ n
same_part n le = omega arith

module _ (d h m s ms : ℕ) where
  abbrev sum : ℕ
  sum = total d h m s ms

  abbrev capped_sum : ℕ
  capped_sum = total (min cap d) (min cap h) (min cap m) (min cap s) (min cap ms)

  stays_over : last_span < sum → last_span < capped_sum
  stays_over lt =
      elim (bigger d) [
        | inr e ↦ omega arith
        | inl d-is ↦
            elim (bigger h) [
              | inr e ↦ omega arith
              | inl h-is ↦
                  elim (bigger m) [
                    | inr e ↦ omega arith
                    | inl m-is ↦
                        elim (bigger s) [
                          | inr e ↦ omega arith
                          | inl s-is ↦
                              elim (bigger ms) [ inr e ↦ omega arith | inl ms-is ↦ omega (arith, d-is, h-is, m-is, s-is, ms-is, lt) ]
                        ]
                  ]
            ]
      ]

  stays_same : sum ≤ last_span → capped_sum ≡ sum
  stays_same le =
      let d-is = same_part d (omega arith) in
      let h-is = same_part h (omega arith) in
      let m-is = same_part m (omega arith) in
      let s-is = same_part s (omega arith) in
      let ms-is = same_part ms (omega arith) in
      λ k. total (d-is k) (h-is k) (m-is k) (s-is k) (ms-is k)

  same_test : nat_lt last_span capped_sum ≡ nat_lt last_span sum
  same_test = elim (cases_lt last_span sum) [
    | inl lt ↦ lt-ltb last_span capped_sum (stays_over lt) ∙ sym (lt-ltb last_span sum lt)
    | inr le ↦ ap (nat_lt last_span) (stays_same le)
  ]

-- ---- readings

both_made : {A B C D : Type 0} (f : A → C) (g : B → D) (a : Read A) (b : Read B) → both (made f a) (made g b) ≡ made (λ p. (f p.0, g p.1)) (both a b)
both_made f g (Ok a) (Ok b) = refl
both_made f g (Ok a) (Err e) = refl
both_made f g (Err e) (Ok b) = refl
both_made f g (Err e) (Err e') = refl

-- two functions of a pair agree where they do once the first part is known
agree_behind : {A B C : Type 0} (f g : A × B → C) (a : Read A) (b : Read B)
    → ((x : A) → a ≡ Ok x → made (λ y. f (x, y)) b ≡ made (λ y. g (x, y)) b) → made f (both a b) ≡ made g (both a b)
agree_behind f g (Ok x) (Ok y) h = h x refl
agree_behind f g (Ok x) (Err e) h = refl
agree_behind f g (Err e) (Ok y) h = refl
agree_behind f g (Err e) (Err e') h = refl

agree : {A C : Type 0} (f g : A → C) (a : Read A) → ((x : A) → a ≡ Ok x → f x ≡ g x) → made f a ≡ made g a
agree f g (Ok x) h = ap Ok (h x refl)
agree f g (Err e) h = refl

abbrev Five : Type 0
Five = ℕ × (ℕ × (ℕ × (ℕ × ℕ)))

abbrev five : Read ℕ → Read ℕ → Read ℕ → Read ℕ → Read ℕ → Read Five
five d h m s ms = both d (both h (both m (both s ms)))

abbrev sum_of : Five → ℕ
sum_of x = total x.0 x.1.0 x.1.1.0 x.1.1.1.0 x.1.1.1.1

abbrev capped_five : Five → Five
capped_five x = (min cap x.0, (min cap x.1.0, (min cap x.1.1.0, (min cap x.1.1.1.0, min cap x.1.1.1.1))))

-- the sum of parts that are all there
sum_known : (d h m s ms : Read ℕ) → made sum_of (five d h m s ms) ≡ made (λ x. total (or_zero d) (or_zero h) (or_zero m) (or_zero s) (or_zero ms)) (five d h m s ms)
sum_known d h m s ms =
    let all : ℕ = total (or_zero d) (or_zero h) (or_zero m) (or_zero s) (or_zero ms) in
    agree_behind sum_of (λ x. all) d (both h (both m (both s ms))) (λ a d-is.
    agree_behind (λ y. sum_of (a, y)) (λ y. all) h (both m (both s ms)) (λ b h-is.
    agree_behind (λ y. sum_of (a, (b, y))) (λ y. all) m (both s ms) (λ c m-is.
    agree_behind (λ y. sum_of (a, (b, (c, y)))) (λ y. all) s ms (λ e s-is.
    agree (λ y. sum_of (a, (b, (c, (e, y))))) (λ y. all) ms (λ f ms-is.
    λ k. total (or_zero (sym d-is k)) (or_zero (sym h-is k)) (or_zero (sym m-is k)) (or_zero (sym s-is k)) (or_zero (sym ms-is k)))))))

-- one limit, by whether it is passed
limited : {A B : Type 0} (over : Bool) (line n k : ℕ) (f : A → ℕ) (g : A → B) (r : Read A)
    → (over ≡ false → k ≡ n) → made f r ≡ made (λ x. n) r
    → made (λ x. f x.1) (both (unless (if over then Some (fault line code.Time) else None)) r)
    ≡ made (λ x. x.0) (both (if over then bad line code.Time else Ok k) (made g r))
limited true line n k f g (Ok x) e h = refl
limited true line n k f g (Err x) e h = refl
limited false line n k f g (Ok x) e h = h ∙ ap Ok (sym (e refl))
limited false line n k f g (Err x) e h = refl

zero_at_cap : (r : Read ℕ) → or_zero (at_cap r) ≡ min cap (or_zero r)
zero_at_cap (Ok n) = refl
zero_at_cap (Err e) = refl

module _ (line : ℕ) (d h m s ms : Read ℕ) where
  abbrev exact_sum : ℕ
  exact_sum = total (or_zero d) (or_zero h) (or_zero m) (or_zero s) (or_zero ms)

  abbrev weighed : ℕ
  weighed = total (or_zero (at_cap d)) (or_zero (at_cap h)) (or_zero (at_cap m)) (or_zero (at_cap s)) (or_zero (at_cap ms))

  weighed_is : weighed ≡ capped_sum (or_zero d) (or_zero h) (or_zero m) (or_zero s) (or_zero ms)
  weighed_is = λ k. total (zero_at_cap d k) (zero_at_cap h k) (zero_at_cap m k) (zero_at_cap s k) (zero_at_cap ms k)

  over_is : nat_lt last_span weighed ≡ nat_lt last_span exact_sum
  over_is = ap (nat_lt last_span) weighed_is ∙ same_test (or_zero d) (or_zero h) (or_zero m) (or_zero s) (or_zero ms)

  within_is : nat_lt last_span exact_sum ≡ false → weighed ≡ exact_sum
  within_is e = weighed_is ∙ stays_same (or_zero d) (or_zero h) (or_zero m) (or_zero s) (or_zero ms) (ltb-false last_span exact_sum e)

  five_capped : five (at_cap d) (at_cap h) (at_cap m) (at_cap s) (at_cap ms) ≡ made capped_five (five d h m s ms)
  five_capped =
      ap (λ x. both (at_cap d) (both (at_cap h) (both (at_cap m) x))) (both_made (min cap) (min cap) s ms)
      ∙ ap (λ x. both (at_cap d) (both (at_cap h) x)) (both_made (min cap) _ m (both s ms))
      ∙ ap (λ x. both (at_cap d) x) (both_made (min cap) _ h (both m (both s ms)))
      ∙ both_made (min cap) _ d (both h (both m (both s ms)))

  pub parts_capped : parts line d h m s ms ≡ made (λ x. x.0) (both (bounded line weighed) (five (at_cap d) (at_cap h) (at_cap m) (at_cap s) (at_cap ms)))
  parts_capped =
      limited (nat_lt last_span exact_sum) line exact_sum weighed sum_of capped_five (five d h m s ms) within_is (sum_known d h m s ms)
      ∙ (λ k. made (λ x. x.0) (both (if sym over_is k then bad line code.Time else Ok weighed) (sym five_capped k)))
