-- When automations last triggered, with one run more.
use Rattle.std.proofs.Common.{◌≡◌, ℕ, zero, suc, ◌+◌, ◌-◌, ◌<◌, ◌≤◌, List, [], ◌∷◌, length, drop, refl, sym, ap, ◌∙◌, arith}
use Rattle.std.specs.Prelude.{slice_get, Option, option_map}
use Rattle.ha_model.specs.declared.record.Record.{Record}
use Rattle.ha_model.specs.Records.{Records}
use Rattle.named_runs.specs.Named.{first_in}
use Rattle.ha_engine.specs.Noted.{noted, noted_if}

abbrev whose : List ℕ → Record → ℕ
whose firsts r = first_in firsts r.automation

-- the run at the place
here : (at p : ℕ) (firsts : List ℕ) (rs : Records) (ls : List (Option ℕ)) → p < length rs → noted at firsts (drop p rs) ls ≡ noted at firsts (drop (suc p) rs) (noted_if at (option_map (whose firsts) (slice_get rs p)) ls)
here at p firsts [] ls lt = absurd (omega (arith, lt))
here at zero firsts (r ∷ rs) ls lt = refl
here at (suc p) firsts (r ∷ rs) ls lt = here at p firsts rs ls (omega (arith, lt))

-- LAW: with those of the runs behind a place, where the one at the place is told first
pub noted-step : (at p : ℕ) (firsts : List ℕ) (rs : Records) (ls ls' : List (Option ℕ)) (a : Option ℕ) → p < length rs
    → a ≡ option_map (λ (r : Record). first_in firsts r.automation) (slice_get rs (p + 1 - 1)) → ls' ≡ noted_if at a ls → noted at firsts (drop (p + 1) rs) ls' ≡ noted at firsts (drop p rs) ls
noted-step at p firsts rs ls ls' a lt a_is is =
    let more : p + 1 ≡ suc p = omega arith in
    let less : p + 1 - 1 ≡ p = omega arith in
    (λ i. noted at firsts (drop (more i) rs) (is i))
    ∙ (λ i. noted at firsts (drop (suc p) rs) (noted_if at ((a_is ∙ ap (λ q. option_map (whose firsts) (slice_get rs q)) less) i) ls))
    ∙ sym (here at p firsts rs ls lt)

pub noted-none : (at : ℕ) (firsts : List ℕ) (rs : Records) (p : ℕ) (ls : List (Option ℕ)) → length rs ≤ p → noted at firsts (drop p rs) ls ≡ ls
noted-none at firsts [] zero ls le = refl
noted-none at firsts [] (suc p) ls le = refl
noted-none at firsts (r ∷ rs) zero ls le = absurd (omega (arith, le))
noted-none at firsts (r ∷ rs) (suc p) ls le = noted-none at firsts rs p ls (omega (arith, le))
