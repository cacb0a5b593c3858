-- Words, blanks and the next byte.
use Rattle.std.proofs.Common.{◌≡◌, ℕ, suc, ◌≤◌, true, false, cond, List, [], ◌∷◌, ◌++◌, length, drop, Some, None, Ok, Err, refl, ap, ◌∙◌, arith, length-append, inl, inr}
use Rattle.std.specs.Prelude.{◌==◌}
use Rattle.std.specs.Char.{is_ascii_digit}
use Rattle.std.proofs.lemmas.Bool.{eqb-true}
use Rattle.reading.specs.declared.fault.Bad.{Bad}
use Rattle.reading.specs.Answer.{stop, front}
use Rattle.reading.specs.Bytes.{is_blank, skip, skip_digits, sees, expect}
use Rattle.reading.proofs.Basics.{ok_parts, chosen, stop_left}

pub sees_front : (b : ℕ) (t : List ℕ) → sees b t ≡ true → t ≡ b ∷ drop 1 t
sees_front b [] e = absurd cc
sees_front b (first ∷ t) e = ap (λ (x : ℕ). x ∷ t) (eqb-true first b e)

pub nothing_at : {T : Type 0} (other : List T) → front other ≡ None → other ≡ []
nothing_at [] h = refl
nothing_at (b ∷ other) h = absurd cc

pub token_at : {T : Type 0} (b : T) (other : List T) → front other ≡ Some b → other ≡ b ∷ drop 1 other
token_at b [] h = absurd cc
token_at {T} b (c ∷ other) h = let e : c ≡ b = cc in ap (λ (x : T). x ∷ other) e

pub length-skip : (t : List ℕ) → length (skip t) ≤ length t
unfolding skip
length-skip [] = omega arith
length-skip (b ∷ t) = elim (is_blank b) as (λ x. length (cond x (skip t) (b ∷ t)) ≤ suc (length t)) [ true ↦ omega (arith, length-skip t) | false ↦ omega arith ]

pub length-skip_digits : (t : List ℕ) → length (skip_digits t) ≤ length t
unfolding skip_digits
length-skip_digits [] = omega arith
length-skip_digits (b ∷ t) = elim (is_ascii_digit b) as (λ x. length (cond x (skip_digits t) (b ∷ t)) ≤ suc (length t)) [ true ↦ omega (arith, length-skip_digits t) | false ↦ omega arith ]

pub length-drop_one : {T : Type 0} (t : List T) → length (drop 1 t) ≤ length t
length-drop_one [] = omega arith
length-drop_one (b ∷ t) = omega arith

-- a byte that is no blank stays
pub skip_none : (b : ℕ) (t : List ℕ) → is_blank b ≡ false → skip (b ∷ t) ≡ b ∷ t
unfolding skip
skip_none b t h = rw h refl

module _ {C : Type 0} (code : C) where
  pub expect_found : (ws t : List ℕ) (u : Unit {0}) (rest : List ℕ) → expect code ws t ≡ Ok (u, rest) → t ≡ ws ++ rest
  unfolding expect
  expect_found [] t u rest e = (ok_parts {F = Bad C} (tt, t) (u, rest) e).1
  expect_found (w ∷ ws) [] u rest e = absurd cc
  expect_found (w ∷ ws) (b ∷ t) u rest e =
      elim (chosen (b == w) (expect code ws t) (stop code (b ∷ t)) (Ok (u, rest)) e) [
        | inl h ↦ let same : b ≡ w = eqb-true b w h.0 in let tail = expect_found ws t u rest h.1 in cc
        | inr h ↦ absurd cc
      ]

  pub expect_longer : (ws t : List ℕ) (u : Unit {0} × List ℕ) → expect code ws t ≡ Ok u → length u.1 ≤ length t
  expect_longer ws t u e = omega (arith, ap length (expect_found ws t u.0 u.1 e), length-append ws u.1)

  -- where a word stops, its front is there
  pub expect_open : (ws t : List ℕ) (f : Bad C) → expect code ws t ≡ Err f → (a : List ℕ) × (b : List ℕ) × (rest : List ℕ) × (ws ≡ a ++ b) × (t ≡ a ++ rest) × (f.left ≡ length rest)
  unfolding expect
  expect_open [] t f e = absurd cc
  expect_open (w ∷ ws) [] f e = ([], w ∷ ws, [], refl, refl, stop_left {T = ℕ} {A = Unit {0}} code [] f e)
  expect_open (w ∷ ws) (b ∷ t) f e =
      elim (chosen (b == w) (expect code ws t) (stop code (b ∷ t)) (Err f) e) [
        | inl h ↦
            let l = expect_open ws t f h.1 in
            (w ∷ l.0, l.1, l.2, ap (λ (u : List ℕ). w ∷ u) l.3, (let same : b ≡ w = eqb-true b w h.0 in ap (λ (u : List ℕ). b ∷ u) l.4 ∙ ap (λ (x : ℕ). x ∷ (l.0 ++ l.2)) same), l.5)
        | inr h ↦ ([], w ∷ ws, b ∷ t, refl, refl, stop_left {T = ℕ} {A = Unit {0}} code (b ∷ t) f h.1)
      ]

  -- one byte
  pub byte_left : (w : ℕ) (t : List ℕ) (f : Bad C) → expect code (w ∷ []) t ≡ Err f → f.left ≡ length t
  unfolding expect
  byte_left w [] f e = stop_left {T = ℕ} {A = Unit {0}} code [] f e
  byte_left w (b ∷ t) f e =
      elim (chosen (b == w) (Ok (tt, t)) (stop code (b ∷ t)) (Err f) e) [
        | inl h ↦ absurd (let k = h.1 in cc)
        | inr h ↦ stop_left {T = ℕ} {A = Unit {0}} code (b ∷ t) f h.1
      ]
