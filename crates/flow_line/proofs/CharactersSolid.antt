-- Characters look at nothing behind them, and one that was begun can be ended.
use Rattle.std.proofs.Common.{◌≡◌, ℕ, ◌+◌, ◌*◌, ◌≤◌, Bool, true, false, cond, not, ◌&&◌, List, [], ◌∷◌, ◌++◌, Option, Some, None, Ok, Err, refl, sym, ap, subst, ◌∙◌, arith, inl, inr}
use Rattle.std.specs.Prelude.{◌==◌, codes}
use Rattle.std.specs.Char.Utf16.{surrogate_pair_char}
use Rattle.std.proofs.lemmas.Bool.{cond-true, cond-false}
use Rattle.reading.specs.Answer.{◌>>=◌, Answer, front}
use Rattle.reading.specs.Bytes.{expect}
use Rattle.reading.specs.Characters.{character as utf8_character}
use Rattle.reading.proofs.Basics.{chosen_is}
use Rattle.reading.proofs.Characters.{ascii_read, none_read, character_solid as utf8_solid}
use Rattle.reading.proofs.Solid.{Taken, Halted, IsSolid, Solid, bind_solid, ok_solid, chosen_solid, behind, halts_at, halts_at_end, one_solid, expect_solid, alike_solid}
use Rattle.flow_line.specs.declared.fault.Code.TheVariants.{Syntax}
use Rattle.flow_line.specs.Bytes.{is_in, stands_as_is, hex_value, unescaped}
use Rattle.flow_line.specs.Text.{Reads, hex_in, high_digits, unit, unicode, short_escape, escape, character}
use Rattle.flow_line.specs.Grammar.{IsCharacter}
use Rattle.flow_line.proofs.ByteRanges.{Fault}
use Rattle.flow_line.proofs.Characters.{character_found}
use Rattle.flow_line.proofs.CharactersRead.{hex_read, character_read}

-- ---- escapes

-- a digit with the least value stands for it
hex_solid : (low high d : ℕ) → hex_value d ≡ low → low ≤ high → Solid Syntax (λ t. hex_in low high (front t) t)
hex_solid low high d e h = one_solid (λ t. hex_in low high (front t) t) Syntax (d ∷ []) (hex_value d) (λ other. hex_read low high d other (omega (arith, e)) (omega (arith, e))) refl
    (λ b. elim (chosen_is (is_in low high (hex_value b))) [ inl k ↦ inl (hex_value b, λ u. cond-true (is_in low high (hex_value b)) _ _ k) | inr k ↦ inr (λ u. cond-false (is_in low high (hex_value b)) _ _ k) ])

first_digit : (low : Bool) → hex_value (cond low 100 48) ≡ cond low 13 0
first_digit true = refl
first_digit false = refl

first_range : (low : Bool) → cond low 13 0 ≤ cond low 13 15
first_range true = omega arith
first_range false = omega arith

next_digit : (low : Bool) → hex_value (cond low 99 48) ≡ cond low 12 0
next_digit true = refl
next_digit false = refl

next_range : (c low : Bool) → cond low 12 0 ≤ cond (c && not low) 11 15
next_range true true = omega arith
next_range true false = omega arith
next_range false true = omega arith
next_range false false = omega arith

high_solid : (low : Bool) → Solid Syntax (high_digits low)
unfolding high_digits
high_solid low =
    bind_solid Syntax (λ t. hex_in (cond low 13 0) (cond low 13 15) (front t) t) (λ a u. hex_in (cond low 12 0) (cond (a == 13 && not low) 11 15) (front u) u >>= λ b. Ok (a * 16 + b.0, b.1))
    (hex_solid (cond low 13 0) (cond low 13 15) (cond low 100 48) (first_digit low) (first_range low))
    (λ a. bind_solid Syntax (λ t. hex_in (cond low 12 0) (cond (a == 13 && not low) 11 15) (front t) t) (λ b u. Ok (a * 16 + b, u)) (hex_solid (cond low 12 0) (cond (a == 13 && not low) 11 15) (cond low 99 48) (next_digit low) (next_range (a == 13) low)) (λ b. ok_solid ℕ Syntax (a * 16 + b)))

digit_solid : Solid Syntax (λ t. hex_in 0 15 (front t) t)
digit_solid = hex_solid 0 15 48 refl (omega arith)

unit_solid : (low : Bool) → Solid Syntax (unit low)
unfolding unit
unit_solid low =
    bind_solid Syntax (high_digits low) (λ h u. hex_in 0 15 (front u) u >>= λ c. hex_in 0 15 (front c.1) c.1 >>= λ d. Ok (h * 256 + c.0 * 16 + d.0, d.1)) (high_solid low)
    (λ h. bind_solid Syntax (λ t. hex_in 0 15 (front t) t) (λ c u. hex_in 0 15 (front u) u >>= λ d. Ok (h * 256 + c * 16 + d.0, d.1)) digit_solid
    (λ c. bind_solid Syntax (λ t. hex_in 0 15 (front t) t) (λ d u. Ok (h * 256 + c * 16 + d, u)) digit_solid (λ d. ok_solid ℕ Syntax (h * 256 + c * 16 + d))))

unicode_solid : Solid Syntax unicode
unfolding unicode
unicode_solid =
    bind_solid Syntax (unit false) (λ u r. cond (is_in 0xD800 0xDBFF u) (expect Syntax (codes "\\u") r >>= λ mark. unit true mark.1 >>= λ half. Ok (surrogate_pair_char u half.0, half.1)) (Ok (u, r))) (unit_solid false)
    (λ u. chosen_solid Syntax (λ r. expect Syntax (codes "\\u") r >>= λ mark. unit true mark.1 >>= λ half. Ok (surrogate_pair_char u half.0, half.1)) (λ r. Ok (u, r))
    (bind_solid Syntax (expect Syntax (codes "\\u")) (λ _ r. unit true r >>= λ half. Ok (surrogate_pair_char u half.0, half.1)) (expect_solid Syntax (codes "\\u"))
    (λ _. bind_solid Syntax (unit true) (λ half r. Ok (surrogate_pair_char u half, r)) (unit_solid true) (λ half. ok_solid ℕ Syntax (surrogate_pair_char u half))))
    (ok_solid ℕ Syntax u) (is_in 0xD800 0xDBFF u))

-- behind a backslash
escaped : Reads ℕ
escaped t = escape (front t) t

short_solid : (b : ℕ) (t : List ℕ) (o : Option ℕ) → unescaped b ≡ o → ((u : List ℕ) → escaped (b ∷ u) ≡ short_escape (unescaped b) (b ∷ u)) → IsSolid Syntax escaped (b ∷ t) (short_escape o (b ∷ t))
unfolding escaped
short_solid b t None e same = halts_at escaped Syntax (110 ∷ []) 10 (λ other. refl) b t (λ u. same u ∙ ap (λ (o : Option ℕ). short_escape o (b ∷ u)) e)
short_solid b t (Some c) e same = record { taken = b ∷ []; parts = refl; again = λ other. same other ∙ ap (λ (o : Option ℕ). short_escape o (b ∷ other)) e }

escape_solid : Solid Syntax escaped
unfolding Solid escaped
escape_solid [] = halts_at_end escaped Syntax (110 ∷ []) 10 (λ other. refl) refl
escape_solid (b ∷ t) = elim (chosen_is (b == 117)) [
  | inl h ↦ subst (λ (a : Answer ℕ Fault ℕ). IsSolid Syntax escaped (b ∷ t) a) (sym (cond-true (b == 117) _ _ h)) (behind Syntax unicode escaped b t (λ u. cond-true (b == 117) _ _ h) (unicode t) (unicode_solid t))
  | inr h ↦ subst (λ (a : Answer ℕ Fault ℕ). IsSolid Syntax escaped (b ∷ t) a) (sym (cond-false (b == 117) _ _ h)) (short_solid b t (unescaped b) refl (λ u. cond-false (b == 117) _ _ h))
]

-- ---- characters

pub letter : (other : List ℕ) → character (97 ∷ other) ≡ Ok (97, other)
unfolding character
letter other = ascii_read Syntax 97 other (omega arith)

pub character_solid : Solid Syntax character
unfolding Solid character escaped
character_solid [] = halts_at_end character Syntax (97 ∷ []) 97 letter refl
character_solid (b ∷ t) =
    let So : Answer ℕ Fault ℕ → Type 0 = λ a. IsSolid Syntax character (b ∷ t) a in
    elim (chosen_is (b == 92)) [
      | inl h ↦ subst So (sym (cond-true (b == 92) _ _ h)) (behind Syntax escaped character b t (λ u. cond-true (b == 92) _ _ h) (escaped t) (escape_solid t))
      | inr h ↦ subst So (sym (cond-false (b == 92) _ _ h)) (elim (chosen_is (stands_as_is b)) [
        | inl p ↦ subst So (sym (cond-true (stands_as_is b) _ _ p))
            (alike_solid Syntax (utf8_character Syntax) character b (λ u. cond-false (b == 92) _ _ h ∙ cond-true (stands_as_is b) _ _ p) (none_read Syntax) (97 ∷ []) 97 letter (utf8_solid Syntax) t)
        | inr p ↦ subst So (sym (cond-false (stands_as_is b) _ _ p)) (halts_at character Syntax (97 ∷ []) 97 letter b t (λ u. cond-false (b == 92) _ _ h ∙ cond-false (stands_as_is b) _ _ p))
      ])
    ]

-- a character may be followed by anything
pub record FramedCharacter (t : List ℕ) (c : ℕ) (rest : List ℕ) : Type 0 where
  pub taken : List ℕ
  pub parts : t ≡ taken ++ rest
  pub again : (other : List ℕ) → IsCharacter (taken ++ other) c other

pub character_framed : {t rest : List ℕ} {c : ℕ} → IsCharacter t c rest → FramedCharacter t c rest
unfolding Solid
character_framed {t} {rest} {c} here =
    let l : Taken character t c rest = subst (λ (a : Answer ℕ Fault ℕ). IsSolid Syntax character t a) (character_read here) (character_solid t) in
    record { taken = l.taken; parts = l.parts; again = λ other. character_found (l.taken ++ other) c other (l.again other) }

pub character_halted : (t : List ℕ) (f : Fault) → character t ≡ Err f → Halted Syntax character t f
unfolding Solid
character_halted t f e = subst (λ (a : Answer ℕ Fault ℕ). IsSolid Syntax character t a) e (character_solid t)
