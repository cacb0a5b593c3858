-- What is spelled as a character, or as a string, is read as it.
use Rattle.std.proofs.Common.{◌≡◌, ℕ, suc, ◌+◌, ◌*◌, ◌≤◌, ◌<◌, Bool, true, false, cond, not, ◌&&◌, ◌⊎◌, List, [], ◌∷◌, ◌++◌, Option, Some, None, Ok, refl, sym, ap, ◌∙◌, arith, inl, inr}
use Rattle.std.specs.Prelude.{◌==◌, nat_le, nat_lt, codes, encode_utf8}
use Rattle.std.specs.Char.{IsScalar}
use Rattle.std.specs.Char.Utf16.{is_high_surrogate, is_low_surrogate, surrogate_pair_char}
use Rattle.std.proofs.lemmas.Bool.{and_parts, and_left, and_right, cond-true, cond-false, leb-true, le-leb, lt-leb, eqb-true, not-true}
use Rattle.reading.specs.Answer.{◌>>=◌, Answer, front}
use Rattle.reading.specs.Bytes.{expect}
use Rattle.reading.specs.Characters.{character as utf8_character}
use Rattle.reading.proofs.Basics.{chosen_is}
use Rattle.reading.proofs.Characters.{character_read as utf8_read}
use Rattle.flow_line.specs.declared.fault.Code.TheVariants.{Syntax}
use Rattle.flow_line.specs.Bytes.{is_in, stands_as_is, hex_value, unescaped}
use Rattle.flow_line.specs.Text.{hex_in, high_digits, unit, unicode, short_escape, character}
use Rattle.flow_line.specs.Grammar.{IsUnit, unit as unit_of, IsCharacter, itself, short, whole, halves}
use Rattle.flow_line.proofs.ByteRanges.{Fault}
use Rattle.flow_line.proofs.Characters.{Unit4, as_first}
use lib.Utf8.{scalar_cases}

-- the rule behind a step that did not fail
after : {A B : Type 0} (r : Answer ℕ Fault A) (q : A × List ℕ → Answer ℕ Fault B) (x : A × List ℕ) → r ≡ Ok x → (r >>= q) ≡ q x
after {A} r q x e = ap (λ (a : Answer ℕ Fault A). a >>= q) e

inside : (low high x : ℕ) → low ≤ x → x ≤ high → is_in low high x ≡ true
inside low high x p q = rw (le-leb low x p, le-leb x high q) refl

below : (low high x : ℕ) → x < low → is_in low high x ≡ false
below low high x p = and_left (nat_le low x) (nat_le x high) (lt-leb low x p)

above : (low high x : ℕ) → high < x → is_in low high x ≡ false
above low high x p = and_right (nat_le low x) (nat_le x high) (lt-leb x high p)

itself_read : (c : ℕ) (rest : List ℕ) → IsScalar c → stands_as_is c ≡ true → character (encode_utf8 c ++ rest) ≡ Ok (c, rest)
unfolding character utf8_character
itself_read c rest is p = by_first (encode_utf8 c ++ rest) refl (utf8_read Syntax c rest is) where
  by_first : (t : List ℕ) → t ≡ encode_utf8 c ++ rest → utf8_character Syntax t ≡ Ok (c, rest) → character t ≡ Ok (c, rest)
  by_first [] e r = absurd cc
  by_first (b ∷ t) e r =
      let stands : stands_as_is b ≡ true = as_first c b t rest e ∙ p in
      let no_backslash : (b == 92) ≡ false = not-true (b == 92) (and_parts (nat_le 32 b && not (b == 34)) (not (b == 92)) stands).1 in
      cond-false (b == 92) _ _ no_backslash ∙ cond-true (stands_as_is b) _ _ stands ∙ r

-- ---- escapes

pub hex_read : (low high b : ℕ) (rest : List ℕ) → low ≤ hex_value b → hex_value b ≤ high → hex_in low high (front (b ∷ rest)) (b ∷ rest) ≡ Ok (hex_value b, rest)
hex_read low high b rest p q = cond-true (is_in low high (hex_value b)) _ _ (inside low high (hex_value b) p q)

high_read : (low : Bool) (a b : ℕ) (rest : List ℕ) → cond low 13 0 ≤ hex_value a → hex_value a ≤ cond low 13 15 → cond low 12 0 ≤ hex_value b → hex_value b ≤ cond (hex_value a == 13 && not low) 11 15
    → high_digits low (a ∷ b ∷ rest) ≡ Ok (hex_value a * 16 + hex_value b, rest)
unfolding high_digits
high_read low a b rest p q r s =
    let second : ℕ × List ℕ → Answer ℕ Fault ℕ = λ (x : ℕ × List ℕ). hex_in (cond low 12 0) (cond (x.0 == 13 && not low) 11 15) (front x.1) x.1 >>= λ y. Ok (x.0 * 16 + y.0, y.1) in
    after (hex_in (cond low 13 0) (cond low 13 15) (front (a ∷ b ∷ rest)) (a ∷ b ∷ rest)) second (hex_value a, b ∷ rest) (hex_read (cond low 13 0) (cond low 13 15) a (b ∷ rest) p q)
    ∙ after (hex_in (cond low 12 0) (cond (hex_value a == 13 && not low) 11 15) (front (b ∷ rest)) (b ∷ rest)) (λ (y : ℕ × List ℕ). Ok (hex_value a * 16 + y.0, y.1)) (hex_value b, rest) (hex_read (cond low 12 0) (cond (hex_value a == 13 && not low) 11 15) b rest r s)

four_digits : (low : Bool) (a b c d : ℕ) (rest : List ℕ) → cond low 13 0 ≤ hex_value a → hex_value a ≤ cond low 13 15 → cond low 12 0 ≤ hex_value b → hex_value b ≤ cond (hex_value a == 13 && not low) 11 15 → hex_value c ≤ 15 → hex_value d ≤ 15
    → unit low (a ∷ b ∷ c ∷ d ∷ rest) ≡ Ok ((hex_value a * 16 + hex_value b) * 256 + hex_value c * 16 + hex_value d, rest)
unfolding unit
four_digits low a b c d rest p q r s k l =
    let third : ℕ × List ℕ → Answer ℕ Fault ℕ = λ (h : ℕ × List ℕ). hex_in 0 15 (front h.1) h.1 >>= λ c. hex_in 0 15 (front c.1) c.1 >>= λ d. Ok (h.0 * 256 + c.0 * 16 + d.0, d.1) in
    let ab : ℕ = hex_value a * 16 + hex_value b in
    let fourth : ℕ × List ℕ → Answer ℕ Fault ℕ = λ (c : ℕ × List ℕ). hex_in 0 15 (front c.1) c.1 >>= λ d. Ok (ab * 256 + c.0 * 16 + d.0, d.1) in
    after (high_digits low (a ∷ b ∷ c ∷ d ∷ rest)) third (ab, c ∷ d ∷ rest) (high_read low a b (c ∷ d ∷ rest) p q r s)
    ∙ after (hex_in 0 15 (front (c ∷ d ∷ rest)) (c ∷ d ∷ rest)) fourth (hex_value c, d ∷ rest) (hex_read 0 15 c (d ∷ rest) (omega arith) k)
    ∙ after (hex_in 0 15 (front (d ∷ rest)) (d ∷ rest)) (λ (d : ℕ × List ℕ). Ok (ab * 256 + hex_value c * 16 + d.0, d.1)) (hex_value d, rest) (hex_read 0 15 d rest (omega arith) l)

pub unit_read : (low : Bool) (t : List ℕ) (u : ℕ) (rest : List ℕ) → Unit4 low t u rest → unit low t ≡ Ok (u, rest)
unit_read low t u rest h = ap (unit low) h.parts ∙ four_digits low h.a h.b h.c h.d rest h.least_a h.most_a h.least_b h.most_b h.most_c h.most_d ∙ ap (λ (v : ℕ). Ok (v, rest)) (sym h.value)

-- a unit that is no low half
free_digits : (a b c d u : ℕ) → a < 16 → b < 16 → c < 16 → d < 16 → u ≡ (a * 16 + b) * 256 + c * 16 + d → (u < 56320) ⊎ (57344 ≤ u) → b ≤ cond (a == 13 && true) 11 15
free_digits a b c d u p q r s e o = by_first (a == 13) (λ k. let w : a ≡ 13 = eqb-true a 13 k in elim o [ inl m ↦ omega arith | inr m ↦ absurd (omega arith) ]) (omega arith) where
  by_first : (x : Bool) → (x ≡ true → b ≤ 11) → b ≤ 15 → b ≤ cond (x && true) 11 15
  by_first true h k = h refl
  by_first false h k = k

free_unit : {t rest : List ℕ} {u : ℕ} → IsUnit t u rest → (u < 56320) ⊎ (57344 ≤ u) → Unit4 false t u rest
free_unit (unit_of {a = a} {b = b} {c = c} {d = d} p q r s) o =
    record {
      a = a;
      b = b;
      c = c;
      d = d;
      parts = refl;
      least_a = omega arith;
      most_a = omega arith;
      least_b = omega arith;
      most_b = free_digits (hex_value a) (hex_value b) (hex_value c) (hex_value d) ((hex_value a * 16 + hex_value b) * 256 + hex_value c * 16 + hex_value d) p q r s refl o;
      most_c = omega arith;
      most_d = omega arith;
      value = refl;
    }

low_digits : (a b c d u : ℕ) → a < 16 → b < 16 → c < 16 → d < 16 → u ≡ (a * 16 + b) * 256 + c * 16 + d → 56320 ≤ u → u < 57344 → (13 ≤ a) × (a ≤ 13) × (12 ≤ b)
low_digits a b c d u p q r s e l h = (omega arith, omega arith, omega arith)

any_digit : (x : Bool) (b : ℕ) → b ≤ 15 → b ≤ cond (x && false) 11 15
any_digit true b h = h
any_digit false b h = h

low_unit : {t rest : List ℕ} {u : ℕ} → IsUnit t u rest → 56320 ≤ u → u < 57344 → Unit4 true t u rest
low_unit (unit_of {a = a} {b = b} {c = c} {d = d} p q r s) l h =
    let k = low_digits (hex_value a) (hex_value b) (hex_value c) (hex_value d) ((hex_value a * 16 + hex_value b) * 256 + hex_value c * 16 + hex_value d) p q r s refl l h in
    record { a = a; b = b; c = c; d = d; parts = refl; least_a = k.0; most_a = k.1; least_b = k.2; most_b = any_digit (hex_value a == 13) (hex_value b) (omega arith); most_c = omega arith; most_d = omega arith; value = refl }

no_half : (u : ℕ) → IsScalar u → (is_in 0xD800 0xDBFF u ≡ false) × ((u < 56320) ⊎ (57344 ≤ u))
no_half u is = elim (scalar_cases u is) [
  | inl h ↦ (below 0xD800 0xDBFF u h, inl (omega arith))
  | inr h ↦ (above 0xD800 0xDBFF u (let k = h.0 in omega arith), inr h.0)
]

-- what follows the first unit
second_half : ℕ × List ℕ → Answer ℕ Fault ℕ
second_half u = cond (is_in 0xD800 0xDBFF u.0) (expect Syntax (codes "\\u") u.1 >>= λ mark. unit true mark.1 >>= λ half. Ok (surrogate_pair_char u.0 half.0, half.1)) (Ok u)

whole_read : (t rest : List ℕ) (u : ℕ) → IsUnit t u rest → IsScalar u → unicode t ≡ Ok (u, rest)
unfolding unicode second_half
whole_read t rest u here is =
    let n = no_half u is in
    after (unit false t) second_half (u, rest) (unit_read false t u rest (free_unit here n.1)) ∙ cond-false (is_in 0xD800 0xDBFF u) _ _ n.0

halves_read : (t behind rest : List ℕ) (high low : ℕ) → IsUnit t high (92 ∷ 117 ∷ behind) → IsUnit behind low rest → is_high_surrogate high ≡ true → is_low_surrogate low ≡ true → unicode t ≡ Ok (surrogate_pair_char high low, rest)
unfolding unicode second_half expect
halves_read t behind rest high low first second p q =
    let r = and_parts (nat_le 0xD800 high) (nat_lt high 0xDC00) p in
    let s = and_parts (nat_le 0xDC00 low) (nat_lt low 0xE000) q in
    let r0 = leb-true 0xD800 high r.0 in
    let r1 = leb-true (suc high) 0xDC00 r.1 in
    let s0 = leb-true 0xDC00 low s.0 in
    let s1 = leb-true (suc low) 0xE000 s.1 in
    after (unit false t) second_half (high, 92 ∷ 117 ∷ behind) (unit_read false t high (92 ∷ 117 ∷ behind) (free_unit first (inl (omega arith)))) ∙ cond-true (is_in 0xD800 0xDBFF high) _ _ (inside 0xD800 0xDBFF high r0 (omega arith))
    ∙ after (unit true behind) (λ (half : ℕ × List ℕ). Ok (surrogate_pair_char high half.0, half.1)) (low, rest) (unit_read true behind low rest (low_unit second s0 (omega arith)))

no_u : (b c : ℕ) → unescaped b ≡ Some c → (b == 117) ≡ false
no_u b c e = elim (chosen_is (b == 117)) [ inl h ↦ absurd (let k : unescaped b ≡ None = ap unescaped (eqb-true b 117 h) in let w : Some c ≡ None = sym e ∙ k in cc) | inr h ↦ h ]

pub character_read : {t rest : List ℕ} {c : ℕ} → IsCharacter t c rest → character t ≡ Ok (c, rest)
unfolding character
character_read (itself {c = c} {rest = rest} is p) = itself_read c rest is p
character_read (short {b = b} {c = c} {rest = rest} e) = cond-false (b == 117) _ _ (no_u b c e) ∙ ap (λ (o : Option ℕ). short_escape o (b ∷ rest)) e
character_read (whole {text = t} {rest = rest} {u = u} here is) = whole_read t rest u here is
character_read (halves {text = t} {behind = behind} {rest = rest} {high = high} {low = low} a b p q) = halves_read t behind rest high low a b p q
