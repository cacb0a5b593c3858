-- What is printed of a text is a string of the grammar, and of a number a number.
use Rattle.std.proofs.Common.{◌≡◌, ℕ, ◌+◌, ◌*◌, ◌/◌, ◌%◌, ◌<◌, ◌≤◌, Bool, true, false, cond, List, [], ◌∷◌, ◌++◌, Option, Some, None, refl, sym, ap, subst, ◌∙◌, append_assoc, inl, inr, arith, IsUtf8}
use Rattle.std.specs.Prelude.{codes, flat_map, nat_eq, nat_lt, option_and_then}
use Rattle.std.specs.Char.{digit_char}
use Rattle.std.specs.Str.{chars, encode_utf8_all}
use Rattle.std.proofs.lemmas.Bool.{and_parts, cases_lt, eqb-true, ltb-true, ltb-false}
use Rattle.std.proofs.lemmas.Bool.Decides.{nat_tests}
use Rattle.std.proofs.lemmas.List.{append-nil}
use Rattle.std.proofs.lemmas.List.Concat.{flat_map-append}
use Rattle.std.proofs.lemmas.Str.{encode_ascii, encodes-chars, scalars-chars}
use lib.Utf8.{encode, scalar, scalars, low_scalar}
use Rattle.ha_value.specs.declared.value.Num.{Num}
use Rattle.ha_value.specs.Lists.{after_first}
use Rattle.ha_value.specs.Numbers.{is_in_range, kept_in_range, number_of_text, print_number, read_number}
use Rattle.ha_value.proofs.PrintLemmas.{print_is_read}
use Rattle.ha_config.specs.ValueText.{escaped_byte}
use Rattle.reading.specs.Answer.{front}
use Rattle.flow_line.specs.Bytes.{hex_value}
use Rattle.flow_line.specs.Grammar.{IsUnit, unit, IsCharacter, itself, short, whole, stands_as_is, IsCharacters, close, more, IsString, string, IsNumber, number, extends}
use Rattle.flow_line.proofs.Escapes.{high_char}
use Rattle.flow_line.proofs.Whole.{InRange, keeps_in_range}

-- ---- characters

hex_low : (d : ℕ) → d < 10 → hex_value (digit_char d) ≡ d
hex_low d h = grind (arith, nat_tests)

hex_high : (d : ℕ) → 10 ≤ d → d < 16 → hex_value (digit_char d) ≡ d
hex_high d l h = grind (arith, nat_tests)

hex_of_digit : (d : ℕ) → d < 16 → hex_value (digit_char d) ≡ d
hex_of_digit d h = elim (cases_lt d 10) [ inl l ↦ hex_low d l | inr l ↦ hex_high d l h ]

control : (c : ℕ) (rest : List ℕ) → c < 32 → IsCharacter (codes "\\u00" ++ (digit_char (c / 16) ∷ digit_char (c % 16) ∷ []) ++ rest) c rest
control c rest h =
    let a = hex_of_digit (c / 16) (omega arith) in
    let b = hex_of_digit (c % 16) (omega arith) in
    let is : (hex_value 48 * 16 + hex_value 48) * 256 + hex_value (digit_char (c / 16)) * 16 + hex_value (digit_char (c % 16)) ≡ c = omega (arith, a, b) in
    let u : IsUnit (48 ∷ 48 ∷ digit_char (c / 16) ∷ digit_char (c % 16) ∷ rest) c rest =
    subst (λ (n : ℕ). IsUnit (48 ∷ 48 ∷ digit_char (c / 16) ∷ digit_char (c % 16) ∷ rest) n rest) is (unit (omega arith) (omega arith) (omega (arith, a)) (omega (arith, b))) in
    whole u (low_scalar c (omega arith))

stands : (c : ℕ) → 32 ≤ c → (c ≡ 34 → ⊥) → (c ≡ 92 → ⊥) → stands_as_is c ≡ true
stands c l p q = grind (arith, nat_tests)

plain : (c : ℕ) (rest : List ℕ) → c < 128 → 32 ≤ c → (c ≡ 34 → ⊥) → (c ≡ 92 → ⊥) → IsCharacter (c ∷ rest) c rest
plain c rest h l p q = subst (λ (t : List ℕ). IsCharacter (t ++ rest) c rest) (encode_ascii c h) (itself (low_scalar c (omega arith)) (stands c l p q))

ascii : (c : ℕ) (rest : List ℕ) → c < 128 → IsCharacter (escaped_byte c ++ rest) c rest
ascii c rest h =
    by_quote (nat_eq c 34) refl
  where
    is : (k : ℕ) (t : List ℕ) → nat_eq c k ≡ true → IsCharacter (t ++ rest) k rest → IsCharacter (t ++ rest) c rest
    is k t e s = subst (λ (n : ℕ). IsCharacter (t ++ rest) n rest) (sym (eqb-true c k e)) s

    isnt : (k : ℕ) → nat_eq c k ≡ false → c ≡ k → ⊥
    isnt k e s = grind (arith, nat_tests)

    by_bound : (b : Bool) → nat_lt c 32 ≡ b → nat_eq c 34 ≡ false → nat_eq c 92 ≡ false
        → IsCharacter (cond b (codes "\\u00" ++ (digit_char (c / 16) ∷ digit_char (c % 16) ∷ [])) (c ∷ []) ++ rest) c rest
    by_bound true e p q = control c rest (ltb-true c 32 e)
    by_bound false e p q = plain c rest h (ltb-false c 32 e) (isnt 34 p) (isnt 92 q)

    by_tab : (b : Bool) → nat_eq c 9 ≡ b → nat_eq c 34 ≡ false → nat_eq c 92 ≡ false
        → IsCharacter (cond b (codes "\\t") (cond (nat_lt c 32) (codes "\\u00" ++ (digit_char (c / 16) ∷ digit_char (c % 16) ∷ [])) (c ∷ [])) ++ rest) c rest
    by_tab true e p q = is 9 (codes "\\t") e (short refl)
    by_tab false e p q = by_bound (nat_lt c 32) refl p q

    by_return : (b : Bool) → nat_eq c 13 ≡ b → nat_eq c 34 ≡ false → nat_eq c 92 ≡ false
        → IsCharacter (cond b (codes "\\r") (cond (nat_eq c 9) (codes "\\t") (cond (nat_lt c 32) (codes "\\u00" ++ (digit_char (c / 16) ∷ digit_char (c % 16) ∷ [])) (c ∷ []))) ++ rest) c rest
    by_return true e p q = is 13 (codes "\\r") e (short refl)
    by_return false e p q = by_tab (nat_eq c 9) refl p q

    by_feed : (b : Bool) → nat_eq c 10 ≡ b → nat_eq c 34 ≡ false → nat_eq c 92 ≡ false
        → IsCharacter (cond b (codes "\\n") (cond (nat_eq c 13) (codes "\\r") (cond (nat_eq c 9) (codes "\\t") (cond (nat_lt c 32) (codes "\\u00" ++ (digit_char (c / 16) ∷ digit_char (c % 16) ∷ [])) (c ∷ [])))) ++ rest) c rest
    by_feed true e p q = is 10 (codes "\\n") e (short refl)
    by_feed false e p q = by_return (nat_eq c 13) refl p q

    by_backslash : (b : Bool) → nat_eq c 92 ≡ b → nat_eq c 34 ≡ false
        → IsCharacter (cond b (codes "\\\\") (cond (nat_eq c 10) (codes "\\n") (cond (nat_eq c 13) (codes "\\r") (cond (nat_eq c 9) (codes "\\t") (cond (nat_lt c 32) (codes "\\u00" ++ (digit_char (c / 16) ∷ digit_char (c % 16) ∷ [])) (c ∷ []))))) ++ rest) c rest
    by_backslash true e p = is 92 (codes "\\\\") e (short refl)
    by_backslash false e p = by_feed (nat_eq c 10) refl p e

    by_quote : (b : Bool) → nat_eq c 34 ≡ b
        → IsCharacter (cond b (codes "\\\"") (cond (nat_eq c 92) (codes "\\\\") (cond (nat_eq c 10) (codes "\\n") (cond (nat_eq c 13) (codes "\\r") (cond (nat_eq c 9) (codes "\\t") (cond (nat_lt c 32) (codes "\\u00" ++ (digit_char (c / 16) ∷ digit_char (c % 16) ∷ [])) (c ∷ [])))))) ++ rest) c rest
    by_quote true e = is 34 (codes "\\\"") e (short refl)
    by_quote false e = by_backslash (nat_eq c 92) refl e

-- a character, as it is printed
shown_character : (c : ℕ) (rest : List ℕ) → scalar c ≡ true → IsCharacter (flat_map escaped_byte (encode c) ++ rest) c rest
shown_character c rest s = elim (cases_lt c 128) [
  | inl l ↦
      let is : flat_map escaped_byte (encode c) ≡ escaped_byte c = ap (flat_map escaped_byte) (encode_ascii c l) ∙ append-nil (escaped_byte c) in
      subst (λ (t : List ℕ). IsCharacter (t ++ rest) c rest) (sym is) (ascii c rest l)
  | inr l ↦ subst (λ (t : List ℕ). IsCharacter (t ++ rest) c rest) (sym (high_char c l)) (itself s (stands c (omega arith) (λ e. absurd (omega arith)) (λ e. absurd (omega arith))))
]

shown_characters : (cs rest : List ℕ) → scalars cs ≡ true → IsCharacters (flat_map escaped_byte (encode_utf8_all cs) ++ 34 ∷ rest) cs rest
shown_characters [] rest s = close
shown_characters (c ∷ cs) rest s =
    let parts = and_parts (scalar c) (scalars cs) s in
    let behind : List ℕ = flat_map escaped_byte (encode_utf8_all cs) ++ 34 ∷ rest in
    let is : flat_map escaped_byte (encode_utf8_all (c ∷ cs)) ++ 34 ∷ rest ≡ flat_map escaped_byte (encode c) ++ behind =
    ap (λ (t : List ℕ). t ++ 34 ∷ rest) (flat_map-append escaped_byte (encode c) (encode_utf8_all cs)) ∙ append_assoc (flat_map escaped_byte (encode c)) (flat_map escaped_byte (encode_utf8_all cs)) (34 ∷ rest) in
    subst (λ (t : List ℕ). IsCharacters t (c ∷ cs) rest) (sym is) (more (shown_character c behind parts.0) (shown_characters cs rest parts.1))

-- a text, as it is printed behind its opening quote
pub shown_string : (t rest : List ℕ) → IsUtf8 t → IsString (flat_map escaped_byte t ++ 34 ∷ rest) t rest
shown_string t rest u =
    let e = encodes-chars t u in
    subst (λ (s : List ℕ). IsString (flat_map escaped_byte s ++ 34 ∷ rest) s rest) e (string (shown_characters (chars t) rest (scalars-chars t u)))

-- ---- numbers

-- no number text goes on with the next byte
abbrev pub Stops : List ℕ → Type 0
Stops rest = (places : Option (List ℕ)) → extends places (front rest) ≡ false

kept : (o : Option Num) (n : Num) → option_and_then kept_in_range o ≡ Some n → o ≡ Some n
kept None n e = absurd cc
kept (Some m) n e = ap (λ (k : Num). Some k) (keeps_in_range m n e).0

pub shown_number : (n : Num) (rest : List ℕ) → is_in_range n ≡ true → Stops rest → IsNumber InRange (print_number n ++ rest) n rest
unfolding read_number
shown_number n rest r s = number (print_number n) (kept (number_of_text (print_number n)) n (print_is_read n r)) (s (after_first 46 (print_number n))) r
