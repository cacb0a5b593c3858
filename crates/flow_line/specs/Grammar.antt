-- The grammar of values. In each rule a text is a spelling of something, and then the rest of the text follows. `skip text` is the
-- text without the blanks at its front.
use Rattle.std.specs.Prelude.{◌≡◌, ◌<◌, ◌+◌, ◌*◌, ℕ, zero, suc, Bool, true, false, ◌||◌}
use Rattle.std.specs.Prelude.{◌==◌, List, [], ◌∷◌, ◌++◌, Option, Some, None}
use Rattle.std.specs.Char.{IsScalar, is_ascii_digit}
use Rattle.std.specs.Char.Utf16.{is_high_surrogate, is_low_surrogate, surrogate_pair_char}
use Rattle.std.specs.Prelude.{encode_utf8}
use Rattle.std.specs.Str.{encode_utf8_all}
use Rattle.ha_value.specs.declared.value.Num.{Num}
use Rattle.ha_value.specs.declared.value.Value.{Value}
use Rattle.ha_value.specs.declared.value.Value.TheVariants.{Null, Flag, Number, Text, Items, Pairs}
use Rattle.ha_value.specs.Lists.{after_first}
use Rattle.ha_value.specs.Numbers.{is_in_range, number_of_text}
use Rattle.reading.specs.Answer.{front}
use Rattle.reading.specs.Bytes.{skip}
use Rattle.reading.specs.Spelling.{Never, IsClosed}
use Rattle.flow_line.specs.Bytes.{hex_value, unescaped}
pub use Rattle.flow_line.specs.Bytes.{stands_as_is}
use Rattle.flow_line.specs.Reading.{has_key}

-- ---- strings

-- a unit of UTF-16 in four hexadecimal digits
pub data IsUnit : List ℕ → ℕ → List ℕ → Type 0 where
  unit : {a b c d : ℕ} {rest : List ℕ} → hex_value a < 16 → hex_value b < 16 → hex_value c < 16 → hex_value d < 16
      → IsUnit (a ∷ b ∷ c ∷ d ∷ rest) ((hex_value a * 16 + hex_value b) * 256 + hex_value c * 16 + hex_value d) rest

-- A character of a string, by its code: its UTF-8, an escape by one letter or sign, a unit that is no half of a pair, or a pair.
pub data IsCharacter : List ℕ → ℕ → List ℕ → Type 0 where
  itself : {c : ℕ} {rest : List ℕ} → IsScalar c → stands_as_is c ≡ true → IsCharacter (encode_utf8 c ++ rest) c rest
  short : {b c : ℕ} {rest : List ℕ} → unescaped b ≡ Some c → IsCharacter (92 ∷ b ∷ rest) c rest
  whole : {text rest : List ℕ} {u : ℕ} → IsUnit text u rest → IsScalar u → IsCharacter (92 ∷ 117 ∷ text) u rest
  halves : {text behind rest : List ℕ} {high low : ℕ} → IsUnit text high (92 ∷ 117 ∷ behind) → IsUnit behind low rest
      → is_high_surrogate high ≡ true → is_low_surrogate low ≡ true → IsCharacter (92 ∷ 117 ∷ text) (surrogate_pair_char high low) rest

-- characters up to the closing quote, which is taken too
pub data IsCharacters : List ℕ → List ℕ → List ℕ → Type 0 where
  close : {rest : List ℕ} → IsCharacters (34 ∷ rest) [] rest
  more : {text after rest cs : List ℕ} {c : ℕ} → IsCharacter text c after → IsCharacters after cs rest → IsCharacters text (c ∷ cs) rest

-- a string behind its opening quote: the UTF-8 of its characters
pub data IsString : List ℕ → List ℕ → List ℕ → Type 0 where
  string : {text cs rest : List ℕ} → IsCharacters text cs rest → IsString text (encode_utf8_all cs) rest

-- ---- numbers

-- whether number text goes on with a byte: a digit, or a dot where it has none
abbrev pub extends : Option (List ℕ) → Option ℕ → Bool
extends places None = false
extends None (Some b) = is_ascii_digit b || b == 46
extends (Some places) (Some b) = is_ascii_digit b

-- number text that does not go on, and a number that is allowed
pub data IsNumber (Allowed : Num → Type 0) : List ℕ → Num → List ℕ → Type 0 where
  number : (text : List ℕ) {rest : List ℕ} {n : Num} → number_of_text text ≡ Some n
      → extends (after_first 46 text) (front rest) ≡ false → Allowed n
      → IsNumber Allowed (text ++ rest) n rest

-- ---- values

-- a key that is not among those before it, a colon and a value
pub data IsPair (Val : List ℕ → Value → List ℕ → Type 0) (found : List (List ℕ × Value)) : List ℕ → List ℕ × Value → List ℕ → Type 0 where
  pair : {text key after behind rest : List ℕ} {v : Value}
      → IsString text key after → has_key found key ≡ false → skip after ≡ 58 ∷ behind → Val (skip behind) v rest
      → IsPair Val found (34 ∷ text) (key, v) rest

-- a value whose numbers, lists and maps are these
pub data IsValueOver (Allowed : Num → Type 0) (List_ : List ℕ → List Value → List ℕ → Type 0)
    (Map : List ℕ → List (List ℕ × Value) → List ℕ → Type 0) : List ℕ → Value → List ℕ → Type 0 where
  null : {rest : List ℕ} → IsValueOver Allowed List_ Map (110 ∷ 117 ∷ 108 ∷ 108 ∷ rest) Null rest
  yes : {rest : List ℕ} → IsValueOver Allowed List_ Map (116 ∷ 114 ∷ 117 ∷ 101 ∷ rest) (Flag true) rest
  no : {rest : List ℕ} → IsValueOver Allowed List_ Map (102 ∷ 97 ∷ 108 ∷ 115 ∷ 101 ∷ rest) (Flag false) rest
  numeric : {t rest : List ℕ} {n : Num} → IsNumber Allowed t n rest → IsValueOver Allowed List_ Map t (Number n) rest
  text : {t s rest : List ℕ} → IsString t s rest → IsValueOver Allowed List_ Map (34 ∷ t) (Text s) rest
  list : {t rest : List ℕ} {vs : List Value} → List_ t vs rest → IsValueOver Allowed List_ Map (91 ∷ t) (Items vs) rest
  map : {t rest : List ℕ} {ps : List (List ℕ × Value)} → Map t ps rest → IsValueOver Allowed List_ Map (123 ∷ t) (Pairs ps) rest

-- a value with at most so many brackets in one another
unfoldable pub IsValue : (Num → Type 0) → ℕ → List ℕ → Value → List ℕ → Type 0
IsValue Allowed zero = IsValueOver Allowed Never Never
IsValue Allowed (suc depth) =
    IsValueOver Allowed (IsClosed 93 (λ found. IsValue Allowed depth)) (IsClosed 125 (IsPair (IsValue Allowed depth)))

-- The whole text is the value, with no blanks around it: at most 32 brackets in one another, and numbers in range.
abbrev pub IsDocument : List ℕ → Value → Type 0
IsDocument t v = IsValue (λ n. is_in_range n ≡ true) 32 t v []

-- the same, with numbers of any size
abbrev pub IsUnbounded : List ℕ → Value → Type 0
IsUnbounded t v = IsValue (λ n. Unit {0}) 32 t v []
