-- Strings, read from left to right.
use Rattle.std.specs.Prelude.{◌≡◌, ℕ, suc, ◌+◌, ◌*◌, ◌<◌, Bool, true, false, not, ◌&&◌, ◌==◌}
use Rattle.std.specs.Prelude.{if◌then◌else◌, List, [], length, take, drop, Option, Some, None, Ok, codes, IsUtf8}
use Rattle.std.specs.Char.Utf16.{surrogate_pair_char}
use Rattle.std.specs.Str.{encode_utf8_all}
use Rattle.reading.specs.declared.fault.Bad.{Bad}
use Rattle.reading.specs.Answer.{◌>>=◌, Rule, front, made, stop}
use Rattle.reading.specs.Bytes.{sees, expect}
use Rattle.reading.specs.Characters.{character as utf8_character}
use Rattle.reading.specs.Rows.{repeat}
use Rattle.flow_line.specs.declared.fault.Code.{Code}
use Rattle.flow_line.specs.declared.fault.Code.TheVariants.{Syntax}
use Rattle.flow_line.specs.Bytes.{is_in, stands_as_is, hex_value, unescaped}

-- what reads an A from bytes
abbrev pub Reads : Type 0 → Type 0
Reads A = Rule ℕ (Bad Code) A

abbrev pub byte_in : ℕ → ℕ → Option ℕ → Reads ℕ
byte_in low high None rest = stop Syntax rest
byte_in low high (Some b) rest = if is_in low high b then Ok (b, drop 1 rest) else stop Syntax rest

-- ---- escapes

-- a hexadecimal digit whose value is from low to high
abbrev pub hex_in : ℕ → ℕ → Option ℕ → Reads ℕ
hex_in low high None rest = stop Syntax rest
hex_in low high (Some b) rest = if is_in low high (hex_value b) then Ok (hex_value b, drop 1 rest) else stop Syntax rest

-- the first two digits of a unit, of the low half of a pair or of a unit that is none
unfoldable pub high_digits : Bool → Reads ℕ
high_digits low rest = do
  a ← hex_in (if low then 13 else 0) (if low then 13 else 15) (front rest) rest
  b ← hex_in (if low then 12 else 0) (if a.0 == 13 && not low then 11 else 15) (front a.1) a.1
  Ok (a.0 * 16 + b.0, b.1)

-- a unit: four digits
unfoldable pub unit : Bool → Reads ℕ
unit low rest = do
  high ← high_digits low rest
  c ← hex_in 0 15 (front high.1) high.1
  d ← hex_in 0 15 (front c.1) c.1
  Ok (high.0 * 256 + c.0 * 16 + d.0, d.1)

-- behind `\u`: a unit, and where it is the high half of a pair, the low half behind another `\u`
unfoldable pub unicode : Reads ℕ
unicode rest = do
  u ← unit false rest
  if is_in 0xD800 0xDBFF u.0 then (do
    mark ← expect Syntax (codes "\\u") u.1
    half ← unit true mark.1
    Ok (surrogate_pair_char u.0 half.0, half.1)) else Ok u

abbrev pub short_escape : Option ℕ → Reads ℕ
short_escape None rest = stop Syntax rest
short_escape (Some c) rest = Ok (c, drop 1 rest)

-- behind a backslash
abbrev pub escape : Option ℕ → Reads ℕ
escape None rest = stop Syntax rest
escape (Some b) rest = if b == 117 then unicode (drop 1 rest) else short_escape (unescaped b) rest

-- ---- strings

abbrev pub character_at : Option ℕ → Reads ℕ
character_at None rest = stop Syntax rest
character_at (Some b) rest =
    if b == 92 then escape (front (drop 1 rest)) (drop 1 rest) else
    (if stands_as_is b then utf8_character Syntax rest else stop Syntax rest)

-- the code of a character
unfoldable pub character : Reads ℕ
character rest = character_at (front rest) rest

-- whether a character more comes, or the closing quote
abbrev pub goes_on : Reads Bool
goes_on rest = if sees 34 rest then Ok (false, drop 1 rest) else Ok (true, rest)

-- the fault where turns are used up, which never is
abbrev pub over : Bad Code
over = record { left = 0; code = Syntax }

-- the codes of a string's characters, behind the opening quote
unfoldable pub characters : Reads (List ℕ)
characters rest = repeat over (λ _. goes_on) (λ _. character) (suc (length rest)) [] rest

-- a string behind the opening quote: its characters in UTF-8
abbrev pub text : Reads (List ℕ)
text rest = made encode_utf8_all (characters rest)

-- a string behind the opening quote is so many bytes, as they are
pub record IsRun (at : ℕ) (rest : List ℕ) : Type 0 where
  pub within : at < length rest
  pub utf8 : IsUtf8 (take at rest)
  pub reads : text rest ≡ Ok (take at rest, drop (at + 1) rest)

unfoldable pub string : Reads (List ℕ)
string rest = do
  quote ← expect Syntax (codes "\"") rest
  text quote.1
