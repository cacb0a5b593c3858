-- Reading a value from left to right, with the first fault that is met.
use Rattle.std.specs.Prelude.{ℕ, zero, suc, ◌-◌, Bool, true, false, ◌||◌, ◌==◌, if◌then◌else◌, List}
use Rattle.std.specs.Prelude.{length, take, drop, Option, Some, None, Ok, codes}
use Rattle.std.specs.List.{list_any}
use Rattle.std.specs.Str.{bytes_eq}
use Rattle.ha_value.specs.declared.value.Num.{Num}
use Rattle.ha_value.specs.declared.value.Value.{Value}
use Rattle.ha_value.specs.declared.value.Value.TheVariants.{Null, Flag, Number, Text, Items, Pairs}
use Rattle.ha_value.specs.Numbers.{read_number}
use Rattle.reading.specs.Answer.{◌>>=◌, front, made, stop}
use Rattle.reading.specs.Bytes.{sees, skip, skip_digits, expect}
use Rattle.reading.specs.Rows.{closed_by}
use Rattle.flow_line.specs.declared.fault.Code.TheVariants.{Syntax, RepeatedKey, Depth, Range}
use Rattle.ha_value.specs.Numbers.{begins_number}
use Rattle.flow_line.specs.Text.{Reads, byte_in, text, string}

-- ---- numbers

abbrev pub skip_sign : List ℕ → List ℕ
skip_sign rest = if sees 45 rest || sees 43 rest then drop 1 rest else rest

-- one digit or more
unfoldable pub digits : Reads (Unit {0})
digits rest = do
  first ← byte_in 48 57 (front rest) rest
  Ok (tt, skip_digits first.1)

-- perhaps a sign, digits, and perhaps a dot with digits
unfoldable pub numeral : Reads (Unit {0})
numeral rest = do
  whole ← digits (skip_sign rest)
  if sees 46 whole.1 then digits (drop 1 whole.1) else Ok whole

abbrev pub in_range : Option Num → List ℕ → Reads Num
in_range (Some n) at rest = Ok (n, rest)
in_range None at rest = stop Range at

-- a number, by its text
unfoldable pub number : Reads Num
number rest = do
  end ← numeral rest
  in_range (read_number (take (length rest - length end.1) rest)) rest end.1

-- ---- lists and maps

abbrev pub has_key : List (List ℕ × Value) → List ℕ → Bool
has_key pairs key = list_any (λ pair. bytes_eq pair.0 key) pairs

-- a key that is not among those that were found
unfoldable pub key : List (List ℕ × Value) → Reads (List ℕ)
key found rest = do
  k ← string rest
  if has_key found k.0 then stop RepeatedKey rest else Ok k

-- a key, a colon and a value
unfoldable pub pair : Reads Value → List (List ℕ × Value) → Reads (List ℕ × Value)
pair value found rest = do
  k ← key found rest
  colon ← expect Syntax (codes ":") (skip k.1)
  v ← value (skip colon.1)
  Ok ((k.0, v.0), v.1)

unfoldable pub items : Reads Value → Reads (List Value)
items value = closed_by Syntax 93 (λ found. value)

unfoldable pub pairs : Reads Value → Reads (List (List ℕ × Value))
pairs value = closed_by Syntax 125 (pair value)

-- ---- values

-- how a value begins
pub data Start : Type 0 where
  of_null of_true of_false quote bracket brace numeric nothing : Start

abbrev pub start_of : Option ℕ → Start
start_of None = nothing
start_of (Some b) =
    if b == 110 then of_null else
    (if b == 116 then of_true
    else (if b == 102 then of_false
    else (if b == 34 then quote
    else (if b == 91 then bracket else (if b == 123 then brace else (if begins_number b then numeric else nothing))))))

abbrev pub value_by : Start → Reads (List Value) → Reads (List (List ℕ × Value)) → Reads Value
value_by of_null list map rest = made (λ _. Null) (expect Syntax (codes "null") rest)
value_by of_true list map rest = made (λ _. Flag true) (expect Syntax (codes "true") rest)
value_by of_false list map rest = made (λ _. Flag false) (expect Syntax (codes "false") rest)
value_by quote list map rest = made Text (text (drop 1 rest))
value_by bracket list map rest = made Items (list rest)
value_by brace list map rest = made Pairs (map rest)
value_by numeric list map rest = made Number (number rest)
value_by nothing list map rest = stop Syntax rest

-- a value with so many brackets in one another
unfoldable pub value : ℕ → Reads Value
value zero rest = value_by (start_of (front rest)) (stop Depth) (stop Depth) rest
value (suc depth) rest =
    value_by (start_of (front rest)) (λ rest. items (value depth) (drop 1 rest)) (λ rest. pairs (value depth) (drop 1 rest)) rest

abbrev pub ended : Option ℕ → Bool
ended None = true
ended (Some b) = false

-- the whole text, with no blanks around the value
unfoldable pub document : Reads Value
document text = do
  v ← value 32 text
  if ended (front v.1) then Ok v else stop Syntax v.1
