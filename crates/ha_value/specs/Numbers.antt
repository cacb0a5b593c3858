-- Numbers, whole ones and fixed-point ones in millionths: their range, their order and their texts.
use Rattle.std.specs.Prelude.{ℕ, suc, ◌+◌, ◌*◌, ◌/◌, ◌%◌, ◌^◌, Bool, true, false, ◌&&◌, ◌||◌, nat_eq, nat_le, nat_lt}
use Rattle.std.specs.Prelude.{List, [], ◌∷◌, ◌++◌, length, Option, Some, None}
use Rattle.std.specs.Prelude.{ℤ, pos, negsuc, ◌*ℤ◌, neg_ℤ, unsigned_abs, decimal, option_and_then, if◌then◌else◌}
use Rattle.std.specs.Char.{is_ascii_digit}
use Rattle.std.specs.Fmt.{signed_decimal}
use Rattle.std.specs.Ordering.{int_cmp}
use Rattle.std.specs.Str.Parse.{digits_value}
use Rattle.std.specs.declared.cmp.Ordering.{Ordering}
use Rattle.ha_value.specs.declared.value.Num.{Num}
use Rattle.ha_value.specs.Lists.{some_all, before_end, before_first, after_first}

-- ---- value, range and order

-- the number in millionths
abbrev pub millionths : Num → ℤ
millionths (Num.Whole z) = z *ℤ pos 1_000_000
millionths (Num.Fixed z) = z

-- the range is from -10^12 to 10^12, ends included
abbrev pub is_in_range : Num → Bool
is_in_range (Num.Whole z) = nat_le (unsigned_abs z) 1_000_000_000_000
is_in_range (Num.Fixed z) = nat_le (unsigned_abs z) 1_000_000_000_000_000_000

abbrev pub is_zero : Num → Bool
is_zero (Num.Whole z) = nat_eq (unsigned_abs z) 0
is_zero (Num.Fixed z) = nat_eq (unsigned_abs z) 0

-- by value: 3 and 3.0 are equal here
abbrev pub compare : Num → Num → Ordering
compare a b = int_cmp (millionths a) (millionths b)

-- ---- rounding

-- of a quotient and the next whole number the one that is nearer, by what is left over d, and the even one of the two
-- where both are equally near
abbrev pub nearer : ℕ → ℕ → ℕ → ℕ
nearer quotient left d =
    if nat_lt (2 * left) d then quotient
    else (if nat_lt d (2 * left) then quotient + 1 else quotient + quotient % 2)

-- n over d, to the nearest whole number, half to even
abbrev pub nearest : ℕ → ℕ → ℕ
nearest n d = nearer (n / d) (n % d) d

-- the same with signs: what is halfway goes to the even neighbour on both sides of zero
abbrev pub rounded : ℤ → ℤ → ℤ
rounded (pos n) (pos d) = pos (nearest n d)
rounded (pos n) (negsuc d) = neg_ℤ (pos (nearest n (suc d)))
rounded (negsuc n) (pos d) = neg_ℤ (pos (nearest (suc n) d))
rounded (negsuc n) (negsuc d) = pos (nearest (suc n) (suc d))

-- ---- number text: perhaps a sign, digits, and perhaps a dot with digits

-- a byte with which number text begins: a digit or a sign
abbrev pub begins_number : ℕ → Bool
begins_number c = is_ascii_digit c || nat_eq c 45 || nat_eq c 43

abbrev pub has_minus : List ℕ → Bool
has_minus [] = false
has_minus (c ∷ cs) = nat_eq c 45

abbrev pub without_sign : List ℕ → List ℕ
without_sign [] = []
without_sign (c ∷ cs) = if nat_eq c 43 || nat_eq c 45 then cs else c ∷ cs

abbrev pub signed : Bool → ℕ → ℤ
signed true n = neg_ℤ (pos n)
signed false n = pos n

-- the number of the digits before the dot and of those after it, where there is a dot; it is
-- fixed-point where there is one, and places past the sixth are rounded half to even
abbrev pub number_from : Bool → List ℕ → Option (List ℕ) → Option Num
number_from minus whole None =
    if some_all is_ascii_digit whole then Some (Num.Whole (signed minus (digits_value 10 whole))) else None
number_from minus whole (Some places) =
    if some_all is_ascii_digit whole && some_all is_ascii_digit places
    then Some (Num.Fixed (signed minus (nearest (digits_value 10 (whole ++ places) * 1_000_000) (10 ^ length places))))
    else None

-- the number of a text, however large
abbrev pub number_of_text : List ℕ → Option Num
number_of_text text =
    number_from (has_minus text) (before_first 46 (without_sign text)) (after_first 46 (without_sign text))

abbrev pub kept_in_range : Num → Option Num
kept_in_range n = if is_in_range n then Some n else None

-- the number of a text; there is none where the text is no number text or its number is out of range
unfoldable pub read_number : List ℕ → Option Num
read_number text = option_and_then kept_in_range (number_of_text text)

-- ---- printing

abbrev pub digit : ℕ → ℕ
digit n = 48 + n % 10

abbrev pub is_digit_zero : ℕ → Bool
is_digit_zero c = nat_eq c 48

-- millionths as places: without zeros at the end, but one place at least
abbrev pub places_text : ℕ → List ℕ
places_text n = digit (n / 100_000) ∷ before_end is_digit_zero
    (digit (n / 10_000) ∷ digit (n / 1_000) ∷ digit (n / 100) ∷ digit (n / 10) ∷ digit n ∷ [])

abbrev pub sign_text : ℤ → List ℕ
sign_text (pos n) = []
sign_text (negsuc n) = 45 ∷ []

unfoldable pub print_number : Num → List ℕ
print_number (Num.Whole z) = signed_decimal z
print_number (Num.Fixed z) =
    sign_text z ++ decimal (unsigned_abs z / 1_000_000) ++ 46 ∷ places_text (unsigned_abs z % 1_000_000)
