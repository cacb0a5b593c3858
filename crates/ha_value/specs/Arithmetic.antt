-- Arithmetic on numbers, by their exact values: a result out of range is refused, and so is a divisor that is zero.
use Rattle.std.specs.Prelude.{ℕ, zero, suc, ◌-◌, ◌^◌, Result, Ok, Err, ℤ, pos, negsuc, ◌+ℤ◌}
use Rattle.std.specs.Prelude.{◌-ℤ◌, ◌*ℤ◌, neg_ℤ, unsigned_abs, int_div, if◌then◌else◌}
use Rattle.std.specs.Int.{int_div_euclid}
use Rattle.ha_value.specs.declared.value.Num.{Num}
use Rattle.ha_value.specs.declared.num.NumFault.{NumFault}
use Rattle.ha_value.specs.Numbers.{millionths, is_in_range, is_zero, rounded}

abbrev pub Outcome : Type 0
Outcome = Result Num NumFault

-- the number, where it is in range
abbrev pub checked : Num → Outcome
checked n = if is_in_range n then Ok n else Err NumFault.Range

-- ---- sums and products: whole where both numbers are whole, else fixed-point

unfoldable pub add : Num → Num → Outcome
add (Num.Whole a) (Num.Whole b) = checked (Num.Whole (a +ℤ b))
add a b = checked (Num.Fixed (millionths a +ℤ millionths b))

unfoldable pub sub : Num → Num → Outcome
sub (Num.Whole a) (Num.Whole b) = checked (Num.Whole (a -ℤ b))
sub a b = checked (Num.Fixed (millionths a -ℤ millionths b))

-- a fixed-point product is rounded half to even at six places
unfoldable pub mul : Num → Num → Outcome
mul (Num.Whole a) (Num.Whole b) = checked (Num.Whole (a *ℤ b))
mul a b = checked (Num.Fixed (rounded (millionths a *ℤ millionths b) (pos 1_000_000)))

-- ---- quotients

-- always fixed-point, rounded half to even at six places
unfoldable pub div : Num → Num → Outcome
div a b = if is_zero b then Err NumFault.Zero
    else checked (Num.Fixed (rounded (millionths a *ℤ pos 1_000_000) (millionths b)))

-- the greatest whole number that is not above n over d
abbrev pub floor_of : ℤ → ℤ → ℤ
floor_of n (pos d) = int_div_euclid n (pos d)
floor_of n (negsuc d) = int_div_euclid (neg_ℤ n) (pos (suc d))

abbrev pub floored_quotient : Num → Num → ℤ
floored_quotient a b = floor_of (millionths a) (millionths b)

-- the greatest whole value that is not above the quotient
abbrev pub floored : Num → Num → Num
floored (Num.Whole a) (Num.Whole b) = Num.Whole (floor_of a b)
floored a b = Num.Fixed (floored_quotient a b *ℤ pos 1_000_000)

-- a - b * (a // b), whatever the size of a // b, so it has the sign of b
abbrev pub remainder : Num → Num → Num
remainder (Num.Whole a) (Num.Whole b) = Num.Whole (a -ℤ b *ℤ floor_of a b)
remainder a b = Num.Fixed (millionths a -ℤ millionths b *ℤ floored_quotient a b)

unfoldable pub floor_div : Num → Num → Outcome
floor_div a b = if is_zero b then Err NumFault.Zero else checked (floored a b)

unfoldable pub modulo : Num → Num → Outcome
modulo a b = if is_zero b then Err NumFault.Zero else checked (remainder a b)

-- ---- one number

unfoldable pub negate : Num → Outcome
negate (Num.Whole a) = checked (Num.Whole (neg_ℤ a))
negate (Num.Fixed a) = checked (Num.Fixed (neg_ℤ a))

unfoldable pub absolute : Num → Outcome
absolute (Num.Whole a) = checked (Num.Whole (pos (unsigned_abs a)))
absolute (Num.Fixed a) = checked (Num.Fixed (pos (unsigned_abs a)))

-- the same value as a fixed-point number
unfoldable pub to_fixed : Num → Outcome
to_fixed n = checked (Num.Fixed (millionths n))

-- the whole number of the value, cut towards zero
unfoldable pub to_whole : Num → Num
to_whole (Num.Whole a) = Num.Whole a
to_whole (Num.Fixed a) = Num.Whole (int_div a (pos 1_000_000))

-- half to even at 0 to 6 places: a whole number at 0 places, else a fixed-point one
unfoldable pub round : Num → ℕ → Num
round n zero = Num.Whole (rounded (millionths n) (pos 1_000_000))
round n (suc p) = Num.Fixed (rounded (millionths n) (pos (10 ^ (6 - suc p))) *ℤ pos (10 ^ (6 - suc p)))
