-- A value or the code of a failure, and whole numbers.
use Rattle.std.specs.Prelude.{ℕ, Option, Some, None, Result, Ok, Err, pos, negsuc, ℤ}
use Rattle.ha_value.specs.declared.value.Num.{Num}

-- ---- a value, or the code of a failure

abbrev pub Checked : Type 0 → Type 0
Checked A = Result A ℕ

abbrev pub checked_map : {A B : Type 0} → (A → B) → Checked A → Checked B
checked_map f (Ok x) = Ok (f x)
checked_map f (Err code) = Err code

abbrev pub checked_then : {A B : Type 0} → (A → Checked B) → Checked A → Checked B
checked_then f (Ok x) = f x
checked_then f (Err code) = Err code

-- F1 a template fault, F2 no service name, F3 no entity id in a target, F4 no duration, F5 no whole count, F6 too many turns, F7 no value
-- of a counter
abbrev pub template_fault : ℕ
template_fault = 1

abbrev pub no_service : ℕ
no_service = 2

abbrev pub no_target : ℕ
no_target = 3

abbrev pub no_duration : ℕ
no_duration = 4

abbrev pub no_count : ℕ
no_count = 5

abbrev pub too_many_turns : ℕ
too_many_turns = 6

abbrev pub no_value : ℕ
no_value = 7

-- ---- whole numbers

-- A whole number is number text without a point, in range.

-- how many turns a count makes: a negative one makes none
abbrev pub turns_in : Num → Option ℕ
turns_in (Num.Whole (pos n)) = Some n
turns_in (Num.Whole (negsuc n)) = Some 0
turns_in (Num.Fixed z) = None

abbrev pub natural_in : Num → Option ℕ
natural_in (Num.Whole (pos n)) = Some n
natural_in (Num.Whole (negsuc n)) = None
natural_in (Num.Fixed z) = None

abbrev pub whole_in : Num → Option ℤ
whole_in (Num.Whole z) = Some z
whole_in (Num.Fixed z) = None
