-- The definitions at worked values.
use Rattle.std.specs.Prelude.{◌≡◌, true, false, [], Some, None, Ok, Err, pos, negsuc, codes, refl}
use Rattle.std.specs.Fmt.{digits}
use Rattle.ha_value.specs.declared.value.Num.{Num}
use Rattle.ha_value.specs.declared.num.NumFault.{NumFault}
use Rattle.ha_value.specs.Numbers.{read_number, print_number}
use Rattle.ha_value.specs.Arithmetic.{add, div, floor_div, modulo, round}
use Rattle.ha_value.specs.Truth.{says_yes_text}
use Rattle.ha_value.specs.Ids.{read_entity}

-- -7 // 2, -7 % 3, 7 / 2, 10 / 3, 2.5|round, 10^12 + 1, 1 // 0
quotient_rounds_down : floor_div (Num.Whole (negsuc 6)) (Num.Whole (pos 2)) ≡ Ok (Num.Whole (negsuc 3))
unfolding floor_div
quotient_rounds_down = refl

remainder_has_the_divisors_sign : modulo (Num.Whole (negsuc 6)) (Num.Whole (pos 3)) ≡ Ok (Num.Whole (pos 2))
unfolding modulo
remainder_has_the_divisors_sign = refl

remainder_of_a_negative_divisor : modulo (Num.Whole (pos 7)) (Num.Fixed (negsuc 2_999_999)) ≡ Ok (Num.Fixed (negsuc 1_999_999))
unfolding modulo
remainder_of_a_negative_divisor = refl

half_of_seven : div (Num.Whole (pos 7)) (Num.Whole (pos 2)) ≡ Ok (Num.Fixed (pos 3_500_000))
unfolding div
half_of_seven = refl

third_of_ten : div (Num.Whole (pos 10)) (Num.Whole (pos 3)) ≡ Ok (Num.Fixed (pos 3_333_333))
unfolding div
third_of_ten = refl

half_goes_to_even : round (Num.Fixed (pos 2_500_000)) 0 ≡ Num.Whole (pos 2)
unfolding round
half_goes_to_even = refl

half_goes_to_even_below_zero : round (Num.Fixed (negsuc 1_250_000)) 1 ≡ Num.Fixed (negsuc 1_299_999)
unfolding round
half_goes_to_even_below_zero = refl

past_the_range : add (Num.Whole (pos 1_000_000_000_000)) (Num.Whole (pos 1)) ≡ Err NumFault.Range
unfolding add
past_the_range = refl

divided_by_zero : floor_div (Num.Whole (pos 1)) (Num.Whole (pos 0)) ≡ Err NumFault.Zero
unfolding floor_div
divided_by_zero = refl

six_over_two_prints : print_number (Num.Fixed (pos 3_000_000)) ≡ codes "3.0"
unfolding print_number digits
six_over_two_prints = refl

fixed_prints : print_number (Num.Fixed (negsuc 50_499)) ≡ codes "-0.0505"
unfolding print_number digits
fixed_prints = refl

half_a_millionth : read_number (codes "0.0000005") ≡ Some (Num.Fixed (pos 0))
unfolding read_number
half_a_millionth = refl

three_halves_of_a_millionth : read_number (codes "+0.0000015") ≡ Some (Num.Fixed (pos 2))
unfolding read_number
three_halves_of_a_millionth = refl

range_end : read_number (codes "-1000000000000.0000005") ≡ Some (Num.Fixed (negsuc 999_999_999_999_999_999))
unfolding read_number
range_end = refl

past_the_end : read_number (codes "1000000000001") ≡ None
unfolding read_number
past_the_end = refl

no_places : read_number (codes "1.") ≡ None
unfolding read_number
no_places = refl

a_dot_alone : read_number (codes ".5") ≡ None
unfolding read_number
a_dot_alone = refl

two_signs : read_number (codes "+-5") ≡ None
unfolding read_number
two_signs = refl

nothing : read_number [] ≡ None
unfolding read_number
nothing = refl

two_dots : read_number (codes "1.2.3") ≡ None
unfolding read_number
two_dots = refl

yes_with_blanks : says_yes_text (codes "  ON ") ≡ true
unfolding says_yes_text read_number
yes_with_blanks = refl

yes_by_number : says_yes_text (codes "-0.1") ≡ true
unfolding says_yes_text read_number
yes_by_number = refl

no_by_number : says_yes_text (codes "-0.0") ≡ false
unfolding says_yes_text read_number
no_by_number = refl

an_id : read_entity (codes "light.hall_2") ≡ Some (record { domain = codes "light"; object = codes "hall_2" })
unfolding read_entity
an_id = refl

no_upper_case : read_entity (codes "light.Hall") ≡ None
unfolding read_entity
no_upper_case = refl

one_dot_only : read_entity (codes "light.hall.x") ≡ None
unfolding read_entity
one_dot_only = refl

no_empty_part : read_entity (codes ".hall") ≡ None
unfolding read_entity
no_empty_part = refl
