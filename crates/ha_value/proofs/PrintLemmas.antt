-- What is printed is read as the same number, and a written id as the same id.
use Rattle.std.proofs.Common.{◌≡◌, ◌⊎◌, ⊎_elim, inl, inr, ℕ, suc, ◌+◌, ◌-◌, ◌*◌, ◌/◌, ◌%◌, ◌^◌, ◌<◌, ◌≤◌, Bool, true, false, nat_eq, List, [], ◌∷◌, ◌++◌, length, Some, None, ℤ, pos, negsuc, neg_ℤ, unsigned_abs, option_and_then, decimal, refl, sym, ap, ◌∙◌, arith}
use mathlib.Core.List.{append-nil}
use Rattle.std.proofs.Math.Nat.{mul_assoc, div-div-eq-div-mul}
use Rattle.std.proofs.lemmas.Bool.Decides.{nat_tests}
use Rattle.std.proofs.lemmas.Fmt.{decimal_is_IsNumeral}
use Rattle.std.proofs.lemmas.Nat.{pow-add, div-add-mod'}
use Rattle.std.specs.Char.{digit_value, is_ascii_digit}
use Rattle.std.specs.Fmt.{signed_decimal}
use Rattle.std.specs.List.{list_all}
use Rattle.std.specs.Str.Parse.{digits_value, AllDigits}
use Rattle.ha_value.specs.declared.value.EntityId.{EntityId}
use Rattle.ha_value.specs.declared.value.Num.{Num}
use Rattle.ha_value.specs.Ids.{is_name, is_name_byte, is_entity, entity_text, read_entity}
use Rattle.ha_value.specs.Lists.{some_all, before_end, before_first, after_first}
use Rattle.ha_value.specs.Numbers.{nearest, signed, has_minus, without_sign, number_from, number_of_text, kept_in_range, read_number, print_number, places_text, digit, is_digit_zero, is_in_range}
use Rattle.ha_value.proofs.DigitLemmas.{value-cons, joined_value, short_places, some_all_from, and_left, and_right}

test_cases : (b : Bool) → (b ≡ true) ⊎ (b ≡ false)
test_cases true = inl refl
test_cases false = inr refl

-- ---- texts of digits

is_digit_from : (c : ℕ) → digit_value c < 10 → is_ascii_digit c ≡ true
is_digit_from c h = grind (arith, nat_tests)

digits_from : (ds : List ℕ) → AllDigits 10 ds → list_all is_ascii_digit ds ≡ true
digits_from [] h = refl
digits_from (c ∷ cs) h = rw (is_digit_from c h.0) (digits_from cs h.1)

not_the_dot : (c : ℕ) → is_ascii_digit c ≡ true → nat_eq c 46 ≡ false
not_the_dot c h = grind (arith, nat_tests)

not_a_minus : (c : ℕ) → is_ascii_digit c ≡ true → nat_eq c 45 ≡ false
not_a_minus c h = grind (arith, nat_tests)

not_a_plus : (c : ℕ) → is_ascii_digit c ≡ true → nat_eq c 43 ≡ false
not_a_plus c h = grind (arith, nat_tests)

no_minus : (ds rest : List ℕ) → 0 < length ds → list_all is_ascii_digit ds ≡ true → has_minus (ds ++ rest) ≡ false
no_minus [] rest l h = absurd (omega arith)
no_minus (c ∷ cs) rest l h = not_a_minus c (and_left _ _ h)

no_sign : (ds rest : List ℕ) → 0 < length ds → list_all is_ascii_digit ds ≡ true → without_sign (ds ++ rest) ≡ ds ++ rest
no_sign [] rest l h = absurd (omega arith)
no_sign (c ∷ cs) rest l h = rw (not_a_plus c (and_left _ _ h), not_a_minus c (and_left _ _ h)) refl

before_dot : (ds rest : List ℕ) → list_all is_ascii_digit ds ≡ true → before_first 46 (ds ++ 46 ∷ rest) ≡ ds
before_dot [] rest h = refl
before_dot (c ∷ cs) rest h =
    rw (not_the_dot c (and_left _ _ h)) (ap (λ r. c ∷ r) (before_dot cs rest (and_right (is_ascii_digit c) _ h)))

after_dot : (ds rest : List ℕ) → list_all is_ascii_digit ds ≡ true → after_first 46 (ds ++ 46 ∷ rest) ≡ Some rest
after_dot [] rest h = refl
after_dot (c ∷ cs) rest h = rw (not_the_dot c (and_left _ _ h)) (after_dot cs rest (and_right (is_ascii_digit c) _ h))

without_dot : (ds : List ℕ) → list_all is_ascii_digit ds ≡ true → before_first 46 ds ≡ ds
without_dot [] h = refl
without_dot (c ∷ cs) h =
    rw (not_the_dot c (and_left _ _ h)) (ap (λ r. c ∷ r) (without_dot cs (and_right (is_ascii_digit c) _ h)))

nothing_after : (ds : List ℕ) → list_all is_ascii_digit ds ≡ true → after_first 46 ds ≡ None
nothing_after [] h = refl
nothing_after (c ∷ cs) h = rw (not_the_dot c (and_left _ _ h)) (nothing_after cs (and_right (is_ascii_digit c) _ h))

-- ---- whole numbers

digits_whole : (minus : Bool) (ds : List ℕ) → 0 < length ds → list_all is_ascii_digit ds ≡ true →
    number_from minus (before_first 46 ds) (after_first 46 ds) ≡ Some (Num.Whole (signed minus (digits_value 10 ds)))
digits_whole minus ds l h = rw (without_dot ds h, nothing_after ds h, some_all_from ds l h) refl

whole_text : (ds : List ℕ) → 0 < length ds → list_all is_ascii_digit ds ≡ true →
    number_of_text (ds ++ []) ≡ Some (Num.Whole (pos (digits_value 10 ds)))
whole_text ds l h = rw (no_minus ds [] l h, no_sign ds [] l h, append-nil ds) (digits_whole false ds l h)

print_whole_is_read : (z : ℤ) → unsigned_abs z < 2 ^ 64 → number_of_text (signed_decimal z) ≡ Some (Num.Whole z)
print_whole_is_read (pos n) b =
    let d = decimal_is_IsNumeral n b in
    let digits : list_all is_ascii_digit (decimal n) ≡ true = digits_from (decimal n) d.0.1 in
    ap number_of_text (sym (append-nil (decimal n))) ∙ whole_text (decimal n) d.0.0 digits ∙ ap (λ k. Some (Num.Whole (pos k))) d.1
print_whole_is_read (negsuc n) b =
    let d = decimal_is_IsNumeral (suc n) b in
    let digits : list_all is_ascii_digit (decimal (suc n)) ≡ true = digits_from (decimal (suc n)) d.0.1 in
    digits_whole true (decimal (suc n)) d.0.0 digits ∙ ap (λ k. Some (Num.Whole (neg_ℤ (pos k)))) d.1

-- ---- places

scale_cons : (a v l n : ℕ) → l ≤ n → (a * 10 ^ l + v) * 10 ^ (n - l) ≡ a * 10 ^ n + v * 10 ^ (n - l)
scale_cons a v l n h =
    let sum : l + (n - l) ≡ n = omega arith in
    let whole : 10 ^ (l + (n - l)) ≡ 10 ^ l * 10 ^ (n - l) = pow-add 10 l (n - l) in
    let power : 10 ^ n ≡ 10 ^ l * 10 ^ (n - l) = rw sum at whole in
    let moved : a * 10 ^ l * 10 ^ (n - l) ≡ a * (10 ^ l * 10 ^ (n - l)) = mul_assoc a (10 ^ l) (10 ^ (n - l)) in
    rw power (omega arith)

zero_value : (c : ℕ) → is_digit_zero c ≡ true → digit_value c ≡ 0
zero_value c h = grind (arith, nat_tests)

all_zeros_value : (ds : List ℕ) → list_all is_digit_zero ds ≡ true → digits_value 10 ds ≡ 0
all_zeros_value [] h = refl
all_zeros_value (c ∷ cs) h =
    let first : digit_value c ≡ 0 = zero_value c (and_left _ _ h) in
    let rest : digits_value 10 cs ≡ 0 = all_zeros_value cs (and_right (is_digit_zero c) _ h) in
    value-cons c cs ∙ rw (first, rest) (omega arith)

record Kept (ds : List ℕ) : Type 0 where
  short : length (before_end is_digit_zero ds) ≤ length ds
  value : digits_value 10 (before_end is_digit_zero ds) * 10 ^ (length ds - length (before_end is_digit_zero ds)) ≡ digits_value 10 ds
  digits : list_all is_ascii_digit (before_end is_digit_zero ds) ≡ true

kept : (ds : List ℕ) → list_all is_ascii_digit ds ≡ true → Kept ds
kept [] h = record { short = omega arith; value = refl; digits = refl }
kept (c ∷ cs) h = ⊎_elim
    (λ (e : list_all is_digit_zero (c ∷ cs) ≡ true). record {
      short = rw e (omega arith);
      value = rw e (omega (arith, all_zeros_value (c ∷ cs) e));
      digits = rw e refl;
    })
    (λ (e : list_all is_digit_zero (c ∷ cs) ≡ false).
    let rest : Kept cs = kept cs (and_right (is_ascii_digit c) _ h) in
    let step : suc (length cs) - suc (length (before_end is_digit_zero cs)) ≡ length cs - length (before_end is_digit_zero cs) = omega arith in
    record {
      short = rw e (omega (arith, rest.short));
      value = rw (e, value-cons c (before_end is_digit_zero cs), step, scale_cons (digit_value c) (digits_value 10 (before_end is_digit_zero cs)) (length (before_end is_digit_zero cs)) (length cs) rest.short, rest.value) (sym (value-cons c cs));
      digits = rw (e, and_left (is_ascii_digit c) _ h) rest.digits;
    })
    (test_cases (list_all is_digit_zero (c ∷ cs)))

digit_value-digit : (n : ℕ) → digit_value (digit n) ≡ n % 10
digit_value-digit n = grind (arith, nat_tests)

is_digit : (n : ℕ) → is_ascii_digit (digit n) ≡ true
is_digit n = grind (arith, nat_tests)

abbrev tail_of : ℕ → List ℕ
tail_of m = digit (m / 10_000) ∷ digit (m / 1_000) ∷ digit (m / 100) ∷ digit (m / 10) ∷ digit m ∷ []

tail_digits : (m : ℕ) → list_all is_ascii_digit (tail_of m) ≡ true
tail_digits m = rw (is_digit (m / 10_000), is_digit (m / 1_000), is_digit (m / 100), is_digit (m / 10), is_digit m) refl

tail_value : (m : ℕ) → digits_value 10 (tail_of m) ≡
    ((((m / 10_000 % 10) * 10 + m / 1_000 % 10) * 10 + m / 100 % 10) * 10 + m / 10 % 10) * 10 + m % 10
tail_value m =
    rw (digit_value-digit (m / 10_000), digit_value-digit (m / 1_000), digit_value-digit (m / 100), digit_value-digit (m / 10), digit_value-digit m) (omega arith)

-- six digits write the number again
six_digits : (m : ℕ) → m < 1_000_000 → (m / 100_000 % 10) * 100_000 + digits_value 10 (tail_of m) ≡ m
six_digits m h =
    let a : m / 10_000 / 10 ≡ m / 100_000 = div-div-eq-div-mul m 10_000 10 in
    let b : m / 1_000 / 10 ≡ m / 10_000 = div-div-eq-div-mul m 1_000 10 in
    let c : m / 100 / 10 ≡ m / 1_000 = div-div-eq-div-mul m 100 10 in
    let d : m / 10 / 10 ≡ m / 100 = div-div-eq-div-mul m 10 10 in
    joined_digits m (m / 10) (m / 100) (m / 1_000) (m / 10_000) (m / 100_000) h (tail_value m)
    (div-add-mod' m 10) (d_step (m / 10) (m / 100) d) (d_step (m / 100) (m / 1_000) c) (d_step (m / 1_000) (m / 10_000) b) (d_step (m / 10_000) (m / 100_000) a)
  where
    d_step : (n q : ℕ) → n / 10 ≡ q → q * 10 + n % 10 ≡ n
    d_step n q e = rw (← e) (div-add-mod' n 10)

    joined_digits : (m n o p q r : ℕ) → m < 1_000_000 → digits_value 10 (tail_of m) ≡ ((((q % 10) * 10 + p % 10) * 10 + o % 10) * 10 + n % 10) * 10 + m % 10 →
        n * 10 + m % 10 ≡ m → o * 10 + n % 10 ≡ n → p * 10 + o % 10 ≡ o → q * 10 + p % 10 ≡ p → r * 10 + q % 10 ≡ q →
        (r % 10) * 100_000 + digits_value 10 (tail_of m) ≡ m
    joined_digits m n o p q r h e f g i j k = omega (arith, e, f, g, i, j, k)

places_from : (d v l m t : ℕ) → l ≤ 5 → v * 10 ^ (5 - l) ≡ t → d * 100_000 + t ≡ m → (d * 10 ^ l + v) * 10 ^ (6 - suc l) ≡ m
places_from d v l m t h e f =
    let step : 6 - suc l ≡ 5 - l = omega arith in
    rw (step, scale_cons d v l 5 h, e) f

-- the places of millionths stand for these millionths
places_read : (m : ℕ) → m < 1_000_000 → nearest (digits_value 10 (places_text m) * 1_000_000) (10 ^ length (places_text m)) ≡ m
places_read m h =
    let rest : Kept (tail_of m) = kept (tail_of m) (tail_digits m) in
    let few : length (before_end is_digit_zero (tail_of m)) ≤ 5 = rest.short in
    let first : digit_value (digit (m / 100_000)) * 100_000 + digits_value 10 (tail_of m) ≡ m = rw (digit_value-digit (m / 100_000)) (six_digits m h) in
    short_places (digits_value 10 (places_text m)) (suc (length (before_end is_digit_zero (tail_of m)))) (omega arith)
    ∙ ap (λ n. n * 10 ^ (6 - suc (length (before_end is_digit_zero (tail_of m))))) (value-cons (digit (m / 100_000)) (before_end is_digit_zero (tail_of m)))
    ∙ places_from (digit_value (digit (m / 100_000))) (digits_value 10 (before_end is_digit_zero (tail_of m))) (length (before_end is_digit_zero (tail_of m))) m (digits_value 10 (tail_of m)) few rest.value first

places_digits : (m : ℕ) → some_all is_ascii_digit (places_text m) ≡ true
places_digits m = let rest : Kept (tail_of m) = kept (tail_of m) (tail_digits m) in rw (is_digit (m / 100_000)) rest.digits

-- ---- fixed-point numbers

digits_fixed : (minus : Bool) (us ps : List ℕ) → 0 < length us → list_all is_ascii_digit us ≡ true → some_all is_ascii_digit ps ≡ true →
    number_from minus (before_first 46 (us ++ 46 ∷ ps)) (after_first 46 (us ++ 46 ∷ ps)) ≡ Some (Num.Fixed (signed minus (digits_value 10 us * 1_000_000 + nearest (digits_value 10 ps * 1_000_000) (10 ^ length ps))))
digits_fixed minus us ps l h k = rw (before_dot us ps h, after_dot us ps h, some_all_from us l h, k, joined_value us ps) refl

printed_size : (n : ℕ) → n < 2 ^ 64 → digits_value 10 (decimal (n / 1_000_000)) * 1_000_000 + nearest (digits_value 10 (places_text (n % 1_000_000)) * 1_000_000) (10 ^ length (places_text (n % 1_000_000))) ≡ n
printed_size n b =
    let d = decimal_is_IsNumeral (n / 1_000_000) (omega arith) in
    rw (d.1, places_read (n % 1_000_000) (omega arith)) (div-add-mod' n 1_000_000)

fixed_parts : (minus : Bool) (n : ℕ) → n < 2 ^ 64 →
    number_from minus (before_first 46 (decimal (n / 1_000_000) ++ 46 ∷ places_text (n % 1_000_000))) (after_first 46 (decimal (n / 1_000_000) ++ 46 ∷ places_text (n % 1_000_000)))
    ≡ Some (Num.Fixed (signed minus n))
fixed_parts minus n b =
    let d = decimal_is_IsNumeral (n / 1_000_000) (omega arith) in
    digits_fixed minus (decimal (n / 1_000_000)) (places_text (n % 1_000_000)) d.0.0 (digits_from (decimal (n / 1_000_000)) d.0.1) (places_digits (n % 1_000_000))
    ∙ ap (λ k. Some (Num.Fixed (signed minus k))) (printed_size n b)

print_fixed_is_read : (z : ℤ) → unsigned_abs z < 2 ^ 64 → number_of_text (print_number (Num.Fixed z)) ≡ Some (Num.Fixed z)
unfolding print_number
print_fixed_is_read (pos n) b =
    let d = decimal_is_IsNumeral (n / 1_000_000) (omega arith) in
    let digits : list_all is_ascii_digit (decimal (n / 1_000_000)) ≡ true = digits_from (decimal (n / 1_000_000)) d.0.1 in
    rw (no_minus (decimal (n / 1_000_000)) (46 ∷ places_text (n % 1_000_000)) d.0.0 digits, no_sign (decimal (n / 1_000_000)) (46 ∷ places_text (n % 1_000_000)) d.0.0 digits)
    (fixed_parts false n b)
print_fixed_is_read (negsuc n) b = fixed_parts true (suc n) b

raw : Num → ℤ
raw (Num.Whole z) = z
raw (Num.Fixed z) = z

small_in_range : (n : Num) → is_in_range n ≡ true → unsigned_abs (raw n) < 2 ^ 64
unfolding raw
small_in_range (Num.Whole z) h = grind (arith, nat_tests)
small_in_range (Num.Fixed z) h = grind (arith, nat_tests)

-- what is read of a printed number, in range or not
pub whole-read : (z : ℤ) → unsigned_abs z < 2 ^ 64 → read_number (print_number (Num.Whole z)) ≡ kept_in_range (Num.Whole z)
unfolding read_number print_number
whole-read z b = ap (option_and_then kept_in_range) (print_whole_is_read z b)

pub fixed-read : (z : ℤ) → unsigned_abs z < 2 ^ 64 → read_number (print_number (Num.Fixed z)) ≡ kept_in_range (Num.Fixed z)
unfolding read_number
fixed-read z b = ap (option_and_then kept_in_range) (print_fixed_is_read z b)

pub ruleset prints = (whole-read, fixed-read)

print_kept : (n : Num) → unsigned_abs (raw n) < 2 ^ 64 → read_number (print_number n) ≡ kept_in_range n
unfolding raw
print_kept (Num.Whole z) b = whole-read z b
print_kept (Num.Fixed z) b = fixed-read z b

pub print_is_read : (n : Num) → is_in_range n ≡ true → read_number (print_number n) ≡ Some n
print_is_read n h = print_kept n (small_in_range n h) ∙ rw h refl

-- ---- entity ids

name_not_dot : (c : ℕ) → is_name_byte c ≡ true → nat_eq c 46 ≡ false
name_not_dot c h = grind (arith, nat_tests)

before_id_dot : (ds rest : List ℕ) → list_all is_name_byte ds ≡ true → before_first 46 (ds ++ 46 ∷ rest) ≡ ds
before_id_dot [] rest h = refl
before_id_dot (c ∷ cs) rest h =
    rw (name_not_dot c (and_left _ _ h)) (ap (λ r. c ∷ r) (before_id_dot cs rest (and_right (is_name_byte c) _ h)))

after_id_dot : (ds rest : List ℕ) → list_all is_name_byte ds ≡ true → after_first 46 (ds ++ 46 ∷ rest) ≡ Some rest
after_id_dot [] rest h = refl
after_id_dot (c ∷ cs) rest h = rw (name_not_dot c (and_left _ _ h)) (after_id_dot cs rest (and_right (is_name_byte c) _ h))

all_of_name : (ds : List ℕ) → is_name ds ≡ true → list_all is_name_byte ds ≡ true
all_of_name [] h = refl
all_of_name (c ∷ cs) h = h

pub id_is_read : (e : EntityId) → is_entity e ≡ true → read_entity (entity_text e) ≡ Some e
unfolding read_entity
id_is_read e h =
    let domain : is_name e.domain ≡ true = and_left _ _ h in
    let object : is_name e.object ≡ true = and_right (is_name e.domain) _ h in
    rw (before_id_dot e.domain e.object (all_of_name e.domain domain), after_id_dot e.domain e.object (all_of_name e.domain domain), domain, object) refl

-- a text that is read as an id is that id as it is written
joined_cut : (c : ℕ) (xs rest : List ℕ) → after_first c xs ≡ Some rest → before_first c xs ++ c ∷ rest ≡ xs
joined_cut c [] rest h = absurd (cc)
joined_cut c (x ∷ xs) rest h = ⊎_elim
    (λ (e : nat_eq x c ≡ true).
    let same : x ≡ c = grind (arith, nat_tests) in
    let all : Some xs ≡ Some rest = rw e at h in
    rw e (let tail : xs ≡ rest = cc in rw (same, tail) refl))
    (λ (e : nat_eq x c ≡ false). rw e (ap (λ r. x ∷ r) (joined_cut c xs rest (rw e at h))))
    (test_cases (nat_eq x c))
