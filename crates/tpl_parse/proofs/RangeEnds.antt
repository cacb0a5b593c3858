-- A zero at the front of a number, with a digit behind it, changes no prefix but its length.
use Rattle.std.proofs.Common.{◌≡◌, ◌∙◌, ℕ, suc, ◌+◌, ◌-◌, ◌<◌, Bool, true, false, cond, not, List, [], ◌∷◌, length, take, drop, length-drop, Option, Some, None, refl, sym, ap, subst, arith}
use Rattle.std.specs.Prelude.{◌==◌, ◌&&◌, nat_eq, is_none, option_and_then}
use Rattle.std.specs.Char.{is_ascii_digit}
use Rattle.std.proofs.lemmas.Bool.{and_parts, eqb-true}
use Rattle.std.proofs.lemmas.Bool.Decides.{nat_tests}
use Rattle.ha_value.specs.Numbers.{kept_in_range, number_from, read_number}
use Rattle.ha_value.specs.Lists.{before_first, after_first}
use Rattle.tpl_parse.specs.Literal.{before_range_end, idle_zero}

not_minus : (d : ℕ) → is_ascii_digit d ≡ true → nat_eq d 45 ≡ false
not_minus d h = grind (arith, nat_tests)

not_plus : (d : ℕ) → is_ascii_digit d ≡ true → nat_eq d 43 ≡ false
not_plus d h = grind (arith, nat_tests)

not_dot : (d : ℕ) → is_ascii_digit d ≡ true → nat_eq d 46 ≡ false
not_dot d h = grind (arith, nat_tests)

same_number : (d : ℕ) (w : List ℕ) (p : Option (List ℕ)) → number_from false (48 ∷ d ∷ w) p ≡ number_from false (d ∷ w) p
same_number d w None = refl
same_number d w (Some places) = refl

same_read : (d : ℕ) (xs : List ℕ) → is_ascii_digit d ≡ true → read_number (48 ∷ d ∷ xs) ≡ read_number (d ∷ xs)
unfolding read_number
same_read d xs h = rw (not_minus d h, not_plus d h, not_dot d h) (ap (option_and_then kept_in_range) (same_number d (before_first 46 xs) (after_first 46 xs)))

zero_read : is_none (read_number (48 ∷ [])) ≡ false
unfolding read_number
zero_read = refl

pushed : (t : Bool) (c x y : ℕ) → x ≡ suc y → cond t (suc c) x ≡ suc (cond t c y)
pushed true c x y e = refl
pushed false c x y e = e

shifted : (d : ℕ) (xs : List ℕ) → is_ascii_digit d ≡ true → (more : List ℕ) (c : ℕ) → before_range_end (suc c) (48 ∷ d ∷ xs) more ≡ suc (before_range_end c (d ∷ xs) more)
unfolding before_range_end
shifted d xs h [] c = refl
shifted d xs h (b ∷ more) c =
    ap (λ r. cond (not (b == 46) && is_none r) (suc c) (before_range_end (suc (suc c)) (48 ∷ d ∷ xs) more)) (same_read d (take c xs) h)
    ∙ pushed (not (b == 46) && is_none (read_number (d ∷ take c xs))) c (before_range_end (suc (suc c)) (48 ∷ d ∷ xs) more) (before_range_end (suc c) (d ∷ xs) more) (shifted d xs h more (suc c))

from_zero : (d : ℕ) (xs : List ℕ) → is_ascii_digit d ≡ true → before_range_end 0 (48 ∷ d ∷ xs) (48 ∷ d ∷ xs) ≡ suc (before_range_end 0 (d ∷ xs) (d ∷ xs))
unfolding before_range_end
from_zero d xs h = ap (λ t. cond t 0 (before_range_end 1 (48 ∷ d ∷ xs) (d ∷ xs))) zero_read ∙ shifted d xs h (d ∷ xs) 0

pub zero_passed : (digits : List ℕ) → idle_zero digits ≡ true → before_range_end 0 digits digits ≡ suc (before_range_end 0 (drop 1 digits) (drop 1 digits))
zero_passed [] h = absurd cc
zero_passed (a ∷ []) h = absurd (let p = (and_parts (a == 48) false h).1 in cc)
zero_passed (a ∷ d ∷ xs) h =
    let p = and_parts (a == 48) (is_ascii_digit d) h in
    subst (λ (x : ℕ). before_range_end 0 (x ∷ d ∷ xs) (x ∷ d ∷ xs) ≡ suc (before_range_end 0 (d ∷ xs) (d ∷ xs))) (sym (eqb-true a 48 p.0)) (from_zero d xs p.1)

-- one zero more was passed, and the place behind it gives the whole
pub one_more : (passed whole all : ℕ) (left next : List ℕ) → (passed + before_range_end 0 left left ≡ whole) × (passed + length left ≡ all) → idle_zero left ≡ true → 0 < length left → next ≡ drop 1 left
    → (passed + 1 + before_range_end 0 next next ≡ whole) × (passed + 1 + length next ≡ all)
one_more passed whole all left next so_far zero some is =
    let here : before_range_end 0 next next ≡ before_range_end 0 (drop 1 left) (drop 1 left) = ap (λ (t : List ℕ). before_range_end 0 t t) is in
    let step = zero_passed left zero in
    let long : length next ≡ length left - 1 = ap length is ∙ length-drop 1 left in
    (omega (arith, here, step, so_far.0), omega (arith, long, some, so_far.1))
