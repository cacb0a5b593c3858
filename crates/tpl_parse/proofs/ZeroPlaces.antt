-- A zero behind a dot and other places changes no number.
use Rattle.std.proofs.Common.{◌≡◌, ◌∙◌, ◌⊎◌, ⊎_elim, inl, inr, ℕ, ◌+◌, ◌*◌, ◌/◌, ◌%◌, ◌^◌, ◌<◌, Bool, true, false, ◌||◌, List, [], ◌∷◌, ◌++◌, length, Option, Some, None, option_and_then, option_map, append_assoc, refl, sym, ap, subst, arith}
use Rattle.std.specs.Prelude.{is_none, nat_eq}
use Rattle.std.specs.Option.{is_some}
use Rattle.std.specs.Char.{is_ascii_digit}
use Rattle.std.specs.List.{list_all}
use Rattle.std.specs.Str.Parse.{digits_value}
use Rattle.std.proofs.Math.Nat.{one-le-pow}
use Rattle.std.proofs.lemmas.Bool.{and_parts}
use Rattle.std.proofs.lemmas.Bool.Decides.{nat_tests}
use Rattle.std.proofs.lemmas.List.{length-append}
use Rattle.std.proofs.lemmas.Nat.{div-add-mod', mod_below, pow-add}
use Rattle.ha_value.specs.declared.value.Num.{Num}
use Rattle.ha_value.specs.Lists.{some_all, before_first, after_first}
use Rattle.ha_value.specs.Numbers.{nearer, nearest, number_from, kept_in_range, read_number, without_sign}
use Rattle.ha_value.proofs.NumberLemmas.{nearest-parts}
use Rattle.ha_value.proofs.DigitLemmas.{value-append, fixed-no_places}
use Rattle.tpl_parse.specs.Literal.{has_dot}

tested : (b : Bool) → (b ≡ true) ⊎ (b ≡ false)
tested true = inl refl
tested false = inr refl

-- ---- the value

nearer_ten : (q r d : ℕ) → nearer q (r * 10) (d * 10) ≡ nearer q r d
nearer_ten q r d = grind (arith, nat_tests)

pub nearest_ten : (n d : ℕ) → 0 < d → nearest (n * 10) (d * 10) ≡ nearest n d
nearest_ten n d some =
    let parts : n / d * d + n % d ≡ n = div-add-mod' n d in
    let less : n % d < d = mod_below n d some in
    let same : n * 10 ≡ n / d * (d * 10) + n % d * 10 = omega arith in
    ap (λ x. nearest x (d * 10)) same ∙ nearest-parts (n / d) (n % d * 10) (d * 10) (omega arith) ∙ nearer_ten (n / d) (n % d) d

all_digits : (xs : List ℕ) → list_all is_ascii_digit xs ≡ true → list_all is_ascii_digit (xs ++ 48 ∷ []) ≡ true
all_digits [] h = refl
all_digits (x ∷ xs) h = let p = and_parts (is_ascii_digit x) (list_all is_ascii_digit xs) h in rw p.0 (all_digits xs p.1)

more_digits : (p : List ℕ) → some_all is_ascii_digit p ≡ true → some_all is_ascii_digit (p ++ 48 ∷ []) ≡ true
more_digits [] h = refl
more_digits (x ∷ xs) h = all_digits (x ∷ xs) h

same_value : (w p : List ℕ) → nearest (digits_value 10 (w ++ (p ++ 48 ∷ [])) * 1_000_000) (10 ^ length (p ++ 48 ∷ [])) ≡ nearest (digits_value 10 (w ++ p) * 1_000_000) (10 ^ length p)
same_value w p =
    let joined : digits_value 10 (w ++ (p ++ 48 ∷ [])) ≡ digits_value 10 (w ++ p) * 10 = ap (digits_value 10) (sym (append_assoc w p (48 ∷ []))) ∙ value-append (w ++ p) (48 ∷ []) ∙ omega arith in
    let scaled : digits_value 10 (w ++ (p ++ 48 ∷ [])) * 1_000_000 ≡ digits_value 10 (w ++ p) * 1_000_000 * 10 = ap (λ x. x * 1_000_000) joined ∙ omega arith in
    let power : 10 ^ length (p ++ 48 ∷ []) ≡ 10 ^ length p * 10 = ap (λ x. 10 ^ x) (length-append p (48 ∷ [])) ∙ pow-add 10 (length p) 1 in
    ap (λ x. nearest x (10 ^ length (p ++ 48 ∷ []))) scaled ∙ ap (λ x. nearest (digits_value 10 (w ++ p) * 1_000_000 * 10) x) power
    ∙ nearest_ten (digits_value 10 (w ++ p) * 1_000_000) (10 ^ length p) (one-le-pow (length p) 10 (omega arith))

same_places : (minus : Bool) (w p : List ℕ) → some_all is_ascii_digit p ≡ true → number_from minus w (Some (p ++ 48 ∷ [])) ≡ number_from minus w (Some p)
same_places minus w p digits = rw (digits, more_digits p digits, same_value w p) refl

-- ---- the text

from_parts : (minus : Bool) (w : List ℕ) (places : Option (List ℕ)) → is_some places ≡ true → is_none (option_and_then kept_in_range (number_from minus w places)) ≡ false
    → is_none (option_and_then kept_in_range (number_from minus w (option_map (λ (p : List ℕ). p ++ 48 ∷ []) places))) ≡ false
from_parts minus w None some read = absurd cc
from_parts minus w (Some p) some read = ⊎_elim
    (λ (digits : some_all is_ascii_digit p ≡ true). ap (λ (n : Option Num). is_none (option_and_then kept_in_range n)) (same_places minus w p digits) ∙ read)
    (λ (others : some_all is_ascii_digit p ≡ false).
    let none = fixed-no_places minus w p (λ digits. absurd cc) in
    absurd (let told : true ≡ false = sym (ap is_none none) ∙ read in cc))
    (tested (some_all is_ascii_digit p))

after_more : (u : List ℕ) (b : ℕ) → is_some (after_first 46 u) ≡ true → after_first 46 (u ++ b ∷ []) ≡ option_map (λ (p : List ℕ). p ++ b ∷ []) (after_first 46 u)
after_more [] b some = absurd cc
after_more (x ∷ xs) b some = ⊎_elim
    (λ (dot : nat_eq x 46 ≡ true). rw dot refl)
    (λ (other : nat_eq x 46 ≡ false). rw other (after_more xs b (rw other at some)))
    (tested (nat_eq x 46))

before_more : (u : List ℕ) (b : ℕ) → is_some (after_first 46 u) ≡ true → before_first 46 (u ++ b ∷ []) ≡ before_first 46 u
before_more [] b some = absurd cc
before_more (x ∷ xs) b some = ⊎_elim
    (λ (dot : nat_eq x 46 ≡ true). rw dot refl)
    (λ (other : nat_eq x 46 ≡ false). rw other (ap (λ (w : List ℕ). x ∷ w) (before_more xs b (rw other at some))))
    (tested (nat_eq x 46))

sign_stays : (c : ℕ) (cs : List ℕ) (b : ℕ) → without_sign (c ∷ cs ++ b ∷ []) ≡ without_sign (c ∷ cs) ++ b ∷ []
sign_stays c cs b = ⊎_elim
    (λ (sign : (nat_eq c 43 || nat_eq c 45) ≡ true). rw sign refl)
    (λ (other : (nat_eq c 43 || nat_eq c 45) ≡ false). rw other refl)
    (tested (nat_eq c 43 || nat_eq c 45))

abbrev parted : Bool → List ℕ → Option Num
parted minus u = option_and_then kept_in_range (number_from minus (before_first 46 u) (after_first 46 u))

more_parted : (minus : Bool) (u : List ℕ) → is_some (after_first 46 u) ≡ true → is_none (parted minus u) ≡ false → is_none (parted minus (u ++ 48 ∷ [])) ≡ false
more_parted minus u some read =
    subst (λ (w : List ℕ). is_none (option_and_then kept_in_range (number_from minus w (after_first 46 (u ++ 48 ∷ [])))) ≡ false) (sym (before_more u 48 some))
    (subst (λ (o : Option (List ℕ)). is_none (option_and_then kept_in_range (number_from minus (before_first 46 u) o)) ≡ false) (sym (after_more u 48 some))
    (from_parts minus (before_first 46 u) (after_first 46 u) some read))

pub zero_read : (t : List ℕ) → has_dot t ≡ true → is_none (read_number t) ≡ false → is_none (read_number (t ++ 48 ∷ [])) ≡ false
unfolding read_number
zero_read [] dot read = absurd cc
zero_read (c ∷ cs) dot read =
    subst (λ (u : List ℕ). is_none (parted (nat_eq c 45) u) ≡ false) (sym (sign_stays c cs 48)) (more_parted (nat_eq c 45) (without_sign (c ∷ cs)) dot read)

-- ---- dots

some_more : (u : List ℕ) (b : ℕ) → is_some (after_first 46 u) ≡ true → is_some (after_first 46 (u ++ b ∷ [])) ≡ true
some_more u b some = ap is_some (after_more u b some) ∙ kept (after_first 46 u) some
  where
    kept : (o : Option (List ℕ)) → is_some o ≡ true → is_some (option_map (λ (p : List ℕ). p ++ b ∷ []) o) ≡ true
    kept None h = absurd cc
    kept (Some p) h = refl

pub dot_more : (t : List ℕ) (b : ℕ) → has_dot t ≡ true → has_dot (t ++ b ∷ []) ≡ true
dot_more [] b dot = absurd cc
dot_more (c ∷ cs) b dot = subst (λ (u : List ℕ). is_some (after_first 46 u) ≡ true) (sym (sign_stays c cs b)) (some_more (without_sign (c ∷ cs)) b dot)

dot_ends : (u : List ℕ) → is_some (after_first 46 (u ++ 46 ∷ [])) ≡ true
dot_ends [] = refl
dot_ends (x ∷ xs) = ⊎_elim
    (λ (dot : nat_eq x 46 ≡ true). rw dot refl)
    (λ (other : nat_eq x 46 ≡ false). rw other (dot_ends xs))
    (tested (nat_eq x 46))

pub dot_here : (t : List ℕ) → has_dot (t ++ 46 ∷ []) ≡ true
dot_here [] = refl
dot_here (c ∷ cs) = subst (λ (u : List ℕ). is_some (after_first 46 u) ≡ true) (sym (sign_stays c cs 46)) (dot_ends (without_sign (c ∷ cs)))
