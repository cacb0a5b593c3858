-- Numbers: where one would leave its range, what stands before that place is one.
use Rattle.std.proofs.Common.{◌≡◌, ℕ, ◌+◌, ◌*◌, ◌^◌, ◌≤◌, true, false, inl, inr, List, [], ◌∷◌, ◌++◌, length, Some, None, option_and_then, refl, sym, ap, ◌∙◌, subst, arith, append_assoc}
use Rattle.std.specs.Prelude.{◌==◌, nat_eq}
use Rattle.std.specs.Char.{is_ascii_digit}
use Rattle.std.specs.List.{list_all}
use Rattle.std.specs.Str.Parse.{digits_value}
use Rattle.std.proofs.lemmas.Bool.{cases_lt, eqb-true}
use Rattle.std.proofs.lemmas.Bool.Decides.{nat_tests}
use Rattle.ha_value.specs.declared.value.Num.{Num}
use Rattle.ha_value.specs.Lists.{before_first, after_first}
use Rattle.ha_value.specs.Numbers.{nearest, number_from, kept_in_range, read_number, signed}
use Rattle.ha_value.proofs.DigitLemmas.{whole-some, whole-none, fixed-some}
use Rattle.reading.proofs.Basics.{chosen_is}
use Rattle.tpl_parse.specs.Literal.{begins_places}
use Rattle.tpl_parse.specs.Grammar.{other, more as one_more, IsDigits, IsNumeral, whole, places}
use Rattle.tpl_laws.proofs.Likes.{Like}
use Rattle.tpl_laws.proofs.Lexical.{AllOf, run_again, run_stops, stops_like, run_parts}

-- ---- the same number where the text goes on alike

pub record Numbered (t : List ℕ) (ds rest : List ℕ) : Type 0 where
  pub parts : t ≡ ds ++ rest
  pub again : (o : List ℕ) → Like rest o → IsNumeral (ds ++ o) ds o

pub digits_by : (b : ℕ) (t w rest : List ℕ) → is_ascii_digit b ≡ true → IsDigits (b ∷ t) w rest → (v : List ℕ) × (w ≡ b ∷ v)
digits_by b t w rest first (one_more {run = run} h r) = (run, refl)
digits_by b t w rest first (other h) = absurd (let k = sym first ∙ h in cc)

pub digits_again : {t w rest : List ℕ} → IsDigits t w rest → (o : List ℕ) → Like rest o → IsDigits (w ++ o) w o
digits_again {rest = rest} r o l = run_again r o (stops_like is_ascii_digit rest o refl (run_stops r) l.first)

whole_again : (b : ℕ) (ds o : List ℕ) → is_ascii_digit b ≡ true → (v : List ℕ) → ds ≡ b ∷ v → IsDigits (ds ++ o) ds o → begins_places o ≡ false → IsNumeral (ds ++ o) ds o
whole_again b ds o first v is run bare = subst (λ (w : List ℕ). IsNumeral (w ++ o) ds o) (sym is) (whole first (subst (λ (w : List ℕ). IsDigits (w ++ o) ds o) is run) bare)

-- a dot stops digits
dotted_run : {t w rest : List ℕ} → IsDigits t w rest → (o : List ℕ) → IsDigits (w ++ 46 ∷ o) w (46 ∷ o)
dotted_run r o = run_again r (46 ∷ o) refl

places_again : (b c : ℕ) (ds ps o : List ℕ) → is_ascii_digit b ≡ true → (v : List ℕ) → ds ≡ b ∷ v → is_ascii_digit c ≡ true → (p : List ℕ) → ps ≡ c ∷ p → ((x : List ℕ) → IsDigits (ds ++ 46 ∷ x) ds (46 ∷ x)) → IsDigits (ps ++ o) ps o
    → IsNumeral ((ds ++ 46 ∷ ps) ++ o) (ds ++ 46 ∷ ps) o
places_again b c ds ps o first v is digit p at run run2 =
    let two : IsDigits (c ∷ (p ++ o)) ps o = subst (λ (w : List ℕ). IsDigits (w ++ o) ps o) at run2 in
    let one : IsDigits (b ∷ (v ++ 46 ∷ c ∷ (p ++ o))) ds (46 ∷ c ∷ (p ++ o)) = subst (λ (w : List ℕ). IsDigits (w ++ 46 ∷ c ∷ (p ++ o)) ds (46 ∷ c ∷ (p ++ o))) is (run (c ∷ (p ++ o))) in
    let here : IsNumeral (b ∷ (v ++ 46 ∷ c ∷ (p ++ o))) (ds ++ 46 ∷ ps) o = places first one digit two in
    let text : (ds ++ 46 ∷ ps) ++ o ≡ b ∷ (v ++ 46 ∷ c ∷ (p ++ o)) = append_assoc ds (46 ∷ ps) o ∙ (λ i. is i ++ 46 ∷ (at i ++ o)) in
    subst (λ (w : List ℕ). IsNumeral w (ds ++ 46 ∷ ps) o) (sym text) here

pub numeral_again : {t ds rest : List ℕ} → IsNumeral t ds rest → Numbered t ds rest
numeral_again (whole {b = b} {text = t} {digits = ds} {rest = rest} first run bare) =
    let p = digits_by b t ds rest first run in
    record { parts = run_parts run; again = λ o l. whole_again b ds o first p.0 p.1 (digits_again run o l) (l.places bare) }
numeral_again (places {b = b} {c = c} {text = t} {digits = ds} {behind = behind} {places = ps} {rest = rest} first run digit run2) =
    let p = digits_by b t ds (46 ∷ c ∷ behind) first run in
    let q = digits_by c behind ps rest digit run2 in
    record {
      parts = run_parts run ∙ ap (λ (v : List ℕ). ds ++ 46 ∷ v) (run_parts run2) ∙ sym (append_assoc ds (46 ∷ ps) rest);
      again = λ o l. places_again b c ds ps o first p.0 p.1 digit q.0 q.1 (λ x. dotted_run run x) (digits_again run2 o l);
    }

-- ---- the number of some digits

all_of : (w : List ℕ) → AllOf is_ascii_digit w → list_all is_ascii_digit w ≡ true
all_of [] a = refl
all_of (b ∷ w) a = rw a.0 (all_of w a.1)

not_minus : (d : ℕ) → is_ascii_digit d ≡ true → nat_eq d 45 ≡ false
not_minus d h = grind (arith, nat_tests)

not_plus : (d : ℕ) → is_ascii_digit d ≡ true → nat_eq d 43 ≡ false
not_plus d h = grind (arith, nat_tests)

not_dot : (d : ℕ) → is_ascii_digit d ≡ true → nat_eq d 46 ≡ false
not_dot d h = grind (arith, nat_tests)

pub digit_no_dot : (d : ℕ) → is_ascii_digit d ≡ true → (d == 46) ≡ false
digit_no_dot d h = elim (chosen_is (d == 46)) [
  | inl k ↦ absurd (let e = eqb-true d 46 k in let w : is_ascii_digit 46 ≡ true = subst (λ (x : ℕ). is_ascii_digit x ≡ true) e h in cc)
  | inr k ↦ k
]

before_all : (w : List ℕ) → AllOf is_ascii_digit w → before_first 46 w ≡ w
before_all [] a = refl
before_all (b ∷ w) a = rw (not_dot b a.0) (ap (λ (v : List ℕ). b ∷ v) (before_all w a.1))

after_all : (w : List ℕ) → AllOf is_ascii_digit w → after_first 46 w ≡ None
after_all [] a = refl
after_all (b ∷ w) a = rw (not_dot b a.0) (after_all w a.1)

before_dot : (w p : List ℕ) → AllOf is_ascii_digit w → before_first 46 (w ++ 46 ∷ p) ≡ w
before_dot [] p a = refl
before_dot (b ∷ w) p a = rw (not_dot b a.0) (ap (λ (v : List ℕ). b ∷ v) (before_dot w p a.1))

after_dot : (w p : List ℕ) → AllOf is_ascii_digit w → after_first 46 (w ++ 46 ∷ p) ≡ Some p
after_dot [] p a = refl
after_dot (b ∷ w) p a = rw (not_dot b a.0) (after_dot w p a.1)

read_is : (e : ℕ) (p : List ℕ) → is_ascii_digit e ≡ true → read_number (e ∷ p) ≡ option_and_then kept_in_range (number_from false (before_first 46 (e ∷ p)) (after_first 46 (e ∷ p)))
unfolding read_number
read_is e p h = rw (not_minus e h, not_plus e h) refl

read_whole : (b : ℕ) (w : List ℕ) → AllOf is_ascii_digit (b ∷ w) → read_number (b ∷ w) ≡ option_and_then kept_in_range (number_from false (b ∷ w) None)
read_whole b w a = read_is b w a.0 ∙ (λ i. option_and_then kept_in_range (number_from false (before_all (b ∷ w) a i) (after_all (b ∷ w) a i)))

read_fixed : (b : ℕ) (w p : List ℕ) → AllOf is_ascii_digit (b ∷ w) → read_number (b ∷ (w ++ 46 ∷ p)) ≡ option_and_then kept_in_range (number_from false (b ∷ w) (Some p))
read_fixed b w p a = read_is b (w ++ 46 ∷ p) a.0 ∙ (λ i. option_and_then kept_in_range (number_from false (before_dot (b ∷ w) p a i) (after_dot (b ∷ w) p a i)))

at_most_kept : (n : ℕ) → n ≤ 1_000_000_000_000_000_000 → kept_in_range (Num.Fixed (signed false n)) ≡ Some (Num.Fixed (signed false n))
at_most_kept n h = grind (arith, nat_tests)

-- a place that is zero changes no number
pub zero_place : (b : ℕ) (w : List ℕ) (n : Num) → AllOf is_ascii_digit (b ∷ w) → read_number (b ∷ w) ≡ Some n → (m : Num) × (read_number (b ∷ (w ++ 46 ∷ 48 ∷ [])) ≡ Some m)
zero_place b w n a is =
    let v : ℕ = digits_value 10 (b ∷ w) in
    let small : v ≤ 1_000_000_000_000 = elim (cases_lt 1_000_000_000_000 v) [
      | inr le ↦ le
      | inl lt ↦ absurd (let e = whole-none false (b ∷ w) (λ both. omega (arith, lt, both.1)) in let k = sym is ∙ read_whole b w a ∙ e in cc)
    ] in
    let fixed = fixed-some false (b ∷ w) (48 ∷ []) (all_of (b ∷ w) a) refl in
    let total : v * 1_000_000 + nearest (digits_value 10 (48 ∷ []) * 1_000_000) (10 ^ length {A = ℕ} (48 ∷ [])) ≡ v * 1_000_000 = (let z : nearest (digits_value 10 (48 ∷ []) * 1_000_000) (10 ^ length {A = ℕ} (48 ∷ [])) ≡ 0 = refl in omega (arith, z)) in
    (Num.Fixed (signed false (v * 1_000_000)), read_fixed b w (48 ∷ []) a ∙ fixed ∙ ap (λ (k : ℕ). kept_in_range (Num.Fixed (signed false k))) total ∙ at_most_kept (v * 1_000_000) (omega (arith, small)))

pub one_digit : (b : ℕ) → is_ascii_digit b ≡ true → (n : Num) × (read_number (b ∷ []) ≡ Some n)
one_digit b h =
    let small : digits_value 10 (b ∷ []) ≤ 1_000_000_000_000 = grind (arith, nat_tests) in
    (Num.Whole (signed false (digits_value 10 (b ∷ []))), read_whole b [] (h, tt) ∙ whole-some false (b ∷ []) (all_of (b ∷ []) (h, tt)) small)
