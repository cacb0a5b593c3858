use Rattle.std.proofs.Common.{ℕ, ◌^◌, ◌≡◌, ◌≢◌, ◌<◌, ◌∙◌, arith, ap, rules, subst, sym, Bool, true, false, [], ◌∷◌, length, get_or, None, nat_le, if◌then◌else◌}
use Rattle.std.proofs.lemmas.Str.Parse.{IsNumeralModel, numerals_by_value, parse_plain}
use Rattle.std.specs.Char.{is_ascii_digit}
use Rattle.std.specs.List.{list_all}
use Rattle.std.specs.Prelude.{Option, Result, Ok, Err}
use Rattle.std.specs.Result.{OkIff}
use Rattle.std.specs.Str.Parse.{ParsesUnsigned, digits_value}
use Rattle.clap.specs.Words.{Text}
use Rattle.ha_words.specs.Counts.{count_of, few_lines, is_plain_number}
use Rattle.ha_words.proofs.counts.count_of.Goals as goal

own : IsNumeralModel (λ ds. list_all is_ascii_digit ds ≡ true) (digits_value 10)
own = numerals_by_value _ (search rules)

other : (t : Text) → is_plain_number t ≡ false → count_of t ≡ None
unfolding count_of
other t h = ap (λ b. if b then few_lines (digits_value 10 t) else None) h

plain : (t : Text) → is_plain_number t ≡ true → count_of t ≡ few_lines (digits_value 10 t)
unfolding count_of
plain t h = ap (λ b. if b then few_lines (digits_value 10 t) else None) h

-- what a plain number is
some : (t : Text) → is_plain_number t ≡ true → 0 < length t
some [] h = absurd cc
some (b ∷ bs) h = omega arith

digits : (t : Text) → is_plain_number t ≡ true → list_all is_ascii_digit t ≡ true
digits [] h = absurd cc
digits (b ∷ []) h = search (rules, h)
digits (b ∷ d ∷ bs) h = search (rules, h)

unsigned : (t : Text) → is_plain_number t ≡ true → get_or t 0 0 ≢ 43
unsigned [] h = absurd cc
unsigned (b ∷ bs) h = λ e. search (rules, digits (b ∷ bs) h, e)

-- a number of more than 32 bits is out of range
long : (n : ℕ) → ¬ (n < 2 ^ 32) → few_lines n ≡ None
long n h = if_false (nat_le n 100_000) _ (search (rules, h))
  where
    if_false : (b : Bool) (x : Option ℕ) → b ≡ false → (if b then x else None) ≡ None
    if_false b x e = ap (λ a. if a then x else None) e

module _ {E : Type 0} (t : Text) (r : Result ℕ E) (h : ParsesUnsigned 32 10 t r) (p : is_plain_number t ≡ true) where
  abbrev Reads : Result ℕ E → Type 0
  Reads x = OkIff x ((list_all is_ascii_digit t ≡ true) × (0 < length t) × (digits_value 10 t < 2 ^ 32)) (digits_value 10 t)

  read : Reads r
  read = parse_plain own 32 t r h (unsigned t p)

  found : (n : ℕ) → r ≡ Ok n → few_lines n ≡ count_of t
  found n e = let q : Reads (Ok n) = subst Reads e read in ap few_lines q.1 ∙ sym (plain t p)

  refused : (e : E) → r ≡ Err e → None ≡ count_of t
  refused e is =
      let q : Reads (Err e) = subst Reads is read in
      sym (plain t p ∙ long (digits_value 10 t) (λ small. q (digits t p, some t p, small)))

pub returns-then-not-is_plain_number-clause-value : goal.returns-then-not-is_plain_number-clause-value
returns-then-not-is_plain_number-clause-value c =
    let no : is_plain_number c.args.text.now ≡ false = search rules in
    sym (other c.args.text.now no)

pub returns-in-Ok-clause-value : goal.returns-in-Ok-clause-value
returns-in-Ok-clause-value c =
    let yes : is_plain_number c.args.text.now ≡ true = search rules in
    c.few_lines.ensures.value ∙ found c.args.text.now c.parse.result c.parse.ensures.value.0 yes c.in-Ok.number c.in-Ok.is

pub returns-in-Err-clause-value : goal.returns-in-Err-clause-value
returns-in-Err-clause-value c =
    let yes : is_plain_number c.args.text.now ≡ true = search rules in
    refused c.args.text.now c.parse.result c.parse.ensures.value.0 yes c.in-Err.field-0 c.in-Err.is
