-- Words, names, digits and numbers: what is read is in the grammar, and what is in the grammar is read.
use Rattle.std.proofs.Common.{◌≡◌, ℕ, ◌≤◌, Bool, true, cond, inl, inr, List, [], ◌∷◌, ◌++◌, length, drop, Option, Some, None, Ok, refl, sym, ap, ◌∙◌, subst, arith, length-append, append_assoc}
use Rattle.std.specs.Char.{is_ascii_digit}
use Rattle.std.proofs.lemmas.Bool.{cond-true, cond-false, and_parts}
use Rattle.ha_value.specs.declared.value.Num.{Num}
use Rattle.ha_value.specs.Numbers.{read_number}
use Rattle.reading.specs.Answer.{front, stop}
use Rattle.reading.specs.Bytes.{sees, skip_digits}
use Rattle.reading.proofs.Basics.{chosen, chosen_is, ok_parts}
use Rattle.reading.proofs.Bytes.{sees_front}
use Rattle.tpl_parse.specs.Token.{begins_name, in_name, is_reserved}
use Rattle.tpl_parse.specs.Literal.{before, skip_word, word, behind_number, begins_places, is_digit, in_range, number, unreserved, name_at}
use Rattle.tpl_parse.specs.Grammar.{IsRun, end, other, more, IsWord, IsDigits, IsNumeral, whole, places, IsNumber, number as number_is, IsName, name as name_is}
use Rattle.tpl_parse.proofs.Next.{Fault, before_is}

-- ---- the longest run

module _ (allows : ℕ → Bool) (skip : List ℕ → List ℕ) (none : skip [] ≡ []) (step : (b : ℕ) (t : List ℕ) → skip (b ∷ t) ≡ cond (allows b) (skip t) (b ∷ t)) where
  run_read : {t w rest : List ℕ} → IsRun allows t w rest → (skip t ≡ rest) × (t ≡ w ++ rest)
  run_read end = (none, refl)
  run_read (other {b = b} {rest = rest} h) = (step b rest ∙ cond-false (allows b) (skip rest) (b ∷ rest) h, refl)
  run_read (more {b = b} {text = t} h r) = let p = run_read r in (step b t ∙ cond-true (allows b) (skip t) (b ∷ t) h ∙ p.0, ap (λ (l : List ℕ). b ∷ l) p.1)

  run_found : (t : List ℕ) → (w : List ℕ) × IsRun allows t w (skip t)
  run_found [] = ([], subst (λ (r : List ℕ). IsRun allows [] [] r) (sym none) end)
  run_found (b ∷ t) =
      let p = run_found t in
      elim (chosen_is (allows b)) [
        | inl h ↦ (b ∷ p.0, subst (λ (r : List ℕ). IsRun allows (b ∷ t) (b ∷ p.0) r) (sym (step b t ∙ cond-true (allows b) (skip t) (b ∷ t) h)) (more h p.1))
        | inr h ↦ ([], subst (λ (r : List ℕ). IsRun allows (b ∷ t) [] r) (sym (step b t ∙ cond-false (allows b) (skip t) (b ∷ t) h)) (other h))
      ]

word_step : (b : ℕ) (t : List ℕ) → skip_word (b ∷ t) ≡ cond (in_name b) (skip_word t) (b ∷ t)
unfolding skip_word
word_step b t = refl

word_none : skip_word [] ≡ []
unfolding skip_word
word_none = refl

digits_step : (b : ℕ) (t : List ℕ) → skip_digits (b ∷ t) ≡ cond (is_ascii_digit b) (skip_digits t) (b ∷ t)
unfolding skip_digits
digits_step b t = refl

digits_none : skip_digits [] ≡ []
unfolding skip_digits
digits_none = refl

-- the parts of a word, and what is left
pub record WordRead (t w rest : List ℕ) : Type 0 where
  pub left : skip_word t ≡ rest
  pub parts : t ≡ w ++ rest
  pub word_is : word t ≡ w
  pub within : length rest ≤ length t

pub word_read : {t w rest : List ℕ} → IsWord t w rest → WordRead t w rest
word_read {t} {w} {rest} h =
    let p = run_read in_name skip_word word_none word_step h in
    record { left = p.0; parts = p.1; word_is = ap (before t) p.0 ∙ before_is w rest p.1; within = omega (arith, ap length p.1, length-append w rest) }

pub word_found : (t : List ℕ) → IsWord t (word t) (skip_word t)
word_found t =
    let p = run_found in_name skip_word word_none word_step t in
    subst (λ (w : List ℕ). IsWord t w (skip_word t)) (sym (word_read p.1).word_is) p.1

pub digits_read : {t w rest : List ℕ} → IsDigits t w rest → (skip_digits t ≡ rest) × (t ≡ w ++ rest)
digits_read h = run_read is_ascii_digit skip_digits digits_none digits_step h

pub digits_found : (t : List ℕ) → (w : List ℕ) × IsDigits t w (skip_digits t)
digits_found = run_found is_ascii_digit skip_digits digits_none digits_step

-- ---- names

pub name_read : {t n rest : List ℕ} → IsName t n rest → name_at t ≡ Ok (n, rest)
unfolding unreserved
name_read (name_is {b = b} {text = t} {word = w} {rest = rest} first run free) =
    let r = word_read run in
    cond-true (begins_name b) (unreserved (b ∷ t)) (stop tt (b ∷ t)) first
    ∙ cond-false (is_reserved (word (b ∷ t))) (stop tt (skip_word (b ∷ t))) (Ok (word (b ∷ t), skip_word (b ∷ t))) (ap is_reserved r.word_is ∙ free)
    ∙ (λ i. Ok (r.word_is i, r.left i))

pub name_found : (t n rest : List ℕ) → name_at t ≡ Ok (n, rest) → IsName t n rest
unfolding unreserved
name_found [] n rest e = absurd cc
name_found (b ∷ t) n rest e = elim (chosen (begins_name b) (unreserved (b ∷ t)) (stop tt (b ∷ t)) (Ok (n, rest)) e) [
  | inl h ↦ elim (chosen (is_reserved (word (b ∷ t))) (stop tt (skip_word (b ∷ t))) (Ok (word (b ∷ t), skip_word (b ∷ t))) (Ok (n, rest)) h.1) [
    | inl k ↦ absurd (let w = k.1 in cc)
    | inr k ↦
        let p = ok_parts {F = Fault} (word (b ∷ t), skip_word (b ∷ t)) (n, rest) k.1 in
        subst (λ (w : List ℕ). IsName (b ∷ t) w rest) p.0 (subst (λ (r : List ℕ). IsName (b ∷ t) (word (b ∷ t)) r) p.1 (name_is h.0 (word_found (b ∷ t)) k.0))
  ]
  | inr h ↦ absurd (let w = h.1 in cc)
]

-- ---- numbers

pub numeral_read : {t digits rest : List ℕ} → IsNumeral t digits rest → (behind_number t ≡ rest) × (t ≡ digits ++ rest)
numeral_read (whole {b = b} {text = t} {digits = ds} {rest = rest} first run bare) =
    let p = digits_read run in
    (cond-false (begins_places (skip_digits (b ∷ t))) (skip_digits (drop 1 (skip_digits (b ∷ t)))) (skip_digits (b ∷ t)) (ap begins_places p.0 ∙ bare) ∙ p.0, p.1)
numeral_read (places {b = b} {c = c} {text = t} {digits = ds} {behind = behind} {places = ps} {rest = rest} first run digit run2) =
    let p = digits_read run in
    let q = digits_read run2 in
    let yes' : begins_places (skip_digits (b ∷ t)) ≡ true = ap begins_places p.0 ∙ digit in (
      cond-true (begins_places (skip_digits (b ∷ t))) (skip_digits (drop 1 (skip_digits (b ∷ t)))) (skip_digits (b ∷ t)) yes' ∙ ap (λ (u : List ℕ). skip_digits (drop 1 u)) p.0 ∙ q.0,
      p.1 ∙ ap (λ (u : List ℕ). ds ++ 46 ∷ u) q.1 ∙ sym (append_assoc ds (46 ∷ ps) rest),
    )

pub number_read : {t rest : List ℕ} {n : Num} → IsNumber t n rest → number t ≡ Ok (n, rest)
unfolding number
number_read (number_is {text = t} {digits = ds} {rest = rest} {n = n} numeral value) =
    let p = numeral_read numeral in
    let e : before t (behind_number t) ≡ ds = ap (before t) p.0 ∙ before_is ds rest p.1 in
    ap (λ (o : Option Num). in_range o (before t (behind_number t)) t (behind_number t)) (ap read_number e ∙ value) ∙ ap (λ (r : List ℕ). Ok (n, r)) p.0

pub numeral_within : {t digits rest : List ℕ} → IsNumeral t digits rest → length rest ≤ length t
numeral_within {t} {digits} {rest} h = let p = (numeral_read h).1 in omega (arith, ap length p, length-append digits rest)

digit_front : (t : List ℕ) → is_digit (front t) ≡ true → (c : ℕ) × (behind : List ℕ) × (t ≡ c ∷ behind) × (is_ascii_digit c ≡ true)
digit_front [] e = absurd cc
digit_front (c ∷ behind) e = (c, behind, refl, e)

-- the longest number text
numeral_found : (b : ℕ) (t : List ℕ) → is_ascii_digit b ≡ true → (ds : List ℕ) × IsNumeral (b ∷ t) ds (behind_number (b ∷ t))
numeral_found b t first =
    let w = digits_found (b ∷ t) in
    let left : List ℕ = skip_digits (b ∷ t) in
    elim (chosen_is (begins_places left)) [
      | inr h ↦ (w.0, subst (λ (r : List ℕ). IsNumeral (b ∷ t) w.0 r) (sym (cond-false (begins_places left) (skip_digits (drop 1 left)) left h)) (whole first w.1 h))
      | inl h ↦
          let p = and_parts (sees 46 left) (is_digit (front (drop 1 left))) h in
          let dot = sees_front 46 left p.0 in
          let d = digit_front (drop 1 left) p.1 in
          let v = digits_found (d.0 ∷ d.1) in
          let behind_is : skip_digits (drop 1 left) ≡ skip_digits (d.0 ∷ d.1) = ap skip_digits d.2 in
          let here : IsDigits (b ∷ t) w.0 (46 ∷ d.0 ∷ d.1) = subst (λ (r : List ℕ). IsDigits (b ∷ t) w.0 r) (dot ∙ ap (λ (r : List ℕ). 46 ∷ r) d.2) w.1 in
          (w.0 ++ 46 ∷ v.0, subst (λ (r : List ℕ). IsNumeral (b ∷ t) (w.0 ++ 46 ∷ v.0) r) (sym (cond-true (begins_places left) (skip_digits (drop 1 left)) left h ∙ behind_is)) (places first here d.3 v.1))
    ]

ranged : (o : Option Num) (ds t left : List ℕ) (n : Num) (rest : List ℕ) → in_range o ds t left ≡ Ok (n, rest) → (o ≡ Some n) × (left ≡ rest)
ranged None ds t left n rest e = absurd cc
ranged (Some m) ds t left n rest e = let p = ok_parts {F = Fault} (m, left) (n, rest) e in (ap (λ (k : Num). Some k) p.0, p.1)

pub number_found : (b : ℕ) (t : List ℕ) (n : Num) (rest : List ℕ) → is_ascii_digit b ≡ true → number (b ∷ t) ≡ Ok (n, rest) → IsNumber (b ∷ t) n rest
unfolding number
number_found b t n rest first e =
    let left : List ℕ = behind_number (b ∷ t) in
    let k = numeral_found b t first in
    let p = numeral_read k.1 in
    let same : before (b ∷ t) left ≡ k.0 = before_is k.0 left p.1 in
    let r = ranged (read_number (before (b ∷ t) left)) (before (b ∷ t) left) (b ∷ t) left n rest e in
    subst (λ (u : List ℕ). IsNumber (b ∷ t) n u) r.1 (number_is k.1 (ap read_number (sym same) ∙ r.0))
