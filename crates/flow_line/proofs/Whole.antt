-- The whole text: what is read of it is in the grammar, and what is in the grammar is read.
use Rattle.std.proofs.Common.{◌≡◌, ℕ, true, cond, List, [], ◌∷◌, Option, Some, None, Ok, Err, refl, sym, ap, subst, ◌∙◌, inl, inr}
use Rattle.std.proofs.lemmas.Bool.{cond-true}
use Rattle.ha_value.specs.declared.value.Num.{Num}
use Rattle.ha_value.specs.declared.value.Value.{Value}
use Rattle.ha_value.specs.Numbers.{is_in_range, kept_in_range, read_number}
use Rattle.reading.specs.Answer.{◌>>=◌, Answer, front, stop}
use Rattle.reading.proofs.Basics.{bind_ok, ok_parts, chosen, Sound, Complete}
use Rattle.flow_line.specs.declared.fault.Code.TheVariants.{Syntax}
use Rattle.flow_line.specs.Text.{Reads}
use Rattle.flow_line.specs.Reading.{number, value, ended, document}
use Rattle.flow_line.specs.Grammar.{IsNumber, IsDocument}
use Rattle.flow_line.proofs.ByteRanges.{Fault}
use Rattle.flow_line.proofs.Numbers.{number_by, number_found, number_is_read}
use Rattle.flow_line.proofs.Values.{value_with, document_with, document_is, ValueBy, all_seen, is_value, value_found, value_read}

-- ---- nothing is left

pub is_end : (u : List ℕ) → ended (front u) ≡ true → u ≡ []
is_end [] h = refl
is_end (b ∷ u) h = absurd cc

-- a whole text leaves nothing
pub nothing_left : (t : List ℕ) (v : Value) (rest : List ℕ) → document t ≡ Ok (v, rest) → document t ≡ Ok (v, [])
unfolding document
nothing_left t v rest e =
    let a = bind_ok (value 32 t) (λ v. cond (ended (front v.1)) (Ok v) (stop Syntax v.1)) (v, rest) e in
    elim (chosen (ended (front a.0.1)) (Ok a.0) (stop Syntax a.0.1) (Ok (v, rest)) a.2) [
      | inl h ↦ e ∙ ap (λ (r : List ℕ). Ok (v, r)) (sym (ok_parts {F = Fault} a.0 (v, rest) h.1).1 ∙ is_end a.0.1 h.0)
      | inr h ↦ absurd (let k = h.1 in cc)
    ]

-- ---- the rules for numbers

abbrev pub InRange : Num → Type 0
InRange n = is_in_range n ≡ true

abbrev pub AnySize : Num → Type 0
AnySize n = Unit {0}

abbrev pub any_size : Num → Option Num
any_size n = Some n

pub number_is : number ≡ number_by kept_in_range
unfolding number number_by read_number
number_is = refl

some_is : (m n : Num) → Some m ≡ Some n → m ≡ n
some_is m n e = cc

pub keeps_in_range : (m n : Num) → kept_in_range m ≡ Some n → (m ≡ n) × InRange n
keeps_in_range m n e = elim (chosen (is_in_range m) (Some m) None (Some n) e) [
  | inl h ↦ let same = some_is m n h.1 in (same, ap is_in_range (sym same) ∙ h.0)
  | inr h ↦ absurd (let k = h.1 in cc)
]

allows_in_range : (n : Num) → InRange n → kept_in_range n ≡ Some n
allows_in_range n h = cond-true (is_in_range n) (Some n) None h

pub number_sound : Sound number (IsNumber InRange)
number_sound = subst (λ (rule : Reads Num). Sound rule (IsNumber InRange)) (sym number_is) (number_found kept_in_range InRange keeps_in_range)

pub number_reads : Complete number (IsNumber InRange)
number_reads = subst (λ (rule : Reads Num). Complete rule (IsNumber InRange)) (sym number_is) (number_is_read kept_in_range InRange allows_in_range)

-- ---- the whole text

module _ (seen : List (List ℕ × Value) → List (List ℕ × Value)) (num : Reads Num) (Allowed : Num → Type 0) (depth : ℕ) where
  pub whole_found : Sound num (IsNumber Allowed) → (t : List ℕ) (v : Value) (rest : List ℕ) → document_with seen num depth t ≡ Ok (v, rest) → ValueBy seen Allowed depth t v [] × (rest ≡ [])
  unfolding document_with Sound
  whole_found sound t v rest e =
      let a = bind_ok (value_with seen num depth t) (λ v. cond (ended (front v.1)) (Ok v) (stop Syntax v.1)) (v, rest) e in
      elim (chosen (ended (front a.0.1)) (Ok a.0) (stop Syntax a.0.1) (Ok (v, rest)) a.2) [
        | inl h ↦
            let p = ok_parts {F = Fault} a.0 (v, rest) h.1 in
            let none : a.0.1 ≡ [] = is_end a.0.1 h.0 in
            let here : ValueBy seen Allowed depth t a.0.0 a.0.1 = value_found seen num Allowed sound depth t a.0.0 a.0.1 a.1 in
            (subst (λ (w : Value). ValueBy seen Allowed depth t w []) p.0 (subst (λ (r : List ℕ). ValueBy seen Allowed depth t a.0.0 r) none here), sym p.1 ∙ none)
        | inr h ↦ absurd (let k = h.1 in cc)
      ]

  pub whole_read : Complete num (IsNumber Allowed) → (t : List ℕ) (v : Value) → ValueBy seen Allowed depth t v [] → document_with seen num depth t ≡ Ok (v, [])
  unfolding document_with Complete
  whole_read reads t v here = ap (λ (a : Answer ℕ Fault Value). a >>= λ v. cond (ended (front v.1)) (Ok v) (stop Syntax v.1)) (value_read seen num Allowed reads depth t v [] here)

abbrev pub Family : Type 1
Family = List ℕ → Value → List ℕ → Type 0

pub document_found : (t : List ℕ) (v : Value) (rest : List ℕ) → document t ≡ Ok (v, rest) → IsDocument t v
document_found t v rest e =
    let here = (whole_found all_seen number InRange 32 number_sound t v rest (ap (λ (rule : Reads Value). rule t) (sym document_is) ∙ e)).0 in
    subst (λ (S : Family). S t v []) (sym (is_value InRange 32)) here

pub document_read : (t : List ℕ) (v : Value) → IsDocument t v → document t ≡ Ok (v, [])
document_read t v here = ap (λ (rule : Reads Value). rule t) document_is ∙ whole_read all_seen number InRange 32 number_reads t v (subst (λ (S : Family). S t v []) (is_value InRange 32) here)

pub no_document : (t : List ℕ) (f : Fault) → document t ≡ Err f → (v : Value) → IsDocument t v → ⊥
no_document t f e v here = let g = document_read t v here in cc

-- the value of a text is the one that is read of it
pub same_value : (t : List ℕ) (x v : Value) → document t ≡ Ok (x, []) → IsDocument t v → x ≡ v
same_value t x v e here = (ok_parts {F = Fault} (x, []) (v, []) (sym e ∙ document_read t v here)).0
