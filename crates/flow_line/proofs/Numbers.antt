-- Numbers and their grammar: a reader of numbers of any size, and one of those in range, are two cases of one.
use Rattle.std.proofs.Common.{◌≡◌, ℕ, ◌<◌, Bool, true, false, cond, ◌||◌, ◌&&◌, List, [], ◌∷◌, ◌++◌, length, take, drop, Option, Some, None, Ok, refl, sym, ap, subst, ◌∙◌, append_assoc, length-append, arith, inl, inr}
use Rattle.std.specs.Prelude.{◌==◌, ◌-◌, nat_eq}
use Rattle.std.specs.Option.{option_and_then}
use Rattle.std.specs.Char.{is_ascii_digit}
use Rattle.std.specs.List.{list_all}
use Rattle.std.proofs.lemmas.Bool.{eqb-true, and_parts, le-leb}
use Rattle.std.proofs.lemmas.List.{append-nil}
use Rattle.std.proofs.Math.Seq.{take-append_seam}
use Rattle.ha_value.specs.declared.value.Num.{Num}
use Rattle.ha_value.specs.Lists.{some_all, before_first, after_first}
use Rattle.ha_value.specs.Numbers.{has_minus, without_sign, number_from, number_of_text}
use Rattle.reading.specs.Answer.{◌>>=◌, Answer, front}
use Rattle.reading.specs.Bytes.{sees, skip_digits}
use Rattle.reading.proofs.Basics.{bind_ok, ok_parts, chosen, chosen_is, Sound, Complete}
use Rattle.reading.proofs.Bytes.{sees_front}
use Rattle.ha_value.specs.Numbers.{begins_number}
use Rattle.flow_line.specs.Text.{Reads, byte_in}
use Rattle.flow_line.specs.Reading.{skip_sign, digits, numeral, in_range, numeric, start_of}
use Rattle.flow_line.specs.Grammar.{extends, IsNumber, number as number_of}
use Rattle.flow_line.proofs.Starts.{starts_numeric}
use Rattle.flow_line.proofs.ByteRanges.{Fault, byte_in_found}

-- ---- number text

-- digits, perhaps none
pub data Run : List ℕ → Type 0 where
  run_end : Run []
  run_digit : {b : ℕ} {w : List ℕ} → is_ascii_digit b ≡ true → Run w → Run (b ∷ w)

-- one digit or more
pub data Digits : List ℕ → Type 0 where
  digits_of : {b : ℕ} {w : List ℕ} → is_ascii_digit b ≡ true → Run w → Digits (b ∷ w)

pub data Sign : List ℕ → Type 0 where
  bare : Sign []
  plus : Sign (43 ∷ [])
  minus : Sign (45 ∷ [])

-- number text, with its digits behind the dot where it has one
pub data Numeral : List ℕ → Option (List ℕ) → Type 0 where
  whole : {s w : List ℕ} → Sign s → Digits w → Numeral (s ++ w) None
  fixed : {s w p : List ℕ} → Sign s → Digits w → Digits p → Numeral (s ++ (w ++ 46 ∷ p)) (Some p)

-- no digit follows
abbrev pub Ends : List ℕ → Type 0
Ends t = extends (Some []) (front t) ≡ false

no_dot : (r : List ℕ) → Ends r → sees 46 r ≡ false → extends None (front r) ≡ false
no_dot [] h k = refl
no_dot (b ∷ r) h k = rw (h, k) refl

pub dot_not : (r : List ℕ) → extends None (front r) ≡ false → (Ends r) × (sees 46 r ≡ false)
dot_not [] h = (refl, refl)
dot_not (b ∷ r) h = by_or (is_ascii_digit b) (b == 46) h where
  by_or : (x y : Bool) → (x || y) ≡ false → (x ≡ false) × (y ≡ false)
  by_or true y e = absurd (let k : true ≡ false = e in cc)
  by_or false y e = (refl, e)

-- ---- what is read

pub record Skipped (t rest : List ℕ) : Type 0 where
  pub run : List ℕ
  pub is_run : Run run
  pub parts : t ≡ run ++ rest
  pub ends : Ends rest

pub skipped : (t : List ℕ) → Skipped t (skip_digits t)
unfolding skip_digits
skipped [] = record { run = []; is_run = run_end; parts = refl; ends = refl }
skipped (b ∷ t) =
    elim (chosen_is (is_ascii_digit b)) [
      | inl h ↦ let l = skipped t in rw h (record { run = b ∷ l.run; is_run = run_digit h l.is_run; parts = ap (λ (u : List ℕ). b ∷ u) l.parts; ends = l.ends })
      | inr h ↦ rw h (record { run = []; is_run = run_end; parts = refl; ends = h })
    ]

pub record DigitsAt (t rest : List ℕ) : Type 0 where
  pub digits : List ℕ
  pub are_digits : Digits digits
  pub parts : t ≡ digits ++ rest
  pub ends : Ends rest

pub digits_found : (t : List ℕ) (u : Unit {0}) (rest : List ℕ) → digits t ≡ Ok (u, rest) → DigitsAt t rest
unfolding digits
digits_found t u rest e =
    let b = bind_ok (byte_in 48 57 (front t) t) (λ first. Ok (tt, skip_digits first.1)) (u, rest) e in
    let p = ok_parts {F = Fault} (tt, skip_digits b.0.1) (u, rest) b.2 in
    let l = byte_in_found 48 57 t b.0.0 b.0.1 b.1 in
    let d : is_ascii_digit b.0.0 ≡ true = rw (le-leb 48 b.0.0 l.1, le-leb b.0.0 57 l.2) refl in
    let s = skipped b.0.1 in
    record {
      digits = b.0.0 ∷ s.run;
      are_digits = digits_of d s.is_run;
      parts = l.0 ∙ ap (λ (v : List ℕ). b.0.0 ∷ v) (s.parts ∙ ap (λ (v : List ℕ). s.run ++ v) p.1);
      ends = subst (λ (v : List ℕ). Ends v) p.1 s.ends;
    }

pub sign_found : (t : List ℕ) → (s : List ℕ) × Sign s × (t ≡ s ++ skip_sign t)
sign_found [] = ([], bare, refl)
sign_found (b ∷ t) =
    elim (chosen_is (b == 45)) [
      | inl h ↦ (45 ∷ [], minus, rw h (ap (λ (x : ℕ). x ∷ t) (eqb-true b 45 h)))
      | inr h ↦ elim (chosen_is (b == 43)) [
        | inl k ↦ (43 ∷ [], plus, rw (h, k) (ap (λ (x : ℕ). x ∷ t) (eqb-true b 43 k)))
        | inr k ↦ ([], bare, rw (h, k) refl)
      ]
    ]

pub record NumeralAt (t rest : List ℕ) : Type 0 where
  pub text : List ℕ
  pub places : Option (List ℕ)
  pub shape : Numeral text places
  pub parts : t ≡ text ++ rest
  pub ends : extends places (front rest) ≡ false

abbrev pub behind_sign : List ℕ → Answer ℕ Fault (Unit {0})
behind_sign u = digits u >>= λ whole. cond (sees 46 whole.1) (digits (drop 1 whole.1)) (Ok whole)

pub numeral_found : (t : List ℕ) (u : Unit {0}) (rest : List ℕ) → numeral t ≡ Ok (u, rest) → NumeralAt t rest
unfolding numeral
numeral_found t u rest e =
    let b = bind_ok (digits (skip_sign t)) (λ whole. cond (sees 46 whole.1) (digits (drop 1 whole.1)) (Ok whole)) (u, rest) e in
    let l = digits_found (skip_sign t) b.0.0 b.0.1 b.1 in
    let s = sign_found t in
    elim (chosen (sees 46 b.0.1) (digits (drop 1 b.0.1)) (Ok b.0) (Ok (u, rest)) b.2) [
      | inl h ↦
          let m = digits_found (drop 1 b.0.1) u rest h.1 in
          let tail : skip_sign t ≡ l.digits ++ 46 ∷ (m.digits ++ rest) = l.parts ∙ ap (λ (v : List ℕ). l.digits ++ v) (sees_front 46 b.0.1 h.0 ∙ ap (λ (v : List ℕ). 46 ∷ v) m.parts) in
          record { text = s.0 ++ (l.digits ++ 46 ∷ m.digits); places = Some m.digits; shape = fixed s.1 l.are_digits m.are_digits; parts = s.2 ∙ ap (λ (v : List ℕ). s.0 ++ v) tail ∙ simp append_assoc; ends = m.ends }
      | inr h ↦
          let p = ok_parts {F = Fault} b.0 (u, rest) h.1 in
          record {
            text = s.0 ++ l.digits;
            places = None;
            shape = whole s.1 l.are_digits;
            parts = s.2 ∙ ap (λ (v : List ℕ). s.0 ++ v) (l.parts ∙ ap (λ (v : List ℕ). l.digits ++ v) p.1) ∙ sym (append_assoc s.0 l.digits rest);
            ends = subst (λ (v : List ℕ). extends None (front v) ≡ false) p.1 (no_dot b.0.1 l.ends h.0);
          }
    ]

-- ---- what is spelled

run_skipped : {w : List ℕ} → Run w → (r : List ℕ) → Ends r → skip_digits (w ++ r) ≡ r
unfolding skip_digits
run_skipped run_end [] h = refl
run_skipped run_end (b ∷ r) h = rw h refl
run_skipped (run_digit d l) r h = rw d (run_skipped l r h)

pub digits_read : {w : List ℕ} → Digits w → (r : List ℕ) → Ends r → digits (w ++ r) ≡ Ok (tt, r)
unfolding digits
digits_read (digits_of d l) r h = rw d (ap (λ (u : List ℕ). Ok (tt, u)) (run_skipped l r h))

pub no_byte : (b k : ℕ) → is_ascii_digit b ≡ true → is_ascii_digit k ≡ false → (b == k) ≡ false
no_byte b k h g = elim (chosen_is (b == k)) [ inl e ↦ absurd (let w = ap is_ascii_digit (eqb-true b k e) in let v : true ≡ false = sym h ∙ w ∙ g in cc) | inr e ↦ e ]

sign_skipped : {s w : List ℕ} → Sign s → Digits w → (r : List ℕ) → skip_sign (s ++ (w ++ r)) ≡ w ++ r
sign_skipped bare (digits_of {b = b} d l) r = rw (no_byte b 45 d refl, no_byte b 43 d refl) refl
sign_skipped plus d r = refl
sign_skipped minus d r = refl

whole_read : {w : List ℕ} → Digits w → (r : List ℕ) → extends None (front r) ≡ false → behind_sign (w ++ r) ≡ Ok (tt, r)
whole_read d r h = let k = dot_not r h in rw (digits_read d r k.0, k.1) refl

fixed_read : {w p : List ℕ} → Digits w → Digits p → (r : List ℕ) → Ends r → behind_sign (w ++ 46 ∷ (p ++ r)) ≡ Ok (tt, r)
fixed_read {w} {p} d q r h = rw (digits_read d (46 ∷ (p ++ r)) refl) (digits_read q r h)

pub numeral_read : {text : List ℕ} {places : Option (List ℕ)} → Numeral text places → (r : List ℕ) → extends places (front r) ≡ false → numeral (text ++ r) ≡ Ok (tt, r)
unfolding numeral
numeral_read (whole {s = s} {w = w} is d) r h = ap (λ (v : List ℕ). behind_sign (skip_sign v)) (append_assoc s w r) ∙ ap behind_sign (sign_skipped is d r) ∙ whole_read d r h
numeral_read (fixed {s = s} {w = w} {p = p} is d q) r h =
    let same : (s ++ (w ++ 46 ∷ p)) ++ r ≡ s ++ (w ++ 46 ∷ (p ++ r)) = simp append_assoc in
    ap (λ (v : List ℕ). behind_sign (skip_sign v)) same ∙ ap behind_sign (sign_skipped is d (46 ∷ (p ++ r))) ∙ fixed_read d q r h

-- ---- number text and its number

run_none : {w : List ℕ} → Run w → after_first 46 w ≡ None
run_none run_end = refl
run_none (run_digit {b = b} d l) = rw (no_byte b 46 d refl) (run_none l)

run_some : {w : List ℕ} → Run w → (p : List ℕ) → after_first 46 (w ++ 46 ∷ p) ≡ Some p
run_some run_end p = refl
run_some (run_digit {b = b} d l) p = rw (no_byte b 46 d refl) (run_some l p)

pub digits_none : {w : List ℕ} → Digits w → after_first 46 w ≡ None
digits_none (digits_of {b = b} d l) = rw (no_byte b 46 d refl) (run_none l)

pub digits_some : {w : List ℕ} → Digits w → (p : List ℕ) → after_first 46 (w ++ 46 ∷ p) ≡ Some p
digits_some (digits_of {b = b} d l) p = rw (no_byte b 46 d refl) (run_some l p)

sign_after : {s : List ℕ} → Sign s → (v : List ℕ) → after_first 46 (s ++ v) ≡ after_first 46 v
sign_after bare v = refl
sign_after plus v = refl
sign_after minus v = refl

pub places_of : {text : List ℕ} {places : Option (List ℕ)} → Numeral text places → after_first 46 text ≡ places
places_of (whole {w = w} is d) = sign_after is w ∙ digits_none d
places_of (fixed {w = w} {p = p} is d q) = sign_after is (w ++ 46 ∷ p) ∙ digits_some d p

run_all : (w : List ℕ) → list_all is_ascii_digit w ≡ true → Run w
run_all [] e = run_end
run_all (b ∷ w) e = let p = and_parts (is_ascii_digit b) (list_all is_ascii_digit w) e in run_digit p.0 (run_all w p.1)

digits_all : (w : List ℕ) → some_all is_ascii_digit w ≡ true → Digits w
digits_all [] e = absurd cc
digits_all (b ∷ w) e = let p = and_parts (is_ascii_digit b) (list_all is_ascii_digit w) e in digits_of p.0 (run_all w p.1)

-- what stands behind the digits before the dot
dotted : Option (List ℕ) → List ℕ
dotted None = []
dotted (Some p) = 46 ∷ p

cut : (v : List ℕ) → v ≡ before_first 46 v ++ dotted (after_first 46 v)
unfolding dotted
cut [] = refl
cut (x ∷ v) =
    elim (chosen_is (nat_eq x 46)) [
      | inl h ↦ rw h (ap (λ (y : ℕ). y ∷ v) (eqb-true x 46 h))
      | inr h ↦ rw h (ap (λ (u : List ℕ). x ∷ u) (cut v))
    ]

unsigned : (t : List ℕ) → (s : List ℕ) × Sign s × (t ≡ s ++ without_sign t)
unsigned [] = ([], bare, refl)
unsigned (b ∷ t) =
    elim (chosen_is (nat_eq b 43)) [
      | inl h ↦ (43 ∷ [], plus, rw h (ap (λ (x : ℕ). x ∷ t) (eqb-true b 43 h)))
      | inr h ↦ elim (chosen_is (nat_eq b 45)) [
        | inl k ↦ (45 ∷ [], minus, rw (h, k) (ap (λ (x : ℕ). x ∷ t) (eqb-true b 45 k)))
        | inr k ↦ ([], bare, rw (h, k) refl)
      ]
    ]

shape : {s : List ℕ} (v w : List ℕ) (o : Option (List ℕ)) (m : Bool) (n : Num) → Sign s → v ≡ w ++ dotted o → number_from m w o ≡ Some n → Numeral (s ++ v) o
unfolding dotted
shape {s} v w None m n is e h =
    elim (chosen (some_all is_ascii_digit w) _ None (Some n) h) [
      | inl k ↦ subst (λ (u : List ℕ). Numeral (s ++ u) None) (sym (e ∙ append-nil w)) (whole is (digits_all w k.0))
      | inr k ↦ absurd (let q = k.1 in cc)
    ]
shape {s} v w (Some p) m n is e h =
    elim (chosen (some_all is_ascii_digit w && some_all is_ascii_digit p) _ None (Some n) h) [
      | inl k ↦
          let q = and_parts (some_all is_ascii_digit w) (some_all is_ascii_digit p) k.0 in
          subst (λ (u : List ℕ). Numeral (s ++ u) (Some p)) (sym e) (fixed is (digits_all w q.0) (digits_all p q.1))
      | inr k ↦ absurd (let q = k.1 in cc)
    ]

-- the text of a number is number text
pub shape_of : (text : List ℕ) (n : Num) → number_of_text text ≡ Some n → Numeral text (after_first 46 text)
shape_of text n e =
    let u = unsigned text in
    let v : List ℕ = without_sign text in
    let l : Numeral (u.0 ++ v) (after_first 46 v) = shape v (before_first 46 v) (after_first 46 v) (has_minus text) n u.1 (cut v) e in
    let same : after_first 46 text ≡ after_first 46 v = ap (after_first 46) u.2 ∙ sign_after u.1 v in
    subst (λ (o : Option (List ℕ)). Numeral text o) (sym same) (subst (λ (w : List ℕ). Numeral w (after_first 46 v)) (sym u.2) l)

-- the text that was taken
pub front_of : (text rest t : List ℕ) → t ≡ text ++ rest → take (length t - length rest) t ≡ text
front_of text rest t e =
    let k : length t - length rest ≡ length text = omega (arith, ap length e, length-append text rest) in
    ap (λ (n : ℕ). take n t) k ∙ ap (take (length text)) e ∙ take-append_seam text rest

-- how number text begins
pub numeral_begins : {text : List ℕ} {places : Option (List ℕ)} → Numeral text places → (b : ℕ) × (w : List ℕ) × (text ≡ b ∷ w) × (begins_number b ≡ true)
numeral_begins (whole bare (digits_of {b = b} {w = w} d l)) = (b, w, refl, rw d refl)
numeral_begins (whole {w = w} plus d) = (43, w, refl, refl)
numeral_begins (whole {w = w} minus d) = (45, w, refl, refl)
numeral_begins (fixed {p = p} bare (digits_of {b = b} {w = w} d l) q) = (b, w ++ 46 ∷ p, refl, rw d refl)
numeral_begins (fixed {w = w} {p = p} plus d q) = (43, w ++ 46 ∷ p, refl, refl)
numeral_begins (fixed {w = w} {p = p} minus d q) = (45, w ++ 46 ∷ p, refl, refl)

module _ {Allowed : Num → Type 0} where
  pub number_front : {t rest : List ℕ} {n : Num} → IsNumber Allowed t n rest → (b : ℕ) × (w : List ℕ) × (t ≡ b ∷ (w ++ rest)) × (begins_number b ≡ true)
  number_front (number_of text {rest = rest} {n = n} e ends ok) =
      let l = numeral_begins (shape_of text n e) in
      (l.0, l.1, ap (λ (u : List ℕ). u ++ rest) l.2, l.3)

  pub number_longer : {t rest : List ℕ} {n : Num} → IsNumber Allowed t n rest → length rest < length t
  number_longer {rest = rest} here = let l = number_front here in omega (arith, ap length l.2, length-append l.1 rest)

  pub number_starts : {t rest : List ℕ} {n : Num} → IsNumber Allowed t n rest → start_of (front t) ≡ numeric
  number_starts here = let l = number_front here in rw l.2 (starts_numeric l.0 l.3)

  pub number_sees : (k : ℕ) → begins_number k ≡ false → {t rest : List ℕ} {n : Num} → IsNumber Allowed t n rest → sees k t ≡ false
  number_sees k g here = let l = number_front here in rw l.2 (other l.0 l.3) where
    other : (b : ℕ) → begins_number b ≡ true → (b == k) ≡ false
    other b h = elim (chosen_is (b == k)) [ inl e ↦ absurd (let w = ap begins_number (eqb-true b k e) in let v : true ≡ false = sym h ∙ w ∙ g in cc) | inr e ↦ e ]

-- ---- a reader of the numbers that a test keeps

in_range_rest : (o : Option Num) (at end : List ℕ) (n : Num) (rest : List ℕ) → in_range o at end ≡ Ok (n, rest) → (o ≡ Some n) × (end ≡ rest)
in_range_rest None at end n rest e = absurd cc
in_range_rest (Some m) at end n rest e = let p = ok_parts {F = Fault} (m, end) (n, rest) e in (ap (λ (k : Num). Some k) p.0, p.1)

module _ (kept : Num → Option Num) where
  unfoldable pub number_by : Reads Num
  number_by rest = numeral rest >>= λ end. in_range (option_and_then kept (number_of_text (take (length rest - length end.1) rest))) rest end.1

  module _ (Allowed : Num → Type 0) (keeps : (m n : Num) → kept m ≡ Some n → (m ≡ n) × Allowed n) where
    kept_of : (o : Option Num) (n : Num) → option_and_then kept o ≡ Some n → (o ≡ Some n) × Allowed n
    kept_of None n e = absurd cc
    kept_of (Some m) n e = let k = keeps m n e in (ap (λ (x : Num). Some x) k.0, k.1)

    pub number_found : Sound number_by (IsNumber Allowed)
    unfolding Sound number_by
    number_found t n rest e =
        let b = bind_ok (numeral t) (λ end. in_range (option_and_then kept (number_of_text (take (length t - length end.1) t))) t end.1) (n, rest) e in
        let l = numeral_found t b.0.0 b.0.1 b.1 in
        let p = in_range_rest (option_and_then kept (number_of_text (take (length t - length b.0.1) t))) t b.0.1 n rest b.2 in
        let k = kept_of (number_of_text l.text) n (ap (λ (u : List ℕ). option_and_then kept (number_of_text u)) (sym (front_of l.text b.0.1 t l.parts)) ∙ p.0) in
        let ends : extends (after_first 46 l.text) (front b.0.1) ≡ false = ap (λ (o : Option (List ℕ)). extends o (front b.0.1)) (places_of l.shape) ∙ l.ends in
        let here : IsNumber Allowed (l.text ++ b.0.1) n b.0.1 = number_of l.text k.0 ends k.1 in
        subst (λ (r : List ℕ). IsNumber Allowed t n r) p.1 (subst (λ (u : List ℕ). IsNumber Allowed u n b.0.1) (sym l.parts) here)

  module _ (Allowed : Num → Type 0) (allows : (n : Num) → Allowed n → kept n ≡ Some n) where
    pub number_is_read : Complete number_by (IsNumber Allowed)
    unfolding Complete number_by
    number_is_read t n rest (number_of text e ends ok) =
        rw (numeral_read (shape_of text n e) rest ends, front_of text rest (text ++ rest) refl, e, allows n ok) refl
