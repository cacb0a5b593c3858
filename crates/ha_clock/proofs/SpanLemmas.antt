-- Reading the digits of a span one by one.
use Rattle.std.proofs.Common.{◌≡◌, ◌∙◌, ◌≤◌, ◌<◌, ◌+◌, ◌-◌, ◌*◌, ap, refl, sym, arith, ℕ, suc, Bool, true, false, nat_le, List, [], ◌∷◌, length, take, drop, get_or, position, inl, inr, ◌⊎◌, ◌&&◌, Option, Some, None, if◌then◌else◌, add-one}
use Rattle.std.proofs.Math.Seq.{drop-cons, drop-length}
use Rattle.std.proofs.lemmas.List.{take_rest}
use Rattle.std.specs.Char.{is_ascii_digit}
use Rattle.std.proofs.lemmas.Bool.Decides.{leb_tells, nat_tests}
use Rattle.std.proofs.lemmas.Bool.{le-leb}
use Rattle.ha_clock.specs.SpanText.{after_hours, bounded, by_colon, clock_seconds, is_colon, number_from, number_of, span_of, span_seconds, within_bound}

-- the digits before place i of the text have this number
pub record Progress (text : List ℕ) (number i : ℕ) : Type 0 where
  pub bound : number ≤ 31_622_400
  pub same : number_from 0 text ≡ number_from number (drop i text)

pub number_of-empty : (text : List ℕ) → length text ≡ 0 → number_of text ≡ None
unfolding number_of
number_of-empty [] h = refl
number_of-empty (b ∷ text) h = absurd (omega arith)

pub number_of-some : (text : List ℕ) → 0 < length text → number_of text ≡ number_from 0 text
unfolding number_of
number_of-some [] h = absurd (omega arith)
number_of-some (b ∷ text) h = refl

pub number_from-digit : (text : List ℕ) (n i : ℕ) → i < length text → is_ascii_digit (get_or text i 0) ≡ true
    → number_from n (drop i text) ≡ number_from (n * 10 + (get_or text i 0 - 48)) (drop (i + 1) text)
unfolding number_from
number_from-digit text n i h d =
    ap (number_from n) (drop-cons text i 0 h)
    ∙ ap (λ b. if b then number_from (n * 10 + (get_or text i 0 - 48)) (drop (suc i) text) else None) d
    ∙ ap (λ k. number_from (n * 10 + (get_or text i 0 - 48)) (drop k text)) (sym (add-one i))

pub number_from-other : (text : List ℕ) (n i : ℕ) → i < length text → is_ascii_digit (get_or text i 0) ≡ false → number_from n (drop i text) ≡ None
unfolding number_from
number_from-other text n i h d =
    ap (number_from n) (drop-cons text i 0 h)
    ∙ ap (λ b. if b then number_from (n * 10 + (get_or text i 0 - 48)) (drop (suc i) text) else None) d

over : (n : ℕ) → 31_622_400 < n → nat_le n 31_622_400 ≡ false
over n h = grind (arith, nat_tests, h)

if_digit : (b : Bool) (o : Option ℕ) → within_bound o ≡ None → within_bound (if b then o else None) ≡ None
if_digit true o h = h
if_digit false o h = refl

pub number_from-over : (n : ℕ) (text : List ℕ) → 31_622_400 < n → within_bound (number_from n text) ≡ None
unfolding number_from
number_from-over n [] h = ap (λ b. if b then Some n else None) (over n h)
number_from-over n (b ∷ text) h =
    if_digit (is_ascii_digit b) (number_from (n * 10 + (b - 48)) text) (number_from-over (n * 10 + (b - 48)) text (omega arith))

number_from-end : (text : List ℕ) (n : ℕ) → number_from n (drop (length text) text) ≡ Some n
unfolding number_from
number_from-end text n = ap (number_from n) (drop-length text)

pub within_bound-some : (n : ℕ) → n ≤ 31_622_400 → within_bound (Some n) ≡ Some n
within_bound-some n h = ap (λ b. if b then Some n else None) (le-leb n 31_622_400 h)

-- what the loop tells at each of its ends
pub progress_other : (text : List ℕ) (n i : ℕ) → Progress text n i → i < length text → is_ascii_digit (get_or text i 0) ≡ false → within_bound (number_of text) ≡ None
progress_other text n i p h d =
    ap within_bound (number_of-some text (omega arith) ∙ p.same ∙ number_from-other text n i h d)

progress_digit : (text : List ℕ) (n i : ℕ) → Progress text n i → i < length text → is_ascii_digit (get_or text i 0) ≡ true
    → number_from 0 text ≡ number_from (n * 10 + (get_or text i 0 - 48)) (drop (i + 1) text)
progress_digit text n i p h d = p.same ∙ number_from-digit text n i h d

pub progress_over : (text : List ℕ) (n i next : ℕ) → Progress text n i → i < length text → is_ascii_digit (get_or text i 0) ≡ true
    → next ≡ n * 10 + (get_or text i 0 - 48) → 31_622_400 < next → within_bound (number_of text) ≡ None
progress_over text n i next p h d e over =
    ap within_bound (number_of-some text (omega arith) ∙ progress_digit text n i p h d)
    ∙ number_from-over (n * 10 + (get_or text i 0 - 48)) (drop (i + 1) text) (omega arith)

pub progress_next : (text : List ℕ) (n i next : ℕ) → Progress text n i → i < length text → is_ascii_digit (get_or text i 0) ≡ true
    → next ≡ n * 10 + (get_or text i 0 - 48) → next ≤ 31_622_400 → Progress text next (i + 1)
progress_next text n i next p h d e least = record {
  bound = least;
  same = progress_digit text n i p h d ∙ ap (λ k. number_from k (drop (i + 1) text)) (sym e);
}

pub progress_end : (text : List ℕ) (n i : ℕ) → Progress text n i → i ≡ length text → 0 < length text → Some n ≡ within_bound (number_of text)
progress_end text n i p e h =
    sym (ap within_bound (number_of-some text h ∙ p.same ∙ ap (λ k. number_from n (drop k text)) e ∙ number_from-end text n)
    ∙ within_bound-some n p.bound)

pub progress_start : (text : List ℕ) → Progress text 0 0
progress_start text = record {
  bound = omega arith;
  same = refl;
}

-- a part that is over the bound makes the whole none
cap_cases : (n : ℕ) → (within_bound (Some n) ≡ Some n) ⊎ ((within_bound (Some n) ≡ None) × (31_622_400 < n))
cap_cases n = elim (leb_tells n 31_622_400) [
  | inl fits ↦ inl (ap (λ b. if b then Some n else None) fits.0)
  | inr more ↦ inr (ap (λ b. if b then Some n else None) more.0, more.1)
]

and_false : (a b : Bool) → b ≡ false → (a && b) ≡ false
and_false true b h = h
and_false false b h = refl

late_hours : (b : Bool) (n : ℕ) → 31_622_400 < n → bounded (if b then Some n else None) ≡ None
late_hours true n h = ap (λ b. if b then Some (n * 1000) else None) (over n h)
late_hours false n h = refl

late_minutes : (h m s : ℕ) → 31_622_400 < m → bounded (clock_seconds (Some h) (Some m) (Some s)) ≡ None
late_minutes h m s late =
    let e : nat_le m 59 ≡ false = grind (arith, nat_tests, late) in
    ap (λ b. bounded (if b && nat_le s 59 then Some (h * 3600 + m * 60 + s) else None)) e

late_seconds : (h m s : ℕ) → 31_622_400 < s → bounded (clock_seconds (Some h) (Some m) (Some s)) ≡ None
late_seconds h m s late =
    let e : nat_le s 59 ≡ false = grind (arith, nat_tests, late) in
    ap (λ b. bounded (if b then Some (h * 3600 + m * 60 + s) else None)) (and_false (nat_le m 59) (nat_le s 59) e)

clock_hours : (h m s : Option ℕ) → bounded (clock_seconds (within_bound h) m s) ≡ bounded (clock_seconds h m s)
clock_hours None m s = refl
clock_hours (Some h) None s = elim (cap_cases h) [
  | inl same ↦ ap (λ o. bounded (clock_seconds o None s)) same
  | inr late ↦ ap (λ o. bounded (clock_seconds o None s)) late.0
]
clock_hours (Some h) (Some m) None = elim (cap_cases h) [
  | inl same ↦ ap (λ o. bounded (clock_seconds o (Some m) None)) same
  | inr late ↦ ap (λ o. bounded (clock_seconds o (Some m) None)) late.0
]
clock_hours (Some h) (Some m) (Some s) = elim (cap_cases h) [
  | inl same ↦ ap (λ o. bounded (clock_seconds o (Some m) (Some s))) same
  | inr late ↦
      let more = late.1 in
      ap (λ o. bounded (clock_seconds o (Some m) (Some s))) late.0
      ∙ sym (late_hours (nat_le m 59 && nat_le s 59) (h * 3600 + m * 60 + s) (omega arith))
]

clock_minutes : (h m s : Option ℕ) → bounded (clock_seconds h (within_bound m) s) ≡ bounded (clock_seconds h m s)
clock_minutes None m s = refl
clock_minutes (Some h) None s = refl
clock_minutes (Some h) (Some m) None = elim (cap_cases m) [
  | inl same ↦ ap (λ o. bounded (clock_seconds (Some h) o None)) same
  | inr late ↦ ap (λ o. bounded (clock_seconds (Some h) o None)) late.0
]
clock_minutes (Some h) (Some m) (Some s) = elim (cap_cases m) [
  | inl same ↦ ap (λ o. bounded (clock_seconds (Some h) o (Some s))) same
  | inr late ↦ ap (λ o. bounded (clock_seconds (Some h) o (Some s))) late.0 ∙ sym (late_minutes h m s late.1)
]

no_seconds : (h m : Option ℕ) → bounded (clock_seconds h m None) ≡ None
no_seconds None m = refl
no_seconds (Some h) None = refl
no_seconds (Some h) (Some m) = refl

pub clock_parts : (h m s : Option ℕ) → bounded (clock_seconds h (within_bound m) (within_bound s)) ≡ bounded (clock_seconds h m s)
clock_parts None m s = refl
clock_parts (Some h) None s = refl
clock_parts (Some h) (Some m) None = clock_minutes (Some h) (Some m) None
clock_parts (Some h) (Some m) (Some s) = elim (cap_cases s) [
  | inl same ↦ ap (λ o. bounded (clock_seconds (Some h) (within_bound (Some m)) o)) same ∙ clock_minutes (Some h) (Some m) (Some s)
  | inr late ↦
      ap (λ o. bounded (clock_seconds (Some h) (within_bound (Some m)) o)) late.0
      ∙ no_seconds (Some h) (within_bound (Some m)) ∙ sym (late_seconds h m s late.1)
]

hours_within : (h : Option ℕ) (text : List ℕ) (o : Option ℕ) → bounded (after_hours (within_bound h) text o) ≡ bounded (after_hours h text o)
hours_within h text None = clock_hours h (number_of text) (Some 0)
hours_within h text (Some i) = clock_hours h (number_of (take i text)) (number_of (drop (i + 1) text))

pub bounded-within_bound : (o : Option ℕ) → bounded (within_bound o) ≡ bounded o
bounded-within_bound None = refl
bounded-within_bound (Some n) = elim (cap_cases n) [
  | inl same ↦ ap bounded same
  | inr late ↦ ap bounded late.0 ∙ sym (late_hours true n late.1)
]

pub span_of-position : (text : List ℕ) (o : Option ℕ) → o ≡ position is_colon text → bounded (by_colon text o) ≡ span_of text
unfolding span_of span_seconds
span_of-position text o e = ap (λ o. bounded (by_colon text o)) e

-- a text with its first colon, of which the code reads the parts as slices
pub read_parts : (text : List ℕ) (i : ℕ) (hours : Option ℕ) (span : Option ℕ) → Some i ≡ position is_colon text
    → hours ≡ within_bound (number_of (take i text))
    → span ≡ bounded (after_hours hours (take (length text - (i + 1)) (drop (i + 1) text)) (position is_colon (take (length text - (i + 1)) (drop (i + 1) text))))
    → span ≡ span_of text
read_parts text i hours span at h e =
    e
    ∙ ap (λ rest. bounded (after_hours hours rest (position is_colon rest))) (take_rest text (i + 1))
    ∙ ap (λ o. bounded (after_hours o (drop (i + 1) text) (position is_colon (drop (i + 1) text)))) h
    ∙ hours_within (number_of (take i text)) (drop (i + 1) text) (position is_colon (drop (i + 1) text))
    ∙ span_of-position text (Some i) at
