-- Reading digits one by one, counted no further than a bound.
use Rattle.std.proofs.Common.{◌≡◌, ◌∙◌, ◌≤◌, ◌<◌, ◌+◌, ◌-◌, ◌*◌, ap, refl, sym, arith, ℕ, suc, min, Bool, true, false, List, [], ◌∷◌, length, drop, get_or, Option, Some, None, if◌then◌else◌, add-one}
use Rattle.std.specs.Prelude.{option_map}
use Rattle.std.proofs.Math.Seq.{drop-cons, drop-length}
use Rattle.std.specs.Char.{is_ascii_digit}
use Rattle.ha_clock.specs.SpanText.{number_from, number_of}
use Rattle.conf_field.specs.Kinds.{counted}

abbrev pub counted_from : ℕ → ℕ → List ℕ → Option ℕ
counted_from most n text = option_map (min most) (number_from n text)

-- the digits before place i of the text have this number, counted no further than the bound
pub record Progress (most : ℕ) (text : List ℕ) (number i : ℕ) : Type 0 where
  pub bound : number ≤ most
  pub same : counted_from most 0 text ≡ counted_from most number (drop i text)

pub counted-empty : (most : ℕ) (text : List ℕ) → length text ≡ 0 → counted most text ≡ None
unfolding number_of
counted-empty most [] h = refl
counted-empty most (b ∷ text) h = absurd (omega arith)

counted-some : (most : ℕ) (text : List ℕ) → 0 < length text → counted most text ≡ counted_from most 0 text
unfolding number_of
counted-some most [] h = absurd (omega arith)
counted-some most (b ∷ text) h = refl

-- a branch that is the same on both sides
on_digit : (b : Bool) (most : ℕ) (x y : Option ℕ) → option_map (min most) x ≡ option_map (min most) y → option_map (min most) (if b then x else None) ≡ option_map (min most) (if b then y else None)
on_digit true most x y h = h
on_digit false most x y h = refl

-- what is over the bound stays over it, whatever digits follow
capped : (most n : ℕ) (text : List ℕ) → counted_from most n text ≡ counted_from most (min most n) text
unfolding number_from
capped most n [] = ap Some (omega arith)
capped most n (b ∷ text) =
    on_digit (is_ascii_digit b) most (number_from (n * 10 + (b - 48)) text) (number_from (min most n * 10 + (b - 48)) text)
    (capped most (n * 10 + (b - 48)) text
    ∙ ap (λ k. counted_from most k text) (let e : min most (n * 10 + (b - 48)) ≡ min most (min most n * 10 + (b - 48)) = omega arith in e)
    ∙ sym (capped most (min most n * 10 + (b - 48)) text))

digit-step : (most : ℕ) (text : List ℕ) (n i : ℕ) → i < length text → is_ascii_digit (get_or text i 0) ≡ true
    → counted_from most n (drop i text) ≡ counted_from most (n * 10 + (get_or text i 0 - 48)) (drop (i + 1) text)
unfolding number_from
digit-step most text n i h d =
    ap (counted_from most n) (drop-cons text i 0 h)
    ∙ ap (λ b. option_map (min most) (if b then number_from (n * 10 + (get_or text i 0 - 48)) (drop (suc i) text) else None)) d
    ∙ ap (λ k. counted_from most (n * 10 + (get_or text i 0 - 48)) (drop k text)) (sym (add-one i))

other-step : (most : ℕ) (text : List ℕ) (n i : ℕ) → i < length text → is_ascii_digit (get_or text i 0) ≡ false → counted_from most n (drop i text) ≡ None
unfolding number_from
other-step most text n i h d =
    ap (counted_from most n) (drop-cons text i 0 h)
    ∙ ap (λ b. option_map (min most) (if b then number_from (n * 10 + (get_or text i 0 - 48)) (drop (suc i) text) else None)) d

last-step : (most : ℕ) (text : List ℕ) (n : ℕ) → n ≤ most → counted_from most n (drop (length text) text) ≡ Some n
unfolding number_from
last-step most text n le = ap (counted_from most n) (drop-length text) ∙ ap Some (let e : min most n ≡ n = omega arith in e)

pub progress_start : (most : ℕ) (text : List ℕ) → Progress most text 0 0
progress_start most text = record { bound = omega arith; same = refl }

pub progress_other : (most : ℕ) (text : List ℕ) (n i : ℕ) → Progress most text n i → i < length text → is_ascii_digit (get_or text i 0) ≡ false → counted most text ≡ None
progress_other most text n i p h d = counted-some most text (omega arith) ∙ p.same ∙ other-step most text n i h d

pub progress_next : (most : ℕ) (text : List ℕ) (n i next : ℕ) → Progress most text n i → i < length text → is_ascii_digit (get_or text i 0) ≡ true
    → next ≡ min most (n * 10 + (get_or text i 0 - 48)) → Progress most text next (i + 1)
progress_next most text n i next p h d e = record {
  bound = omega arith;
  same = p.same ∙ digit-step most text n i h d ∙ capped most (n * 10 + (get_or text i 0 - 48)) (drop (i + 1) text)
      ∙ ap (λ k. counted_from most k (drop (i + 1) text)) (sym e);
}

pub progress_end : (most : ℕ) (text : List ℕ) (n i : ℕ) → Progress most text n i → i ≡ length text → 0 < length text → Some n ≡ counted most text
progress_end most text n i p e h =
    sym (counted-some most text h ∙ p.same ∙ ap (λ k. counted_from most n (drop k text)) e ∙ last-step most text n p.bound)
