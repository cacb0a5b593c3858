-- The walk along a number's digits up to the first one with which it is out of range.
use Rattle.std.proofs.Common.{◌≡◌, ◌∙◌, ◌⊎◌, ⊎_elim, inl, inr, ℕ, suc, ◌+◌, ◌<◌, ◌≤◌, Bool, true, false, not, ◌||◌, ◌&&◌, List, [], ◌∷◌, ◌++◌, length, take, drop, get_or, add-one, refl, sym, ap, subst, arith}
use Rattle.std.specs.Prelude.{◌==◌, is_none, Option, Some, None, if◌then◌else◌}
use Rattle.std.specs.Option.{is_some}
use Rattle.std.proofs.lemmas.Bool.{and_parts, eqb-true}
use Rattle.std.proofs.lemmas.List.{drop_more, drop_all}
use Rattle.std.proofs.lemmas.Grind.{take_at_read}
use Rattle.ha_value.specs.Numbers.{read_number}
use Rattle.tpl_parse.specs.Literal.{before_range_end, has_dot}
use Rattle.tpl_parse.proofs.ZeroPlaces.{zero_read, dot_more, dot_here}

tested : (b : Bool) → (b ≡ true) ⊎ (b ≡ false)
tested true = inl refl
tested false = inr refl

one_more : (digits : List ℕ) (count : ℕ) → count < length digits → take (suc count) digits ≡ take count digits ++ get_or digits count 0 ∷ []
one_more digits count lt = ap (λ n. take n digits) (sym (add-one count)) ∙ (take_at_read digits count 0 lt).1

-- whether the digit at this place takes the number out of range
abbrev pub leaves : List ℕ → ℕ → Bool
leaves digits count = not (get_or digits count 0 == 46) && is_none (read_number (take (suc count) digits))

-- where a number is read, a zero behind its places takes it nowhere
pub zero_stays : (digits : List ℕ) (count : ℕ) → count < length digits → get_or digits count 0 ≡ 48 → has_dot (take count digits) ≡ true → is_none (read_number (take count digits)) ≡ false
    → leaves digits count ≡ false
zero_stays digits count lt zero dot read =
    let same : take (suc count) digits ≡ take count digits ++ 48 ∷ [] = one_more digits count lt ∙ ap (λ (b : ℕ). take count digits ++ b ∷ []) zero in
    ap (λ (b : ℕ). not (b == 46) && is_none (read_number (take (suc count) digits))) zero ∙ ap (λ (t : List ℕ). is_none (read_number t)) same ∙ zero_read (take count digits) dot read

-- a dot is tried by nothing
pub dot_stays : (digits : List ℕ) (count : ℕ) → get_or digits count 0 ≡ 46 → leaves digits count ≡ false
dot_stays digits count dot = rw dot refl

pub none_is : {X : Type 0} (o : Option X) (none : Bool) → is_some o ≡ not none → none ≡ is_none o
none_is None true h = refl
none_is None false h = absurd cc
none_is (Some x) true h = absurd cc
none_is (Some x) false h = refl

no_dot : (b : ℕ) → (b ≡ 46 → ⊥) → (b == 46) ≡ false
no_dot b other = ⊎_elim (λ dot. absurd (other (eqb-true b 46 dot))) (λ h. h) (tested (b == 46))

-- what is no dot is tried
pub tried : (digits : List ℕ) (count : ℕ) → (get_or digits count 0 ≡ 46 → ⊥) → is_none (read_number (take (count + 1) digits)) ≡ leaves digits count
tried digits count other = rw (no_dot (get_or digits count 0) other) (ap (λ n. is_none (read_number (take n digits))) (add-one count))

-- So many were passed; whether a dot was, and whether the last one was a place behind it, with which a number is read.
pub record Walked (digits : List ℕ) (count : ℕ) (dotted placed : Bool) : Type 0 where
  pub within : count ≤ length digits
  pub ends : before_range_end count digits (drop count digits) ≡ before_range_end 0 digits digits
  pub dot : dotted ≡ true → has_dot (take count digits) ≡ true
  pub place : placed ≡ true → (has_dot (take count digits) ≡ true) × (is_none (read_number (take count digits)) ≡ false)

here : (digits : List ℕ) (count : ℕ) → count < length digits → before_range_end count digits (drop count digits) ≡ (if leaves digits count then count else before_range_end (suc count) digits (drop (count + 1) digits))
unfolding before_range_end
here digits count lt = ap (before_range_end count digits) (drop_more digits count 0 lt)

pub found : (digits : List ℕ) (count : ℕ) (dotted placed : Bool) → Walked digits count dotted placed → count < length digits → leaves digits count ≡ true → count ≡ before_range_end 0 digits digits
found digits count dotted placed w lt leaving = sym (here digits count lt ∙ rw leaving refl) ∙ w.ends

pub none_found : (digits : List ℕ) (count : ℕ) (dotted placed : Bool) → Walked digits count dotted placed → length digits ≤ count → count ≡ before_range_end 0 digits digits
unfolding before_range_end
none_found digits count dotted placed w le = ap (before_range_end count digits) (sym (drop_all count digits le)) ∙ w.ends

dot_by : (digits : List ℕ) (count : ℕ) (dotted placed : Bool) → Walked digits count dotted placed → count < length digits → (dotted || get_or digits count 0 == 46) ≡ true → has_dot (take count digits ++ get_or digits count 0 ∷ []) ≡ true
dot_by digits count true placed w lt h = dot_more (take count digits) (get_or digits count 0) (w.dot refl)
dot_by digits count false placed w lt h = subst (λ (b : ℕ). has_dot (take count digits ++ b ∷ []) ≡ true) (sym (eqb-true (get_or digits count 0) 46 h)) (dot_here (take count digits))

kept : (b : ℕ) (none : Bool) → not (b == 46) ≡ true → (not (b == 46) && none) ≡ false → none ≡ false
kept b none other stays = rw other at stays

pub goes_on : (digits : List ℕ) (count : ℕ) (dotted placed : Bool) → Walked digits count dotted placed → count < length digits → leaves digits count ≡ false
    → Walked digits (count + 1) (dotted || get_or digits count 0 == 46) (dotted && not (get_or digits count 0 == 46))
goes_on digits count dotted placed w lt staying =
    let more : take (count + 1) digits ≡ take count digits ++ get_or digits count 0 ∷ [] = (take_at_read digits count 0 lt).1 in
    let through : take (count + 1) digits ≡ take (suc count) digits = ap (λ n. take n digits) (add-one count) in
    let dots : (dotted || get_or digits count 0 == 46) ≡ true → has_dot (take (count + 1) digits) ≡ true = λ h. ap has_dot more ∙ dot_by digits count dotted placed w lt h in
    record {
      within = omega arith;
      ends = ap (λ n. before_range_end n digits (drop (count + 1) digits)) (add-one count) ∙ sym (here digits count lt ∙ rw staying refl) ∙ w.ends;
      dot = dots;
      place = λ h.
          let p = and_parts dotted (not (get_or digits count 0 == 46)) h in
          (dots (rw p.0 refl), ap (λ (t : List ℕ). is_none (read_number t)) through ∙ kept (get_or digits count 0) (is_none (read_number (take (suc count) digits))) p.1 staying);
    }
