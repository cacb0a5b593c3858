-- What begins with neither a sign nor a digit is no number, and a report of it without attributes gives none.
use Rattle.std.proofs.Common.{◌≡◌, ℕ, ◌*◌, ◌^◌, List, [], ◌∷◌, ◌++◌, length, Bool, true, false, ◌&&◌, refl, sym, ap, ◌∙◌}
use Rattle.std.specs.Prelude.{Option, Some, None, not, ◌||◌, nat_eq, option_and_then, if◌then◌else◌}
use Rattle.std.specs.Char.{is_ascii_digit}
use Rattle.std.specs.List.{list_all}
use Rattle.std.specs.Str.Parse.{digits_value}
use Rattle.ha_value.specs.declared.value.Num.{Num}
use Rattle.ha_value.specs.Lists.{some_all, before_first, after_first}
use Rattle.ha_value.specs.Numbers.{kept_in_range, nearest, number_from, read_number, signed}
use Rattle.ha_sight.specs.Conditions.{number_watched}
use Rattle.ha_config.specs.Words.{Text, Pairs}
use Rattle.trig_set.specs.Table.{begins_as_number}

none-from : (m : Bool) (whole : List ℕ) (places : Option (List ℕ)) → some_all is_ascii_digit whole ≡ false → number_from m whole places ≡ None
none-from m whole None h = (λ i. if h i then Some (Num.Whole (signed m (digits_value 10 whole))) else None)
none-from m whole (Some places) h =
    (λ i. if h i && some_all is_ascii_digit places
    then Some (Num.Fixed (signed m (nearest (digits_value 10 (whole ++ places) * 1_000_000) (10 ^ length places)))) else None)

no-digits : (c : ℕ) (cs : List ℕ) (b : Bool) → is_ascii_digit c ≡ false → some_all is_ascii_digit (if b then [] else c ∷ cs) ≡ false
no-digits c cs true h = refl
no-digits c cs false h = ap (λ b. b && list_all is_ascii_digit cs) h

turned : (digit minus plus : Bool) → (digit || minus || plus) ≡ false → ((plus || minus) || digit) ≡ false
turned true m p h = cc
turned false true p h = cc
turned false false true h = cc
turned false false false h = refl

-- LAW: a text that begins otherwise is no number
pub no_number : (text : List ℕ) → begins_as_number text ≡ false → read_number text ≡ None
unfolding read_number
no_number [] h = refl
no_number (c ∷ cs) h = by (nat_eq c 43 || nat_eq c 45) (is_ascii_digit c) refl refl (turned (is_ascii_digit c) (nat_eq c 45) (nat_eq c 43) h)
  where
    by : (s d : Bool) → (nat_eq c 43 || nat_eq c 45) ≡ s → is_ascii_digit c ≡ d → (s || d) ≡ false
        → option_and_then kept_in_range (number_from (nat_eq c 45) (before_first 46 (if nat_eq c 43 || nat_eq c 45 then cs else c ∷ cs))
        (after_first 46 (if nat_eq c 43 || nat_eq c 45 then cs else c ∷ cs))) ≡ None
    by true d signs digit h = cc
    by false true signs digit h = cc
    by false false signs digit h =
        ap (option_and_then kept_in_range)
        ((λ i. number_from (nat_eq c 45) (before_first 46 (if signs i then cs else c ∷ cs)) (after_first 46 (if signs i then cs else c ∷ cs)))
        ∙ none-from (nat_eq c 45) (if nat_eq c 46 then [] else c ∷ before_first 46 cs) (if nat_eq c 46 then Some cs else after_first 46 cs)
        (no-digits c (before_first 46 cs) (nat_eq c 46) digit))

-- LAW: with such a text and no attributes none is given
pub none-given : (text bytes : Text) (ps : Pairs) (begins : Bool) → ps ≡ [] → bytes ≡ text → begins ≡ begins_as_number bytes → not begins ≡ true
    → (name : Option Text) → number_watched name text ps ≡ None
none-given text bytes ps true none same is h name = cc
none-given text bytes ps false none same is h None = no_number text (ap begins_as_number (sym same) ∙ sym is)
none-given text bytes ps false none same is h (Some name) = ap (number_watched (Some name) text) none
