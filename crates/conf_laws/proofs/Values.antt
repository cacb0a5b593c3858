-- When values are plain: their numbers are in range, their keys distinct, and their lists short.
use Rattle.std.proofs.Common.{◌≡◌, ◌∙◌, ap, sym, refl, ℕ, ◌<◌, Bool, true, false, cond, List, [], ◌∷◌, length, map, Option, Some, None, arith}
use Rattle.std.specs.Prelude.{◌&&◌, option_and_then}
use Rattle.std.specs.List.{list_all}
use Rattle.std.proofs.lemmas.List.{length-map}
use Rattle.std.proofs.lemmas.List.Folds.{list_all-map}
use Rattle.ha_value.specs.declared.value.Num.{Num}
use Rattle.ha_value.specs.declared.value.Value.{Value}
use Rattle.ha_value.specs.declared.value.Value.TheVariants as values
use Rattle.ha_value.specs.declared.value.Value.TheOpen.{Value-F}
use Rattle.ha_value.specs.declared.value.Value.TheViews.{roll-Value}
use Rattle.ha_value.specs.declared.value.Value.TheFolds.{fold-roll-Value, map-Value}
use Rattle.ha_value.specs.Numbers.{is_in_range, kept_in_range, number_of_text, read_number}
use Rattle.ha_config.specs.ValueFacts.{all_distinct, is_sound_value, sound_step}
use Rattle.ha_config.specs.Sound.{all_short, all_true, has_short_lists, is_plain_value, short_step}
use Rattle.ha_config.proofs.ValueRolls.{is_sound_value-roll}
use Rattle.conf_laws.proofs.Joined.{all_mapped, all_passed, apart, pair}

pub kept : (n m : Num) → kept_in_range n ≡ Some m → is_in_range m ≡ true
kept n m h = by (is_in_range n) refl h
  where
    by : (b : Bool) → is_in_range n ≡ b → cond b (Some n) None ≡ Some m → is_in_range m ≡ true
    by true e k = let same : n ≡ m = cc in ap is_in_range (sym same) ∙ e
    by false e k = cc

-- a number that is read is in range
pub read_in_range : (t : List ℕ) (n : Num) → read_number t ≡ Some n → is_in_range n ≡ true
unfolding read_number
read_in_range t n h = by (number_of_text t) h
  where
    by : (o : Option Num) → option_and_then kept_in_range o ≡ Some n → is_in_range n ≡ true
    by (Some m) k = kept m n k
    by None k = cc

short-roll : (x : Value-F Value) → has_short_lists (roll-Value x) ≡ short_step (map-Value Value Bool has_short_lists x)
short-roll x = fold-roll-Value Bool short_step x

plain_at : (x : Value-F Value) → is_plain_value (roll-Value x) ≡ (sound_step (map-Value Value Bool is_sound_value x) && short_step (map-Value Value Bool has_short_lists x))
plain_at x = λ i. is_sound_value-roll x i && short-roll x i

pub null_plain : is_plain_value values.Null ≡ true
null_plain = ap is_plain_value (sym values.rolls-Null) ∙ plain_at Value-F.Null

pub flag_plain : (b : Bool) → is_plain_value (values.Flag b) ≡ true
flag_plain b = ap is_plain_value (sym (values.rolls-Flag b)) ∙ plain_at (Value-F.Flag b)

pub text_plain : (t : List ℕ) → is_plain_value (values.Text t) ≡ true
text_plain t = ap is_plain_value (sym (values.rolls-Text t)) ∙ plain_at (Value-F.Text t)

pub number_plain : (n : Num) → is_in_range n ≡ true → is_plain_value (values.Number n) ≡ true
number_plain n h = ap is_plain_value (sym (values.rolls-Number n)) ∙ plain_at (Value-F.Number n) ∙ pair (is_in_range n) true h refl

pub items_plain : (vs : List Value) → list_all is_plain_value vs ≡ true → length vs < 4_294_967_296 → is_plain_value (values.Items vs) ≡ true
items_plain vs all few =
    let two = apart is_sound_value has_short_lists vs all in
    ap is_plain_value (sym (values.rolls-Items vs)) ∙ plain_at (Value-F.Items vs)
    ∙ pair (list_all (λ b. b) (map is_sound_value vs)) (all_true (map has_short_lists vs)) (list_all-map (λ b. b) is_sound_value vs ∙ two.0) (all_mapped has_short_lists vs two.1 few)

-- the pairs of a map, by their keys and values
abbrev pub PairsPlain : List (List ℕ × Value) → Type 0
PairsPlain ps = (all_distinct (map (λ p. p.0) ps) ≡ true) × (list_all (λ p. is_plain_value p.1) ps ≡ true) × (length ps < 4_294_967_296)

few_mapped : {A B : Type 0} (f : A → B) (xs : List A) → length xs < 4_294_967_296 → length (map f xs) < 4_294_967_296
few_mapped f xs h = omega (arith, h, length-map xs f)

keys_kept : (g : Value → Bool) (ps : List (List ℕ × Value)) → map (λ (q : List ℕ × Bool). q.0) (map (λ (p : List ℕ × Value). (p.0, g p.1)) ps) ≡ map (λ p. p.0) ps
keys_kept g [] = refl
keys_kept g (p ∷ ps) = ap (λ ks. p.0 ∷ ks) (keys_kept g ps)

tests_kept : (g : Value → Bool) (ps : List (List ℕ × Value)) → list_all (λ p. g p.1) ps ≡ true → list_all (λ (q : List ℕ × Bool). q.1) (map (λ (p : List ℕ × Value). (p.0, g p.1)) ps) ≡ true
tests_kept g ps h = list_all-map (λ (q : List ℕ × Bool). q.1) (λ (p : List ℕ × Value). (p.0, g p.1)) ps ∙ h

pub pairs_plain : (ps : List (List ℕ × Value)) → PairsPlain ps → is_plain_value (values.Pairs ps) ≡ true
pairs_plain ps h =
    let two = apart (λ (p : List ℕ × Value). is_sound_value p.1) (λ (p : List ℕ × Value). has_short_lists p.1) ps h.1 in
    let sounds = map (λ (p : List ℕ × Value). (p.0, is_sound_value p.1)) ps in
    let shorts = map (λ (p : List ℕ × Value). (p.0, has_short_lists p.1)) ps in
    ap is_plain_value (sym (values.rolls-Pairs ps)) ∙ plain_at (Value-F.Pairs ps)
    ∙ pair (all_distinct (map (λ q. q.0) sounds) && list_all (λ q. q.1) sounds) (all_short (λ q. q.1) shorts)
    (pair (all_distinct (map (λ q. q.0) sounds)) (list_all (λ q. q.1) sounds) (ap all_distinct (keys_kept is_sound_value ps) ∙ h.0) (tests_kept is_sound_value ps two.0))
    (all_passed (λ q. q.1) shorts (tests_kept has_short_lists ps two.1) (few_mapped (λ (p : List ℕ × Value). (p.0, has_short_lists p.1)) ps h.2))
