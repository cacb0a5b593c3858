-- A value that is read takes a byte at least, and a fault stands within the text.
use Rattle.std.proofs.Common.{◌≡◌, ℕ, zero, suc, ◌+◌, ◌≤◌, ◌<◌, Bool, true, false, cond, ◌||◌, List, [], ◌∷◌, length, take, drop, Option, Some, None, Err, ap, arith, inl, inr}
use Rattle.std.specs.Prelude.{codes, ◌==◌, ◌-◌}
use Rattle.std.proofs.lemmas.Bool.{eqb-true}
use Rattle.ha_value.specs.declared.value.Num.{Num}
use Rattle.ha_value.specs.declared.value.Value.{Value}
use Rattle.ha_value.specs.declared.value.Value.TheVariants.{Number, Text, Items, Pairs}
use Rattle.ha_value.specs.Numbers.{read_number}
use Rattle.reading.specs.Answer.{front, stop}
use Rattle.reading.specs.Bytes.{sees, skip, expect}
use Rattle.reading.specs.Rows.{closed_by}
use Rattle.reading.proofs.Basics.{chosen_is, IsShorter}
use Rattle.reading.proofs.Bytes.{length-skip, length-skip_digits, length-drop_one}
use Rattle.reading.proofs.Shorter.{Leaves, kept, refused, bind, either, made_leaves, weaker, fault_by, repeat_leaves, expect_leaves, closed_leaves, Within, Below, below_of, below_shorter, below_within}
use Rattle.reading.proofs.Solid.{stops_within}
use Rattle.flow_line.specs.declared.fault.Code.TheVariants.{Syntax, Depth}
use Rattle.ha_value.specs.Numbers.{begins_number}
use Rattle.flow_line.specs.Bytes.{is_in}
use Rattle.flow_line.specs.Text.{Reads, byte_in, character, goes_on, over, characters, text, string}
use Rattle.flow_line.specs.Reading.{skip_sign, digits, numeral, in_range, number, has_key, key, pair, items, pairs, Start, of_null, of_true, of_false, quote, bracket, brace, numeric, nothing, start_of, value_by, value, ended, document}
use Rattle.flow_line.proofs.ByteRanges.{Fault}
use Rattle.flow_line.proofs.Characters.{character_found}
use Rattle.flow_line.proofs.CharactersSolid.{character_solid}
use Rattle.flow_line.proofs.Found.{character_longer}

abbrev Shortens : {A : Type 0} → Reads A → Type 0
Shortens rule = (n : ℕ) (t : List ℕ) → length t ≤ n → Below n (rule t)

word_leaves : (word : List ℕ) (n : ℕ) (t : List ℕ) → length t ≤ n → Leaves (λ u. length word + length u ≤ n) (λ (f : Fault). f.left ≤ n) (expect Syntax word t)
word_leaves word n t le = expect_leaves Syntax n (λ f. f.left ≤ n) (λ m h. h) word t n (omega arith) le

list_shortens : {A : Type 0} (end : ℕ) (item : List A → Reads A) → ((found : List A) → Shortens (item found)) → Shortens (closed_by Syntax end item)
list_shortens end item shortens n t le = closed_leaves Syntax n (λ f. f.left ≤ n) (λ m h. h) end item (λ found u h. below_within n n (omega arith) (shortens found n u h)) t le

-- ---- strings

byte_shortens : (low high : ℕ) → Shortens (λ t. byte_in low high (front t) t)
byte_shortens low high n [] le = refused (omega arith)
byte_shortens low high n (b ∷ t) le = either (is_in low high b) (kept (omega arith)) (refused (omega arith))

character_shortens : Shortens character
character_shortens n t le =
    weaker (λ u h. omega arith) (λ f h. omega arith) (below_of character (λ t c rest e. character_longer (character_found t c rest e)) (stops_within Syntax character character_solid) t)

goes_within : (n : ℕ) (t : List ℕ) → length t ≤ n → Within n (goes_on t)
goes_within n t le = either (sees 34 t) (kept (omega (arith, length-drop_one t))) (kept le)

text_within : (n : ℕ) (t : List ℕ) → length t ≤ n → Within n (text t)
unfolding characters
text_within n t le =
    made_leaves _ (repeat_leaves over (λ _. goes_on) (λ _. character) (omega arith) (λ _ u h. goes_within n u h) (λ _ u h. below_within n n (omega arith) (character_shortens n u h)) (suc (length t)) [] t le)

string_shortens : Shortens string
unfolding string
string_shortens n t le = bind (word_leaves (codes "\"") n t le) (λ q h. weaker (λ u k. omega arith) (λ f k. omega arith) (text_within (length q.1) q.1 (omega arith)))

-- ---- numbers

pub length-skip_sign : (t : List ℕ) → length (skip_sign t) ≤ length t
length-skip_sign t = elim (sees 45 t || sees 43 t) as (λ x. length (cond x (drop 1 t) t) ≤ length t) [ true ↦ length-drop_one t | false ↦ omega arith ]

digits_shortens : Shortens digits
unfolding digits
digits_shortens n t le = bind (byte_shortens 48 57 n t le) (λ first h. kept (omega (arith, length-skip_digits first.1)))

numeral_shortens : Shortens numeral
unfolding numeral
numeral_shortens n t le =
    bind (digits_shortens n (skip_sign t) (omega (arith, length-skip_sign t))) (λ whole h. either (sees 46 whole.1) (digits_shortens n (drop 1 whole.1) (omega (arith, length-drop_one whole.1))) (kept h))

in_range_below : (o : Option Num) (at end : List ℕ) (n : ℕ) → length at ≤ n → length end < n → Below n (in_range o at end)
in_range_below (Some m) at end n le less = kept less
in_range_below None at end n le less = refused le

number_shortens : Shortens number
unfolding number
number_shortens n t le = bind (numeral_shortens n t le) (λ end h. in_range_below (read_number (take (length t - length end.1) t)) t end.1 n le h)

-- ---- lists and maps

key_shortens : (found : List (List ℕ × Value)) → Shortens (key found)
unfolding key
key_shortens found n t le = bind (string_shortens n t le) (λ k h. either (has_key found k.0) (refused le) (kept h))

pair_shortens : (val : Reads Value) → Shortens val → (found : List (List ℕ × Value)) → Shortens (pair val found)
unfolding pair
pair_shortens val shortens found n t le =
    bind (key_shortens found n t le) (λ k h.
    bind (word_leaves (codes ":") n (skip k.1) (omega (arith, length-skip k.1))) (λ colon l.
    bind (shortens n (skip colon.1) (omega (arith, length-skip colon.1))) (λ v m. kept m)))

-- ---- values

unfoldable pub IsStart : Start → List ℕ → Type 0
IsStart of_null t = Unit {0}
IsStart of_true t = Unit {0}
IsStart of_false t = Unit {0}
IsStart quote t = t ≡ 34 ∷ drop 1 t
IsStart bracket t = t ≡ 91 ∷ drop 1 t
IsStart brace t = t ≡ 123 ∷ drop 1 t
IsStart numeric t = Unit {0}
IsStart nothing t = Unit {0}

by_digit : (t : List ℕ) (c : Bool) → IsStart (cond c numeric nothing) t
unfolding IsStart
by_digit t true = tt
by_digit t false = tt

pub is_start : (t : List ℕ) → IsStart (start_of (front t)) t
unfolding IsStart
is_start [] = tt
is_start (b ∷ t) =
    elim (b == 110) as (λ x. IsStart (cond x of_null (cond (b == 116) of_true (cond (b == 102) of_false (cond (b == 34) quote (cond (b == 91) bracket (cond (b == 123) brace (cond (begins_number b) numeric nothing))))))) (b ∷ t)) [
      | true ↦ tt
      | false ↦ elim (b == 116) as (λ x. IsStart (cond x of_true (cond (b == 102) of_false (cond (b == 34) quote (cond (b == 91) bracket (cond (b == 123) brace (cond (begins_number b) numeric nothing)))))) (b ∷ t)) [
        | true ↦ tt
        | false ↦ elim (b == 102) as (λ x. IsStart (cond x of_false (cond (b == 34) quote (cond (b == 91) bracket (cond (b == 123) brace (cond (begins_number b) numeric nothing))))) (b ∷ t)) [
          | true ↦ tt
          | false ↦ elim (chosen_is (b == 34)) [
            | inl h ↦ rw h (ap (λ (x : ℕ). x ∷ t) (eqb-true b 34 h))
            | inr h ↦ rw h (elim (chosen_is (b == 91)) [
              | inl h ↦ rw h (ap (λ (x : ℕ). x ∷ t) (eqb-true b 91 h))
              | inr h ↦ rw h (elim (chosen_is (b == 123)) [
                | inl h ↦ rw h (ap (λ (x : ℕ). x ∷ t) (eqb-true b 123 h))
                | inr h ↦ rw h (by_digit (b ∷ t) (begins_number b))
              ])
            ])
          ]
        ]
      ]
    ]

module _ (lists : Reads (List Value)) (maps : Reads (List (List ℕ × Value))) (n : ℕ) (t : List ℕ) (le : length t ≤ n) (list : Below n (lists t)) (map : Below n (maps t)) where
  by_start_below : (s : Start) → IsStart s t → Below n (value_by s lists maps t)
  unfolding IsStart
  by_start_below of_null at = made_leaves _ (weaker (λ u h. omega arith) (λ f h. h) (word_leaves (codes "null") n t le))
  by_start_below of_true at = made_leaves _ (weaker (λ u h. omega arith) (λ f h. h) (word_leaves (codes "true") n t le))
  by_start_below of_false at = made_leaves _ (weaker (λ u h. omega arith) (λ f h. h) (word_leaves (codes "false") n t le))
  by_start_below quote at =
      let behind : length t ≡ suc (length (drop 1 t)) = ap length at in
      made_leaves Text (weaker (λ u h. omega (arith, behind)) (λ f h. omega (arith, behind)) (text_within (length (drop 1 t)) (drop 1 t) (omega arith)))
  by_start_below bracket at = made_leaves Items list
  by_start_below brace at = made_leaves Pairs map
  by_start_below numeric at = made_leaves Number (number_shortens n t le)
  by_start_below nothing at = refused le

value_shortens : (depth : ℕ) → Shortens (value depth)
unfolding value items pairs
value_shortens zero n t le = by_start_below (stop Depth) (stop Depth) n t le (refused le) (refused le) (start_of (front t)) (is_start t)
value_shortens (suc depth) n t le =
    let less : length (drop 1 t) ≤ n = omega (arith, length-drop_one t) in
    by_start_below (λ t. items (value depth) (drop 1 t)) (λ t. pairs (value depth) (drop 1 t)) n t le (list_shortens 93 (λ _. value depth) (λ _. value_shortens depth) n (drop 1 t) less)
    (list_shortens 125 (pair (value depth)) (pair_shortens (value depth) (value_shortens depth)) n (drop 1 t) less) (start_of (front t)) (is_start t)

pub value_shorter : (depth : ℕ) → IsShorter (value depth)
value_shorter depth = below_shorter (value depth) (λ t. value_shortens depth (length t) t (omega arith))

pub pair_shorter : (depth : ℕ) (found : List (List ℕ × Value)) → IsShorter (pair (value depth) found)
pair_shorter depth found = below_shorter (pair (value depth) found) (λ t. pair_shortens (value depth) (value_shortens depth) found (length t) t (omega arith))

-- ---- the whole text

document_within : (t : List ℕ) → Within (length t) (document t)
unfolding document
document_within t = bind (value_shortens 32 (length t) t (omega arith)) (λ v h. either (ended (front v.1)) (kept (omega arith)) (refused (omega arith)))

pub left_within : (t : List ℕ) (f : Fault) → document t ≡ Err f → f.left ≤ length t
left_within t f e = fault_by f (document_within t) e
