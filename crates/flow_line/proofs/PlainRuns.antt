-- Runs of bytes that are printed as they are.
use Rattle.std.proofs.Common.{◌≡◌, ℕ, zero, suc, ◌+◌, ◌-◌, ◌<◌, Bool, true, false, cond, List, [], ◌∷◌, ◌++◌, length, take, drop, Some, None, refl, sym, ap, subst, ◌∙◌, arith, append_assoc, get_or, IsUtf8}
use Rattle.std.specs.Prelude.{flat_map, nat_lt, not}
use Rattle.std.specs.List.{position, position_or_len}
use Rattle.std.proofs.lemmas.Bool.Decides.{nat_tests}
use Rattle.std.proofs.lemmas.List.Concat.{flat_map-append}
use Rattle.std.proofs.lemmas.List.Quantifiers.{position-Some}
use Rattle.std.proofs.lemmas.List.Sums.{fails_before_first}
use Rattle.std.proofs.lemmas.List.{length-drop}
use Rattle.std.proofs.Math.Seq.{take-length}
use Rattle.std.proofs.lemmas.Str.{IsUtf8-take, IsUtf8-drop, IsCharBoundary-before_ascii, IsCharBoundary-after_ascii}
use Rattle.ha_config.specs.ValueText.{escaped_byte}
use Rattle.flow_line.specs.Bytes.{stands_as_is}

-- the slice from a place on
pub from_on : (at : ℕ) (xs : List ℕ) → take (length xs - at) (drop at xs) ≡ drop at xs
from_on at xs = ap (λ (n : ℕ). take n (drop at xs)) (sym (length-drop at xs)) ∙ take-length (drop at xs)

-- a byte that a printed string has in another form
abbrev pub is_escaped : ℕ → Bool
is_escaped b = not (stands_as_is b)

-- a byte that is not escaped stays
stays : (b : ℕ) → is_escaped b ≡ false → escaped_byte b ≡ b ∷ []
stays b h = grind (arith, nat_tests)

ascii : (b : ℕ) → is_escaped b ≡ true → b < 128
ascii b h = grind (arith, nat_tests)

-- none of so many bytes at the front is escaped
abbrev pub AreShown : ℕ → List ℕ → Type 0
AreShown at rest = (k : ℕ) → k < at → is_escaped (get_or rest k 0) ≡ false

pub all_stay : (at : ℕ) (rest : List ℕ) → AreShown at rest → flat_map escaped_byte (take at rest) ≡ take at rest
all_stay zero rest shown = refl
all_stay (suc at) [] shown = refl
all_stay (suc at) (b ∷ rest) shown =
    ap (λ (r : List ℕ). r ++ flat_map escaped_byte (take at rest)) (stays b (shown zero (omega arith)))
    ∙ ap (λ (r : List ℕ). b ∷ r) (all_stay at rest (λ k less. shown (suc k) (omega (arith, less))))

pub parts : (at : ℕ) (rest : List ℕ) → at < length rest → rest ≡ take at rest ++ get_or rest at 0 ∷ drop (suc at) rest
parts zero [] less = absurd (omega (arith, less))
parts zero (b ∷ rest) less = refl
parts (suc at) [] less = absurd (omega (arith, less))
parts (suc at) (b ∷ rest) less = ap (λ (r : List ℕ). b ∷ r) (parts at rest (omega (arith, less)))

none_found : (test : Bool) (at : ℕ) → cond test (Some at) None ≡ None → test ≡ false
none_found true at e = absurd cc
none_found false at e = refl

module _ (rest : List ℕ) (at : ℕ) (first : position is_escaped rest ≡ Some at) where
  pub found : (at < length rest) × (is_escaped (get_or rest at 0) ≡ true) × AreShown at rest
  found = position-Some is_escaped rest at 0 first

  pub small : get_or rest at 0 < 128
  small = ascii (get_or rest at 0) found.1

  pub front_utf8 : IsUtf8 rest → IsUtf8 (take at rest)
  front_utf8 u = IsUtf8-take rest at u (IsCharBoundary-before_ascii rest at found.0 small)

  pub behind_utf8 : IsUtf8 rest → IsUtf8 (drop (at + 1) rest)
  behind_utf8 u = IsUtf8-drop rest (at + 1) u (IsCharBoundary-after_ascii rest at u found.0 small)

  shown_parts : flat_map escaped_byte rest ≡ take at rest ++ (escaped_byte (get_or rest at 0) ++ flat_map escaped_byte (drop (at + 1) rest))
  shown_parts =
      let next : suc at ≡ at + 1 = omega arith in
      ap (flat_map escaped_byte) (parts at rest found.0 ∙ ap (λ (n : ℕ). take at rest ++ get_or rest at 0 ∷ drop n rest) next)
      ∙ flat_map-append escaped_byte (take at rest) (get_or rest at 0 ∷ drop (at + 1) rest)
      ∙ ap (λ (r : List ℕ). r ++ (escaped_byte (get_or rest at 0) ++ flat_map escaped_byte (drop (at + 1) rest))) (all_stay at rest found.2)

  -- a run and the escape behind it are appended
  pub one_run : (whole text front now : List ℕ) → text ++ flat_map escaped_byte rest ≡ whole → front ≡ text ++ take at rest
      → now ≡ front ++ escaped_byte (get_or rest at 0) → now ++ flat_map escaped_byte (drop (at + 1) rest) ≡ whole
  one_run whole text front now before run escape =
      ap (λ (r : List ℕ). r ++ flat_map escaped_byte (drop (at + 1) rest)) (escape ∙ ap (λ (r : List ℕ). r ++ escaped_byte (get_or rest at 0)) run)
      ∙ append_assoc (text ++ take at rest) (escaped_byte (get_or rest at 0)) (flat_map escaped_byte (drop (at + 1) rest))
      ∙ append_assoc text (take at rest) (escaped_byte (get_or rest at 0) ++ flat_map escaped_byte (drop (at + 1) rest))
      ∙ ap (λ (r : List ℕ). text ++ r) (sym shown_parts) ∙ before

  pub less_left : length (drop (at + 1) rest) < length rest
  less_left = subst (λ (n : ℕ). n < length rest) (sym (length-drop (at + 1) rest)) (omega (arith, found.0))

-- where nothing is escaped all stays
pub last_run : (rest : List ℕ) → position is_escaped rest ≡ None → flat_map escaped_byte rest ≡ rest
last_run rest e =
    let less = none_found (nat_lt (position_or_len is_escaped rest) (length rest)) (position_or_len is_escaped rest) e in
    let shown : AreShown (length rest) rest = λ k below. fails_before_first is_escaped rest k 0 (grind (arith, nat_tests, less, below)) in
    ap (flat_map escaped_byte) (sym (take-length rest)) ∙ all_stay (length rest) rest shown ∙ take-length rest
