-- Plain scalars and keys in flow, as they are read and in their grammar.
use Rattle.std.proofs.Common.{◌≡◌, ℕ, zero, suc, ◌+◌, Bool, true, false, cond, ◌||◌, ◌&&◌, inl, inr, List, [], ◌∷◌, length, take, drop, Option, Some, None, refl, sym, ap, subst, ◌∙◌, arith}
use Rattle.std.specs.Prelude.{◌==◌}
use Rattle.std.proofs.lemmas.Bool.{eqb-true}
use Rattle.yaml_scan.specs.Words.{sees, is_blank, nothing_left, breaks, colon_at}
use Rattle.yaml_tree.specs.Brackets.{is_stop, is_word_end, is_over, is_colon, IsWord, none as nothing, ends, colon, byte, ends_key}
use Rattle.yaml_tree.specs.Flow.{word_end}
use Rattle.yaml_tree.proofs.LinesFound.{tested, or_false, and_true}

-- the bytes before a plain scalar's end
unfoldable pub cut : Bool → List ℕ → List ℕ
cut spaced [] = []
cut spaced (b ∷ rest) = cond (is_word_end b spaced) [] (b ∷ cut (b == 32) rest)

pub word_end_is : (bytes : List ℕ) (spaced : Bool) (at : ℕ) → word_end spaced at bytes ≡ at + length (cut spaced bytes)
unfolding word_end cut
word_end_is [] spaced at = omega arith
word_end_is (b ∷ rest) spaced at = elim (tested (is_word_end b spaced)) [
  | inl h ↦ rw h (omega arith)
  | inr h ↦ let e = word_end_is rest (b == 32) (at + 1) in rw h (omega (arith, e))
]

pub take_cut : (bytes : List ℕ) (spaced : Bool) → take (length (cut spaced bytes)) bytes ≡ cut spaced bytes
unfolding cut
take_cut [] spaced = refl
take_cut (b ∷ rest) spaced = elim (tested (is_word_end b spaced)) [
  | inl h ↦ rw h refl
  | inr h ↦ rw h (ap (λ (x : List ℕ). b ∷ x) (take_cut rest (b == 32)))
]

-- ---- the tests agree

no_comment : (b : ℕ) (spaced : Bool) → is_word_end b spaced ≡ false → (b == 35 && spaced) ≡ false
no_comment b spaced h = (or_false (is_stop b) (b == 35 && spaced) h).1

blank_no_end : (b : ℕ) (spaced : Bool) → is_blank b ≡ true → is_word_end b spaced ≡ false
blank_no_end b spaced h = elim (tested (b == 32)) [
  | inl k ↦ subst (λ (c : ℕ). is_word_end c spaced ≡ false) (sym (eqb-true b 32 k)) refl
  | inr k ↦ subst (λ (c : ℕ). is_word_end c spaced ≡ false) (sym (eqb-true b 9 (rw k at h))) refl
]

nothing_is : (bytes : List ℕ) (spaced : Bool) → nothing_left spaced (cut spaced bytes) ≡ is_over spaced bytes
unfolding nothing_left is_over cut
nothing_is [] spaced = refl
nothing_is (b ∷ bytes) spaced = elim (tested (is_blank b)) [
  | inl h ↦ let more : is_word_end b spaced ≡ false = blank_no_end b spaced h in rw (more, h) (nothing_is bytes (b == 32))
  | inr h ↦ elim (tested (is_word_end b spaced)) [
    | inl k ↦ rw (k, h) refl
    | inr k ↦ rw (k, h) (no_comment b spaced k)
  ]
]

sees_is : (bytes : List ℕ) → sees 32 (cut false bytes) ≡ sees 32 bytes
unfolding cut
sees_is [] = refl
sees_is (b ∷ bytes) = elim (tested (is_word_end b false)) [
  | inr h ↦ rw h refl
  | inl h ↦ elim (tested (b == 32)) [
    | inr k ↦ rw (h, k) refl
    | inl k ↦ absurd (let q : is_word_end 32 false ≡ true = subst (λ (c : ℕ). is_word_end c false ≡ true) (eqb-true b 32 k) h in cc)
  ]
]

breaks_is : (bytes : List ℕ) → breaks (cut false bytes) ≡ (sees 32 bytes || is_over false bytes)
breaks_is bytes = rw (sees_is bytes, nothing_is bytes false) refl

colon_is : (b : ℕ) (bytes : List ℕ) → (b == 58 && breaks (cut (b == 32) bytes)) ≡ is_colon b bytes
colon_is b bytes = elim (tested (b == 58)) [
  | inr h ↦ rw h refl
  | inl h ↦ subst (λ (c : ℕ). (c == 58 && breaks (cut (c == 32) bytes)) ≡ is_colon c bytes) (sym (eqb-true b 58 h)) (breaks_is bytes)
]

over_ends : (bytes : List ℕ) → is_over false bytes ≡ true → ends_key bytes ≡ true
unfolding is_over
over_ends [] e = refl
over_ends (b ∷ bytes) e = elim (tested (is_blank b)) [
  | inl h ↦ rw h refl
  | inr h ↦ let q : is_word_end b false ≡ true = rw h at e in rw h (without_comment (is_stop b) (b == 35) q)
]
  where
    without_comment : (s c : Bool) → (s || (c && false)) ≡ true → s ≡ true
    without_comment true c e = refl
    without_comment false true e = absurd cc
    without_comment false false e = absurd cc

sees_ends : (bytes : List ℕ) → sees 32 bytes ≡ true → ends_key bytes ≡ true
sees_ends [] e = refl
sees_ends (b ∷ bytes) e = rw e refl

colon_ends : (b : ℕ) (bytes : List ℕ) → is_colon b bytes ≡ true → (b ≡ 58) × (ends_key bytes ≡ true)
colon_ends b bytes e =
    let h = and_true (b == 58) (sees 32 bytes || is_over false bytes) e in
    (eqb-true b 58 h.0, elim (tested (sees 32 bytes)) [ inl k ↦ sees_ends bytes k | inr k ↦ over_ends bytes (rw k at h.1) ])

-- behind a colon
pub next_of : (count b : ℕ) (bytes r : List ℕ) → drop count (b ∷ bytes) ≡ 58 ∷ r → drop count bytes ≡ r
next_of zero b bytes r e = ap (drop 1) e
next_of (suc count) b [] r e = absurd (nothing count r e)
  where
    nothing : (count : ℕ) (r : List ℕ) → drop count [] ≡ 58 ∷ r → ⊥
    nothing zero r e = cc
    nothing (suc count) r e = cc
next_of (suc count) b (c ∷ bytes) r e = next_of count c bytes r e

-- ---- read, and so in the grammar

-- the word of these bytes, and its key's colon if it has one
pub data Cut (spaced : Bool) (at : ℕ) (bytes w : List ℕ) : Option ℕ → Type 0 where
  whole : IsWord spaced bytes w (drop (length w) bytes) → Cut spaced at bytes w None
  keyed : {p : ℕ} {r : List ℕ} (k : ℕ) → IsWord spaced bytes (take k w) (58 ∷ r) → drop k bytes ≡ 58 ∷ r → ends_key r ≡ true → p ≡ at + k → Cut spaced at bytes w (Some p)

longer : {spaced : Bool} {at b : ℕ} {bytes w : List ℕ} {c : Option ℕ} → is_word_end b spaced ≡ false → is_colon b bytes ≡ false → Cut (b == 32) (at + 1) bytes w c → Cut spaced at (b ∷ bytes) (b ∷ w) c
longer h k (whole i) = whole (byte h k i)
longer {at = at} h k (keyed {p = p} j i d e is) = keyed (suc j) (byte h k i) d e (omega (arith, is))

pub word_found : (bytes : List ℕ) (spaced : Bool) (at : ℕ) (c : Option ℕ) → colon_at spaced at (cut spaced bytes) ≡ c → Cut spaced at bytes (cut spaced bytes) c
unfolding cut colon_at
word_found [] spaced at c e = subst (Cut spaced at [] []) e (whole nothing)
word_found (b ∷ bytes) spaced at c e =
    elim (tested (is_word_end b spaced)) [
      | inl h ↦ rw h (subst (Cut spaced at (b ∷ bytes) []) (rw h at e) (whole (ends h)))
      | inr h ↦
          let k = no_comment b spaced h in
          elim (tested (is_colon b bytes)) [
            | inl i ↦
                let here : (b == 58 && breaks (cut (b == 32) bytes)) ≡ true = colon_is b bytes ∙ i in
                let q : Some at ≡ c = rw (h, k, here) at e in
                let is = colon_ends b bytes i in
                let same : at ≡ at + 0 = omega arith in
                rw h (subst (Cut spaced at (b ∷ bytes) (b ∷ cut (b == 32) bytes)) q
                (keyed {r = bytes} 0 (subst (λ (x : ℕ). IsWord spaced (b ∷ bytes) [] (x ∷ bytes)) is.0 (colon i)) (ap (λ (x : ℕ). x ∷ bytes) is.0) is.1 same))
            | inr i ↦
                let here : (b == 58 && breaks (cut (b == 32) bytes)) ≡ false = colon_is b bytes ∙ i in
                rw h (longer h i (word_found bytes (b == 32) (at + 1) c (rw (h, k, here) at e)))
          ]
    ]

-- ---- in the grammar, and so read

-- what is read where a word stands
pub data Told (spaced : Bool) (at : ℕ) (bytes w rest : List ℕ) : Type 0 where
  alone : cut spaced bytes ≡ w → colon_at spaced at w ≡ None → drop (length w) bytes ≡ rest → sees 58 rest ≡ false → Told spaced at bytes w rest
  before : {r : List ℕ} → rest ≡ 58 ∷ r → colon_at spaced at (cut spaced bytes) ≡ Some (at + length w) → take (length w) (cut spaced bytes) ≡ w → drop (length w) bytes ≡ rest → Told spaced at bytes w rest

no_end : (b : ℕ) (spaced : Bool) → is_word_end b spaced ≡ true → (b == 58) ≡ false
no_end b spaced h = elim (tested (b == 58)) [
  | inr k ↦ k
  | inl k ↦ absurd (let q : is_word_end 58 spaced ≡ true = subst (λ (c : ℕ). is_word_end c spaced ≡ true) (eqb-true b 58 k) h in cc)
]

colon_no_end : (spaced : Bool) → is_word_end 58 spaced ≡ false
colon_no_end spaced = refl

told_more : {spaced : Bool} {at b : ℕ} {bytes w rest : List ℕ} → is_word_end b spaced ≡ false → is_colon b bytes ≡ false → Told (b == 32) (at + 1) bytes w rest → Told spaced at (b ∷ bytes) (b ∷ w) rest
unfolding cut colon_at
told_more {spaced = spaced} {at = at} {b = b} {bytes = bytes} {w = w} h i (alone is no_colon d s) =
    let k = no_comment b spaced h in
    let here : (b == 58 && breaks w) ≡ false = ap (λ (x : List ℕ). b == 58 && breaks x) (sym is) ∙ colon_is b bytes ∙ i in
    alone (rw h (ap (λ (x : List ℕ). b ∷ x) is)) (rw (k, here) no_colon) d s
told_more {spaced = spaced} {at = at} {b = b} {bytes = bytes} {w = w} h i (before is c t d) =
    let k = no_comment b spaced h in
    let here : (b == 58 && breaks (cut (b == 32) bytes)) ≡ false = colon_is b bytes ∙ i in
    let same : at + 1 + length w ≡ at + suc (length w) = omega arith in
    before is (rw (h, k, here) (c ∙ ap Some same)) (rw h (ap (λ (x : List ℕ). b ∷ x) t)) d

pub word_told : {spaced : Bool} {bytes w rest : List ℕ} → IsWord spaced bytes w rest → (at : ℕ) → Told spaced at bytes w rest
unfolding cut colon_at
word_told nothing at = alone refl refl refl refl
word_told (ends {spaced = spaced} {b = b} {rest = rest} h) at = alone (rw h refl) refl refl (no_end b spaced h)
word_told (colon {spaced = spaced} {b = b} {rest = rest} i) at =
    let is = colon_ends b rest i in
    let more : is_word_end b spaced ≡ false = ap (λ (c : ℕ). is_word_end c spaced) is.0 in
    let k = no_comment b spaced more in
    let here : (b == 58 && breaks (cut (b == 32) rest)) ≡ true = colon_is b rest ∙ i in
    let same : at ≡ at + 0 = omega arith in
    before {r = rest} (ap (λ (x : ℕ). x ∷ rest) is.0) (rw (more, k, here) (ap Some same)) refl refl
word_told (byte h i w) at = told_more h i (word_told w (at + 1))
