-- Plain keys, read and in their grammar.
use Rattle.std.proofs.Common.{◌≡◌, ℕ, suc, ◌+◌, Bool, true, false, ◌&&◌, inl, inr, List, [], ◌∷◌, ◌++◌, length, take, drop, Some, None, refl, sym, ap, subst, ◌∙◌, arith}
use Rattle.std.specs.Prelude.{◌==◌}
use Rattle.std.proofs.Math.Seq.{take-append_seam}
use Rattle.std.proofs.lemmas.Bool.{eqb-true}
use Rattle.yaml_scan.specs.Words.{is_blank, nothing_left, breaks, colon_at, trimmed, without_blanks, only_blanks}
use Rattle.yaml_tree.specs.Leaves.{colon_behind}
use Rattle.yaml_tree.specs.Keys.{IsColon, here, blank, IsKeyText, ends, byte}
use Rattle.yaml_tree.proofs.LinesFound.{tested, and_true}
use Rattle.yaml_tree.proofs.PlainsFound.{blank_no_colon}
use Rattle.yaml_tree.proofs.Trims.{trim, trim_blanks, trim_more, trimmed_is, no_stop, same_left}

-- what stands before the first colon of a key, and what stands behind it
data IsCut : Bool → List ℕ → List ℕ → List ℕ → Type 0 where
  colon : {spaced : Bool} {rest : List ℕ} → breaks rest ≡ true → IsCut spaced (58 ∷ rest) [] rest
  more : {spaced : Bool} {b : ℕ} {bytes front rest : List ℕ} → (b == 35 && spaced) ≡ false → (b == 58 && breaks bytes) ≡ false → IsCut (b == 32) bytes front rest → IsCut spaced (b ∷ bytes) (b ∷ front) rest

cut_bytes : {spaced : Bool} {bytes front rest : List ℕ} → IsCut spaced bytes front rest → bytes ≡ front ++ 58 ∷ rest
cut_bytes (colon e) = refl
cut_bytes (more {b = b} h k i) = ap (λ (x : List ℕ). b ∷ x) (cut_bytes i)

-- ---- by the definition

cut_found : (bytes : List ℕ) (spaced : Bool) (first at : ℕ) → colon_at spaced first bytes ≡ Some at → (front : List ℕ) × (rest : List ℕ) × IsCut spaced bytes front rest × (at ≡ first + length front)
unfolding colon_at
cut_found [] spaced first at e = absurd cc
cut_found (b ∷ bytes) spaced first at e =
    elim (tested (b == 35 && spaced)) [
      | inl h ↦ absurd (let q : None ≡ Some at = rw h at e in cc)
      | inr h ↦ elim (tested (b == 58 && breaks bytes)) [
        | inl k ↦
            let parts = and_true (b == 58) (breaks bytes) k in
            let q : Some first ≡ Some at = rw (h, k) at e in
            let same : first ≡ at = cc in
            ([], bytes, subst (λ (c : ℕ). IsCut spaced (c ∷ bytes) [] bytes) (sym (eqb-true b 58 parts.0)) (colon parts.1), omega arith)
        | inr k ↦
            let r = cut_found bytes (b == 32) (first + 1) at (rw (h, k) at e) in
            (b ∷ r.0, r.1, more h k r.2, omega (arith, r.3))
      ]
    ]

cut_read : {spaced : Bool} {bytes front rest : List ℕ} → IsCut spaced bytes front rest → (first : ℕ) → colon_at spaced first bytes ≡ Some (first + length front)
unfolding colon_at
cut_read (colon e) first = let same : first ≡ first + 0 = omega arith in rw e (ap (λ (n : ℕ). Some n) same)
cut_read (more {b = b} {front = front} h k i) first =
    let same : first + 1 + length front ≡ first + length (b ∷ front) = omega arith in
    rw (h, k) (cut_read i (first + 1) ∙ ap (λ (n : ℕ). Some n) same)

take_front : {spaced : Bool} {bytes front rest : List ℕ} (at : ℕ) → IsCut spaced bytes front rest → at ≡ length front → take at bytes ≡ front
take_front {bytes = bytes} {front = front} {rest = rest} at i e = ap (λ (n : ℕ). take n bytes) e ∙ ap (λ (x : List ℕ). take (length front) x) (cut_bytes i) ∙ take-append_seam front (58 ∷ rest)

drop_front : (front rest : List ℕ) → drop (suc (length front)) (front ++ 58 ∷ rest) ≡ rest
drop_front [] rest = refl
drop_front (b ∷ front) rest = drop_front front rest

drop_cut : {spaced : Bool} {bytes front rest : List ℕ} (at : ℕ) → IsCut spaced bytes front rest → at ≡ length front → drop (at + 1) bytes ≡ rest
drop_cut {bytes = bytes} {front = front} {rest = rest} at i e =
    let same : at + 1 ≡ suc (length front) = omega arith in
    ap (λ (n : ℕ). drop n bytes) same ∙ ap (λ (x : List ℕ). drop (suc (length front)) x) (cut_bytes i) ∙ drop_front front rest

-- ---- by the grammar

cut_some : {spaced : Bool} {bytes front rest : List ℕ} → IsCut spaced bytes front rest → nothing_left spaced bytes ≡ false
unfolding nothing_left
cut_some (colon e) = refl
cut_some (more {b = b} h k i) = elim (tested (is_blank b)) [
  | inl c ↦ rw c (cut_some i)
  | inr c ↦ rw (c, h) refl
]

cut_colon : {spaced : Bool} {bytes front rest : List ℕ} → IsCut spaced bytes front rest → (column : ℕ) → only_blanks front ≡ true → IsColon column bytes (column + length front + 1) rest
unfolding only_blanks
cut_colon (colon {rest = rest} e) column o =
    let same : column + 1 ≡ column + 0 + 1 = omega arith in
    subst (λ (n : ℕ). IsColon column (58 ∷ rest) n rest) same (here e)
cut_colon (more {b = b} {bytes = bytes} {front = front} {rest = rest} h k i) column o =
    let parts = and_true (is_blank b) (only_blanks front) o in
    let same : column + 1 + length front + 1 ≡ column + length (b ∷ front) + 1 = omega arith in
    blank parts.0 (subst (λ (n : ℕ). IsColon (column + 1) bytes n rest) same (cut_colon i (column + 1) parts.1))

cut_no_colon : {spaced : Bool} {bytes front rest : List ℕ} → IsCut spaced bytes front rest → only_blanks front ≡ false → colon_behind (without_blanks bytes) ≡ false
unfolding only_blanks without_blanks
cut_no_colon (colon e) o = absurd cc
cut_no_colon (more {b = b} h k i) o = elim (tested (is_blank b)) [
  | inl c ↦ rw c (cut_no_colon i (rw c at o))
  | inr c ↦ rw c k
]

blank_none : only_blanks [] ≡ true
unfolding only_blanks
blank_none = refl

cut_key : {spaced : Bool} {bytes front rest : List ℕ} → IsCut spaced bytes front rest → (column : ℕ) → nothing_left spaced bytes ≡ nothing_left false bytes → IsKeyText column bytes (trim front) (column + length front + 1) rest
cut_key (colon {spaced = spaced} {rest = rest} e) column same =
    let none : trim [] ≡ [] = trim_blanks [] blank_none in
    subst (λ (x : List ℕ). IsKeyText column (58 ∷ rest) x (column + 0 + 1) rest) (sym none) (ends (cut_colon (colon {spaced = spaced} e) column blank_none))
cut_key (more {spaced = spaced} {b = b} {bytes = bytes} {front = front} {rest = rest} h k i) column same =
    elim (tested (only_blanks (b ∷ front))) [
      | inl o ↦ subst (λ (x : List ℕ). IsKeyText column (b ∷ bytes) x (column + length (b ∷ front) + 1) rest) (sym (trim_blanks (b ∷ front) o)) (ends (cut_colon (more {spaced = spaced} h k i) column o))
      | inr o ↦
          let n : nothing_left false (b ∷ bytes) ≡ false = sym same ∙ cut_some (more {spaced = spaced} h k i) in
          let at : column + 1 + length front + 1 ≡ column + length (b ∷ front) + 1 = omega arith in
          subst (λ (x : List ℕ). IsKeyText column (b ∷ bytes) x (column + length (b ∷ front) + 1) rest) (sym (trim_more b front o))
          (subst (λ (m : ℕ). IsKeyText column (b ∷ bytes) (b ∷ trim front) m rest) at (byte n (cut_no_colon (more {spaced = spaced} h k i) o) (cut_key i (column + 1) (same_left b bytes n))))
    ]

blank_no_comment : (b : ℕ) (spaced : Bool) → is_blank b ≡ true → (b == 35 && spaced) ≡ false
blank_no_comment b spaced h = elim (tested (b == 35)) [
  | inr k ↦ rw k refl
  | inl k ↦ absurd (let q : false ≡ true = sym (ap is_blank (eqb-true b 35 k)) ∙ h in cc)
]

colon_cut : {column behind : ℕ} {bytes rest : List ℕ} → IsColon column bytes behind rest → (spaced : Bool) → (front : List ℕ) × IsCut spaced bytes front rest × (only_blanks front ≡ true) × (behind ≡ column + length front + 1)
unfolding only_blanks
colon_cut (here {column = column} e) spaced = ([], colon e, refl, omega arith)
colon_cut (blank {b = b} h i) spaced =
    let r = colon_cut i (b == 32) in
    (b ∷ r.0, more (blank_no_comment b spaced h) (rw (blank_no_colon b h) refl) r.1, rw h r.2, omega (arith, r.3))

-- A byte of a key's text, which ends at a colon behind it, is no blank before that colon.
some_front : {spaced : Bool} {bytes front rest : List ℕ} → IsCut spaced bytes front rest → colon_behind (without_blanks bytes) ≡ false → only_blanks front ≡ false
unfolding only_blanks without_blanks
some_front (colon e) c = absurd (let q : true ≡ false = sym e ∙ c in cc)
some_front (more {b = b} h k i) c = elim (tested (is_blank b)) [
  | inl d ↦ rw d (some_front i (rw d at c))
  | inr d ↦ rw d refl
]

no_colon_here : (b : ℕ) (bytes : List ℕ) → colon_behind (without_blanks (b ∷ bytes)) ≡ false → (b == 58 && breaks bytes) ≡ false
unfolding without_blanks
no_colon_here b bytes c = elim (tested (is_blank b)) [
  | inl d ↦ rw (blank_no_colon b d) refl
  | inr d ↦ rw d at c
]

key_cut : {column behind : ℕ} {bytes s rest : List ℕ} → IsKeyText column bytes s behind rest → (spaced : Bool) → nothing_left spaced bytes ≡ nothing_left false bytes
    → (front : List ℕ) × IsCut spaced bytes front rest × (trim front ≡ s) × (behind ≡ column + length front + 1)
key_cut (ends i) spaced same =
    let r = colon_cut i spaced in
    (r.0, r.1, trim_blanks r.0 r.2, r.3)
key_cut (byte {b = b} {bytes = bytes} n c i) spaced same =
    let r = key_cut i (b == 32) (same_left b bytes n) in
    let m : IsCut spaced (b ∷ bytes) (b ∷ r.0) _ = more (no_stop b bytes spaced (same ∙ n)) (no_colon_here b bytes c) r.1 in
    (b ∷ r.0, m, trim_more b r.0 (some_front m c) ∙ ap (λ (x : List ℕ). b ∷ x) r.2, omega (arith, r.3))

-- ---- both

pub key_text_found : (bytes : List ℕ) (at column : ℕ) → colon_at false 0 bytes ≡ Some at → IsKeyText column bytes (trimmed (take at bytes)) (column + at + 1) (drop (at + 1) bytes)
key_text_found bytes at column e =
    let r = cut_found bytes false 0 at e in
    let long : at ≡ length r.0 = omega (arith, r.3) in
    let text : trim r.0 ≡ trimmed (take at bytes) = sym (ap (λ (x : List ℕ). trimmed x) (take_front at r.2 long) ∙ trimmed_is r.0) in
    let same : column + length r.0 + 1 ≡ column + at + 1 = omega arith in
    subst (λ (x : List ℕ). IsKeyText column bytes x (column + at + 1) (drop (at + 1) bytes)) text
    (subst (λ (n : ℕ). IsKeyText column bytes (trim r.0) n (drop (at + 1) bytes)) same (subst (λ (x : List ℕ). IsKeyText column bytes (trim r.0) (column + length r.0 + 1) x) (sym (drop_cut at r.2 long)) (cut_key r.2 column refl)))

pub key_text_read : {column behind : ℕ} {bytes s rest : List ℕ} → IsKeyText column bytes s behind rest → (at : ℕ) × (colon_at false 0 bytes ≡ Some at) × (trimmed (take at bytes) ≡ s) × (column + at + 1 ≡ behind) × (drop (at + 1) bytes ≡ rest)
key_text_read {column = column} {behind = behind} i =
    let r = key_cut i false refl in
    let same : 0 + length r.0 ≡ length r.0 = omega arith in
    let at : column + length r.0 + 1 ≡ behind = omega (arith, r.3) in
    (length r.0, cut_read r.1 0 ∙ ap (λ (n : ℕ). Some n) same, ap (λ (x : List ℕ). trimmed x) (take_front (length r.0) r.1 refl) ∙ trimmed_is r.0 ∙ r.2, at, drop_cut (length r.0) r.1 refl)
