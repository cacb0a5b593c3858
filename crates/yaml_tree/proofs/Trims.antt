-- The text of a line without its comment and the blanks at its end, by recursion on its bytes.
use Rattle.std.proofs.Common.{◌≡◌, ℕ, ◌+◌, ◌<◌, Bool, true, false, cond, ◌&&◌, inl, inr, List, [], ◌∷◌, length, take, refl, sym, ap, ◌∙◌, arith}
use Rattle.std.specs.Prelude.{◌==◌, not}
use Rattle.std.proofs.lemmas.Bool.{eqb-true, lt-ltb, le-ltb, and_right}
use Rattle.yaml_scan.specs.Words.{is_blank, nothing_left, only_blanks, comment_at, text_end, trimmed, has_comment}
use Rattle.yaml_tree.proofs.LinesFound.{tested}

-- ---- blanks at the end

unfoldable pub trim : List ℕ → List ℕ
trim [] = []
trim (b ∷ bytes) = cond (only_blanks (b ∷ bytes)) [] (b ∷ trim bytes)

pub trim_blanks : (bytes : List ℕ) → only_blanks bytes ≡ true → trim bytes ≡ []
unfolding trim
trim_blanks [] o = refl
trim_blanks (b ∷ bytes) o = rw o refl

pub trim_more : (b : ℕ) (bytes : List ℕ) → only_blanks (b ∷ bytes) ≡ false → trim (b ∷ bytes) ≡ b ∷ trim bytes
unfolding trim
trim_more b bytes o = rw o refl

end_is : (bytes : List ℕ) (last at : ℕ) → text_end last at bytes ≡ cond (only_blanks bytes) last (at + length (trim bytes))
unfolding text_end only_blanks
end_is [] last at = refl
end_is (b ∷ bytes) last at =
    elim (tested (is_blank b)) [
      | inl h ↦ elim (tested (only_blanks bytes)) [
        | inl o ↦ rw (h, o) (rw o at (end_is bytes last (at + 1)))
        | inr o ↦
            let some : only_blanks (b ∷ bytes) ≡ false = rw (h, o) refl in
            let long : length (trim (b ∷ bytes)) ≡ length (b ∷ trim bytes) = ap (λ (x : List ℕ). length x) (trim_more b bytes some) in
            let more : at + 1 + length (trim bytes) ≡ at + length (trim (b ∷ bytes)) = omega arith in
            rw (h, o) ((rw o at (end_is bytes last (at + 1))) ∙ more)
      ]
      | inr h ↦
          let some : only_blanks (b ∷ bytes) ≡ false = rw h refl in
          let long : length (trim (b ∷ bytes)) ≡ length (b ∷ trim bytes) = ap (λ (x : List ℕ). length x) (trim_more b bytes some) in
          elim (tested (only_blanks bytes)) [
            | inl o ↦
                let none : length (trim bytes) ≡ 0 = ap (λ (x : List ℕ). length x) (trim_blanks bytes o) in
                let more : at + 1 ≡ at + length (trim (b ∷ bytes)) = omega arith in
                rw h ((rw o at (end_is bytes (at + 1) (at + 1))) ∙ more)
            | inr o ↦
                let more : at + 1 + length (trim bytes) ≡ at + length (trim (b ∷ bytes)) = omega arith in
                rw h ((rw o at (end_is bytes (at + 1) (at + 1))) ∙ more)
          ]
    ]

take_trim : (bytes : List ℕ) → take (length (trim bytes)) bytes ≡ trim bytes
unfolding trim
take_trim [] = refl
take_trim (b ∷ bytes) = elim (tested (only_blanks (b ∷ bytes))) [
  | inl o ↦ rw o refl
  | inr o ↦ rw o (ap (λ (x : List ℕ). b ∷ x) (take_trim bytes))
]

pub trimmed_is : (bytes : List ℕ) → trimmed bytes ≡ trim bytes
trimmed_is bytes = elim (tested (only_blanks bytes)) [
  | inl o ↦ ap (λ (n : ℕ). take n bytes) (rw o at (end_is bytes 0 0)) ∙ sym (trim_blanks bytes o)
  | inr o ↦
      let same : 0 + length (trim bytes) ≡ length (trim bytes) = omega arith in
      ap (λ (n : ℕ). take n bytes) ((rw o at (end_is bytes 0 0)) ∙ same) ∙ take_trim bytes
]

-- ---- comments

-- what stands before a comment
unfoldable pub cut : Bool → List ℕ → List ℕ
cut spaced [] = []
cut spaced (b ∷ bytes) = cond (b == 35 && spaced) [] (b ∷ cut (b == 32) bytes)

unfoldable pub commented : Bool → List ℕ → Bool
commented spaced [] = false
commented spaced (b ∷ bytes) = cond (b == 35 && spaced) true (commented (b == 32) bytes)

comment_is : (bytes : List ℕ) (spaced : Bool) (at : ℕ) → comment_at spaced at bytes ≡ at + length (cut spaced bytes)
unfolding comment_at cut
comment_is [] spaced at = omega arith
comment_is (b ∷ bytes) spaced at = elim (tested (b == 35 && spaced)) [
  | inl h ↦ rw h (omega arith)
  | inr h ↦
      let more : at + 1 + length (cut (b == 32) bytes) ≡ at + length (b ∷ cut (b == 32) bytes) = omega arith in
      rw h (comment_is bytes (b == 32) (at + 1) ∙ more)
]

take_cut : (bytes : List ℕ) (spaced : Bool) → take (length (cut spaced bytes)) bytes ≡ cut spaced bytes
unfolding cut
take_cut [] spaced = refl
take_cut (b ∷ bytes) spaced = elim (tested (b == 35 && spaced)) [
  | inl h ↦ rw h refl
  | inr h ↦ rw h (ap (λ (x : List ℕ). b ∷ x) (take_cut bytes (b == 32)))
]

pub text_is : (bytes : List ℕ) → trimmed (take (comment_at false 0 bytes) bytes) ≡ trim (cut false bytes)
text_is bytes =
    let same : 0 + length (cut false bytes) ≡ length (cut false bytes) = omega arith in
    ap (λ (n : ℕ). trimmed (take n bytes)) (comment_is bytes false 0 ∙ same) ∙ ap (λ (x : List ℕ). trimmed x) (take_cut bytes false) ∙ trimmed_is (cut false bytes)

cut_short : (bytes : List ℕ) (spaced : Bool) → commented spaced bytes ≡ true → length (cut spaced bytes) < length bytes
unfolding cut commented
cut_short [] spaced e = absurd cc
cut_short (b ∷ bytes) spaced e = elim (tested (b == 35 && spaced)) [
  | inl h ↦ rw h (omega arith)
  | inr h ↦ let less = cut_short bytes (b == 32) (rw h at e) in rw h (omega arith)
]

cut_none : (bytes : List ℕ) (spaced : Bool) → commented spaced bytes ≡ false → cut spaced bytes ≡ bytes
unfolding cut commented
cut_none [] spaced e = refl
cut_none (b ∷ bytes) spaced e = elim (tested (b == 35 && spaced)) [
  | inl h ↦ absurd (let q : true ≡ false = rw h at e in cc)
  | inr h ↦ rw h (ap (λ (x : List ℕ). b ∷ x) (cut_none bytes (b == 32) (rw h at e)))
]

pub has_comment_is : (bytes : List ℕ) → has_comment bytes ≡ commented false bytes
has_comment_is bytes =
    let at : comment_at false 0 bytes ≡ 0 + length (cut false bytes) = comment_is bytes false 0 in
    elim (tested (commented false bytes)) [
      | inl h ↦ let less = cut_short bytes false h in lt-ltb (comment_at false 0 bytes) (length bytes) (omega arith) ∙ sym h
      | inr h ↦
          let long : length (cut false bytes) ≡ length bytes = ap (λ (x : List ℕ). length x) (cut_none bytes false h) in
          le-ltb (comment_at false 0 bytes) (length bytes) (omega arith) ∙ sym h
    ]

-- ---- where nothing more comes

comment_no_blank : (b : ℕ) (spaced : Bool) → (b == 35 && spaced) ≡ true → is_blank b ≡ false
comment_no_blank b spaced h = elim (tested (b == 35)) [
  | inl k ↦ ap is_blank (eqb-true b 35 k)
  | inr k ↦ absurd (let q : false ≡ true = rw k at h in cc)
]

pub cut_blanks : (bytes : List ℕ) (spaced : Bool) → only_blanks (cut spaced bytes) ≡ nothing_left spaced bytes
unfolding cut only_blanks nothing_left
cut_blanks [] spaced = refl
cut_blanks (b ∷ bytes) spaced = elim (tested (b == 35 && spaced)) [
  | inl h ↦ rw (h, comment_no_blank b spaced h) refl
  | inr h ↦ elim (tested (is_blank b)) [
    | inl k ↦ rw (h, k) (cut_blanks bytes (b == 32))
    | inr k ↦ rw (h, k) refl
  ]
]

pub nothing_blanks : (bytes : List ℕ) (spaced : Bool) → only_blanks bytes ≡ true → nothing_left spaced bytes ≡ true
unfolding only_blanks nothing_left
nothing_blanks [] spaced o = refl
nothing_blanks (b ∷ bytes) spaced o = elim (tested (is_blank b)) [
  | inl k ↦ rw k (nothing_blanks bytes (b == 32) (rw k at o))
  | inr k ↦ absurd (let q : false ≡ true = rw k at o in cc)
]

pub commented_is : (bytes : List ℕ) (spaced : Bool) → nothing_left spaced bytes ≡ true → commented spaced bytes ≡ not (only_blanks bytes)
unfolding commented only_blanks nothing_left
commented_is [] spaced n = refl
commented_is (b ∷ bytes) spaced n = elim (tested (b == 35 && spaced)) [
  | inl h ↦ rw (h, comment_no_blank b spaced h) refl
  | inr h ↦ elim (tested (is_blank b)) [
    | inl k ↦ rw (h, k) (commented_is bytes (b == 32) (rw k at n))
    | inr k ↦ absurd (let q : false ≡ true = rw (k, h) at n in cc)
  ]
]

pub no_stop : (b : ℕ) (bytes : List ℕ) (spaced : Bool) → nothing_left spaced (b ∷ bytes) ≡ false → (b == 35 && spaced) ≡ false
unfolding nothing_left
no_stop b bytes spaced n = elim (tested (b == 35 && spaced)) [
  | inr h ↦ h
  | inl h ↦ absurd (let q : true ≡ false = rw (comment_no_blank b spaced h, h) at n in cc)
]

-- Behind a blank it does not matter whether a space was read last, where more comes.
left_less : (bytes : List ℕ) → nothing_left true bytes ≡ false → nothing_left false bytes ≡ false
unfolding nothing_left
left_less [] n = n
left_less (b ∷ bytes) n = elim (tested (is_blank b)) [
  | inl k ↦ rw k (rw k at n)
  | inr k ↦ rw k (and_right (b == 35) false refl)
]

pub same_left : (b : ℕ) (bytes : List ℕ) → nothing_left false (b ∷ bytes) ≡ false → nothing_left (b == 32) bytes ≡ nothing_left false bytes
unfolding nothing_left
same_left b bytes n = elim (tested (b == 32)) [
  | inr h ↦ rw h refl
  | inl h ↦
      let is : b ≡ 32 = eqb-true b 32 h in
      let n' : nothing_left true bytes ≡ false = rw is at n in
      rw h (n' ∙ sym (left_less bytes n'))
]
