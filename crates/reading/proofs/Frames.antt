-- What is spelled is spelled so whatever follows, as long as it is free to follow: `Free` says what may stand behind any spelling.
use Rattle.std.proofs.Common.{◌≡◌, ℕ, true, false, List, [], ◌∷◌, ◌++◌, refl, sym, ap, subst, ◌∙◌, append_assoc, inl, inr}
use Rattle.reading.specs.Bytes.{skip, is_blank}
use Rattle.reading.specs.Spelling.{IsRow, last, more, IsClosed, empty, items}
use Rattle.reading.proofs.Basics.{chosen_is}
use Rattle.reading.proofs.Bytes.{skip_none}

-- the blanks at the front of a text
pub record Blanks (Free : List ℕ → Type 0) (t : List ℕ) : Type 0 where
  pub blanks : List ℕ
  pub parts : t ≡ blanks ++ skip t
  pub skipped : (r : List ℕ) → skip (blanks ++ r) ≡ skip r
  pub free : (r : List ℕ) → Free r → Free (blanks ++ r)

-- the text of what is spelled, which may be followed by anything that is free
pub record Framed {A : Type 0} (Free : List ℕ → Type 0) (Spelling : List ℕ → A → List ℕ → Type 0) (t : List ℕ) (x : A) (rest : List ℕ) : Type 0 where
  pub spelling : List ℕ
  pub parts : t ≡ spelling ++ rest
  pub again : (r : List ℕ) → Free r → Spelling (spelling ++ r) x r

abbrev pub Frames : {A : Type 0} → (List ℕ → Type 0) → (List ℕ → A → List ℕ → Type 0) → Type 0
Frames {A} Free Spelling = (t : List ℕ) (x : A) (rest : List ℕ) → Spelling t x rest → Framed Free Spelling t x rest

module _ (Free : List ℕ → Type 0) (blank_free : (b : ℕ) (r : List ℕ) → is_blank b ≡ true → Free (b ∷ r)) where
  pub blanks_of : (t : List ℕ) → Blanks Free t
  unfolding skip
  blanks_of [] = record { blanks = []; parts = refl; skipped = λ r. refl; free = λ r h. h }
  blanks_of (b ∷ t) =
      elim (chosen_is (is_blank b)) [
        | inl h ↦
            let l = blanks_of t in
            record { blanks = b ∷ l.blanks; parts = rw h (ap (λ (r : List ℕ). b ∷ r) l.parts); skipped = λ r. rw h (l.skipped r); free = λ r k. blank_free b (l.blanks ++ r) h }
        | inr h ↦ record { blanks = []; parts = rw h refl; skipped = λ r. refl; free = λ r k. k }
      ]

  -- a byte behind the blanks that is none itself
  pub byte_at : (b : ℕ) → is_blank b ≡ false → {u : List ℕ} (l : Blanks Free u) (r : List ℕ) → skip (l.blanks ++ b ∷ r) ≡ b ∷ r
  byte_at b h l r = l.skipped (b ∷ r) ∙ skip_none b r h

  module _ {A : Type 0} (end : ℕ) (Item : List A → List ℕ → A → List ℕ → Type 0) (framed : (found : List A) → Frames Free (Item found)) (begins : (found : List A) (t : List ℕ) (x : A) (rest : List ℕ) → Item found t x rest → skip t ≡ t)
      (comma_free : (r : List ℕ) → Free (44 ∷ r)) (end_free : (r : List ℕ) → Free (end ∷ r)) (no_blank : is_blank end ≡ false) where
    pub row_starts : {found all : List A} {t rest : List ℕ} → IsRow end Item found t all rest → skip t ≡ t
    row_starts (last {found = found} {x = x} {text = t} {after = after} here ended) = begins found t x after here
    row_starts (more {found = found} {x = x} {text = t} {after = after} here comma others) = begins found t x after here

    pub row_framed : {found all : List A} {t rest : List ℕ} → IsRow end Item found t all rest → (c : List ℕ) × (t ≡ c ++ rest) × ((r : List ℕ) → Free r → IsRow end Item found (c ++ r) all r)
    row_framed (last {found = found} {x = x} {text = t} {after = after} {rest = rest} here ended) =
        let l = framed found t x after here in
        let b = blanks_of after in
        let parts : t ≡ (l.spelling ++ (b.blanks ++ end ∷ [])) ++ rest = l.parts ∙ ap (λ (u : List ℕ). l.spelling ++ u) (b.parts ∙ ap (λ (u : List ℕ). b.blanks ++ u) ended) ∙ simp append_assoc in (
          l.spelling ++ (b.blanks ++ end ∷ []),
          parts,
          λ r h.
              let same : (l.spelling ++ (b.blanks ++ end ∷ [])) ++ r ≡ l.spelling ++ (b.blanks ++ end ∷ r) = simp append_assoc in
              subst (λ (u : List ℕ). IsRow end Item found u (found ++ x ∷ []) r) (sym same) (last (l.again (b.blanks ++ end ∷ r) (b.free (end ∷ r) (end_free r))) (byte_at end no_blank b r)),
        )
    row_framed (more {found = found} {all = all} {x = x} {text = t} {after = after} {behind = behind} {rest = rest} here comma others) =
        let l = framed found t x after here in
        let b = blanks_of after in
        let d = blanks_of behind in
        let m = row_framed others in
        let tail : after ≡ b.blanks ++ 44 ∷ (d.blanks ++ (m.0 ++ rest)) = b.parts ∙ ap (λ (u : List ℕ). b.blanks ++ u) (comma ∙ ap (λ (u : List ℕ). 44 ∷ u) (d.parts ∙ ap (λ (u : List ℕ). d.blanks ++ u) m.1)) in
        let c : List ℕ = l.spelling ++ (b.blanks ++ 44 ∷ (d.blanks ++ m.0)) in
        let parts : t ≡ c ++ rest = l.parts ∙ ap (λ (u : List ℕ). l.spelling ++ u) tail ∙ simp append_assoc in (
          c,
          parts,
          λ r h.
              let next : List ℕ = d.blanks ++ (m.0 ++ r) in
              let same : c ++ r ≡ l.spelling ++ (b.blanks ++ 44 ∷ next) = simp append_assoc in
              let row = m.2 r h in
              let start : skip next ≡ m.0 ++ r = d.skipped (m.0 ++ r) ∙ row_starts row in
              subst (λ (u : List ℕ). IsRow end Item found u all r) (sym same) (more (l.again (b.blanks ++ 44 ∷ next) (b.free (44 ∷ next) (comma_free next))) (byte_at 44 refl b next) (subst (λ (u : List ℕ). IsRow end Item (found ++ x ∷ []) u all r) (sym start) row)),
        )

    pub closed_framed : Frames Free (IsClosed end Item)
    closed_framed t all rest (empty ended) =
        let b = blanks_of t in
        record {
          spelling = b.blanks ++ end ∷ [];
          parts = b.parts ∙ ap (λ (u : List ℕ). b.blanks ++ u) ended ∙ simp append_assoc;
          again = λ r h.
              let same : (b.blanks ++ end ∷ []) ++ r ≡ b.blanks ++ end ∷ r = simp append_assoc in
              subst (λ (u : List ℕ). IsClosed end Item u [] r) (sym same) (empty (byte_at end no_blank b r));
        }
    closed_framed t all rest (items others) =
        let b = blanks_of t in
        let m = row_framed others in
        record {
          spelling = b.blanks ++ m.0;
          parts = b.parts ∙ ap (λ (u : List ℕ). b.blanks ++ u) m.1 ∙ simp append_assoc;
          again = λ r h.
              let same : (b.blanks ++ m.0) ++ r ≡ b.blanks ++ (m.0 ++ r) = simp append_assoc in
              let row = m.2 r h in
              subst (λ (u : List ℕ). IsClosed end Item u all r) (sym same) (items (subst (λ (u : List ℕ). IsRow end Item [] u all r) (sym (b.skipped (m.0 ++ r) ∙ row_starts row)) row));
        }
