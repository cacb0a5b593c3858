-- Up to a fault a reading goes on.
use Rattle.std.proofs.Common.{◌≡◌, ℕ, zero, suc, ◌<◌, true, false, List, [], ◌∷◌, ◌++◌, length, drop, Ok, Err, refl, sym, ap, subst, ◌∙◌, append_assoc, arith, inl, inr}
use Rattle.std.specs.Prelude.{codes}
use Rattle.reading.specs.declared.fault.Bad.{Bad}
use Rattle.reading.specs.Answer.{◌>>=◌, Rule}
use Rattle.reading.specs.Bytes.{sees, skip, is_blank, expect}
use Rattle.reading.specs.Rows.{after_item, row, closed_by}
use Rattle.reading.specs.Spelling.{IsRow, last, more as another, IsClosed, items}
use Rattle.reading.proofs.Basics.{bind_err, chosen, Sound, Longer}
use Rattle.reading.proofs.Bytes.{length-skip, expect_found, byte_left, skip_none}
use Rattle.reading.proofs.Frames.{blanks_of, byte_at, Frames, row_starts}

-- what is before the fault can be gone on with
pub record Open {C A : Type 0} (Free : List ℕ → Type 0) (Spelling : List ℕ → A → List ℕ → Type 0) (t : List ℕ) (f : Bad C) : Type 0 where
  pub before : List ℕ
  pub rest : List ℕ
  pub parts : t ≡ before ++ rest
  pub left : f.left ≡ length rest
  pub more : List ℕ
  pub x : A
  pub spelled : (r : List ℕ) → Free r → Spelling (before ++ (more ++ r)) x r

abbrev pub Opens : {C A : Type 0} → (List ℕ → Type 0) → Rule ℕ (Bad C) A → (List ℕ → A → List ℕ → Type 0) → Type 0
Opens {C} Free rule Spelling = (t : List ℕ) (f : Bad C) → rule t ≡ Err f → Open Free Spelling t f

module _ {C A : Type 0} (Free : List ℕ → Type 0) (blank_free : (b : ℕ) (r : List ℕ) → is_blank b ≡ true → Free (b ∷ r)) (code : C) (end : ℕ)
    (item : List A → Rule ℕ (Bad C) A) (Item : List A → List ℕ → A → List ℕ → Type 0) (found_sound : (found : List A) → Sound (item found) (Item found)) (longer : (found : List A) → Longer (Item found))
    (framed : (found : List A) → Frames Free (Item found)) (begins : (found : List A) (t : List ℕ) (x : A) (rest : List ℕ) → Item found t x rest → skip t ≡ t) (opens : (found : List A) → Opens Free (item found) (Item found))
    (comma_free : (r : List ℕ) → Free (44 ∷ r)) (end_free : (r : List ℕ) → Free (end ∷ r)) (no_blank : is_blank end ≡ false) where
  after_open : (n : ℕ) (found : List A) (t : List ℕ) (f : Bad C) (x : A) (u : List ℕ) → length t < suc n → item found t ≡ Ok (x, u) → Item found t x u
      → after_item code end (found ++ x ∷ []) (row code end item n (found ++ x ∷ [])) u ≡ Err f
      → ((w : List ℕ) → length w < n → row code end item n (found ++ x ∷ []) w ≡ Err f → Open Free (IsRow end Item (found ++ x ∷ [])) w f) → Open Free (IsRow end Item found) t f
  unfolding Longer
  after_open n found t f x u lt read here e next_open =
      let l = framed found t x u here in
      let b = blanks_of Free blank_free u in
      elim (chosen (sees end (skip u)) (Ok (found ++ x ∷ [], drop 1 (skip u))) (expect code (codes ",") (skip u) >>= λ comma. row code end item n (found ++ x ∷ []) (skip comma.1)) (Err f) e) [
        | inl h ↦ absurd (let k = h.1 in cc)
        | inr h ↦ elim (bind_err (expect code (codes ",") (skip u)) (λ comma. row code end item n (found ++ x ∷ []) (skip comma.1)) f h.1) [
          | inl k ↦ record {
            before = l.spelling ++ b.blanks;
            rest = skip u;
            parts = l.parts ∙ ap (λ (w : List ℕ). l.spelling ++ w) b.parts ∙ sym (append_assoc l.spelling b.blanks (skip u));
            left = byte_left code 44 (skip u) f k;
            more = end ∷ [];
            x = found ++ x ∷ [];
            spelled = λ r k.
                let same : (l.spelling ++ b.blanks) ++ (end ∷ r) ≡ l.spelling ++ (b.blanks ++ end ∷ r) = append_assoc l.spelling b.blanks (end ∷ r) in
                subst (λ (w : List ℕ). IsRow end Item found w (found ++ x ∷ []) r) (sym same) (last (l.again (b.blanks ++ end ∷ r) (b.free (end ∷ r) (end_free r))) (byte_at Free blank_free end no_blank b r));
          }
          | inr k ↦
              let w : List ℕ = k.0.1 in
              let comma : skip u ≡ 44 ∷ w = expect_found code (codes ",") (skip u) k.0.0 w k.1 in
              let d = blanks_of Free blank_free w in
              let less : length (skip w) < n = omega (arith, longer found t x u here, length-skip u, ap length comma, length-skip w) in
              let o = next_open (skip w) less k.2 in
              let front_part : List ℕ = l.spelling ++ (b.blanks ++ 44 ∷ d.blanks) in
              record {
                before = front_part ++ o.before;
                rest = o.rest;
                parts = l.parts ∙ ap (λ (v : List ℕ). l.spelling ++ v) (b.parts ∙ ap (λ (v : List ℕ). b.blanks ++ v) (comma ∙ ap (λ (v : List ℕ). 44 ∷ v) (d.parts ∙ ap (λ (v : List ℕ). d.blanks ++ v) o.parts))) ∙ simp append_assoc;
                left = o.left;
                more = o.more;
                x = o.x;
                spelled = λ r k.
                    let tail : List ℕ = o.before ++ (o.more ++ r) in
                    let row = o.spelled r k in
                    let same : (front_part ++ o.before) ++ (o.more ++ r) ≡ l.spelling ++ (b.blanks ++ 44 ∷ (d.blanks ++ tail)) = simp append_assoc in
                    let start : skip (d.blanks ++ tail) ≡ tail = d.skipped tail ∙ row_starts Free blank_free end Item framed begins comma_free end_free no_blank row in
                    subst (λ (v : List ℕ). IsRow end Item found v o.x r) (sym same)
                    (another (l.again (b.blanks ++ 44 ∷ (d.blanks ++ tail)) (b.free (44 ∷ (d.blanks ++ tail)) (comma_free (d.blanks ++ tail)))) (byte_at Free blank_free 44 refl b (d.blanks ++ tail))
                    (subst (λ (v : List ℕ). IsRow end Item (found ++ x ∷ []) v o.x r) (sym start) row));
              }
        ]
      ]

  pub row_open : (n : ℕ) (found : List A) (t : List ℕ) (f : Bad C) → length t < n → row code end item n found t ≡ Err f → Open Free (IsRow end Item found) t f
  unfolding row Sound Longer
  row_open zero found t f lt e = absurd (omega arith)
  row_open (suc n) found t f lt e =
      elim (bind_err (item found t) (λ x. after_item code end (found ++ x.0 ∷ []) (row code end item n (found ++ x.0 ∷ [])) x.1) f e) [
        | inl h ↦
            let o = opens found t f h in
            record {
              before = o.before;
              rest = o.rest;
              parts = o.parts;
              left = o.left;
              more = o.more ++ end ∷ [];
              x = found ++ o.x ∷ [];
              spelled = λ r k.
                  let same : o.before ++ ((o.more ++ end ∷ []) ++ r) ≡ o.before ++ (o.more ++ end ∷ r) = ap (λ (u : List ℕ). o.before ++ u) (append_assoc o.more (end ∷ []) r) in
                  subst (λ (u : List ℕ). IsRow end Item found u (found ++ o.x ∷ []) r) (sym same) (last (o.spelled (end ∷ r) (end_free r)) (skip_none end r no_blank));
            }
        | inr h ↦ after_open n found t f h.0.0 h.0.1 lt h.1 (found_sound found t h.0.0 h.0.1 h.1) h.2 (λ w lt2 e2. row_open n (found ++ h.0.0 ∷ []) w f lt2 e2)
      ]

  pub closed_open : Opens Free (closed_by code end item) (IsClosed end Item)
  unfolding closed_by
  closed_open t f e =
      let b = blanks_of Free blank_free t in
      elim (chosen (sees end (skip t)) (Ok ([], drop 1 (skip t))) (row code end item (suc (length (skip t))) [] (skip t)) (Err f) e) [
        | inl h ↦ absurd (let k = h.1 in cc)
        | inr h ↦
            let o = row_open (suc (length (skip t))) [] (skip t) f (omega arith) h.1 in
            record {
              before = b.blanks ++ o.before;
              rest = o.rest;
              parts = b.parts ∙ ap (λ (v : List ℕ). b.blanks ++ v) o.parts ∙ sym (append_assoc b.blanks o.before o.rest);
              left = o.left;
              more = o.more;
              x = o.x;
              spelled = λ r k.
                  let tail : List ℕ = o.before ++ (o.more ++ r) in
                  let row = o.spelled r k in
                  let same : (b.blanks ++ o.before) ++ (o.more ++ r) ≡ b.blanks ++ tail = append_assoc b.blanks o.before (o.more ++ r) in
                  let start : skip (b.blanks ++ tail) ≡ tail = b.skipped tail ∙ row_starts Free blank_free end Item framed begins comma_free end_free no_blank row in
                  subst (λ (v : List ℕ). IsClosed end Item v o.x r) (sym same) (items (subst (λ (v : List ℕ). IsRow end Item [] v o.x r) (sym start) row));
            }
      ]
