-- Lists in brackets and their grammar.
use Rattle.std.proofs.Common.{◌≡◌, ℕ, zero, suc, ◌<◌, true, false, List, [], ◌∷◌, ◌++◌, length, drop, Ok, refl, ap, subst, ◌∙◌, arith, inl, inr}
use Rattle.std.specs.Prelude.{codes, ◌==◌}
use Rattle.reading.specs.declared.fault.Bad.{Bad}
use Rattle.reading.specs.Answer.{◌>>=◌, Rule}
use Rattle.reading.specs.Bytes.{sees, skip, expect}
use Rattle.reading.specs.Rows.{after_item, row, closed_by}
use Rattle.reading.specs.Spelling.{IsRow, last, more, IsClosed, empty, items}
use Rattle.reading.proofs.Basics.{bind_ok, ok_parts, chosen, Sound, Complete, Longer}
use Rattle.reading.proofs.Bytes.{length-skip, expect_found, sees_front}

module _ {C A : Type 0} (code : C) (end : ℕ) (item : List A → Rule ℕ (Bad C) A) (Item : List A → List ℕ → A → List ℕ → Type 0) (sound : (found : List A) → Sound (item found) (Item found)) where
  pub row_found : (n : ℕ) (found : List A) (t : List ℕ) (all : List A) (rest : List ℕ) → row code end item n found t ≡ Ok (all, rest) → IsRow end Item found t all rest
  unfolding row Sound
  row_found zero found t all rest e = absurd cc
  row_found (suc n) found t all rest e =
      let b = bind_ok (item found t) (λ x. after_item code end (found ++ x.0 ∷ []) (row code end item n (found ++ x.0 ∷ [])) x.1) (all, rest) e in
      let x : A = b.0.0 in
      let after : List ℕ = b.0.1 in
      let here : Item found t x after = sound found t x after b.1 in
      elim (chosen (sees end (skip after)) (Ok (found ++ x ∷ [], drop 1 (skip after))) (expect code (codes ",") (skip after) >>= λ comma. row code end item n (found ++ x ∷ []) (skip comma.1)) (Ok (all, rest)) b.2) [
        | inl h ↦
            let p = ok_parts {F = Bad C} (found ++ x ∷ [], drop 1 (skip after)) (all, rest) h.1 in
            subst (λ (xs : List A). IsRow end Item found t xs rest) p.0 (last here (sees_front end (skip after) h.0 ∙ ap (λ (r : List ℕ). end ∷ r) p.1))
        | inr h ↦
            let k = bind_ok (expect code (codes ",") (skip after)) (λ comma. row code end item n (found ++ x ∷ []) (skip comma.1)) (all, rest) h.1 in
            more here (expect_found code (codes ",") (skip after) k.0.0 k.0.1 k.1) (row_found n (found ++ x ∷ []) (skip k.0.1) all rest k.2)
      ]

  pub closed_found : Sound (closed_by code end item) (IsClosed end Item)
  unfolding closed_by Sound
  closed_found t all rest e =
      elim (chosen (sees end (skip t)) (Ok ([], drop 1 (skip t))) (row code end item (suc (length (skip t))) [] (skip t)) (Ok (all, rest)) e) [
        | inl h ↦
            let p = ok_parts {F = Bad C} ([], drop 1 (skip t)) (all, rest) h.1 in
            subst (λ (xs : List A). IsClosed end Item t xs rest) p.0 (empty (sees_front end (skip t) h.0 ∙ ap (λ (r : List ℕ). end ∷ r) p.1))
        | inr h ↦ items (row_found (suc (length (skip t))) [] (skip t) all rest h.1)
      ]

module _ {A : Type 0} (end : ℕ) (Item : List A → List ℕ → A → List ℕ → Type 0) (longer : (found : List A) → Longer (Item found)) where
  pub row_longer : {found all : List A} {t rest : List ℕ} → IsRow end Item found t all rest → length rest < length t
  unfolding Longer
  row_longer (last {found = found} {x = x} {text = t} {after = after} here ended) = omega (arith, longer found t x after here, length-skip after, ap length ended)
  row_longer (more {found = found} {x = x} {text = t} {after = after} {behind = behind} here comma next) =
      omega (arith, longer found t x after here, length-skip after, ap length comma, row_longer next, length-skip behind)

  pub closed_longer : Longer (IsClosed end Item)
  unfolding Longer
  closed_longer t all rest (empty ended) = omega (arith, length-skip t, ap length ended)
  closed_longer t all rest (items next) = omega (arith, length-skip t, row_longer next)

module _ {C A : Type 0} (code : C) (end : ℕ) (item : List A → Rule ℕ (Bad C) A) (Item : List A → List ℕ → A → List ℕ → Type 0) (reads : (found : List A) → Complete (item found) (Item found)) (longer : (found : List A) → Longer (Item found))
    (no_comma : (44 == end) ≡ false) (same : (end == end) ≡ true) (starts : (found : List A) (t : List ℕ) (x : A) (rest : List ℕ) → Item found t x rest → sees end t ≡ false) where
  pub row_read : (n : ℕ) {found all : List A} {t rest : List ℕ} → IsRow end Item found t all rest → length t < n → row code end item n found t ≡ Ok (all, rest)
  unfolding row Complete Longer expect
  row_read zero h lt = absurd (omega arith)
  row_read (suc n) (last {found = found} {x = x} {text = t} {after = after} {rest = rest} here ended) lt = rw (reads found t x after here, ended, same) refl
  row_read (suc n) (more {found = found} {x = x} {text = t} {after = after} {behind = behind} here comma others) lt =
      let less : length (skip behind) < n = omega (arith, longer found t x after here, length-skip after, ap length comma, length-skip behind) in
      rw (reads found t x after here, comma, no_comma) (row_read n others less)

  row_no_end : {found all : List A} {t rest : List ℕ} → IsRow end Item found t all rest → sees end t ≡ false
  row_no_end (last {found = found} {x = x} {text = t} {after = after} here ended) = starts found t x after here
  row_no_end (more {found = found} {x = x} {text = t} {after = after} here comma others) = starts found t x after here

  pub closed_read : Complete (closed_by code end item) (IsClosed end Item)
  unfolding closed_by Complete
  closed_read t all rest (empty ended) = rw (ended, same) refl
  closed_read t all rest (items others) = rw (row_no_end others) (row_read (suc (length (skip t))) others (omega arith))
