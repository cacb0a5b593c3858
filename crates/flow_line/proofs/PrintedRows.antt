-- What is printed of a list's items with commas between them is a row of the grammar.
use Rattle.std.proofs.Common.{◌≡◌, ℕ, Bool, false, cond, List, [], ◌∷◌, ◌++◌, map, Some, None, refl, sym, ap, subst, ◌∙◌, append_assoc}
use Rattle.reading.specs.Bytes.{skip, is_blank}
use Rattle.reading.specs.Spelling.{IsRow, last, more, IsClosed, empty, items}
use Rattle.ha_config.specs.Words.{Text}
use Rattle.ha_config.specs.ValueText.{comma_joined}
use Rattle.flow_line.proofs.PrintedText.{Stops}

-- what begins with no blank has none in front
pub no_blank : (b : ℕ) (rest : List ℕ) → is_blank b ≡ false → skip (b ∷ rest) ≡ b ∷ rest
unfolding skip
no_blank b rest h = ap (λ (c : Bool). cond c (skip rest) (b ∷ rest)) h

stops_comma : (rest : List ℕ) → Stops (44 ∷ rest)
stops_comma rest None = refl
stops_comma rest (Some places) = refl

module _ {A : Type 0} (end : ℕ) (Item : List A → List ℕ → A → List ℕ → Type 0) (shown : A → Text) (stops : (rest : List ℕ) → Stops (end ∷ rest)) (seen : is_blank end ≡ false)
    (begins : (found : List A) (t : List ℕ) (x : A) (rest : List ℕ) → Item found t x rest → skip t ≡ t) (all : List A)
    (each : (found : List A) (x : A) (after : List A) → found ++ x ∷ after ≡ all → (rest : List ℕ) → Stops rest → Item found (shown x ++ rest) x rest) where
  row_begins : {found whole : List A} {t rest : List ℕ} → IsRow end Item found t whole rest → skip t ≡ t
  row_begins {found} {whole} {t} {rest} (last {x = x} {after = a} i e) = begins found t x a i
  row_begins {found} {whole} {t} {rest} (more {x = x} {after = a} i e r) = begins found t x a i

  row_shown : (found : List A) (x : A) (after : List A) → found ++ x ∷ after ≡ all → (rest : List ℕ) → IsRow end Item found (comma_joined (map shown (x ∷ after)) ++ end ∷ rest) all rest
  row_shown found x [] e rest =
      subst (λ (whole : List A). IsRow end Item found (shown x ++ end ∷ rest) whole rest) e (last (each found x [] e (end ∷ rest) (stops rest)) (no_blank end rest seen))
  row_shown found x (y ∷ after) e rest =
      let behind : List ℕ = comma_joined (map shown (y ∷ after)) ++ end ∷ rest in
      let next = row_shown (found ++ x ∷ []) y after (append_assoc found (x ∷ []) (y ∷ after) ∙ e) rest in
      subst (λ (t : List ℕ). IsRow end Item found t all rest) (sym (append_assoc (shown x) (44 ∷ comma_joined (map shown (y ∷ after))) (end ∷ rest)))
      (more (each found x (y ∷ after) e (44 ∷ behind) (stops_comma behind)) (no_blank 44 behind refl)
      (subst (λ (t : List ℕ). IsRow end Item (found ++ x ∷ []) t all rest) (sym (row_begins next)) next))

  closed_of : (whole : List A) → whole ≡ all → (rest : List ℕ) → IsClosed end Item (comma_joined (map shown whole) ++ end ∷ rest) all rest
  closed_of [] e rest = subst (λ (w : List A). IsClosed end Item (end ∷ rest) w rest) e (empty (no_blank end rest seen))
  closed_of (x ∷ after) e rest =
      let row = row_shown [] x after e rest in
      items (subst (λ (t : List ℕ). IsRow end Item [] t all rest) (sym (row_begins row)) row)

  pub closed_shown : (rest : List ℕ) → IsClosed end Item (comma_joined (map shown all) ++ end ∷ rest) all rest
  closed_shown rest = closed_of all refl rest
