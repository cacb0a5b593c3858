-- A value may be followed by what does not go on with a number.
use Rattle.std.proofs.Common.{◌≡◌, ℕ, zero, suc, true, false, List, [], ◌∷◌, ◌++◌, refl, sym, ap, subst, ◌∙◌, append_assoc, inl, inr}
use Rattle.std.proofs.lemmas.Bool.{eqb-true, or_cases}
use Rattle.reading.proofs.Basics.{chosen_is}
use Rattle.std.specs.Prelude.{◌==◌}
use Rattle.ha_value.specs.declared.value.Num.{Num}
use Rattle.ha_value.specs.declared.value.Value.{Value}
use Rattle.reading.specs.Bytes.{skip, is_blank}
use Rattle.reading.specs.Spelling.{Never, IsClosed}
use Rattle.reading.proofs.Bytes.{skip_none}
use Rattle.reading.proofs.Frames.{Frames, blanks_of, byte_at, closed_framed}
use Rattle.ha_value.specs.Numbers.{begins_number}
use Rattle.flow_line.specs.Grammar.{IsNumber, IsPair, pair as pair_of, IsValueOver, null, yes, no, numeric as number_of, text as text_of, list, map}
use Rattle.flow_line.proofs.Numbers.{number_front}
use Rattle.flow_line.proofs.NumberLaws.{Free, blank_free, number_framed}
use Rattle.flow_line.proofs.StringLaws.{string_framed}
use Rattle.flow_line.proofs.Values.{IsMap, ValueBy}

-- what begins a number is no blank
number_no_blank : (b : ℕ) → begins_number b ≡ true → is_blank b ≡ false
number_no_blank b h = elim (chosen_is (is_blank b)) [
  | inl e ↦ absurd (elim (or_cases (b == 32) (b == 9) e) [
    | inl k ↦ differ (ap begins_number (eqb-true b 32 k))
    | inr k ↦ differ (ap begins_number (eqb-true b 9 k))
  ])
  | inr e ↦ e
] where
  differ : begins_number b ≡ false → ⊥
  differ k = let w : true ≡ false = sym h ∙ k in cc

number_begins : {Allowed : Num → Type 0} {t rest : List ℕ} {n : Num} → IsNumber Allowed t n rest → skip t ≡ t
number_begins {rest = rest} here = let l = number_front here in rw l.2 (skip_none l.0 (l.1 ++ rest) (number_no_blank l.0 l.3))

abbrev Begins : {A : Type 0} → (List ℕ → A → List ℕ → Type 0) → Type 0
Begins {A} Spelling = (t : List ℕ) (x : A) (rest : List ℕ) → Spelling t x rest → skip t ≡ t

pub pair_begins : (Val : List ℕ → Value → List ℕ → Type 0) (found : List (List ℕ × Value)) → Begins (IsPair Val found)
pair_begins Val found t x rest (pair_of {text = s} name new colon here) = skip_none 34 s refl

pub pair_framed : (Val : List ℕ → Value → List ℕ → Type 0) → Frames Free Val → Begins Val → (found : List (List ℕ × Value)) → Frames Free (IsPair Val found)
pair_framed Val framed begins found t x rest (pair_of {text = s} {key = k} {after = after} {behind = behind} {v = v} name new colon here) =
    let n = string_framed name in
    let b = blanks_of Free blank_free after in
    let d = blanks_of Free blank_free behind in
    let m = framed (skip behind) v rest here in
    let c : List ℕ = 34 ∷ (n.spelling ++ (b.blanks ++ 58 ∷ (d.blanks ++ m.spelling))) in
    let tail : s ≡ n.spelling ++ (b.blanks ++ 58 ∷ (d.blanks ++ (m.spelling ++ rest))) =
    n.parts ∙ ap (λ (u : List ℕ). n.spelling ++ u) (b.parts ∙ ap (λ (u : List ℕ). b.blanks ++ u) (colon ∙ ap (λ (u : List ℕ). 58 ∷ u) (d.parts ∙ ap (λ (u : List ℕ). d.blanks ++ u) m.parts))) in
    record {
      spelling = c;
      parts = ap (λ (u : List ℕ). 34 ∷ u) tail ∙ simp append_assoc;
      again = λ r h.
          let next : List ℕ = d.blanks ++ (m.spelling ++ r) in
          let same : c ++ r ≡ 34 ∷ (n.spelling ++ (b.blanks ++ 58 ∷ next)) = simp append_assoc in
          let value = m.again r h in
          let start : skip next ≡ m.spelling ++ r = d.skipped (m.spelling ++ r) ∙ begins (m.spelling ++ r) v r value in
          subst (λ (u : List ℕ). IsPair Val found u (k, v) r) (sym same) (pair_of (n.again (b.blanks ++ 58 ∷ next)) new (byte_at Free blank_free 58 refl b next) (subst (λ (u : List ℕ). Val u v r) (sym start) value));
    }

module _ (Allowed : Num → Type 0) where
  over_begins : (L : List ℕ → List Value → List ℕ → Type 0) (M : List ℕ → List (List ℕ × Value) → List ℕ → Type 0) → Begins (IsValueOver Allowed L M)
  unfolding skip
  over_begins L M t v rest null = refl
  over_begins L M t v rest yes = refl
  over_begins L M t v rest no = refl
  over_begins L M t v rest (number_of here) = number_begins here
  over_begins L M t v rest (text_of s) = refl
  over_begins L M t v rest (list here) = refl
  over_begins L M t v rest (map here) = refl

  over_framed : (L : List ℕ → List Value → List ℕ → Type 0) (M : List ℕ → List (List ℕ × Value) → List ℕ → Type 0) → Frames Free L → Frames Free M → Frames Free (IsValueOver Allowed L M)
  over_framed L M l m t v rest null = record { spelling = 110 ∷ 117 ∷ 108 ∷ 108 ∷ []; parts = refl; again = λ r h. null }
  over_framed L M l m t v rest yes = record { spelling = 116 ∷ 114 ∷ 117 ∷ 101 ∷ []; parts = refl; again = λ r h. yes }
  over_framed L M l m t v rest no = record { spelling = 102 ∷ 97 ∷ 108 ∷ 115 ∷ 101 ∷ []; parts = refl; again = λ r h. no }
  over_framed L M l m t v rest (number_of {n = k} here) = let n = number_framed t k rest here in record { spelling = n.spelling; parts = n.parts; again = λ r h. number_of (n.again r h) }
  over_framed L M l m t v rest (text_of s) = let n = string_framed s in record { spelling = 34 ∷ n.spelling; parts = ap (λ (u : List ℕ). 34 ∷ u) n.parts; again = λ r h. text_of (n.again r) }
  over_framed L M l m t v rest (list {t = u} {vs = vs} here) = let n = l u vs rest here in record { spelling = 91 ∷ n.spelling; parts = ap (λ (u : List ℕ). 91 ∷ u) n.parts; again = λ r h. list (n.again r h) }
  over_framed L M l m t v rest (map {t = u} {ps = ps} here) = let n = m u ps rest here in record { spelling = 123 ∷ n.spelling; parts = ap (λ (u : List ℕ). 123 ∷ u) n.parts; again = λ r h. map (n.again r h) }

module _ (seen : List (List ℕ × Value) → List (List ℕ × Value)) (Allowed : Num → Type 0) where
  pub value_begins : (depth : ℕ) → Begins (ValueBy seen Allowed depth)
  unfolding ValueBy
  value_begins zero = over_begins Allowed Never Never
  value_begins (suc depth) = over_begins Allowed (IsClosed 93 (λ found. ValueBy seen Allowed depth)) (IsMap seen (ValueBy seen Allowed depth))

  pub value_framed : (depth : ℕ) → Frames Free (ValueBy seen Allowed depth)
  unfolding ValueBy
  value_framed zero = over_framed Allowed Never Never (λ t x rest h. elim h [ ]) (λ t x rest h. elim h [ ])
  value_framed (suc depth) =
      let Val : List ℕ → Value → List ℕ → Type 0 = ValueBy seen Allowed depth in
      over_framed Allowed (IsClosed 93 (λ found. Val)) (IsMap seen Val) (closed_framed Free blank_free 93 (λ found. Val) (λ found. value_framed depth) (λ found. value_begins depth) (λ r. refl) (λ r. refl) refl)
      (closed_framed Free blank_free 125 (λ found. IsPair Val (seen found)) (λ found. pair_framed Val (value_framed depth) (value_begins depth) (seen found)) (λ found. pair_begins Val (seen found)) (λ r. refl) (λ r. refl) refl)
