-- What is read as a text, a comment, a tag or its end is in the grammar.
use Rattle.std.proofs.Common.{◌≡◌, ℕ, suc, zero, Bool, true, false, cond, inl, inr, List, [], ◌∷◌, ◌++◌, length, drop, Option, Some, None, Ok, refl, sym, ap, ◌∙◌, subst}
use Rattle.std.specs.Prelude.{◌==◌, ◌&&◌, encode_utf8}
use Rattle.std.proofs.lemmas.Bool.{and_parts, eqb-true}
use Rattle.ha_config.specs.declared.template.Expr.{Expr}
use Rattle.reading.specs.Answer.{◌>>=◌}
use Rattle.reading.specs.Bytes.{sees}
use Rattle.reading.proofs.Basics.{bind_ok, ok_parts, chosen as chosen_of}
use Rattle.reading.proofs.Bytes.{sees_front}
use Rattle.tpl_parse.specs.declared.token.Token.{Token}
use Rattle.tpl_parse.specs.declared.pieces.Tag.{Tag}
use Rattle.tpl_parse.specs.Token.{spaces, next_is, behind}
use Rattle.tpl_parse.specs.Literal.{character}
use Rattle.tpl_parse.specs.Reading.{expression, opened, tag_depth}
use Rattle.tpl_parse.specs.Pieces.{tag_of, tag_at, ended, after_text, text_turns, text, comment_ends, comment_turns, comment, plain_end, end_of, plain_last, last_expression, sign_of, behind_sign, one_of}
use Rattle.tpl_parse.specs.Grammar.{Takes, Is, an_expression, IsText, no_character, one_character, Opens, plain, trimming, IsComment, comment_end, trimming_end, comment_more, IsEnd, ends, ends_trimming, IsLast, last}
use Rattle.tpl_parse.proofs.Tokens.{spaces_twice}
use Rattle.tpl_parse.proofs.Next.{Fault, took}
use Rattle.tpl_parse.proofs.Characters.{character_found}
use Rattle.tpl_parse.proofs.FoundExpressions.{expression_found}

-- ---- texts

pub record TextFound (t : List ℕ) (o : Option Tag) (a : List ℕ) : Type 0 where
  pub s : List ℕ
  pub is : IsText t s a
  pub tag : tag_at a ≡ o
  pub end : o ≡ None → a ≡ []

is_ended : (t : List ℕ) → ended t ≡ true → t ≡ []
is_ended [] h = refl
is_ended (b ∷ t) h = absurd cc

tag_is : (a : List ℕ) (kind : Tag) (o : Option Tag) (left : List ℕ) → tag_at a ≡ Some kind → Some kind ≡ o → a ≡ left → TextFound a o left
tag_is a kind o left at is same = record {
  s = [];
  is = subst (λ (r : List ℕ). IsText a [] r) same no_character;
  tag = ap tag_at (sym same) ∙ at ∙ is;
  end = λ none. absurd (let w : Some kind ≡ None = is ∙ none in cc);
}

text_by : (n : ℕ) (t : List ℕ) (k o : Option Tag) (left : List ℕ) → tag_at t ≡ k → ((u : List ℕ) → text_turns n u ≡ Ok (o, left) → TextFound u o left) → after_text k (text_turns n) t ≡ Ok (o, left) → TextFound t o left
text_by n t (Some kind) o left at again e = let p = ok_parts {F = Fault} (Some kind, t) (o, left) e in tag_is t kind o left at p.0 p.1
text_by n t None o left at again e = elim (chosen_of (ended t) (Ok (None, t)) (character t >>= λ c. text_turns n c.1) (Ok (o, left)) e) [
  | inl k ↦
      let p = ok_parts {F = Fault} (None, t) (o, left) k.1 in
      record { s = []; is = subst (λ (r : List ℕ). IsText t [] r) p.1 no_character; tag = ap tag_at (sym p.1) ∙ at ∙ p.0; end = λ _. sym p.1 ∙ is_ended t k.0 }
  | inr k ↦
      let b = bind_ok (character t) (λ c. text_turns n c.1) (o, left) k.1 in
      let r = again b.0.1 b.2 in
      record { s = encode_utf8 b.0.0 ++ r.s; is = one_character at (character_found t b.0.0 b.0.1 b.1) r.is; tag = r.tag; end = r.end }
]

turns_found : (n : ℕ) (t : List ℕ) (o : Option Tag) (left : List ℕ) → text_turns n t ≡ Ok (o, left) → TextFound t o left
unfolding text_turns
turns_found zero t o left e = absurd cc
turns_found (suc n) t o left e = text_by n t (tag_at t) o left refl (λ u. turns_found n u o left) e

pub text_found : (t : List ℕ) (o : Option Tag) (left : List ℕ) → text t ≡ Ok (o, left) → TextFound t o left
unfolding text
text_found t o left e = turns_found (suc (length t)) t o left e

-- ---- the opening bytes of a tag

opens_with : (kind : Tag) (c : ℕ) (a : List ℕ) → tag_of (Some c) ≡ Some kind → Opens kind (sign_of (123 ∷ c ∷ a)) (123 ∷ c ∷ a) (behind_sign (123 ∷ c ∷ a))
opens_with kind c [] e = plain e refl
opens_with kind c (x ∷ a) e = by_sign (x == 45) refl
  where
    by_sign : (s : Bool) → (x == 45) ≡ s → Opens kind (x == 45) (123 ∷ c ∷ x ∷ a) (cond (x == 45) a (x ∷ a))
    by_sign true h =
        let same : x ≡ 45 = eqb-true x 45 h in
        subst (λ (s : Bool). Opens kind s (123 ∷ c ∷ x ∷ a) (cond s a (x ∷ a))) (sym h) (subst (λ (y : ℕ). Opens kind true (123 ∷ c ∷ y ∷ a) a) (sym same) (trimming e))
    by_sign false h = subst (λ (s : Bool). Opens kind s (123 ∷ c ∷ x ∷ a) (cond s a (x ∷ a))) (sym h) (plain e h)

none_at : (x : Bool) (kind : Tag) → cond x None None ≡ Some kind → ⊥
none_at true kind e = cc
none_at false kind e = cc

pub opens_found : (kind : Tag) (a : List ℕ) → tag_at a ≡ Some kind → Opens kind (sign_of a) a (behind_sign a)
opens_found kind [] e = absurd cc
opens_found kind (b ∷ []) e = absurd (none_at (b == 123) kind e)
opens_found kind (b ∷ c ∷ a) e = elim (chosen_of (b == 123) (tag_of (Some c)) None (Some kind) e) [
  | inl h ↦ subst (λ (x : ℕ). Opens kind (sign_of (x ∷ c ∷ a)) (x ∷ c ∷ a) (behind_sign (x ∷ c ∷ a))) (sym (eqb-true b 123 h.0)) (opens_with kind c a h.1)
  | inr h ↦ absurd (let w = h.1 in cc)
]

-- ---- comments

ends_front : (t : List ℕ) → comment_ends t ≡ true → t ≡ 35 ∷ 125 ∷ drop 2 t
ends_front [] h = absurd cc
ends_front (b ∷ []) h = absurd (let p = and_parts (b == 35) false h in let q = p.1 in cc)
ends_front (b ∷ c ∷ t) h = let p = and_parts (b == 35) (c == 125) h in (λ i. eqb-true b 35 p.0 i ∷ eqb-true c 125 p.1 i ∷ t)

comment_turns_found : (n : ℕ) (t : List ℕ) (trims : Bool) (left : List ℕ) → comment_turns n t ≡ Ok (trims, left) → IsComment trims t left
unfolding comment_turns
comment_turns_found zero t trims left e = absurd cc
comment_turns_found (suc n) t trims left e = elim (chosen_of (comment_ends t) (Ok (false, drop 2 t)) _ (Ok (trims, left)) e) [
  | inl k ↦
      let p = ok_parts {F = Fault} (false, drop 2 t) (trims, left) k.1 in
      let at = ends_front t k.0 in
      subst (λ (s : Bool). IsComment s t left) p.0 (subst (λ (u : List ℕ). IsComment false u left) (sym (at ∙ ap (λ (r : List ℕ). 35 ∷ 125 ∷ r) p.1)) comment_end)
  | inr k ↦ elim (chosen_of (sees 45 t && comment_ends (drop 1 t)) (Ok (true, drop 3 t)) (character t >>= λ c. comment_turns n c.1) (Ok (trims, left)) k.1) [
    | inl l ↦
        let q = and_parts (sees 45 t) (comment_ends (drop 1 t)) l.0 in
        let p = ok_parts {F = Fault} (true, drop 3 t) (trims, left) l.1 in
        let at : t ≡ 45 ∷ 35 ∷ 125 ∷ drop 2 (drop 1 t) = sees_front 45 t q.0 ∙ ap (λ (r : List ℕ). 45 ∷ r) (ends_front (drop 1 t) q.1) in
        let same : drop 2 (drop 1 t) ≡ left = ap (λ (r : List ℕ). drop 2 (drop 1 r)) at ∙ sym (ap (λ (r : List ℕ). drop 3 r) at) ∙ p.1 in
        subst (λ (s : Bool). IsComment s t left) p.0 (subst (λ (u : List ℕ). IsComment true u left) (sym (at ∙ ap (λ (r : List ℕ). 45 ∷ 35 ∷ 125 ∷ r) same)) trimming_end)
    | inr l ↦
        let b = bind_ok (character t) (λ c. comment_turns n c.1) (trims, left) l.1 in
        comment_more k.0 l.0 (character_found t b.0.0 b.0.1 b.1) (comment_turns_found n b.0.1 trims left b.2)
  ]
]

pub comment_found : (t : List ℕ) (trims : Bool) (left : List ℕ) → comment t ≡ Ok (trims, left) → IsComment trims t left
unfolding comment
comment_found t trims left e = comment_turns_found (suc (length t)) t trims left e

-- ---- ends of tags

module _ (end' trimming' : Token) where
  pub end_found : (t : List ℕ) (trims : Bool) (left : List ℕ) → end_of end' trimming' t ≡ Ok (trims, left) → IsEnd end' trimming' trims t left
  end_found t trims left e = elim (chosen_of (next_is trimming' t) (Ok (true, behind trimming' t)) (plain_end end' trimming' (spaces t)) (Ok (trims, left)) e) [
    | inl k ↦
        let p = ok_parts {F = Fault} (true, behind trimming' t) (trims, left) k.1 in
        subst (λ (s : Bool). IsEnd end' trimming' s t left) p.0 (ends_trimming (subst (λ (r : List ℕ). Takes trimming' t r) p.1 (took trimming' t t refl k.0)))
    | inr k ↦ elim (chosen_of (next_is end' (spaces t)) (Ok (false, behind end' (spaces t))) _ (Ok (trims, left)) k.1) [
      | inl l ↦
          let p = ok_parts {F = Fault} (false, behind end' (spaces t)) (trims, left) l.1 in
          subst (λ (s : Bool). IsEnd end' trimming' s t left) p.0 (ends (subst (λ (r : List ℕ). Takes end' t r) p.1 (took end' t (spaces t) (sym (spaces_twice t)) l.0)))
      | inr l ↦ absurd (let w = l.1 in cc)
    ]
  ]

  last_is : (t a : List ℕ) (x e : Expr) (s trims : Bool) (left : List ℕ) → Is an_expression tag_depth t x a → IsEnd end' trimming' s a left → ◌≡◌ {A = Expr × Bool} (x, s) (e, trims) → IsLast end' trimming' e trims t left
  last_is t a x e s trims left h k same = subst (λ (y : Expr × Bool). IsLast end' trimming' y.0 y.1 t left) same (last h k)

  pub last_found : (t : List ℕ) (e : Expr) (trims : Bool) (left : List ℕ) → last_expression end' trimming' t ≡ Ok ((e, trims), left) → IsLast end' trimming' e trims t left
  unfolding last_expression
  last_found t e trims left h =
      let b = bind_ok (expression (opened tag_depth) t) (λ part. cond (next_is trimming' part.1) (Ok ((part.0.expr, true), behind trimming' part.1)) (plain_last end' trimming' part.0 (spaces part.1))) ((e, trims), left) h in
      let s = expression_found tag_depth t t refl b.0.0 b.0.1 b.1 in
      elim (chosen_of (next_is trimming' b.0.1) (Ok ((b.0.0.expr, true), behind trimming' b.0.1)) (plain_last end' trimming' b.0.0 (spaces b.0.1)) (Ok ((e, trims), left)) b.2) [
        | inl k ↦
            let p = ok_parts {F = Fault} ((b.0.0.expr, true), behind trimming' b.0.1) ((e, trims), left) k.1 in
            last_is t s.rest b.0.0.expr e true trims left s.is (ends_trimming (subst (λ (r : List ℕ). Takes trimming' s.rest r) p.1 (took trimming' s.rest b.0.1 s.alike k.0))) p.0
        | inr k ↦ elim (chosen_of (next_is end' (spaces b.0.1)) (Ok ((b.0.0.expr, false), behind end' (spaces b.0.1))) _ (Ok ((e, trims), left)) k.1) [
          | inl l ↦
              let p = ok_parts {F = Fault} ((b.0.0.expr, false), behind end' (spaces b.0.1)) ((e, trims), left) l.1 in
              last_is t s.rest b.0.0.expr e false trims left s.is (ends (subst (λ (r : List ℕ). Takes end' s.rest r) p.1 (took end' s.rest (spaces b.0.1) (s.alike ∙ sym (spaces_twice b.0.1)) l.0))) p.0
          | inr l ↦ absurd (let w = l.1 in cc)
        ]
      ]

-- ---- the first of some tokens

abbrev pub AllTokens : (Token → Type 0) → List Token → Type 0
AllTokens P [] = Unit {0}
AllTokens P (token ∷ tokens) = P token × AllTokens P tokens

pub one_found : (P : Token → Type 0) (all tokens : List Token) (t : List ℕ) (token : Token) (left : List ℕ) → AllTokens P tokens → one_of all tokens t ≡ Ok (token, left) → P token × Takes token t left
unfolding one_of
one_found P all [] t token left each e = absurd cc
one_found P all (first ∷ tokens) t token left each e = elim (chosen_of (next_is first t) (Ok (first, behind first t)) (one_of all tokens t) (Ok (token, left)) e) [
  | inl k ↦
      let p = ok_parts {F = Fault} (first, behind first t) (token, left) k.1 in
      (subst P p.0 each.0, subst (λ (x : Token). Takes x t left) p.0 (subst (λ (r : List ℕ). Takes first t r) p.1 (took first t t refl k.0)))
  | inr k ↦ one_found P all tokens t token left each.1 k.1
]
