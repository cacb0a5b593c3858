-- Ends of tags, and what stands in tags: an expression, or a name that is set.
use Rattle.std.proofs.Common.{◌≡◌, ℕ, Bool, true, false, cond, ◌⊎◌, inl, inr, List, [], ◌∷◌, ◌++◌, Ok, refl, sym, ap, ◌∙◌, subst, append_assoc}
use Rattle.std.specs.Prelude.{max}
use Rattle.ha_value.specs.declared.value.Value.{Value}
use Rattle.ha_config.specs.declared.template.Expr.{Expr}
use Rattle.ha_config.specs.declared.template.Piece.{Piece}
use Rattle.reading.specs.Answer.{◌>>=◌, made}
use Rattle.reading.proofs.Basics.{chosen_is}
use Rattle.tpl_parse.specs.declared.token.Token.{Token}
use Rattle.tpl_parse.specs.declared.expression.Part.{Part}
use Rattle.tpl_parse.specs.Token.{spaces, next_is, past, behind, reach, text_of, want}
use Rattle.tpl_parse.specs.Literal.{name}
use Rattle.tpl_parse.specs.Reading.{expression, opened, tag_depth, open_reach}
use Rattle.tpl_parse.specs.Pieces.{Found, end_of, last_expression, plain_end, plain_last, set_name, tag_expression, with_piece}
use Rattle.tpl_parse.specs.Grammar.{Takes, an_expression, IsEnd, ends, ends_trimming, IsLast, last, IsName, IsTagExpression}
use Rattle.tpl_parse.proofs.Tokens.{spaces_twice}
use Rattle.tpl_parse.proofs.Next.{Alike}
use Rattle.tpl_laws.proofs.Likes.{Like}
use Rattle.tpl_laws.proofs.Outcomes.{Still, tail_of, Grown, like_put, open_then}
use Rattle.tpl_laws.proofs.Shuts.{Closed, Shut, shut_bind, shut_made, shut_put}
use Rattle.tpl_laws.proofs.Tokens.{token_begun, takes_at, took_token, Spaced, bare, spaced, Nearest, nearest, greater, reach_nearest, blank_gone, solid_at, word_open}
use Rattle.tpl_laws.proofs.Lexical.{Named, name_out, one_name}
use Rattle.tpl_laws.proofs.Depths.{AtEnd, end_nearest, Parted, empty_expression, takes_next}
use Rattle.tpl_laws.proofs.Chains.{behind_parts}
use Rattle.tpl_laws.proofs.Expressions.{expression_out}

module _ (end' trimming : Token) where
  abbrev pub Ends : List ℕ → Bool → List ℕ → Type 0
  Ends t trims rest = IsEnd end' trimming trims t rest

  abbrev pub Lasts : List ℕ → Expr × Bool → List ℕ → Type 0
  Lasts t x rest = IsLast end' trimming x.0 x.1 t rest

  abbrev OneOf : Token → Type 0
  OneOf token = (token ≡ end') ⊎ (token ≡ trimming)

  end_here : (token : Token) → OneOf token → (o q : List ℕ) → spaces o ≡ text_of token ++ 32 ∷ q → (trims : Bool) × IsEnd end' trimming trims o (32 ∷ q)
  end_here token (inl e) o q at = (false, ends (takes_at end' o q (at ∙ ap (λ (z : Token). text_of z ++ 32 ∷ q) e)))
  end_here token (inr e) o q at = (true, ends_trimming (takes_at trimming o q (at ∙ ap (λ (z : Token). text_of z ++ 32 ∷ q) e)))

  pub end_out : (t u : List ℕ) → Alike u t → Shut Ends u (end_of end' trimming t)
  end_out t u alike = elim (chosen_is (next_is trimming t)) [
    | inl h ↦ (let k = took_token trimming t u alike h in rw h (record { before = k.before; parts = k.parts; again = λ o l. ends_trimming (k.again o l) }))
    | inr h ↦ rw h (plain_out (spaces t) (alike ∙ sym (spaces_twice t)))
  ] where
    plain_out : (s : List ℕ) → Alike u s → Shut Ends u (plain_end end' trimming s)
    plain_out s alike' = elim (chosen_is (next_is end' s)) [
      | inl h ↦ (let k = took_token end' s u alike' h in rw h (record { before = k.before; parts = k.parts; again = λ o l. ends (k.again o l) }))
      | inr h ↦ rw h (word_open Ends u [] u refl text_of OneOf (spaces s) (reach (end' ∷ trimming ∷ []) (spaces s)) alike' token_begun (λ token k. ([], bare, λ o q l at. end_here token k o q at))
          (reach_nearest OneOf (spaces s) end' (trimming ∷ []) (inl refl, (inr refl, tt))))
    ]

  -- ---- an expression and the end of its tag

  module _ (u : List ℕ) (x : Part) (left : List ℕ) (g : Grown AtEnd (Parted an_expression tag_depth) u x left) where
    ends_so : (token : Token) (trims : Bool) (s : List ℕ) → Alike left s → next_is token s ≡ true → ((o r : List ℕ) → Takes token o r → IsEnd end' trimming trims o r) → Closed Lasts u (x.expr, trims) (past token s)
    ends_so token trims s alike h put =
        let k = took_token token s g.rest (g.alike ∙ alike) h in
        record {
          before = g.before ++ k.before;
          parts = behind_parts g.before k.before (past token s) g.parts k.parts;
          again = λ o l. subst (λ (w : List ℕ). IsLast end' trimming x.expr trims w o) (sym (append_assoc g.before k.before o)) (last (g.again (k.before ++ o) (like_put k.before k.parts l)) (put (k.before ++ o) o (k.again o l)));
        }

    abbrev Near : Token → Type 0
    Near token = AtEnd x token ⊎ OneOf token

    near_open : (token : Token) → Near token → (e : List ℕ) × Spaced e × ((o q : List ℕ) → Like g.rest o → spaces o ≡ text_of token ++ (e ++ 32 ∷ q) → (y : Expr × Bool) × Lasts (g.before ++ o) y (32 ∷ q))
    near_open token (inr k) = ([], bare, λ o q l at. (let e = end_here token k o q at in ((x.expr, e.0), last (g.again o l) e.1)))
    near_open token (inl k) = (
      32 ∷ (tail_of token ++ 32 ∷ text_of end'),
      spaced (tail_of token ++ 32 ∷ text_of end'),
      λ o q l at.
          let s = g.goes token k o (text_of end' ++ 32 ∷ q) l (at ∙ ap (λ (v : List ℕ). text_of token ++ 32 ∷ v) (append_assoc (tail_of token) (32 ∷ text_of end') (32 ∷ q))) in
          ((s.0.expr, false), last s.1 (ends (takes_next end' q))),
    )

    as_near : {n : ℕ} (s : List ℕ) → Nearest text_of (AtEnd x) s n → Nearest text_of Near s n
    as_near s (nearest i p e) = nearest i (inl p) e

    end_by : Shut Lasts u (cond (next_is trimming left) (Ok ((x.expr, true), behind trimming left)) (plain_last end' trimming x (spaces left)))
    end_by = elim (chosen_is (next_is trimming left)) [
      | inl h ↦ rw h (ends_so trimming true left refl h (λ o r i. ends_trimming i))
      | inr h ↦ rw h (elim (chosen_is (next_is end' (spaces left))) [
        | inl k ↦ rw k (ends_so end' false (spaces left) (sym (spaces_twice left)) k (λ o r i. ends i))
        | inr k ↦
            let s : List ℕ = spaces (spaces left) in
            rw k (word_open Lasts u g.before g.rest g.parts text_of Near s (max (open_reach x.last x.choice s) (reach (end' ∷ trimming ∷ []) s)) (g.alike ∙ sym (spaces_twice left)) token_begun near_open
            (greater text_of Near s (open_reach x.last x.choice s) (reach (end' ∷ trimming ∷ []) s) (as_near s (end_nearest x s)) (reach_nearest Near s end' (trimming ∷ []) (inr (inl refl), (inr (inr refl), tt)))))
      ])
    ]

  pub last_out : (t u : List ℕ) → Alike u t → Shut Lasts u (last_expression end' trimming t)
  unfolding last_expression
  last_out t u alike =
      shut_bind AtEnd (Parted an_expression tag_depth) Lasts u (λ part. cond (next_is trimming part.1) (Ok ((part.0.expr, true), behind trimming part.1)) (plain_last end' trimming part.0 (spaces part.1))) (expression (opened tag_depth) t)
      (λ x left is g. end_by u x left g)
      (λ f h. open_then AtEnd (Parted an_expression tag_depth) Still Lasts u (text_of end') (λ o q x is. ((x.expr, false), last is (ends (takes_next end' q)))) f h)
      (expression_out tag_depth t u alike)

  pub last_whole : (q : List ℕ) → (x : Expr × Bool) × Lasts (32 ∷ 39 ∷ 39 ∷ 32 ∷ (text_of end' ++ 32 ∷ q)) x (32 ∷ q)
  last_whole q = ((Expr.Plain (Value.Text []), false), last (empty_expression tag_depth (text_of end' ++ 32 ∷ q)) (ends (takes_next end' q)))

-- ---- a name that is set

module _ (found : Found) where
  abbrev Values : List ℕ → List ℕ → Found → List ℕ → Type 0
  Values w t next rest = (e : Expr) × (trims : Bool) × IsTagExpression e trims t rest × (next ≡ with_piece found (Piece.Assign w e) trims)

  abbrev Signs : List ℕ → List ℕ → Found → List ℕ → Type 0
  Signs w t next rest = (c : List ℕ) × Takes Token.Assign t c × Values w c next rest

  abbrev pub Sets : List ℕ → Found → List ℕ → Type 0
  Sets t next rest = (w : List ℕ) × (b : List ℕ) × IsName (spaces t) w b × Signs w b next rest

  abbrev valued : List ℕ → Expr × Bool → Found
  valued w v = with_piece found (Piece.Assign w v.0) v.1

  value_out : (w t : List ℕ) → Shut (Values w) t (made (valued w) (tag_expression t))
  value_out w t = shut_made (Lasts Token.TagEnd Token.TrimTagEnd) (Values w) t [] t refl (valued w) (λ o r v l is. (v.0, v.1, is, refl)) (tag_expression t) (last_out Token.TagEnd Token.TrimTagEnd t t refl)

  -- what follows the name
  signs_whole : (w q : List ℕ) → (next : Found) × Signs w (32 ∷ 61 ∷ 32 ∷ 39 ∷ 39 ∷ 32 ∷ (text_of Token.TagEnd ++ 32 ∷ q)) next (32 ∷ q)
  signs_whole w q =
      let z : List ℕ = 32 ∷ 39 ∷ 39 ∷ 32 ∷ (text_of Token.TagEnd ++ 32 ∷ q) in
      let l = last_whole Token.TagEnd Token.TrimTagEnd q in
      (valued w l.0, (z, takes_next Token.Assign (39 ∷ 39 ∷ 32 ∷ (text_of Token.TagEnd ++ 32 ∷ q)), (l.0.0, l.0.1, l.1, refl)))

  sign_out : (w t u : List ℕ) → Alike u t → Shut (Signs w) u (want Token.Assign t >>= λ sign. made (valued w) (tag_expression sign.1))
  unfolding want
  sign_out w t u alike = elim (chosen_is (next_is Token.Assign t)) [
    | inl h ↦
        let k = took_token Token.Assign t u alike h in
        let v : List ℕ = past Token.Assign t in
        rw h (shut_put (Values w) (Signs w) u k.before v k.parts (λ o r next l is. (o, k.again o l, is)) (made (valued w) (tag_expression v)) (value_out w v))
    | inr h ↦ rw h (word_open (Signs w) u [] u refl text_of (λ token. token ≡ Token.Assign) (spaces t) (reach (Token.Assign ∷ []) (spaces t)) alike token_begun
        (λ token e. (
          32 ∷ 39 ∷ 39 ∷ 32 ∷ text_of Token.TagEnd,
          spaced (39 ∷ 39 ∷ 32 ∷ text_of Token.TagEnd),
          λ o q l at.
              let z : List ℕ = 39 ∷ 39 ∷ 32 ∷ (text_of Token.TagEnd ++ 32 ∷ q) in
              let v = last_whole Token.TagEnd Token.TrimTagEnd q in
              (valued w v.0, (32 ∷ z, takes_at Token.Assign o z (at ∙ ap (λ (y : Token). text_of y ++ 32 ∷ z) e), (v.0.0, v.0.1, v.1, refl))),
        ))
        (reach_nearest (λ token. token ≡ Token.Assign) (spaces t) Token.Assign [] (refl, tt)))
  ]

  pub set_out : (t u : List ℕ) → Alike u t → Shut Sets u (set_name found t)
  unfolding set_name
  set_out t u alike =
      shut_bind Still Named Sets u (λ n. want Token.Assign n.1 >>= λ sign. made (valued n.0) (tag_expression sign.1)) (name t)
      (λ w left is g. shut_put (Signs w) Sets u g.before g.rest g.parts (λ o r next l is. (w, o, g.again o l, is)) (want Token.Assign left >>= λ sign. made (valued w) (tag_expression sign.1)) (sign_out w left g.rest g.alike))
      (λ f h. open_then Still Named Still Sets u (61 ∷ 32 ∷ 39 ∷ 39 ∷ 32 ∷ text_of Token.TagEnd) (λ o q w is. (let s = signs_whole w q in (s.0, (w, 32 ∷ 61 ∷ 32 ∷ 39 ∷ 39 ∷ 32 ∷ (text_of Token.TagEnd ++ 32 ∷ q), is, s.1)))) f h)
      (name_out t u alike)

  pub sets_whole : (q : List ℕ) → (next : Found) × Sets (32 ∷ 97 ∷ 32 ∷ 61 ∷ 32 ∷ 39 ∷ 39 ∷ 32 ∷ (text_of Token.TagEnd ++ 32 ∷ q)) next (32 ∷ q)
  sets_whole q =
      let z : List ℕ = 61 ∷ 32 ∷ 39 ∷ 39 ∷ 32 ∷ (text_of Token.TagEnd ++ 32 ∷ q) in
      let s = signs_whole (97 ∷ []) q in
      (s.0, (97 ∷ [], 32 ∷ z, subst (λ (v : List ℕ). IsName v (97 ∷ []) (32 ∷ z)) (sym (blank_gone (97 ∷ 32 ∷ z) ∙ solid_at (97 ∷ []) (32 ∷ z) refl)) (one_name z), s.1))
