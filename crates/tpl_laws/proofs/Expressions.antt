-- `not`, `and`, `or` and choices: whole expressions.
use Rattle.std.proofs.Common.{◌≡◌, ℕ, zero, suc, true, cond, ◌⊎◌, inl, inr, List, [], ◌∷◌, ◌++◌, Option, Some, None, Ok, refl, sym, ap, ◌∙◌, subst, append_assoc}
use Rattle.ha_value.specs.declared.value.Value.{Value}
use Rattle.ha_config.specs.declared.template.Op.{Op}
use Rattle.ha_config.specs.declared.template.Expr.{Expr}
use Rattle.ha_config.specs.declared.template.Expr
use Rattle.reading.specs.Answer.{◌>>=◌}
use Rattle.reading.proofs.Basics.{chosen_is}
use Rattle.tpl_parse.specs.declared.token.Token.{Token}
use Rattle.tpl_parse.specs.declared.expression.Last.{Last}
use Rattle.tpl_parse.specs.declared.expression.Level.{Level}
use Rattle.tpl_parse.specs.declared.expression.Part.{Part}
use Rattle.tpl_parse.specs.Token.{spaces, next_is, past, behind, text_of}
use Rattle.tpl_parse.specs.Reading.{Inner, chosen, comparison, conjunction, disjunction, ending, expression, inside, negation, opened, part_of, with_else}
use Rattle.tpl_parse.specs.Grammar.{Takes, Joins, or, and, an_expression, a_negation, a_comparison, operands, Is, chosen as chosen_is_in, chosen_if, chosen_else, negated, compared as compared_is}
use Rattle.tpl_parse.proofs.Tokens.{spaces_twice}
use Rattle.tpl_parse.proofs.Next.{Alike}
use Rattle.tpl_laws.proofs.Likes.{Like}
use Rattle.tpl_laws.proofs.Outcomes.{tail_of, Grown, Out, like_put, out_bind, out_after, open_as, open_put, out_made, out_put}
use Rattle.tpl_laws.proofs.Tokens.{takes_at, Took, took_token}
use Rattle.tpl_laws.proofs.Depths.{AtComparison, AtAnd, by_comparison, an_and, AtOr, by_conjunction, an_or, AtEnd, by_last, by_choice, InnerOut, Deep, deepest, deeper, Parted, PartOut, Compared, empty_or, empty_expression}
use Rattle.tpl_laws.proofs.Chains.{plain_part, behind_parts, chain_out, signed_out}
use Rattle.tpl_laws.proofs.Comparisons.{comparison_out}

-- ---- `not`, `and`, `or`

plain_out : {d : ℕ} {o : Option Inner} → Deep d o → (t u : List ℕ) → Alike u t → Out Compared (Parted a_negation d) u (comparison o t)
plain_out {d} {o} deep t u alike = out_put Compared (Parted a_comparison d) Compared (Parted a_negation d) u [] u refl (λ p r e l is. compared_is is) (λ y token k. k) (comparison o t) (comparison_out deep t u alike)

negation_out : {d : ℕ} {o : Option Inner} → Deep d o → PartOut a_negation Compared d (negation o)
unfolding negation
negation_out deepest t u alike = plain_out deepest t u alike
negation_out (deeper {d = d} {inner = inner} sound) t u alike = elim (chosen_is (next_is Token.Not t)) [
  | inr h ↦ rw h (plain_out (deeper sound) (spaces t) u (alike ∙ sym (spaces_twice t)))
  | inl h ↦
      let k = took_token Token.Not t u alike h in
      let v : List ℕ = past Token.Not t in
      rw h (out_made Compared (Parted a_negation d) Compared (Parted a_negation (suc d)) u k.before v k.parts (λ part. ending (Expr.Not part.expr) part.last) (λ p r e l is. negated (k.again p l) is) (λ y token m. m)
      (inner.negation v) (sound.negation v v refl))
]

module _ {d : ℕ} {o : Option Inner} (deep : Deep d o) where
  conjunction_out : PartOut (operands Level.And) (λ x. AtAnd x.last) d (conjunction o)
  unfolding conjunction
  conjunction_out = chain_out Level.And d (negation o) AtComparison AtAnd (negation_out deep) split where
    split : (last : Last) (token : Token) → AtAnd last token → AtComparison last token ⊎ ((op : Op) × Joins Level.And token op × (tail_of token ≡ 39 ∷ 39 ∷ []))
    split last token (by_comparison k) = inl k
    split last token an_and = inr (Op.And, and, refl)

  disjunction_out : PartOut (operands Level.Or) (λ x. AtOr x.last) d (disjunction o)
  unfolding disjunction
  disjunction_out = chain_out Level.Or d (conjunction o) AtAnd AtOr conjunction_out split where
    split : (last : Last) (token : Token) → AtOr last token → AtAnd last token ⊎ ((op : Op) × Joins Level.Or token op × (tail_of token ≡ 39 ∷ 39 ∷ []))
    split last token (by_conjunction k) = inl k
    split last token an_or = inr (Op.Or, or, refl)

-- ---- choices

some_token : (a b : Token) → Some a ≡ Some b → a ≡ b
some_token a b e = cc

same_end : (x y : Part) (token : Token) → x.last ≡ y.last → x.choice ≡ y.choice → AtEnd x token → AtEnd y token
same_end x y token e f (by_last k) = by_last (subst (λ (l : Last). AtOr l token) e k)
same_end x y token e f (by_choice h) = by_choice (sym f ∙ h)

module _ {d : ℕ} (u : List ℕ) (x : Part) (left : List ℕ) (g : Grown (λ x. AtOr x.last) (Parted (operands Level.Or) d) u x left) where
  -- an operand alone
  operand_goes : (part : Part) → part.last ≡ x.last → part.choice ≡ Some Token.If → (token : Token) → AtEnd part token → (p q : List ℕ) → Like g.rest p → spaces p ≡ text_of token ++ 32 ∷ (tail_of token ++ 32 ∷ q)
      → (y : Part) × Parted an_expression d (g.before ++ p) y (32 ∷ q)
  operand_goes part e f token (by_last k) p q l at = let s = g.goes token (subst (λ (z : Last). AtOr z token) e k) p q l at in (s.0, chosen_is_in s.1)
  operand_goes part e f token (by_choice h) p q l at =
      let same : token ≡ Token.If = some_token token Token.If (sym h ∙ f) in
      let at' : spaces p ≡ text_of Token.If ++ 32 ∷ 39 ∷ 39 ∷ 32 ∷ q = at ∙ ap (λ (z : Token). text_of z ++ 32 ∷ (tail_of z ++ 32 ∷ q)) same in
      (plain_part (Expr.Pick (Expr.Plain (Value.Text [])) x.expr None), chosen_if (g.again p l) (takes_at Token.If p (39 ∷ 39 ∷ 32 ∷ q) at') (empty_or d q))

  operand_ends : Grown AtEnd (Parted an_expression d) u (part_of x.expr x.last (Some Token.If)) (spaces left)
  operand_ends = record {
    before = g.before;
    rest = g.rest;
    parts = g.parts;
    alike = g.alike ∙ sym (spaces_twice left);
    again = λ p l. chosen_is_in (g.again p l);
    goes = λ token k p q l at. operand_goes (part_of x.expr x.last (Some Token.If)) refl refl token k p q l at;
  }

-- a choice behind its test
module _ {d : ℕ} (u : List ℕ) (x : Part) (b v : List ℕ) (parts : u ≡ b ++ v) (y : Part) (left : List ℕ) (g : Grown (λ x. AtOr x.last) (Parted (operands Level.Or) d) v y left)
    (put : (p r : List ℕ) (e : Expr) → Like v p → Is (operands Level.Or) d p e r → Is an_expression d (b ++ p) (Expr.Pick e x.expr None) r) where
  test_again : (p : List ℕ) → Like g.rest p → Is an_expression d ((b ++ g.before) ++ p) (Expr.Pick y.expr x.expr None) p
  test_again p l = subst (λ (w : List ℕ). Is an_expression d w (Expr.Pick y.expr x.expr None) p) (sym (append_assoc b g.before p)) (put (g.before ++ p) p y.expr (like_put g.before g.parts l) (g.again p l))

  test_goes : (token : Token) → AtOr y.last token → (p q : List ℕ) → Like g.rest p → spaces p ≡ text_of token ++ 32 ∷ (tail_of token ++ 32 ∷ q) → (z : Part) × Parted an_expression d ((b ++ g.before) ++ p) z (32 ∷ q)
  test_goes token k p q l at =
      let s = g.goes token k p q l at in
      let e : Expr = Expr.Pick s.0.expr x.expr None in
      (plain_part e, subst (λ (w : List ℕ). Is an_expression d w e (32 ∷ q)) (sym (append_assoc b g.before p)) (put (g.before ++ p) (32 ∷ q) s.0.expr (like_put g.before g.parts l) s.1))

-- an `else` may follow
module _ {d : ℕ} {inner : Inner} (sound : InnerOut d inner) (u : List ℕ) (x : Part) (b v : List ℕ) (parts : u ≡ b ++ v) (y : Part) (left : List ℕ) (g : Grown (λ x. AtOr x.last) (Parted (operands Level.Or) (suc d)) v y left)
    (put : (p r : List ℕ) (e : Expr) → Like v p → Is (operands Level.Or) (suc d) p e r → Is an_expression (suc d) (b ++ p) (Expr.Pick e x.expr None) r)
    (put_else : (p c r : List ℕ) (e f : Expr) → Like v p → Is (operands Level.Or) (suc d) p e c → (w : List ℕ) → Takes Token.Else c w → Is an_expression d w f r → Is an_expression (suc d) (b ++ p) (Expr.Pick e x.expr (Some f)) r) where
  else_at : (p : List ℕ) → Like g.rest p → (w r : List ℕ) (f : Expr) → Takes Token.Else p w → Is an_expression d w f r → Is an_expression (suc d) ((b ++ g.before) ++ p) (Expr.Pick y.expr x.expr (Some f)) r
  else_at p l w r f i is = subst (λ (z : List ℕ). Is an_expression (suc d) z (Expr.Pick y.expr x.expr (Some f)) r) (sym (append_assoc b g.before p)) (put_else (g.before ++ p) p r y.expr f (like_put g.before g.parts l) (g.again p l) w i is)

  choice_goes : (part : Part) → part.last ≡ y.last → part.choice ≡ Some Token.Else → (token : Token) → AtEnd part token → (p q : List ℕ) → Like g.rest p → spaces p ≡ text_of token ++ 32 ∷ (tail_of token ++ 32 ∷ q)
      → (z : Part) × Parted an_expression (suc d) ((b ++ g.before) ++ p) z (32 ∷ q)
  choice_goes part e f token (by_last k) p q l at = test_goes u x b v parts y left g put token (subst (λ (z : Last). AtOr z token) e k) p q l at
  choice_goes part e f token (by_choice h) p q l at =
      let same : token ≡ Token.Else = some_token token Token.Else (sym h ∙ f) in
      let at' : spaces p ≡ text_of Token.Else ++ 32 ∷ 39 ∷ 39 ∷ 32 ∷ q = at ∙ ap (λ (z : Token). text_of z ++ 32 ∷ (tail_of z ++ 32 ∷ q)) same in
      (plain_part (Expr.Pick y.expr x.expr (Some (Expr.Plain (Value.Text [])))), else_at p l (32 ∷ 39 ∷ 39 ∷ 32 ∷ q) (32 ∷ q) (Expr.Plain (Value.Text [])) (takes_at Token.Else p (39 ∷ 39 ∷ 32 ∷ q) at') (empty_expression d q))

  else_out : Out AtEnd (Parted an_expression (suc d)) u (with_else (Some inner) x y left)
  else_out = elim (chosen_is (next_is Token.Else left)) [
    | inl h ↦
        let k = took_token Token.Else left g.rest g.alike h in
        let w : List ℕ = past Token.Else left in
        rw h (out_made AtEnd (Parted an_expression d) AtEnd (Parted an_expression (suc d)) u ((b ++ g.before) ++ k.before) w (behind_parts (b ++ g.before) k.before w (behind_parts b g.before g.rest parts g.parts) k.parts)
        (λ other. part_of (chosen x y (Some other.expr)) other.last other.choice)
        (λ p r z l is.
        subst (λ (s : List ℕ). Is an_expression (suc d) s (Expr.Pick y.expr x.expr (Some z.expr)) r) (sym (append_assoc (b ++ g.before) k.before p)) (else_at (k.before ++ p) (like_put k.before k.parts l) p r z.expr (k.again p l) is))
        (λ z token m. same_end (part_of (chosen x y (Some z.expr)) z.last z.choice) z token refl refl m) (inner.expression w) (sound.expression w w refl))
    | inr h ↦ rw h (record {
      before = b ++ g.before;
      rest = g.rest;
      parts = behind_parts b g.before g.rest parts g.parts;
      alike = g.alike ∙ sym (spaces_twice left);
      again = λ p l. test_again u x b v parts y left g put p l;
      goes = λ token k p q l at. choice_goes (part_of (chosen x y None) y.last (Some Token.Else)) refl refl token k p q l at;
    })
  ]

no_choice : (part : Part) (token : Token) → part.choice ≡ None → AtEnd part token → AtOr part.last token
no_choice part token e (by_last k) = k
no_choice part token e (by_choice h) = absurd (let w = sym e ∙ h in cc)

choice_out : {d : ℕ} {o : Option Inner} → Deep d o → (u : List ℕ) (x : Part) (a v : List ℕ) (g : Grown (λ x. AtOr x.last) (Parted (operands Level.Or) d) u x a) (k : Took Token.If g.rest v) (y : Part) (left : List ℕ)
    → Grown (λ x. AtOr x.last) (Parted (operands Level.Or) d) v y left → Out AtEnd (Parted an_expression d) u (with_else o x y left)
choice_out {d} deepest u x a v g k y left g2 =
    let b : List ℕ = g.before ++ k.before in
    let parts : u ≡ b ++ v = behind_parts g.before k.before v g.parts k.parts in
    let put : (p r : List ℕ) (e : Expr) → Like v p → Is (operands Level.Or) zero p e r → Is an_expression zero (b ++ p) (Expr.Pick e x.expr None) r = λ p r e l is.
    subst (λ (w : List ℕ). Is an_expression zero w (Expr.Pick e x.expr None) r) (sym (append_assoc g.before k.before p)) (chosen_if (g.again (k.before ++ p) (like_put k.before k.parts l)) (k.again p l) is) in
    record {
      before = b ++ g2.before;
      rest = g2.rest;
      parts = behind_parts b g2.before g2.rest parts g2.parts;
      alike = g2.alike;
      again = λ p l. test_again u x b v parts y left g2 put p l;
      goes = λ token m p q l at. test_goes u x b v parts y left g2 put token (no_choice (ending (chosen x y None) y.last) token refl m) p q l at;
    }
choice_out (deeper {d = d} {inner = inner} sound) u x a v g k y left g2 =
    let b : List ℕ = g.before ++ k.before in
    let parts : u ≡ b ++ v = behind_parts g.before k.before v g.parts k.parts in
    else_out sound u x b v parts y left g2
    (λ p r e l is. subst (λ (w : List ℕ). Is an_expression (suc d) w (Expr.Pick e x.expr None) r) (sym (append_assoc g.before k.before p)) (chosen_if (g.again (k.before ++ p) (like_put k.before k.parts l)) (k.again p l) is))
    (λ p c r e f l is w i is2. subst (λ (s : List ℕ). Is an_expression (suc d) s (Expr.Pick e x.expr (Some f)) r) (sym (append_assoc g.before k.before p)) (chosen_else (g.again (k.before ++ p) (like_put k.before k.parts l)) (k.again p l) is i is2))

module _ {d : ℕ} {o : Option Inner} (deep : Deep d o) where
  if_out : (u : List ℕ) (x : Part) (a : List ℕ) → Grown (λ x. AtOr x.last) (Parted (operands Level.Or) d) u x a → next_is Token.If a ≡ true
      → Out AtEnd (Parted an_expression d) u (disjunction o (past Token.If a) >>= λ test'. with_else o x test'.0 test'.1)
  if_out u x a g h =
      let k = took_token Token.If a g.rest g.alike h in
      let v : List ℕ = past Token.If a in
      out_after (λ x. AtOr x.last) (Parted (operands Level.Or) d) AtEnd (Parted an_expression d) u v (λ test'. with_else o x test'.0 test'.1) (disjunction o v) (λ y left is g2. choice_out deep u x a v g k y left g2)
      (λ f q. open_put (λ x. AtOr x.last) (Parted (operands Level.Or) d) AtEnd (Parted an_expression d) u (g.before ++ k.before) v (behind_parts g.before k.before v g.parts k.parts)
      (λ p r y l is.
      let e : Expr = Expr.Pick y.expr x.expr None in
      (plain_part e, subst (λ (w : List ℕ). Is an_expression d w e (32 ∷ r)) (sym (append_assoc g.before k.before p)) (chosen_if (g.again (k.before ++ p) (like_put k.before k.parts l)) (k.again p l) is)))
      f q)
      (disjunction_out deep v v refl)

  pub expression_by : PartOut an_expression AtEnd d (expression o)
  unfolding expression
  expression_by t u alike =
      out_bind (λ x. AtOr x.last) (Parted (operands Level.Or) d) AtEnd (Parted an_expression d) u
      (λ yes'. cond (next_is Token.If yes'.1) (disjunction o (behind Token.If yes'.1) >>= λ test'. with_else o yes'.0 test'.0 test'.1) (Ok (part_of yes'.0.expr yes'.0.last (Some Token.If), spaces yes'.1))) (disjunction o t)
      (λ x left is g. by_if x left g)
      (λ f h. open_as (λ x. AtOr x.last) (Parted (operands Level.Or) d) AtEnd (Parted an_expression d) u (λ p q x is. (x, chosen_is_in is)) f h)
      (disjunction_out deep t u alike) where
        by_if : (x : Part) (left : List ℕ) → Grown (λ x. AtOr x.last) (Parted (operands Level.Or) d) u x left
            → Out AtEnd (Parted an_expression d) u (cond (next_is Token.If left) (disjunction o (behind Token.If left) >>= λ test'. with_else o x test'.0 test'.1) (Ok (part_of x.expr x.last (Some Token.If), spaces left)))
        by_if x left g = elim (chosen_is (next_is Token.If left)) [
          | inl h ↦ rw h (if_out u x left g h)
          | inr h ↦ rw h (operand_ends u x left g)
        ]

inside_out : {d : ℕ} {o : Option Inner} → Deep d o → InnerOut d (inside o)
inside_out deep = record { expression = expression_by deep; negation = negation_out deep; signed = signed_out deep }

deep_of : (d : ℕ) → Deep d (opened d)
unfolding opened
deep_of zero = deepest
deep_of (suc d) = deeper (inside_out (deep_of d))

pub expression_out : (d : ℕ) → PartOut an_expression AtEnd d (expression (opened d))
expression_out d = expression_by (deep_of d)
