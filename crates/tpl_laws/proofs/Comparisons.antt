-- Sums, tests and comparisons.
use Rattle.std.proofs.Common.{◌≡◌, ℕ, Bool, true, false, cond, not, ◌⊎◌, inl, inr, List, [], ◌∷◌, ◌++◌, length, drop, Option, Some, None, refl, sym, ap, ◌∙◌, subst, append_assoc}
use Rattle.ha_value.specs.declared.value.Value.{Value}
use Rattle.ha_config.specs.declared.template.Op.{Op}
use Rattle.ha_config.specs.declared.template.Expr.{Expr}
use Rattle.ha_config.specs.declared.template.Expr
use Rattle.reading.specs.Answer.{◌>>=◌, made}
use Rattle.reading.proofs.Basics.{chosen_is}
use Rattle.tpl_parse.specs.declared.token.Token.{Token}
use Rattle.tpl_parse.specs.declared.expression.Last.{Last}
use Rattle.tpl_parse.specs.declared.expression.Level.{Level}
use Rattle.tpl_parse.specs.declared.expression.Part.{Part}
use Rattle.tpl_parse.specs.Token.{spaces, next_is, past, behind, reach, text_of, want}
use Rattle.tpl_parse.specs.Reading.{Inner, operator, operator_of, behind_operator, comparisons, ending, filtered, product, joined, sum, test_tokens, tested, tested_printed, tested_last, none_test, comparator, with_right, compared, comparison}
use Rattle.tpl_parse.specs.Grammar.{Takes, Joins, minus, modulo, Compares, equal, unequal, less, at_most, greater, at_least, within, IsNoneToken, plain_none, printed_none, IsTest, is_none, is_defined, is_not_none, is_not_defined, a_comparison, with_filters, operands, Is, alone, compare, outside, tested as tested_is}
use Rattle.tpl_parse.proofs.Tokens.{spaces_twice}
use Rattle.tpl_parse.proofs.Next.{Alike}
use Rattle.tpl_laws.proofs.Likes.{Like}
use Rattle.tpl_laws.proofs.Outcomes.{Gave, Still, tail_of, Grown, Open, Out, like_put, out_bind, open_as, out_made, out_put}
use Rattle.tpl_laws.proofs.Tokens.{token_begun, takes_at, took_token, Spaced, bare, spaced, Every, reach_nearest, word_open}
use Rattle.tpl_laws.proofs.Depths.{AtProduct, a_modulo, AtSum, by_product, a_minus, AtComparison, by_sum, by_right, an_equal, an_unequal, an_is, an_in, a_not, Deep, Parted, PartOut, Compared, empty_sum, takes_next}
use Rattle.tpl_laws.proofs.Chains.{Row, AllRows, row_found, plain_part, behind_parts, chain_out}
use Rattle.tpl_laws.proofs.Filters.{filtered_out}

abbrev Never : Last → Token → Type 0
Never last token = ⊥

module _ {d : ℕ} {o : Option Inner} (deep : Deep d o) where
  operand_out : PartOut with_filters (λ x. Never x.last) d (λ rest. made (λ e. ending e Last.Operand) (filtered o rest))
  operand_out t u alike = out_made Still (Is with_filters d) (λ x. Never x.last) (Parted with_filters d) u [] u refl (λ e. ending e Last.Operand) (λ p r e l is. is) (λ x token k. k) (filtered o t) (filtered_out deep t u alike)

  product_out : PartOut (operands Level.Product) (λ x. AtProduct) d (product o)
  unfolding product
  product_out = chain_out Level.Product d (λ rest. made (λ e. ending e Last.Operand) (filtered o rest)) Never (λ last. AtProduct) operand_out split where
    split : (last : Last) (token : Token) → AtProduct token → Never last token ⊎ ((op : Op) × Joins Level.Product token op × (tail_of token ≡ 39 ∷ 39 ∷ []))
    split last token a_modulo = inr (Op.Modulo, modulo, refl)

  joined_out : PartOut (operands Level.Join) (λ x. AtProduct) d (joined o)
  unfolding joined
  joined_out = chain_out Level.Join d (product o) (λ last. AtProduct) (λ last. AtProduct) product_out (λ last token k. inl k)

  pub sum_out : PartOut (operands Level.Sum) (λ x. AtSum) d (sum o)
  unfolding sum
  sum_out = chain_out Level.Sum d (joined o) (λ last. AtProduct) (λ last. AtSum) joined_out split where
    split : (last : Last) (token : Token) → AtSum token → AtProduct token ⊎ ((op : Op) × Joins Level.Sum token op × (tail_of token ≡ 39 ∷ 39 ∷ []))
    split last token (by_product k) = inl k
    split last token a_minus = inr (Op.Minus, minus, refl)

-- ---- tests behind `is`

-- where the test is turned already
data Turned (t : List ℕ) : Bool → List ℕ → Type 0 where
  none_turned : {token : Token} {rest : List ℕ} → IsNoneToken token → Takes token t rest → Turned t false rest
  defined_turned : {rest : List ℕ} → Takes Token.Defined t rest → Turned t true rest

-- what follows one of these words
abbrev Word : (List ℕ → Bool → List ℕ → Type 0) → Token → Type 0
Word R token = (e : List ℕ) × Spaced e × ((o q : List ℕ) → spaces o ≡ text_of token ++ (e ++ 32 ∷ q) → (h : Bool) × R o h (32 ∷ q))

module _ (turned : Bool) (R : List ℕ → Bool → List ℕ → Type 0) (none' : (token : Token) (t rest : List ℕ) → IsNoneToken token → Takes token t rest → R t (not turned) rest)
    (defined : (t rest : List ℕ) → Takes Token.Defined t rest → R t turned rest) where
  takes_one : (token : Token) (h : Bool) (t u : List ℕ) → Alike u t → next_is token t ≡ true → ((v rest : List ℕ) → Takes token v rest → R v h rest) → Grown Still R u h (past token t)
  takes_one token h t u alike next put =
      let k = took_token token t u alike next in
      record { before = k.before; rest = past token t; parts = k.parts; alike = refl; again = λ o l. put (k.before ++ o) o (k.again o l); goes = λ token m. absurd m }

  module _ (u : List ℕ) (fails : (t : List ℕ) → Alike u t → Open R u (record { left = length (drop (reach (test_tokens turned) (spaces t)) (spaces t)); code = tt })) where
    last_out : (t : List ℕ) → Alike u t → Out Still R u (tested_last turned t)
    last_out t alike = elim (chosen_is (next_is Token.Defined t)) [
      | inl h ↦ rw h (takes_one Token.Defined turned t u alike h defined)
      | inr h ↦ rw h (fails t alike)
    ]

    printed_out : (t : List ℕ) → Alike u t → Out Still R u (tested_printed turned t)
    printed_out t alike = elim (chosen_is (next_is Token.PrintedNone t)) [
      | inl h ↦ rw h (takes_one Token.PrintedNone (not turned) t u alike h (λ v rest k. none' Token.PrintedNone v rest printed_none k))
      | inr h ↦ rw h (last_out (spaces t) (alike ∙ sym (spaces_twice t)))
    ]

    test_out : (t : List ℕ) → Alike u t → Out Still R u (tested turned t)
    test_out t alike = elim (chosen_is (next_is Token.None t)) [
      | inl h ↦ rw h (takes_one Token.None (not turned) t u alike h (λ v rest k. none' Token.None v rest plain_none k))
      | inr h ↦ rw h (printed_out (spaces t) (alike ∙ sym (spaces_twice t)))
    ]

abbrev Test : List ℕ → Bool → List ℕ → Type 0
Test t h rest = IsTest h t rest

turned_words : Every (Word Turned) (test_tokens true)
turned_words = (
  ([], bare, λ o q at. (false, none_turned plain_none (takes_at Token.None o q at))),
  (([], bare, λ o q at. (false, none_turned printed_none (takes_at Token.PrintedNone o q at))), (([], bare, λ o q at. (true, defined_turned (takes_at Token.Defined o q at))), tt)),
)

test_words : Every (Word Test) (test_tokens false)
test_words = (
  ([], bare, λ o q at. (true, is_none plain_none (takes_at Token.None o q at))),
  (
    ([], bare, λ o q at. (true, is_none printed_none (takes_at Token.PrintedNone o q at))),
    (
      ([], bare, λ o q at. (false, is_defined (takes_at Token.Defined o q at))),
      ((32 ∷ text_of Token.None, spaced (text_of Token.None), λ o q at. (false, is_not_none (takes_at Token.Not o (text_of Token.None ++ 32 ∷ q) at) plain_none (takes_next Token.None q))), tt),
    ),
  ),
)

word_fails : (R : List ℕ → Bool → List ℕ → Type 0) (u s : List ℕ) (token : Token) (tokens : List Token) → spaces u ≡ s → Every (Word R) (token ∷ tokens) → Open R u (record { left = length (drop (reach (token ∷ tokens) s) s); code = tt })
word_fails R u s token tokens at each = word_open R u [] u refl text_of (Word R) s (reach (token ∷ tokens) s) at token_begun (λ i k. (k.0, k.1, λ o q l at'. k.2 o q at')) (reach_nearest (Word R) s token tokens each)

none_test_out : (t u : List ℕ) → Alike u t → Out Still Test u (none_test t)
unfolding none_test
none_test_out t u alike = elim (chosen_is (next_is Token.Not t)) [
  | inl h ↦
      let k = took_token Token.Not t u alike h in
      let v : List ℕ = past Token.Not t in
      rw h (out_put Still Turned Still Test u k.before v k.parts (λ p r x l is. by_turned p r x (k.again p l) is) (λ y token m. m) (tested true v)
      (test_out true Turned (λ token t' rest n k'. none_turned n k') (λ t' rest k'. defined_turned k') v (λ t' alike'. word_fails Turned v (spaces t') Token.None (drop 1 (test_tokens true)) alike' turned_words) v refl))
  | inr h ↦ rw h (test_out false Test (λ token t' rest n k. is_none n k) (λ t' rest k. is_defined k) u (λ t' alike'. word_fails Test u (spaces t') Token.None (drop 1 (test_tokens false)) alike' test_words) (spaces t) (alike ∙ sym (spaces_twice t)))
] where
  by_turned : {w : List ℕ} (p r : List ℕ) (x : Bool) → Takes Token.Not w p → Turned p x r → IsTest x w r
  by_turned p r x i (none_turned n k) = is_not_none i n k
  by_turned p r x i (defined_turned k) = is_not_defined i k

-- ---- comparisons

all_compare : AllRows Compares comparisons
all_compare = (equal, (unequal, (less, (at_most, (greater, (at_least, (within, tt)))))))

no_tested : {last : Last} {token : Token} → last ≡ Last.Tested → AtComparison last token → ⊥
no_tested e (by_sum k) = cc
no_tested e (by_right k) = cc
no_tested e an_equal = cc
no_tested e an_unequal = cc
no_tested e an_is = cc
no_tested e an_in = cc
no_tested e a_not = cc

right_only : {last : Last} {token : Token} → last ≡ Last.Compared → AtComparison last token → AtSum token
right_only e (by_sum k) = k
right_only e (by_right k) = k
right_only e an_equal = absurd cc
right_only e an_unequal = absurd cc
right_only e an_is = absurd cc
right_only e an_in = absurd cc
right_only e a_not = absurd cc

module _ {d : ℕ} {o : Option Inner} (deep : Deep d o) where
  module _ (u : List ℕ) (x : Part) (left : List ℕ) (g : Grown (λ x. AtSum) (Parted (operands Level.Sum) d) u x left) where
    abbrev out : Gave Part → Type 0
    out r = Out Compared (Parted a_comparison d) u r

    -- a right sum behind what stands there
    right_out : (op : Op) (b v : List ℕ) → g.rest ≡ b ++ v → ((p r : List ℕ) (e : Expr) → Like v p → Is (operands Level.Sum) d p e r → Is a_comparison d (g.before ++ (b ++ p)) (Expr.Pair op x.expr e) r) → out (with_right o x (Some op) v)
    right_out op b v parts put =
        out_made (λ y. AtSum) (Parted (operands Level.Sum) d) Compared (Parted a_comparison d) u (g.before ++ b) v (behind_parts g.before b v g.parts parts) (λ right. ending (Expr.Pair op x.expr right.expr) Last.Compared)
        (λ p r y l is. subst (λ (w : List ℕ). Is a_comparison d w (Expr.Pair op x.expr y.expr) r) (sym (append_assoc g.before b p)) (put p r y.expr l is)) (λ y token k. right_only refl k) (sum o v) (sum_out deep v v refl)

    not_out : next_is Token.Not (spaces left) ≡ true → out (made (λ _. Some Op.Outside) (want Token.In (past Token.Not (spaces left))) >>= λ op. with_right o x op.0 op.1)
    unfolding want
    not_out h =
        let k = took_token Token.Not (spaces left) g.rest (g.alike ∙ sym (spaces_twice left)) h in
        let v : List ℕ = past Token.Not (spaces left) in
        elim (chosen_is (next_is Token.In v)) [
          | inl i ↦
              let m = took_token Token.In v v refl i in
              let a : List ℕ = past Token.In v in
              rw i (right_out Op.Outside (k.before ++ m.before) a (behind_parts k.before m.before a k.parts m.parts)
              (λ p r e l is.
              let l1 : Like v (m.before ++ p) = like_put m.before m.parts l in
              subst (λ (w : List ℕ). Is a_comparison d (g.before ++ w) (Expr.Pair Op.Outside x.expr e) r) (sym (append_assoc k.before m.before p))
              (outside (g.again (k.before ++ (m.before ++ p)) (like_put k.before k.parts l1)) (k.again (m.before ++ p) l1) (m.again p l) is)))
          | inr i ↦
              let parts : u ≡ (g.before ++ k.before) ++ v = behind_parts g.before k.before v g.parts k.parts in
              rw i (word_open (Parted a_comparison d) u (g.before ++ k.before) v parts text_of (λ token. token ≡ Token.In) (spaces v) (reach (Token.In ∷ []) (spaces v)) refl token_begun
              (λ token e. (32 ∷ 39 ∷ 39 ∷ [], spaced (39 ∷ 39 ∷ []), λ p q l at. in_open k.before k.again v p q l (λ w lw. like_put k.before k.parts lw) (at ∙ ap (λ (z : Token). text_of z ++ 32 ∷ 39 ∷ 39 ∷ 32 ∷ q) e)))
              (reach_nearest (λ token. token ≡ Token.In) (spaces v) Token.In [] (refl, tt)))
        ] where
          in_open : (b : List ℕ) → ((c : List ℕ) → Like (past Token.Not (spaces left)) c → Takes Token.Not (b ++ c) c) → (v p q : List ℕ) → Like (past Token.Not (spaces left)) p → ((w : List ℕ) → Like (past Token.Not (spaces left)) w → Like g.rest (b ++ w))
              → spaces p ≡ text_of Token.In ++ 32 ∷ 39 ∷ 39 ∷ 32 ∷ q → (y : Part) × Parted a_comparison d ((g.before ++ b) ++ p) y (32 ∷ q)
          in_open b again v p q l like at =
              let e : Expr = Expr.Pair Op.Outside x.expr (Expr.Plain (Value.Text [])) in
              (plain_part e, subst (λ (w : List ℕ). Is a_comparison d w e (32 ∷ q)) (sym (append_assoc g.before b p)) (outside (g.again (b ++ p) (like p l)) (again p l) (takes_at Token.In p (39 ∷ 39 ∷ 32 ∷ q) at) (empty_sum d q)))

    -- what may follow a sum alone
    alone_goes : (last : Last) (token : Token) → AtComparison last token → (p q : List ℕ) → Like g.rest p → spaces p ≡ text_of token ++ 32 ∷ (tail_of token ++ 32 ∷ q) → (y : Part) × Parted a_comparison d (g.before ++ p) y (32 ∷ q)
    alone_goes last token (by_sum k) p q l at = let s = g.goes token k p q l at in (s.0, alone s.1)
    alone_goes last token (by_right k) p q l at = let s = g.goes token k p q l at in (s.0, alone s.1)
    alone_goes last token an_equal p q l at = (plain_part (Expr.Pair Op.Equal x.expr (Expr.Plain (Value.Text []))), compare (g.again p l) equal (takes_at Token.Equal p (39 ∷ 39 ∷ 32 ∷ q) at) (empty_sum d q))
    alone_goes last token an_unequal p q l at = (plain_part (Expr.Pair Op.Unequal x.expr (Expr.Plain (Value.Text []))), compare (g.again p l) unequal (takes_at Token.Unequal p (39 ∷ 39 ∷ 32 ∷ q) at) (empty_sum d q))
    alone_goes last token an_in p q l at = (plain_part (Expr.Pair Op.Within x.expr (Expr.Plain (Value.Text []))), compare (g.again p l) within (takes_at Token.In p (39 ∷ 39 ∷ 32 ∷ q) at) (empty_sum d q))
    alone_goes last token an_is p q l at = (plain_part (Expr.IsNone x.expr true), tested_is (g.again p l) (takes_at Token.Is p (text_of Token.None ++ 32 ∷ q) at) (is_none plain_none (takes_next Token.None q)))
    alone_goes last token a_not p q l at =
        (plain_part (Expr.Pair Op.Outside x.expr (Expr.Plain (Value.Text []))), outside (g.again p l) (takes_at Token.Not p (text_of Token.In ++ 32 ∷ 39 ∷ 39 ∷ 32 ∷ q) at) (takes_next Token.In (39 ∷ 39 ∷ 32 ∷ q)) (empty_sum d q))

    row_out : (k : Option Row) → operator comparisons (spaces (spaces left)) ≡ k → out (with_right o x (operator_of k) (behind_operator k (spaces (spaces left))))
    row_out None is = record {
      before = g.before;
      rest = g.rest;
      parts = g.parts;
      alike = g.alike ∙ sym (spaces_twice left) ∙ sym (spaces_twice (spaces left)) ∙ sym (spaces_twice (spaces (spaces left)));
      again = λ p l. alone (g.again p l);
      goes = λ token k p q l at. alone_goes x.last token k p q l at;
    }
    row_out (Some row) is =
        let r = row_found Compares comparisons (spaces (spaces left)) row all_compare is in
        let k = took_token row.0 (spaces (spaces left)) g.rest (g.alike ∙ sym (spaces_twice left) ∙ sym (spaces_twice (spaces left))) r.1 in
        right_out row.1 k.before (past row.0 (spaces (spaces left))) k.parts (λ p r' e l is'. compare (g.again (k.before ++ p) (like_put k.before k.parts l)) r.0 (k.again p l) is')

    compared_out : out (compared o x (spaces left))
    unfolding comparator
    compared_out = elim (chosen_is (next_is Token.Not (spaces left))) [
      | inl h ↦ rw h (not_out h)
      | inr h ↦ rw h (row_out (operator comparisons (spaces (spaces left))) refl)
    ]

    is_out : next_is Token.Is left ≡ true → out (made (λ holds. ending (Expr.IsNone x.expr holds) Last.Tested) (none_test (past Token.Is left)))
    is_out h =
        let k = took_token Token.Is left g.rest g.alike h in
        let v : List ℕ = past Token.Is left in
        out_made Still Test Compared (Parted a_comparison d) u (g.before ++ k.before) v (behind_parts g.before k.before v g.parts k.parts) (λ holds. ending (Expr.IsNone x.expr holds) Last.Tested)
        (λ p r y l is.
        subst (λ (w : List ℕ). Is a_comparison d w (Expr.IsNone x.expr y) r) (sym (append_assoc g.before k.before p)) (tested_is (g.again (k.before ++ p) (like_put k.before k.parts l)) (k.again p l) is))
        (λ y token m. no_tested refl m) (none_test v) (none_test_out v v refl)

  pub comparison_out : PartOut a_comparison Compared d (comparison o)
  unfolding comparison
  comparison_out t u alike =
      out_bind (λ x. AtSum) (Parted (operands Level.Sum) d) Compared (Parted a_comparison d) u
      (λ left. cond (next_is Token.Is left.1) (made (λ holds. ending (Expr.IsNone left.0.expr holds) Last.Tested) (none_test (behind Token.Is left.1))) (compared o left.0 (spaces left.1))) (sum o t)
      (λ x left is g. by_is x left g)
      (λ f h. open_as (λ x. AtSum) (Parted (operands Level.Sum) d) Compared (Parted a_comparison d) u (λ p q x is. (x, alone is)) f h)
      (sum_out deep t u alike) where
        by_is : (x : Part) (left : List ℕ) → Grown (λ x. AtSum) (Parted (operands Level.Sum) d) u x left
            → Out Compared (Parted a_comparison d) u (cond (next_is Token.Is left) (made (λ holds. ending (Expr.IsNone x.expr holds) Last.Tested) (none_test (behind Token.Is left))) (compared o x (spaces left)))
        by_is x left g = elim (chosen_is (next_is Token.Is left)) [
          | inl h ↦ rw h (is_out u x left g h)
          | inr h ↦ rw h (compared_out u x left g)
        ]
