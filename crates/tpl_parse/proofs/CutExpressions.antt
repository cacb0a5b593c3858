-- Comparisons, `not`, `and`, `or` and choices on two texts that begin alike.
use Rattle.std.proofs.Common.{◌≡◌, ℕ, zero, suc, ◌+◌, ◌-◌, ◌≤◌, Bool, true, false, cond, not, inl, inr, List, [], ◌∷◌, ◌++◌, length, drop, Option, Some, None, Ok, refl, sym, ap, ◌∙◌, subst, arith}
use Rattle.std.specs.Prelude.{◌==◌, ◌&&◌}
use Rattle.std.proofs.Math.ListN.{length-drop}
use Rattle.std.proofs.lemmas.Bool.{and_parts, eqb-true}
use Rattle.ha_config.specs.declared.template.Op.{Op}
use Rattle.ha_config.specs.declared.template.Expr.{Expr}
use Rattle.ha_config.specs.declared.template.Expr
use Rattle.reading.specs.Answer.{◌>>=◌, made}
use Rattle.reading.proofs.Basics.{chosen_is}
use Rattle.reading.proofs.Shorter.{kept, bind, either}
use Rattle.tpl_parse.specs.declared.token.Token.{Token}
use Rattle.tpl_parse.specs.declared.expression.Last.{Last}
use Rattle.tpl_parse.specs.declared.expression.Level.{Level}
use Rattle.tpl_parse.specs.declared.expression.Part.{Part}
use Rattle.tpl_parse.specs.Token.{Reads, in_name, spaces, stands, next_is, past, behind, text_of, want}
use Rattle.tpl_parse.specs.Literal.{skip_word}
use Rattle.tpl_parse.specs.Reading.{Inner, any_operator, behind_operator, operator_of, atom, chain, chosen, comparator, compared, comparison, comparisons, conjunction, disjunction, ending, expression, filtered, filter_turns, inside, joined, negation, none_test, opened, operand, operand_turns, operator, operators, part_of, part_turns, product, reached, signed, sum, test_tokens, tested, tested_last, tested_printed, tokens_behind, with_else, with_right}
use Rattle.tpl_parse.proofs.Tokens.{spaces_twice}
use Rattle.tpl_parse.proofs.Shorter.{Read, Within, Keeps, Opens, IsOpen, later, made_within, length-spaces, want_keeps, tested_keeps, test_keeps, part_turns_keeps, filter_turns_keeps, operand_turns_keeps, factor_keeps, product_keeps, joined_keeps, compared_keeps, with_right_keeps, negation_keeps, conjunction_keeps, disjunction_keeps, with_else_keeps, inside_opens, last_keeps, printed_keeps, after_sum_keeps, length-behind}
use Rattle.tpl_parse.proofs.Ahead.{ahead, is_ahead, any_ahead, all_clear}
use Rattle.tpl_parse.proofs.Cut.{Nothing, Late, beyond, begun, same, fails, late, Local, Skips, agree_is, agree_bind, agree_from, agree_made, agree_plain, within_then, all_blank, nothing, partly, there, other, looks, past_late, reach_late}
use Rattle.tpl_parse.proofs.CutLexical.{want_cut}
use Rattle.tpl_parse.proofs.CutAtoms.{every, any_front, any_back, Cov, by_last, by_if, by_else, last_every, Cuts, IsCut, opens_of, word_late, Dotted}
use Rattle.tpl_parse.proofs.CutChains.{no_row, row_partly, row_there, row_other, sees_rows, firsts, rows_clear, operator_late, quiet_rows, one_of_two, one_front, two_front, chain_cut, Signs, signed_cut, sum_cut, sum_ends}

-- ---- tests behind `is`

module _ (turned : Bool) where
  defined_clear : all_clear (test_tokens turned) Token.Defined ≡ true
  defined_clear = elim turned as (λ x. all_clear (test_tokens x) Token.Defined ≡ true) [ true ↦ refl | false ↦ refl ]

  printed_clear : all_clear (test_tokens turned) Token.PrintedNone ≡ true
  printed_clear = elim turned as (λ x. all_clear (test_tokens x) Token.PrintedNone ≡ true) [ true ↦ refl | false ↦ refl ]

  none_clear : all_clear (test_tokens turned) Token.None ≡ true
  none_clear = elim turned as (λ x. all_clear (test_tokens x) Token.None ≡ true) [ true ↦ refl | false ↦ refl ]

  defined_ahead : (d : List ℕ) → is_ahead Token.Defined d ≡ true → any_ahead (test_tokens turned) d ≡ true
  defined_ahead d h = elim turned as (λ x. any_ahead (test_tokens x) d ≡ true) [
    | true ↦ any_back (Token.None ∷ Token.PrintedNone ∷ []) (Token.Defined ∷ []) d (rw h refl)
    | false ↦ any_back (Token.None ∷ Token.PrintedNone ∷ []) (Token.Defined ∷ Token.Not ∷ []) d (rw h refl)
  ]

  printed_ahead : (d : List ℕ) → is_ahead Token.PrintedNone d ≡ true → any_ahead (test_tokens turned) d ≡ true
  printed_ahead d h = elim turned as (λ x. any_ahead (test_tokens x) d ≡ true) [
    | true ↦ any_back (Token.None ∷ []) (Token.PrintedNone ∷ Token.Defined ∷ []) d (rw h refl)
    | false ↦ any_back (Token.None ∷ []) (Token.PrintedNone ∷ Token.Defined ∷ Token.Not ∷ []) d (rw h refl)
  ]

  none_ahead : (d : List ℕ) → is_ahead Token.None d ≡ true → any_ahead (test_tokens turned) d ≡ true
  none_ahead d h = elim turned as (λ x. any_ahead (test_tokens x) d ≡ true) [ true ↦ rw h refl | false ↦ rw h refl ]

  last_skips : Skips (tested_last turned)
  last_skips t = rw (spaces_twice t) refl

  abbrev printed_at : Reads Bool
  printed_at u = cond (stands Token.PrintedNone u) (Ok (not turned, cond (stands Token.PrintedNone u) (drop (length (text_of Token.PrintedNone)) u) u)) (tested_last turned u)

  abbrev tested_at : Reads Bool
  tested_at u = cond (stands Token.None u) (Ok (not turned, cond (stands Token.None u) (drop (length (text_of Token.None)) u) u)) (tested_printed turned u)

  printed_skips : Skips (tested_printed turned)
  printed_skips t = ap (λ (u : List ℕ). printed_at u) (spaces_twice t)

  tested_skips : Skips (tested turned)
  tested_skips t = ap (λ (u : List ℕ). tested_at u) (spaces_twice t)

  last_late : (t d a : List ℕ) → spaces t ≡ d ++ a → any_ahead (test_tokens turned) d ≡ true → Within (length a) (tested_last turned t)
  last_late t d a at h = elim (chosen_is (next_is Token.Defined t)) [
    | inl n ↦ rw n (past_late (test_tokens turned) Token.Defined t d a at h defined_clear n)
    | inr n ↦ rw n (reach_late (test_tokens turned) t d a at h)
  ]

  printed_late : (t d a : List ℕ) → spaces t ≡ d ++ a → any_ahead (test_tokens turned) d ≡ true → Within (length a) (tested_printed turned t)
  printed_late t d a at h = elim (chosen_is (next_is Token.PrintedNone t)) [
    | inl n ↦ rw n (past_late (test_tokens turned) Token.PrintedNone t d a at h printed_clear n)
    | inr n ↦ rw n (last_late (spaces t) d a (spaces_twice t ∙ at) h)
  ]

  tested_late : (t d a : List ℕ) → spaces t ≡ d ++ a → any_ahead (test_tokens turned) d ≡ true → Within (length a) (tested turned t)
  tested_late t d a at h = elim (chosen_is (next_is Token.None t)) [
    | inl n ↦ rw n (past_late (test_tokens turned) Token.None t d a at h none_clear n)
    | inr n ↦ rw n (printed_late (spaces t) d a (spaces_twice t ∙ at) h)
  ]

  last_cut : Local Nothing (tested_last turned)
  last_cut c a b = elim (looks Token.Defined c) [
    | nothing s ↦ late (beyond (all_blank (tested_last turned) last_skips (last_keeps turned) c a (s a)))
    | partly e d s h ↦ late (beyond (last_late (c ++ a) (e ∷ d) a (s a) (defined_ahead (e ∷ d) h)))
    | there u n p ↦ rw (n a, n b) (same turned u (ap (λ (z : List ℕ). Ok (turned, z)) (p a)) (ap (λ (z : List ℕ). Ok (turned, z)) (p b)))
    | other e d s n ↦ rw (n b) (fails _ refl)
  ]

  printed_cut : Local Nothing (tested_printed turned)
  printed_cut c a b = elim (looks Token.PrintedNone c) [
    | nothing s ↦ late (beyond (all_blank (tested_printed turned) printed_skips (printed_keeps turned) c a (s a)))
    | partly e d s h ↦ late (beyond (printed_late (c ++ a) (e ∷ d) a (s a) (printed_ahead (e ∷ d) h)))
    | there u n p ↦ rw (n a, n b) (same (not turned) u (ap (λ (z : List ℕ). Ok (not turned, z)) (p a)) (ap (λ (z : List ℕ). Ok (not turned, z)) (p b)))
    | other e d s n ↦ rw (n a, n b) (agree_is (ap (tested_last turned) (s a)) (ap (tested_last turned) (s b)) (last_cut (e ∷ d) a b))
  ]

  tested_cut : Local Nothing (tested turned)
  tested_cut c a b = elim (looks Token.None c) [
    | nothing s ↦ late (beyond (all_blank (tested turned) tested_skips (tested_keeps turned) c a (s a)))
    | partly e d s h ↦ late (beyond (tested_late (c ++ a) (e ∷ d) a (s a) (none_ahead (e ∷ d) h)))
    | there u n p ↦ rw (n a, n b) (same (not turned) u (ap (λ (z : List ℕ). Ok (not turned, z)) (p a)) (ap (λ (z : List ℕ). Ok (not turned, z)) (p b)))
    | other e d s n ↦ rw (n a, n b) (agree_is (ap (tested_printed turned) (s a)) (ap (tested_printed turned) (s b)) (printed_cut (e ∷ d) a b))
  ]

test_skips : Skips none_test
unfolding none_test
test_skips t = rw (spaces_twice t) refl

not_tested : (d : List ℕ) → is_ahead Token.Not d ≡ true → any_ahead (test_tokens false) d ≡ true
not_tested d h = any_back (Token.None ∷ Token.PrintedNone ∷ Token.Defined ∷ []) (Token.Not ∷ []) d (rw h refl)

none_test_cut : Local Nothing none_test
unfolding none_test
none_test_cut c a b = elim (looks Token.Not c) [
  | nothing s ↦ late (beyond (all_blank none_test test_skips test_keeps c a (s a)))
  | partly e d s h ↦ late (beyond (elim (chosen_is (next_is Token.Not (c ++ a))) [
    | inl n ↦ rw n (later (tested true) (tested_keeps true) (past Token.Not (c ++ a)) (length a) (past_late (Token.Not ∷ []) Token.Not (c ++ a) (e ∷ d) a (s a) (rw h refl) refl n))
    | inr n ↦ rw n (tested_late false (spaces (c ++ a)) (e ∷ d) a (spaces_twice (c ++ a) ∙ s a) (not_tested (e ∷ d) h))
  ]))
  | there u n p ↦ rw (n a, n b) (agree_is (ap (tested true) (p a)) (ap (tested true) (p b)) (tested_cut true u a b))
  | other e d s n ↦ rw (n a, n b) (agree_is (ap (tested false) (s a)) (ap (tested false) (s b)) (tested_cut false (e ∷ d) a b))
]

-- ---- comparisons

-- what an expression leaves may go on with one of the tokens behind its last part
abbrev pub Behind : Part → List ℕ → Type 0
Behind part d = any_ahead (tokens_behind part.last) d ≡ true

abbrev IsOperand : Part → Type 0
IsOperand left = left.last ≡ Last.Operand

as_operand : (left : Part) → IsOperand left → (d : List ℕ) → any_ahead (tokens_behind Last.Operand) d ≡ true → Behind left d
as_operand left is d h = subst (λ (l : Last). any_ahead (tokens_behind l) d ≡ true) (sym is) h

signs_behind : (left : Part) → IsOperand left → (d : List ℕ) → Signs left d → Behind left d
signs_behind left is d h =
    as_operand left is d (any_back (Token.Or ∷ Token.And ∷ []) (Token.Minus ∷ Token.Modulo ∷ Token.Equal ∷ Token.Unequal ∷ Token.Is ∷ Token.In ∷ Token.Not ∷ []) d
    (any_front (Token.Minus ∷ Token.Modulo ∷ []) (Token.Equal ∷ Token.Unequal ∷ Token.Is ∷ Token.In ∷ Token.Not ∷ []) d h))

no_order : (t : List ℕ) (e : ℕ) (d a : List ℕ) (x : ℕ) (short long : Token) → spaces t ≡ e ∷ (d ++ a) → (e ≡ x) × (d ≡ []) → ((here : spaces t ≡ x ∷ a) → ⊥) → ⊥
no_order t e d a x short long at is no' = no' (at ∙ ap (λ (z : ℕ). z ∷ (d ++ a)) is.0 ∙ ap (λ (z : List ℕ). x ∷ (z ++ a)) is.1)

compare_ahead : (t : List ℕ) (e : ℕ) (d a : List ℕ) → spaces t ≡ e ∷ (d ++ a) → any_ahead (firsts comparisons) (e ∷ d) ≡ true → operator comparisons t ≡ None → any_ahead (tokens_behind Last.Operand) (e ∷ d) ≡ true
compare_ahead t e d a at h none =
    let q = quiet_rows comparisons t none in
    let low : (e ≡ 60) × (d ≡ []) → ⊥ = λ is. no_order t e d a 60 Token.Less Token.AtMost at is (λ here. one_of_two Token.Less Token.AtMost 60 61 refl refl refl (λ z. refl) t a here q.1.1.0 q.1.1.1.0) in
    let high : (e ≡ 62) × (d ≡ []) → ⊥ = λ is. no_order t e d a 62 Token.More Token.AtLeast at is (λ here. one_of_two Token.More Token.AtLeast 62 61 refl refl refl (λ z. refl) t a here q.1.1.1.1.0 q.1.1.1.1.1.0) in
    elim (chosen_is (is_ahead Token.Equal (e ∷ d))) [
      | inl k ↦ any_back (Token.Or ∷ Token.And ∷ Token.Minus ∷ Token.Modulo ∷ []) (Token.Equal ∷ Token.Unequal ∷ Token.Is ∷ Token.In ∷ Token.Not ∷ []) (e ∷ d) (rw k refl)
      | inr k ↦ elim (chosen_is (is_ahead Token.Unequal (e ∷ d))) [
        | inl l ↦ any_back (Token.Or ∷ Token.And ∷ Token.Minus ∷ Token.Modulo ∷ Token.Equal ∷ []) (Token.Unequal ∷ Token.Is ∷ Token.In ∷ Token.Not ∷ []) (e ∷ d) (rw l refl)
        | inr l ↦ elim (chosen_is (is_ahead Token.Less (e ∷ d))) [
          | inl m ↦ absurd (low (one_front Token.Less 60 e d m))
          | inr m ↦ elim (chosen_is (is_ahead Token.AtMost (e ∷ d))) [
            | inl n ↦ absurd (low (two_front Token.AtMost 60 61 e d refl n))
            | inr n ↦ elim (chosen_is (is_ahead Token.More (e ∷ d))) [
              | inl o ↦ absurd (high (one_front Token.More 62 e d o))
              | inr o ↦ elim (chosen_is (is_ahead Token.AtLeast (e ∷ d))) [
                | inl p ↦ absurd (high (two_front Token.AtLeast 62 61 e d refl p))
                | inr p ↦
                    let last : any_ahead (Token.In ∷ []) (e ∷ d) ≡ true = rw (k, l, m, n, o, p) at h in
                    any_back (Token.Or ∷ Token.And ∷ Token.Minus ∷ Token.Modulo ∷ Token.Equal ∷ Token.Unequal ∷ Token.Is ∷ []) (Token.In ∷ Token.Not ∷ []) (e ∷ d) (any_front (Token.In ∷ []) (Token.Not ∷ []) (e ∷ d) last)
              ]
            ]
          ]
        ]
      ]
    ]

abbrev by_operator : Option Inner → Part → Option (Token × Op) → Reads Part
by_operator inner left o t = with_right inner left (operator_of o) (behind_operator o t)

behind_le : (o : Option (Token × Op)) (t : List ℕ) → length (behind_operator o t) ≤ length (spaces t)
behind_le None t = omega arith
behind_le (Some row) t = omega (arith, length-drop (length (text_of row.0)) (spaces t))

operator_stage : (inner : Option Inner) → IsOpen inner → (left : Part) (tokens : List Token) (t d a : List ℕ) → spaces t ≡ d ++ a → any_ahead tokens d ≡ true → rows_clear tokens comparisons ≡ true
    → (operator comparisons t ≡ None → Behind left d) → (o : Option (Token × Op)) → operator comparisons t ≡ o → Late Behind a (by_operator inner left o t)
operator_stage inner h left tokens t d a at k clear none None e = begun left (spaces t) d refl (spaces_twice t ∙ at) (none e)
operator_stage inner h left tokens t d a at k clear none (Some row) e =
    beyond (later (with_right inner left (Some row.1)) (with_right_keeps inner h left (Some row.1)) (past row.0 t) (length a) (operator_late tokens comparisons t d a row at k clear e))

compared_late : (inner : Option Inner) → IsOpen inner → (left : Part) (t d a : List ℕ) → spaces t ≡ d ++ a → any_ahead every d ≡ true → Behind left d → Late Behind a (compared inner left t)
unfolding comparator
compared_late inner h left t d a at k none = elim (chosen_is (next_is Token.Not t)) [
  | inl n ↦
      let le = past_late every Token.Not t d a at k refl n in
      rw n (beyond (within_then (length a) (λ op. with_right inner left op.0 op.1) (made (λ _. Some Op.Outside) (want Token.In (past Token.Not t))) (with_right_keeps inner h left)
      (made_within (length a) (λ _. Some Op.Outside) (want Token.In (past Token.Not t)) (later (want Token.In) (want_keeps Token.In) (past Token.Not t) (length a) le))))
  | inr n ↦ rw n (operator_stage inner h left every (spaces t) d a (spaces_twice t ∙ at) k refl (λ e. none) (operator comparisons (spaces t)) refl)
]

abbrev comparator_at : Reads (Option Op)
comparator_at u = cond (stands Token.Not u) (made (λ _. Some Op.Outside) (want Token.In (cond (stands Token.Not u) (drop (length (text_of Token.Not)) u) u))) (any_operator comparisons u)

comparator_skips : Skips comparator
unfolding comparator
comparator_skips t = ap (λ (u : List ℕ). comparator_at u) (spaces_twice t)

compared_skips : (inner : Option Inner) (left : Part) → Skips (compared inner left)
compared_skips inner left t = ap (λ (r : Read (Option Op)). r >>= λ op. with_right inner left op.0 op.1) (comparator_skips t)

not_every : (d : List ℕ) → is_ahead Token.Not d ≡ true → any_ahead (tokens_behind Last.Operand) d ≡ true
not_every d h = any_back (Token.Or ∷ Token.And ∷ Token.Minus ∷ Token.Modulo ∷ Token.Equal ∷ Token.Unequal ∷ Token.Is ∷ Token.In ∷ []) (Token.Not ∷ []) d (rw h refl)

is_every : (d : List ℕ) → is_ahead Token.Is d ≡ true → any_ahead (tokens_behind Last.Operand) d ≡ true
is_every d h = any_back (Token.Or ∷ Token.And ∷ Token.Minus ∷ Token.Modulo ∷ Token.Equal ∷ Token.Unequal ∷ []) (Token.Is ∷ Token.In ∷ Token.Not ∷ []) d (rw h refl)

abbrev after_sum : Option Inner → Part → Reads Part
after_sum inner left t = cond (next_is Token.Is t) (made (λ holds. ending (Expr.IsNone left.expr holds) Last.Tested) (none_test (behind Token.Is t))) (compared inner left (spaces t))

after_sum_skips : (inner : Option Inner) (left : Part) → Skips (after_sum inner left)
after_sum_skips inner left t = rw (spaces_twice t) refl

after_sum_late : (inner : Option Inner) → IsOpen inner → (left : Part) (t d a : List ℕ) → spaces t ≡ d ++ a → Behind left d → Late Behind a (after_sum inner left t)
after_sum_late inner h left t d a at k = elim (chosen_is (next_is Token.Is t)) [
  | inl n ↦ rw n (beyond (made_within (length a) (λ holds. ending (Expr.IsNone left.expr holds) Last.Tested) (none_test (past Token.Is t)) (later none_test test_keeps (past Token.Is t) (length a) (past_late every Token.Is t d a at (last_every left.last d k) refl n))))
  | inr n ↦ rw n (compared_late inner h left (spaces t) d a (spaces_twice t ∙ at) (last_every left.last d k) k)
]

-- ---- a word that is the front of `not`

abbrev all_names : List ℕ → Bool
all_names [] = true
all_names (x ∷ xs) = in_name x && all_names xs

word_front : (token : Token) (xs d x : List ℕ) → all_names xs ≡ true → ahead token xs d ≡ true → skip_word (d ++ x) ≡ skip_word x
unfolding skip_word
word_front token [] [] x n h = refl
word_front token [] (y ∷ d) x n h = absurd cc
word_front token (z ∷ xs) [] x n h = refl
word_front token (z ∷ xs) (y ∷ d) x n h = elim (chosen_is (z == y)) [
  | inl k ↦
      let p = and_parts (in_name z) (all_names xs) n in
      let here : in_name y ≡ true = subst (λ (w : ℕ). in_name w ≡ true) (eqb-true z y k) p.0 in
      rw here (word_front token xs d x p.1 (rw k at h))
  | inr k ↦ absurd (let w = rw k at h in cc)
]

not_front : (e : ℕ) (d : List ℕ) → is_ahead Token.Not (e ∷ d) ≡ true → e ≡ 110
not_front e d h = elim (chosen_is (110 == e)) [ inl k ↦ sym (eqb-true 110 e k) | inr k ↦ absurd (let w = rw k at h in cc) ]

letter_spaces : (t : List ℕ) → spaces (110 ∷ t) ≡ 110 ∷ t
unfolding spaces
letter_spaces t = refl

module _ (inner : Inner) (h : Opens inner) (d a : List ℕ) (front_of : skip_word ((110 ∷ d) ++ a) ≡ skip_word a) where
  abbrev here : List ℕ
  here = 110 ∷ (d ++ a)

  abbrev open' : Option Inner
  open' = Some inner

  atom_word : Within (length a) (atom open' here)
  unfolding atom
  atom_word = rw (letter_spaces (d ++ a)) (word_late open' h (110 ∷ d) a front_of)

  reached_word : Within (length a) (reached open' here)
  unfolding reached
  reached_word = within_then (length a) (λ base. part_turns (suc (length base.1)) open' base.0 base.1) (atom open' here) (λ x m t. part_turns_keeps (suc (length t)) open' h x m t) atom_word

  signed_word : Within (length a) (signed open' here)
  unfolding signed
  signed_word = rw (letter_spaces (d ++ a)) reached_word

  filtered_word : Within (length a) (filtered open' here)
  unfolding filtered
  filtered_word = within_then (length a) (λ base. filter_turns (suc (length base.1)) open' base.0 base.1) (signed open' here) (λ x m t. filter_turns_keeps (suc (length t)) open' h x m t) signed_word

  chain_word : (rows : List (Token × Op)) (operand : Reads Part) → Keeps operand → Within (length a) (operand here) → Within (length a) (chain rows operand here)
  unfolding chain
  chain_word rows operand k w = within_then (length a) (λ first. operand_turns (suc (length first.1)) rows operand first.0 first.1) (operand here) (λ x m t. operand_turns_keeps (suc (length t)) rows operand k x m t) w

  sum_word : Within (length a) (sum open' here)
  unfolding sum joined product
  sum_word = chain_word (operators Level.Sum) (joined open') (joined_keeps open' h) (chain_word (operators Level.Join) (product open') (product_keeps open' h) (chain_word (operators Level.Product) (operand Level.Product open') (factor_keeps open' h)
      (made_within (length a) (λ e. ending e Last.Operand) (filtered open' here) filtered_word)))

  pub comparison_word : Within (length a) (comparison open' here)
  unfolding comparison
  comparison_word = within_then (length a) (λ left. after_sum open' left.0 left.1) (sum open' here) (after_sum_keeps open' h) sum_word

-- ---- `and` and `or`

in_or : (last : Last) (d : List ℕ) → any_ahead (Token.Or ∷ []) d ≡ true → any_ahead (tokens_behind last) d ≡ true
in_or Last.Operand d h = any_front (Token.Or ∷ []) (Token.And ∷ Token.Minus ∷ Token.Modulo ∷ Token.Equal ∷ Token.Unequal ∷ Token.Is ∷ Token.In ∷ Token.Not ∷ []) d h
in_or Last.Compared d h = any_front (Token.Or ∷ []) (Token.And ∷ Token.Minus ∷ Token.Modulo ∷ []) d h
in_or Last.Tested d h = any_front (Token.Or ∷ []) (Token.And ∷ []) d h

in_and : (last : Last) (d : List ℕ) → any_ahead (Token.And ∷ []) d ≡ true → any_ahead (tokens_behind last) d ≡ true
in_and Last.Operand d h = any_back (Token.Or ∷ []) (Token.And ∷ Token.Minus ∷ Token.Modulo ∷ Token.Equal ∷ Token.Unequal ∷ Token.Is ∷ Token.In ∷ Token.Not ∷ []) d (any_front (Token.And ∷ []) (Token.Minus ∷ Token.Modulo ∷ Token.Equal ∷ Token.Unequal ∷ Token.Is ∷ Token.In ∷ Token.Not ∷ []) d h)
in_and Last.Compared d h = any_back (Token.Or ∷ []) (Token.And ∷ Token.Minus ∷ Token.Modulo ∷ []) d (any_front (Token.And ∷ []) (Token.Minus ∷ Token.Modulo ∷ []) d h)
in_and Last.Tested d h = any_back (Token.Or ∷ []) (Token.And ∷ []) d h

behind_every : (x : Part) (d : List ℕ) → Behind x d → any_ahead every d ≡ true
behind_every x d h = last_every x.last d h

-- ---- choices

with_else_skips : (inner : Inner) (yes' test' : Part) → Skips (with_else (Some inner) yes' test')
with_else_skips inner yes' test' t = rw (spaces_twice t) refl

with_else_late : (inner : Option Inner) → IsOpen inner → (yes' test' : Part) (t d a : List ℕ) → spaces t ≡ d ++ a → Behind test' d → Late Cov a (with_else inner yes' test' t)
with_else_late None h yes' test' t d a at k = begun (ending (chosen yes' test' None) test'.last) t d refl at (by_last k)
with_else_late (Some inner) h yes' test' t d a at k = elim (chosen_is (next_is Token.Else t)) [
  | inl n ↦ rw n (beyond (made_within (length a) (λ other. part_of (chosen yes' test' (Some other.expr)) other.last other.choice) (inner.expression (past Token.Else t)) (later inner.expression h.expression (past Token.Else t) (length a) (past_late every Token.Else t d a at (last_every test'.last d k) refl n))))
  | inr n ↦ rw n (begun (part_of (chosen yes' test' None) test'.last (Some Token.Else)) (spaces t) d refl (spaces_twice t ∙ at) (by_last k))
]

cov_choice : (yes' test' : Part) (other' : Part) (d : List ℕ) → Cov other' d → Cov (part_of (chosen yes' test' (Some other'.expr)) other'.last other'.choice) d
cov_choice yes' test' other' d (by_last h) = by_last h
cov_choice yes' test' other' d (by_if e h) = by_if e h
cov_choice yes' test' other' d (by_else e h) = by_else e h

with_else_cut : (inner : Option Inner) → IsCut inner → (yes' test' : Part) → Local Cov (with_else inner yes' test')
with_else_cut None k yes' test' c a b = same (ending (chosen yes' test' None) test'.last) c refl refl
with_else_cut (Some inner) k yes' test' c a b =
    let plain : Part = part_of (chosen yes' test' None) test'.last (Some Token.Else) in
    elim (looks Token.Else c) [
      | nothing s ↦ late (beyond (all_blank (with_else (Some inner) yes' test') (with_else_skips inner yes' test') (with_else_keeps (Some inner) k.opens yes' test') c a (s a)))
      | partly e d s h ↦ late (elim (chosen_is (next_is Token.Else (c ++ a))) [
        | inl n ↦ rw n (beyond (made_within (length a) (λ other. part_of (chosen yes' test' (Some other.expr)) other.last other.choice) (inner.expression (past Token.Else (c ++ a)))
            (later inner.expression k.opens.expression (past Token.Else (c ++ a)) (length a) (past_late (Token.Else ∷ []) Token.Else (c ++ a) (e ∷ d) a (s a) (rw h refl) refl n))))
        | inr n ↦ rw n (begun plain (spaces (c ++ a)) (e ∷ d) refl (spaces_twice (c ++ a) ∙ s a) (by_else refl (rw h refl)))
      ])
      | there u n p ↦
          let m : Part → Part = λ other. part_of (chosen yes' test' (Some other.expr)) other.last other.choice in
          rw (n a, n b) (agree_is (ap (λ (z : List ℕ). made m (inner.expression z)) (p a)) (ap (λ (z : List ℕ). made m (inner.expression z)) (p b))
          (agree_made Cov Cov a b m (inner.expression (u ++ a)) (inner.expression (u ++ b)) (cov_choice yes' test') (k.expression u a b)))
      | other e d s n ↦ rw (n a, n b) (same plain (e ∷ d) (ap (λ (z : List ℕ). Ok (plain, z)) (s a)) (ap (λ (z : List ℕ). Ok (plain, z)) (s b)))
    ]

abbrev after_yes : Option Inner → Part → Reads Part
after_yes inner yes' t = cond (next_is Token.If t) (disjunction inner (behind Token.If t) >>= λ test'. with_else inner yes' test'.0 test'.1) (Ok (part_of yes'.expr yes'.last (Some Token.If), spaces t))

after_yes_past : (inner : Option Inner) → IsOpen inner → (yes' : Part) (t : List ℕ) (n : ℕ) → length t ≤ n → Within n (disjunction inner t >>= λ test'. with_else inner yes' test'.0 test'.1)
after_yes_past inner h yes' t n le = within_then n (λ test'. with_else inner yes' test'.0 test'.1) (disjunction inner t) (with_else_keeps inner h yes') (later (disjunction inner) (disjunction_keeps inner h) t n le)

after_yes_keeps : (inner : Option Inner) → IsOpen inner → (yes' : Part) → Keeps (after_yes inner yes')
after_yes_keeps inner h yes' m t le =
    either _ (bind (disjunction_keeps inner h m (behind Token.If t) (omega (arith, length-behind Token.If t))) (λ test' k. with_else_keeps inner h yes' test'.0 m test'.1 k)) (kept (omega (arith, length-spaces t)))

after_yes_skips : (inner : Option Inner) (yes' : Part) → Skips (after_yes inner yes')
after_yes_skips inner yes' t = rw (spaces_twice t) refl

after_yes_late : (inner : Option Inner) → IsOpen inner → (yes' : Part) (t d a : List ℕ) → spaces t ≡ d ++ a → Behind yes' d → Late Cov a (after_yes inner yes' t)
after_yes_late inner h yes' t d a at k = elim (chosen_is (next_is Token.If t)) [
  | inl n ↦ rw n (beyond (after_yes_past inner h yes' (past Token.If t) (length a) (past_late every Token.If t d a at (last_every yes'.last d k) refl n)))
  | inr n ↦ rw n (begun (part_of yes'.expr yes'.last (Some Token.If)) (spaces t) d refl (spaces_twice t ∙ at) (by_last k))
]

module _ (atoms : (inner : Option Inner) → IsCut inner → Local Dotted (atom inner)) where
  with_right_cut : (inner : Option Inner) → IsCut inner → (left : Part) (op : Option Op) → Local Behind (with_right inner left op)
  with_right_cut inner k left None c a b = same left c refl refl
  with_right_cut inner k left (Some op) c a b =
      agree_made Signs Behind a b (λ right. ending (Expr.Pair op left.expr right.expr) Last.Compared) (sum inner (c ++ a)) (sum inner (c ++ b)) (λ x d h. any_back (Token.Or ∷ Token.And ∷ []) (Token.Minus ∷ Token.Modulo ∷ []) d h) (sum_cut atoms inner k c a b)

  operator_cut : (inner : Option Inner) → IsCut inner → (left : Part) → IsOperand left → Local Behind (λ t. by_operator inner left (operator comparisons t) t)
  operator_cut inner k left is c a b = elim (sees_rows comparisons c) [
    | no_row s ↦
        let o : Option (Token × Op) = operator comparisons (c ++ a) in
        late (beyond (later (with_right inner left (operator_of o)) (with_right_keeps inner (opens_of inner k) left (operator_of o)) (behind_operator o (c ++ a)) (length a) (omega (arith, behind_le o (c ++ a), ap length (s a), length-spaces a))))
    | row_partly e d s h ↦ late (operator_stage inner (opens_of inner k) left (firsts comparisons) (c ++ a) (e ∷ d) a (s a) h refl (λ none. as_operand left is (e ∷ d) (compare_ahead (c ++ a) e d a (s a) h none)) (operator comparisons (c ++ a)) refl)
    | row_there row u q n' p ↦ rw (q a, q b) (agree_is (ap (with_right inner left (Some row.1)) (p a)) (ap (with_right inner left (Some row.1)) (p b)) (with_right_cut inner k left (Some row.1) u a b))
    | row_other e d s q ↦ rw (q a, q b) (same left (e ∷ d) (ap (λ (z : List ℕ). Ok (left, z)) (s a)) (ap (λ (z : List ℕ). Ok (left, z)) (s b)))
  ]

  compared_cut : (inner : Option Inner) → IsCut inner → (left : Part) → IsOperand left → Local Behind (compared inner left)
  unfolding comparator
  compared_cut inner k left is c a b = elim (looks Token.Not c) [
    | nothing s ↦ late (beyond (all_blank (compared inner left) (compared_skips inner left) (compared_keeps inner (opens_of inner k) left) c a (s a)))
    | partly e d s h ↦ late (compared_late inner (opens_of inner k) left (c ++ a) (e ∷ d) a (s a) (last_every Last.Operand (e ∷ d) (not_every (e ∷ d) h)) (as_operand left is (e ∷ d) (not_every (e ∷ d) h)))
    | there u n p ↦
        let m : Unit {0} → Option Op = λ _. Some Op.Outside in
        rw (n a, n b) (agree_is (ap (λ (z : List ℕ). made m (want Token.In z) >>= λ op. with_right inner left op.0 op.1) (p a)) (ap (λ (z : List ℕ). made m (want Token.In z) >>= λ op. with_right inner left op.0 op.1) (p b))
        (agree_bind Nothing Behind a b (λ op. with_right inner left op.0 op.1) (λ op. with_right inner left op.0 op.1) (made m (want Token.In (u ++ a))) (made m (want Token.In (u ++ b))) (with_right_keeps inner (opens_of inner k) left) (λ x rest d at q. absurd q)
        (λ x d e. with_right_cut inner k left x d a b) (agree_plain Nothing a b m (want Token.In (u ++ a)) (want Token.In (u ++ b)) (want_cut Token.In refl u a b))))
    | other e d s n ↦ rw (n a, n b) (agree_is (ap (λ (z : List ℕ). by_operator inner left (operator comparisons z) z) (s a)) (ap (λ (z : List ℕ). by_operator inner left (operator comparisons z) z) (s b)) (operator_cut inner k left is (e ∷ d) a b))
  ]

  after_sum_cut : (inner : Option Inner) → IsCut inner → (left : Part) → IsOperand left → Local Behind (after_sum inner left)
  after_sum_cut inner k left is c a b = elim (looks Token.Is c) [
    | nothing s ↦ late (beyond (all_blank (after_sum inner left) (after_sum_skips inner left) (after_sum_keeps inner (opens_of inner k) left) c a (s a)))
    | partly e d s h ↦ late (after_sum_late inner (opens_of inner k) left (c ++ a) (e ∷ d) a (s a) (as_operand left is (e ∷ d) (is_every (e ∷ d) h)))
    | there u n p ↦
        let m : Bool → Part = λ holds. ending (Expr.IsNone left.expr holds) Last.Tested in
        rw (n a, n b) (agree_is (ap (λ (z : List ℕ). made m (none_test z)) (p a)) (ap (λ (z : List ℕ). made m (none_test z)) (p b)) (agree_plain Behind a b m (none_test (u ++ a)) (none_test (u ++ b)) (none_test_cut u a b)))
    | other e d s n ↦ rw (n a, n b) (agree_is (ap (compared inner left) (s a)) (ap (compared inner left) (s b)) (compared_cut inner k left is (e ∷ d) a b))
  ]

  comparison_cut : (inner : Option Inner) → IsCut inner → Local Behind (comparison inner)
  unfolding comparison
  comparison_cut inner k c a b =
      agree_from Signs Behind a b (λ left. after_sum inner left.0 left.1) (λ left. after_sum inner left.0 left.1) (sum inner (c ++ a)) (sum inner (c ++ b)) (after_sum_keeps inner (opens_of inner k))
      (λ x rest d e at h. after_sum_late inner (opens_of inner k) x rest d a at (signs_behind x (sum_ends inner (c ++ a) x rest e) d h))
      (λ x d e. after_sum_cut inner k x (sum_ends inner (c ++ a) x (d ++ a) e) d a b) (sum_cut atoms inner k c a b)

  negation_skips : (inner : Inner) → Skips (negation (Some inner))
  unfolding negation
  negation_skips inner t = rw (spaces_twice t) refl

  negation_cut : (inner : Option Inner) → IsCut inner → Local Behind (negation inner)
  unfolding negation
  negation_cut None k c a b = comparison_cut None tt c a b
  negation_cut (Some inner) k c a b =
      let m : Part → Part = λ part. ending (Expr.Not part.expr) part.last in
      elim (looks Token.Not c) [
        | nothing s ↦ late (beyond (all_blank (negation (Some inner)) (negation_skips inner) (negation_keeps (Some inner) k.opens) c a (s a)))
        | partly e d s h ↦ late (beyond (elim (chosen_is (next_is Token.Not (c ++ a))) [
          | inl n ↦ rw n (made_within (length a) m (inner.negation (past Token.Not (c ++ a))) (later inner.negation k.opens.negation (past Token.Not (c ++ a)) (length a) (past_late (Token.Not ∷ []) Token.Not (c ++ a) (e ∷ d) a (s a) (rw h refl) refl n)))
          | inr n ↦
              let is : e ≡ 110 = not_front e d h in
              let at : spaces (c ++ a) ≡ 110 ∷ (d ++ a) = s a ∙ ap (λ (z : ℕ). z ∷ (d ++ a)) is in
              let word : skip_word ((110 ∷ d) ++ a) ≡ skip_word a = word_front Token.Not (text_of Token.Not) (110 ∷ d) a refl (subst (λ (z : ℕ). is_ahead Token.Not (z ∷ d) ≡ true) is h) in
              rw (n, at) (comparison_word inner k.opens d a word)
        ]))
        | there u n p ↦ rw (n a, n b) (agree_is (ap (λ (z : List ℕ). made m (inner.negation z)) (p a)) (ap (λ (z : List ℕ). made m (inner.negation z)) (p b))
            (agree_made Behind Behind a b m (inner.negation (u ++ a)) (inner.negation (u ++ b)) (λ x d q. q) (k.negation u a b)))
        | other e d s n ↦ rw (n a, n b) (agree_is (ap (comparison (Some inner)) (s a)) (ap (comparison (Some inner)) (s b)) (comparison_cut (Some inner) k (e ∷ d) a b))
      ]

  conjunction_cut : (inner : Option Inner) → IsCut inner → Local Behind (conjunction inner)
  unfolding conjunction
  conjunction_cut inner k = chain_cut Behind (λ op left right d h. h) behind_every (operators Level.And) (negation inner) (negation_keeps inner (opens_of inner k)) (negation_cut inner k) refl refl (λ left t e d a at h none. in_and left.last (e ∷ d) h)

  disjunction_cut : (inner : Option Inner) → IsCut inner → Local Behind (disjunction inner)
  unfolding disjunction
  disjunction_cut inner k = chain_cut Behind (λ op left right d h. h) behind_every (operators Level.Or) (conjunction inner) (conjunction_keeps inner (opens_of inner k)) (conjunction_cut inner k) refl refl (λ left t e d a at h none. in_or left.last (e ∷ d) h)

  after_yes_cut : (inner : Option Inner) → IsCut inner → (yes' : Part) → Local Cov (after_yes inner yes')
  after_yes_cut inner k yes' c a b =
      let plain : Part = part_of yes'.expr yes'.last (Some Token.If) in
      elim (looks Token.If c) [
        | nothing s ↦ late (beyond (all_blank (after_yes inner yes') (after_yes_skips inner yes') (after_yes_keeps inner (opens_of inner k) yes') c a (s a)))
        | partly e d s h ↦ late (elim (chosen_is (next_is Token.If (c ++ a))) [
          | inl n ↦ rw n (beyond (after_yes_past inner (opens_of inner k) yes' (past Token.If (c ++ a)) (length a) (past_late (Token.If ∷ []) Token.If (c ++ a) (e ∷ d) a (s a) (rw h refl) refl n)))
          | inr n ↦ rw n (begun plain (spaces (c ++ a)) (e ∷ d) refl (spaces_twice (c ++ a) ∙ s a) (by_if refl (rw h refl)))
        ])
        | there u n p ↦
            let after : Part × List ℕ → Read Part = λ test'. with_else inner yes' test'.0 test'.1 in
            rw (n a, n b) (agree_is (ap (λ (z : List ℕ). disjunction inner z >>= after) (p a)) (ap (λ (z : List ℕ). disjunction inner z >>= after) (p b))
            (agree_bind Behind Cov a b after after (disjunction inner (u ++ a)) (disjunction inner (u ++ b)) (with_else_keeps inner (opens_of inner k) yes') (λ x rest d at q. with_else_late inner (opens_of inner k) yes' x rest d a at q)
            (λ x d e. with_else_cut inner k yes' x d a b) (disjunction_cut inner k u a b)))
        | other e d s n ↦ rw (n a, n b) (same plain (e ∷ d) (ap (λ (z : List ℕ). Ok (plain, z)) (s a)) (ap (λ (z : List ℕ). Ok (plain, z)) (s b)))
      ]

  pub expression_cut : (inner : Option Inner) → IsCut inner → Local Cov (expression inner)
  unfolding expression
  expression_cut inner k c a b =
      agree_bind Behind Cov a b (λ yes'. after_yes inner yes'.0 yes'.1) (λ yes'. after_yes inner yes'.0 yes'.1) (disjunction inner (c ++ a)) (disjunction inner (c ++ b)) (after_yes_keeps inner (opens_of inner k))
      (λ x rest d at q. after_yes_late inner (opens_of inner k) x rest d a at q) (λ x d e. after_yes_cut inner k x d a b) (disjunction_cut inner k c a b)

  inside_cut : (inner : Option Inner) → IsCut inner → Cuts (inside inner)
  inside_cut inner k = record { opens = inside_opens inner (opens_of inner k); expression = expression_cut inner k; negation = negation_cut inner k; signed = signed_cut atoms inner k }

  -- at any depth
  pub opened_cut : (depth : ℕ) → IsCut (opened depth)
  unfolding opened
  opened_cut zero = tt
  opened_cut (suc depth) = inside_cut (opened depth) (opened_cut depth)
