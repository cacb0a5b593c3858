-- Arguments, brackets and atoms on two texts that begin alike.
use Rattle.std.proofs.Common.{◌≡◌, ℕ, zero, suc, ◌+◌, ◌-◌, ◌≤◌, ◌<◌, Bool, true, false, cond, inl, inr, List, [], ◌∷◌, ◌++◌, length, Option, Some, None, Ok, refl, sym, ap, subst, arith, length-append}
use Rattle.std.specs.Prelude.{◌==◌, ◌||◌, ◌&&◌, max, nat_le}
use Rattle.std.specs.Char.{is_ascii_digit}
use Rattle.std.proofs.Math.ListN.{length-drop}
use Rattle.ha_value.specs.declared.value.Value.{Value}
use Rattle.ha_config.specs.declared.template.Expr.{Expr}
use Rattle.ha_config.specs.declared.template.Expr
use Rattle.reading.specs.Answer.{made}
use Rattle.reading.proofs.Basics.{chosen_is}
use Rattle.tpl_parse.specs.declared.token.Token.{Token}
use Rattle.tpl_parse.specs.declared.table.Counts.{Counts}
use Rattle.tpl_parse.specs.declared.table.Function.{Function}
use Rattle.tpl_parse.specs.declared.expression.Last.{Last}
use Rattle.tpl_parse.specs.declared.expression.Part.{Part}
use Rattle.tpl_parse.specs.Token.{Reads, begins_name, is_reserved, spaces, next_is, past, behind, reach, text_of}
use Rattle.tpl_parse.specs.Names.{any_from, function_named, function_row, takes_behind}
use Rattle.tpl_parse.specs.Literal.{number, string, skip_word, word}
use Rattle.tpl_parse.specs.Reading.{Inner, Start, numeric, quoted, bracket, group, letter, nothing as no_start, after_item, arguments, atom, atom_by, by_word, call_or_name, constant, enclosed, in_group, item_turns, items_in, no_end, not_called, open_reach, choice_reach, start_of, tokens_behind, word_atom}
use Rattle.tpl_parse.proofs.Tokens.{spaces_twice}
use Rattle.tpl_parse.proofs.Next.{past_shorter}
use Rattle.tpl_parse.proofs.Shorter.{Read, Within, Keeps, Opens, IsOpen, later, length-spaces, after_item_keeps, item_turns_keeps, arguments_keeps, call_or_name_keeps, by_word_keeps, atom_keeps, closes_keeps, commas_keeps, no_longer_than}
use Rattle.tpl_parse.proofs.Ahead.{grows, ahead, is_ahead, any_ahead, all_clear, reaches}
use Rattle.tpl_parse.proofs.Cut.{Nothing, beyond, begun, Agree, same, fails, late, Local, Skips, Sharp, agree_is, agree_bind, agree_made, agree_plain, blank, shown, split, all_blank, nothing, partly, there, other, looks, past_late}
use Rattle.tpl_parse.proofs.CutLexical.{ended, runs, runs_of, word_is, run_late, string_cut}

pub agree_any : {A : Type 0} (D : A → List ℕ → Type 0) (a b : List ℕ) (r s : Read A) → Agree Nothing a b r s → Agree D a b r s
agree_any D a b r s (same x d e f) = same x d e f
agree_any D a b r s (fails f e) = fails f e
agree_any D a b r s (late (beyond w)) = late (beyond w)
agree_any D a b r s (late (begun x rest d e at k)) = absurd k

-- ---- tokens of one byte

one_byte : (token : Token) → grows token ≡ false → (d : List ℕ) → ahead token [] d ≡ false
one_byte token g [] = g
one_byte token g (y ∷ d) = refl

pub sharp_of : (token : Token) (x : ℕ) → text_of token ≡ x ∷ [] → grows token ≡ false → Sharp token
sharp_of token x t g e d = rw t (elim (chosen_is (x == e)) [ inl h ↦ rw h (one_byte token g d) | inr h ↦ rw h refl ])

pub not_sharp : {X : Type 0} (token : Token) → Sharp token → (e : ℕ) (d : List ℕ) → is_ahead token (e ∷ d) ≡ true → X
not_sharp token sharp e d h = absurd (let k = sharp e d in cc)

-- ---- what may go on behind an expression

abbrev pub every : List Token
every = Token.Or ∷ Token.And ∷ Token.Minus ∷ Token.Modulo ∷ Token.Equal ∷ Token.Unequal ∷ Token.Is ∷ Token.In ∷ Token.Not ∷ Token.If ∷ Token.Else ∷ []

pub any_front : (xs ys : List Token) (d : List ℕ) → any_ahead xs d ≡ true → any_ahead (xs ++ ys) d ≡ true
any_front [] ys d h = absurd cc
any_front (x ∷ xs) ys d h = elim (chosen_is (is_ahead x d)) [ inl k ↦ rw k refl | inr k ↦ rw k (any_front xs ys d (rw k at h)) ]

pub any_back : (xs ys : List Token) (d : List ℕ) → any_ahead ys d ≡ true → any_ahead (xs ++ ys) d ≡ true
any_back [] ys d h = h
any_back (x ∷ xs) ys d h = elim (chosen_is (is_ahead x d)) [ inl k ↦ rw k refl | inr k ↦ rw k (any_back xs ys d h) ]

pub data Cov (part : Part) (d : List ℕ) : Type 0 where
  by_last : any_ahead (tokens_behind part.last) d ≡ true → Cov part d
  by_if : part.choice ≡ Some Token.If → any_ahead (Token.If ∷ []) d ≡ true → Cov part d
  by_else : part.choice ≡ Some Token.Else → any_ahead (Token.Else ∷ []) d ≡ true → Cov part d

pub last_every : (last : Last) (d : List ℕ) → any_ahead (tokens_behind last) d ≡ true → any_ahead every d ≡ true
last_every Last.Operand d h = any_front (tokens_behind Last.Operand) (Token.If ∷ Token.Else ∷ []) d h
last_every Last.Compared d h = any_front (tokens_behind Last.Compared) (Token.Equal ∷ Token.Unequal ∷ Token.Is ∷ Token.In ∷ Token.Not ∷ Token.If ∷ Token.Else ∷ []) d h
last_every Last.Tested d h = any_front (tokens_behind Last.Tested) (Token.Minus ∷ Token.Modulo ∷ Token.Equal ∷ Token.Unequal ∷ Token.Is ∷ Token.In ∷ Token.Not ∷ Token.If ∷ Token.Else ∷ []) d h

pub cov_every : (part : Part) (d : List ℕ) → Cov part d → any_ahead every d ≡ true
cov_every part d (by_last h) = last_every part.last d h
cov_every part d (by_if e h) = any_back (tokens_behind Last.Operand) (Token.If ∷ Token.Else ∷ []) d (any_front (Token.If ∷ []) (Token.Else ∷ []) d h)
cov_every part d (by_else e h) = any_back (tokens_behind Last.Operand) (Token.If ∷ Token.Else ∷ []) d (any_back (Token.If ∷ []) (Token.Else ∷ []) d h)

cov_reaches : (part : Part) (d a : List ℕ) → Cov part d → length d ≤ open_reach part.last part.choice (d ++ a)
cov_reaches part d a (by_last h) = omega (arith, reaches (tokens_behind part.last) d a h)
cov_reaches part d a (by_if e h) =
    let is : choice_reach part.choice (d ++ a) ≡ reach (Token.If ∷ []) (d ++ a) = ap (λ (o : Option Token). choice_reach o (d ++ a)) e in
    omega (arith, is, reaches (Token.If ∷ []) d a h)
cov_reaches part d a (by_else e h) =
    let is : choice_reach part.choice (d ++ a) ≡ reach (Token.Else ∷ []) (d ++ a) = ap (λ (o : Option Token). choice_reach o (d ++ a)) e in
    omega (arith, is, reaches (Token.Else ∷ []) d a h)

pub no_end_late : (A : Type 0) (part : Part) (tokens : List Token) (t d a : List ℕ) → spaces t ≡ d ++ a → Cov part d → Within (length a) (no_end {A = A} part.last part.choice tokens (spaces t))
no_end_late A part tokens t d a at k =
    let far : length d ≤ open_reach part.last part.choice (spaces t) = subst (λ (u : List ℕ). length d ≤ open_reach part.last part.choice u) (sym at) (cov_reaches part d a k) in
    omega (arith, length-drop (max (open_reach part.last part.choice (spaces t)) (reach tokens (spaces t))) (spaces t), ap length at, length-append d a, far)

-- ---- what may be opened

pub record Cuts (inner : Inner) : Type 0 where
  pub opens : Opens inner
  pub expression : Local Cov inner.expression
  pub negation : Local (λ (part : Part) d. any_ahead (tokens_behind part.last) d ≡ true) inner.negation
  pub signed : Local Nothing inner.signed

abbrev pub IsCut : Option Inner → Type 0
IsCut None = Unit {0}
IsCut (Some inner) = Cuts inner

pub opens_of : (inner : Option Inner) → IsCut inner → IsOpen inner
opens_of None k = tt
opens_of (Some inner) k = k.opens

-- ---- an expression and its bracket

abbrev closes : Token → Part → Reads Expr
closes close part t = cond (next_is close t) (Ok (part.expr, behind close t)) (no_end part.last part.choice (close ∷ []) (spaces t))

closes_skips : (close : Token) (part : Part) → Skips (closes close part)
closes_skips close part t = rw (spaces_twice t) refl

closes_cut : (close : Token) → Sharp close → (part : Part) → Local Nothing (closes close part)
closes_cut close sharp part c a b = elim (looks close c) [
  | nothing s ↦ late (beyond (all_blank (closes close part) (closes_skips close part) (closes_keeps close part) c a (s a)))
  | partly e d s h ↦ not_sharp close sharp e d h
  | there u n p ↦ rw (n a, n b) (same part.expr u (ap (λ (z : List ℕ). Ok (part.expr, z)) (p a)) (ap (λ (z : List ℕ). Ok (part.expr, z)) (p b)))
  | other e d s n ↦ rw (n b) (fails _ refl)
]

closes_late : (close : Token) → all_clear every close ≡ true → (part : Part) (t d a : List ℕ) → spaces t ≡ d ++ a → Cov part d → Within (length a) (closes close part t)
closes_late close clear part t d a at k = elim (chosen_is (next_is close t)) [
  | inl b ↦ rw b (past_late every close t d a at (cov_every part d k) clear b)
  | inr b ↦ rw b (no_end_late Expr part (close ∷ []) t d a at k)
]

pub enclosed_cut : (inner : Inner) → Cuts inner → (close : Token) → Sharp close → all_clear every close ≡ true → Local Nothing (enclosed inner close)
unfolding enclosed
enclosed_cut inner k close sharp clear c a b =
    agree_bind Cov Nothing a b (λ x. closes close x.0 x.1) (λ x. closes close x.0 x.1) (inner.expression (c ++ a)) (inner.expression (c ++ b))
    (closes_keeps close) (λ x rest d at cov. beyond (closes_late close clear x rest d a at cov)) (λ x d is. closes_cut close sharp x d a b) (k.expression c a b)

-- ---- arguments

abbrev More : Type 0
More = List Expr → Reads (List Expr)

abbrev commas : Counts → More → List Expr → Part → Reads (List Expr)
commas counts more items part t = cond (takes_behind counts.most (length items) && next_is Token.Comma t) (more items (behind Token.Comma t)) (no_end part.last part.choice [] (spaces t))

commas_skips : (counts : Counts) (more : More) (items : List Expr) (part : Part) → Skips (commas counts more items part)
commas_skips counts more items part t = rw (spaces_twice t) refl

pub sooner : (token : Token) (c u a : List ℕ) → next_is token (c ++ a) ≡ true → past token (c ++ a) ≡ u ++ a → length (u ++ a) < length (c ++ a)
sooner token c u a n p = omega (arith, ap length p, past_shorter token (c ++ a) n, length-spaces (c ++ a))

commas_cut : (counts : Counts) (more more' : More) (items : List Expr) (part : Part) → Keeps (more items) → (c a b : List ℕ)
    → ((u : List ℕ) → length (u ++ a) < length (c ++ a) → Agree Nothing a b (more items (u ++ a)) (more' items (u ++ b)))
    → Agree Nothing a b (commas counts more items part (c ++ a)) (commas counts more' items part (c ++ b))
commas_cut counts more more' items part h c a b on = elim (chosen_is (takes_behind counts.most (length items))) [
  | inr t ↦ rw t (fails _ refl)
  | inl t ↦ elim (looks Token.Comma c) [
    | nothing s ↦ late (beyond (all_blank (commas counts more items part) (commas_skips counts more items part) (commas_keeps counts more items part h) c a (s a)))
    | partly e d s k ↦ not_sharp Token.Comma (sharp_of Token.Comma 44 refl refl) e d k
    | there u n p ↦ rw (t, n a, n b) (agree_is (ap (more items) (p a)) (ap (more' items) (p b)) (on u (sooner Token.Comma c u a (n a) (p a))))
    | other e d s n ↦ rw (t, n b) (fails _ refl)
  ]
]

commas_late : (counts : Counts) (more : More) (items : List Expr) (part : Part) → Keeps (more items) → (t d a : List ℕ) → spaces t ≡ d ++ a → Cov part d → Within (length a) (commas counts more items part t)
commas_late counts more items part h t d a at k = elim (chosen_is (takes_behind counts.most (length items))) [
  | inr f ↦ rw f (no_end_late (List Expr) part [] t d a at k)
  | inl f ↦ elim (chosen_is (next_is Token.Comma t)) [
    | inl n ↦ rw (f, n) (later (more items) h (past Token.Comma t) (length a) (past_late every Token.Comma t d a at (cov_every part d k) refl n))
    | inr n ↦ rw (f, n) (no_end_late (List Expr) part [] t d a at k)
  ]
]

after_item_skips : (close : Token) (counts : Counts) (more : More) (items : List Expr) (part : Part) → Skips (after_item close counts more items part)
after_item_skips close counts more items part t = rw (spaces_twice t) refl

after_item_cut : (close : Token) → Sharp close → (counts : Counts) (more more' : More) (items : List Expr) (part : Part) → Keeps (more items) → (c a b : List ℕ)
    → ((u : List ℕ) → length (u ++ a) < length (c ++ a) → Agree Nothing a b (more items (u ++ a)) (more' items (u ++ b)))
    → Agree Nothing a b (after_item close counts more items part (c ++ a)) (after_item close counts more' items part (c ++ b))
after_item_cut close sharp counts more more' items part h c a b on = elim (chosen_is (nat_le counts.least (length items))) [
  | inr t ↦ rw t (commas_cut counts more more' items part h c a b on)
  | inl t ↦ elim (looks close c) [
    | nothing s ↦ late (beyond (all_blank (after_item close counts more items part) (after_item_skips close counts more items part) (after_item_keeps close counts more items part h) c a (s a)))
    | partly e d s k ↦ not_sharp close sharp e d k
    | there u n p ↦ rw (t, n a, n b) (same items u (ap (λ (z : List ℕ). Ok (items, z)) (p a)) (ap (λ (z : List ℕ). Ok (items, z)) (p b)))
    | other e d s n ↦ rw (t, n a, n b) (commas_cut counts more more' items part h c a b on)
  ]
]

after_item_late : (close : Token) → all_clear every close ≡ true → (counts : Counts) (more : More) (items : List Expr) (part : Part) → Keeps (more items) → (t d a : List ℕ) → spaces t ≡ d ++ a → Cov part d
    → Within (length a) (after_item close counts more items part t)
after_item_late close clear counts more items part h t d a at k = elim (chosen_is (nat_le counts.least (length items))) [
  | inr f ↦ rw f (commas_late counts more items part h t d a at k)
  | inl f ↦ elim (chosen_is (next_is close t)) [
    | inl n ↦ rw (f, n) (past_late every close t d a at (cov_every part d k) clear n)
    | inr n ↦ rw (f, n) (commas_late counts more items part h t d a at k)
  ]
]

item_turns_cut : (n m : ℕ) (expression : Reads Part) → Keeps expression → Local Cov expression → (close : Token) → Sharp close → all_clear every close ≡ true → (counts : Counts) (found : List Expr) (c a b : List ℕ) → length (c ++ a) < n
    → Agree Nothing a b (item_turns n expression close counts found (c ++ a)) (item_turns m expression close counts found (c ++ b))
unfolding item_turns
item_turns_cut zero m expression h k close sharp clear counts found c a b lt = absurd (omega arith)
item_turns_cut (suc n) zero expression h k close sharp clear counts found c a b lt = fails _ refl
item_turns_cut (suc n) (suc m) expression h k close sharp clear counts found c a b lt =
    agree_bind Cov Nothing a b (λ part. after_item close counts (item_turns n expression close counts) (found ++ part.0.expr ∷ []) part.0 part.1)
    (λ part. after_item close counts (item_turns m expression close counts) (found ++ part.0.expr ∷ []) part.0 part.1) (expression (c ++ a)) (expression (c ++ b))
    (λ x. after_item_keeps close counts (item_turns n expression close counts) (found ++ x.expr ∷ []) x (item_turns_keeps n expression h close counts (found ++ x.expr ∷ [])))
    (λ x rest d at cov. beyond (after_item_late close clear counts (item_turns n expression close counts) (found ++ x.expr ∷ []) x (item_turns_keeps n expression h close counts (found ++ x.expr ∷ [])) rest d a at cov))
    (λ x d is.
    let le = no_longer_than expression h (c ++ a) x (d ++ a) is in
    after_item_cut close sharp counts (item_turns n expression close counts) (item_turns m expression close counts) (found ++ x.expr ∷ []) x (item_turns_keeps n expression h close counts (found ++ x.expr ∷ [])) d a b
    (λ u less. item_turns_cut n m expression h k close sharp clear counts (found ++ x.expr ∷ []) u a b (omega (arith, less, le, lt))))
    (k c a b)

items_in_cut : (inner : Option Inner) → IsCut inner → (close : Token) → Sharp close → all_clear every close ≡ true → (counts : Counts) → Local Nothing (items_in inner close counts)
items_in_cut None k close sharp clear counts c a b = fails _ refl
items_in_cut (Some inner) k close sharp clear counts c a b = elim (chosen_is (takes_behind counts.most 0)) [
  | inl t ↦ rw t (item_turns_cut (suc (length (c ++ a))) (suc (length (c ++ b))) inner.expression k.opens.expression k.expression close sharp clear counts [] c a b (omega arith))
  | inr t ↦ rw t (fails _ refl)
]

arguments_skips : (inner : Option Inner) (close : Token) (counts : Counts) → Skips (arguments inner close counts)
unfolding arguments
arguments_skips inner close counts t = rw (spaces_twice t) refl

pub arguments_cut : (inner : Option Inner) → IsCut inner → (close : Token) → Sharp close → all_clear every close ≡ true → (counts : Counts) → Local Nothing (arguments inner close counts)
unfolding arguments
arguments_cut inner k close sharp clear counts c a b = elim (split c) [
  | blank s ↦ late (beyond (all_blank (arguments inner close counts) (arguments_skips inner close counts) (arguments_keeps inner (opens_of inner k) close counts) c a (s a)))
  | shown e d s ↦ elim (chosen_is (counts.least == 0)) [
    | inr t ↦ rw (t, s a, s b) (items_in_cut inner k close sharp clear counts (e ∷ d) a b)
    | inl t ↦ elim (looks close c) [
      | nothing s' ↦ late (beyond (all_blank (arguments inner close counts) (arguments_skips inner close counts) (arguments_keeps inner (opens_of inner k) close counts) c a (s' a)))
      | partly e' d' s' h ↦ not_sharp close sharp e' d' h
      | there u n p ↦ rw (t, n a, n b) (same [] u (ap (λ (z : List ℕ). Ok ([], z)) (p a)) (ap (λ (z : List ℕ). Ok ([], z)) (p b)))
      | other e' d' s' n ↦ rw (t, n a, n b) (agree_is (ap (items_in inner close counts) (s a)) (ap (items_in inner close counts) (s b)) (items_in_cut inner k close sharp clear counts (e ∷ d) a b))
    ]
  ]
]

-- ---- atoms

not_called_cut : (function : Function) (name : List ℕ) → Local Nothing (not_called function name)
not_called_cut Function.States name c a b = fails _ refl
not_called_cut _ name c a b = same (Expr.Name name) c refl refl

call_skips : (function : Function) (inner : Inner) (name : List ℕ) → Skips (call_or_name (Some function) (Some inner) name)
call_skips function inner name t = rw (spaces_twice t) refl

call_cut : (function : Option Function) (inner : Option Inner) → IsCut inner → (name : List ℕ) → Local Nothing (call_or_name function inner name)
call_cut None inner k name c a b = same (Expr.Name name) c refl refl
call_cut (Some function) None k name c a b = not_called_cut function name c a b
call_cut (Some function) (Some inner) k name c a b = elim (looks Token.OpenGroup c) [
  | nothing s ↦ late (beyond (all_blank (call_or_name (Some function) (Some inner) name) (call_skips function inner name) (call_or_name_keeps (Some function) (Some inner) k.opens name) c a (s a)))
  | partly e d s h ↦ not_sharp Token.OpenGroup (sharp_of Token.OpenGroup 40 refl refl) e d h
  | there u n p ↦
      let rule : Reads (List Expr) = arguments (Some inner) Token.CloseGroup (function_row function).counts in
      rw (n a, n b) (agree_is (ap (λ (z : List ℕ). made (Expr.Function (function_row function).number) (rule z)) (p a)) (ap (λ (z : List ℕ). made (Expr.Function (function_row function).number) (rule z)) (p b))
      (agree_plain Nothing a b (Expr.Function (function_row function).number) (rule (u ++ a)) (rule (u ++ b)) (arguments_cut (Some inner) k Token.CloseGroup (sharp_of Token.CloseGroup 41 refl refl) refl (function_row function).counts u a b)))
  | other e d s n ↦ rw (n a, n b) (agree_is (ap (not_called function name) (s a)) (ap (not_called function name) (s b)) (not_called_cut function name (e ∷ d) a b))
]

by_word_cut : (value : Option Value) (inner : Option Inner) → IsCut inner → (name : List ℕ) → Local Nothing (by_word value inner name)
by_word_cut (Some value) inner k name c a b = same (Expr.Plain value) c refl refl
by_word_cut None inner k name c a b = elim (chosen_is (is_reserved name)) [ inl h ↦ rw h (fails _ refl) | inr h ↦ rw h (call_cut (function_named name) inner k name c a b) ]

-- a word that was begun
pub word_late : (inner : Option Inner) → IsOpen inner → (c a : List ℕ) → skip_word (c ++ a) ≡ skip_word a → Within (length a) (word_atom inner (c ++ a))
unfolding word_atom
word_late inner h c a s = later (by_word (constant (word (c ++ a))) inner (word (c ++ a))) (by_word_keeps (constant (word (c ++ a))) inner h (word (c ++ a))) (skip_word (c ++ a)) (length a) (run_late c a s)

word_atom_cut : (inner : Option Inner) → IsCut inner → Local Nothing (word_atom inner)
unfolding word_atom
word_atom_cut inner k c a b = elim (runs_of c) [
  | ended w v p s ↦ rw (word_is c w v a p (s a), word_is c w v b p (s b), s a, s b) (by_word_cut (constant w) inner k w v a b)
  | runs s ↦ late (beyond (word_late inner (opens_of inner k) c a (s a)))
]

in_group_cut : (inner : Option Inner) → IsCut inner → (e : ℕ) (c a b : List ℕ) → Agree Nothing a b (in_group inner (e ∷ c ++ a)) (in_group inner (e ∷ c ++ b))
in_group_cut None k e c a b = fails _ refl
in_group_cut (Some inner) k e c a b = enclosed_cut inner k Token.CloseGroup (sharp_of Token.CloseGroup 41 refl refl) refl c a b

-- a dot was read that may be the number's
abbrev pub Dotted : {A : Type 0} → A → List ℕ → Type 0
Dotted x d = d ≡ 46 ∷ []

abbrev is_numeric : Start → Bool
is_numeric numeric = true
is_numeric _ = false

no_digit : (p q r s : Bool) (e : ℕ) → is_numeric (cond p (quoted e) (cond q bracket (cond r group (cond s letter no_start)))) ≡ false
no_digit true q r s e = refl
no_digit false true r s e = refl
no_digit false false true s e = refl
no_digit false false false true e = refl
no_digit false false false false e = refl

digit_at : (e : ℕ) → start_of (Some e) ≡ numeric → is_ascii_digit e ≡ true
digit_at e h = elim (chosen_is (is_ascii_digit e)) [
  | inl k ↦ k
  | inr k ↦ absurd (let w : is_numeric (start_of (Some e)) ≡ true = ap is_numeric h in let v = rw k at w in let u = no_digit (e == 34 || e == 39) (e == 91) (e == 40) (begins_name e) e in cc)
]

atom_skips : (inner : Option Inner) → Skips (atom inner)
unfolding atom
atom_skips inner t = rw (spaces_twice t) refl

module _ (number_cut : (e : ℕ) (c a b : List ℕ) → is_ascii_digit e ≡ true → Agree Dotted a b (number (e ∷ c ++ a)) (number (e ∷ c ++ b))) where
  atom_by_cut : (start : Start) (inner : Option Inner) → IsCut inner → (e : ℕ) → start_of (Some e) ≡ start → (c a b : List ℕ) → Agree Dotted a b (atom_by start inner (e ∷ c ++ a)) (atom_by start inner (e ∷ c ++ b))
  atom_by_cut numeric inner k e h c a b = agree_made Dotted Dotted a b (λ n. Expr.Plain (Value.Number n)) (number (e ∷ c ++ a)) (number (e ∷ c ++ b)) (λ x d p. p) (number_cut e c a b (digit_at e h))
  atom_by_cut (quoted quote) inner k e h c a b = agree_plain Dotted a b (λ t. Expr.Plain (Value.Text t)) (string quote (c ++ a)) (string quote (c ++ b)) (string_cut quote c a b)
  atom_by_cut bracket inner k e h c a b =
      let rule : Reads (List Expr) = arguments inner Token.CloseList (any_from 0) in
      agree_plain Dotted a b Expr.List (rule (c ++ a)) (rule (c ++ b)) (arguments_cut inner k Token.CloseList (sharp_of Token.CloseList 93 refl refl) refl (any_from 0) c a b)
  atom_by_cut group inner k e h c a b = agree_any Dotted a b (in_group inner (e ∷ c ++ a)) (in_group inner (e ∷ c ++ b)) (in_group_cut inner k e c a b)
  atom_by_cut letter inner k e h c a b = agree_any Dotted a b (word_atom inner (e ∷ c ++ a)) (word_atom inner (e ∷ c ++ b)) (word_atom_cut inner k (e ∷ c) a b)
  atom_by_cut no_start inner k e h c a b = fails _ refl

  pub atom_cut : (inner : Option Inner) → IsCut inner → Local Dotted (atom inner)
  unfolding atom
  atom_cut inner k c a b = elim (split c) [
    | blank s ↦ late (beyond (all_blank (atom inner) (atom_skips inner) (atom_keeps inner (opens_of inner k)) c a (s a)))
    | shown e d s ↦ rw (s a, s b) (atom_by_cut (start_of (Some e)) inner k e refl d a b)
  ]
