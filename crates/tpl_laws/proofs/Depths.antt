-- What may follow an expression, and what is between brackets.
use Rattle.std.proofs.Common.{◌≡◌, ℕ, zero, suc, ◌+◌, ◌-◌, ◌≤◌, Bool, true, false, cond, ◌⊎◌, inl, inr, List, [], ◌∷◌, ◌++◌, length, drop, Option, Some, None, Ok, refl, sym, ap, ◌∙◌, subst, arith, append_assoc, length-append}
use Rattle.std.specs.Prelude.{◌==◌, ◌&&◌, max, nat_le}
use Rattle.std.proofs.lemmas.Bool.{and_parts, cases_lt, eqb-true, le-leb, leb-true}
use Rattle.ha_value.specs.declared.value.Value.{Value}
use Rattle.ha_config.specs.declared.template.Expr.{Expr}
use Rattle.reading.proofs.Basics.{chosen_is}
use Rattle.tpl_parse.specs.declared.token.Token.{Token}
use Rattle.tpl_parse.specs.declared.table.Filter.{Filter}
use Rattle.tpl_parse.specs.declared.table.Function.{Function}
use Rattle.tpl_parse.specs.declared.expression.Last.{Last}
use Rattle.tpl_parse.specs.declared.expression.Level.{Level}
use Rattle.tpl_parse.specs.declared.expression.Part.{Part}
use Rattle.ha_value.specs.Truth.{is_blank_or_break}
use Rattle.tpl_parse.specs.Token.{Reads, spaces, next_is, past, behind, reach, text_of}
use Rattle.tpl_parse.specs.Names.{filter_row, function_row, takes_behind}
use Rattle.tpl_parse.specs.Reading.{Inner, choice_reach, enclosed, no_end, open_reach, tokens_behind}
use Rattle.tpl_parse.specs.Grammar.{Takes, Holder, of_list, of_call, of_filter, closing, counts_of, made_of, is_within, allows, Phrase, an_expression, a_negation, with_filters, with_sign, with_parts, an_atom, operands, operand_of, in_brackets, more_items, Is, chosen, chain, no_operand, compared, alone, filtered, no_filter, unsigned, asked, no_part, of_string, some_items, last_item, one_item, close}
use Rattle.tpl_parse.proofs.Next.{Alike, spaces_within}
use Rattle.tpl_laws.proofs.Likes.{Like}
use Rattle.tpl_laws.proofs.Outcomes.{Still, tail_of, Grown, Out, like_put, out_bind, open_then}
use Rattle.tpl_laws.proofs.Tokens.{begun_solid, token_begun, solid_at, takes_at, took_token, Spaced, bare, spaced, Nearest, nearest, greater, Every, reach_nearest, blank_gone, word_open}

-- ---- the tokens that may follow

pub data AtProduct : Token → Type 0 where
  a_modulo : AtProduct Token.Modulo

pub data AtSum : Token → Type 0 where
  by_product : {token : Token} → AtProduct token → AtSum token
  a_minus : AtSum Token.Minus

pub data AtComparison : Last → Token → Type 0 where
  by_sum : {token : Token} → AtSum token → AtComparison Last.Operand token
  by_right : {token : Token} → AtSum token → AtComparison Last.Compared token
  an_equal : AtComparison Last.Operand Token.Equal
  an_unequal : AtComparison Last.Operand Token.Unequal
  an_is : AtComparison Last.Operand Token.Is
  an_in : AtComparison Last.Operand Token.In
  a_not : AtComparison Last.Operand Token.Not

pub data AtAnd : Last → Token → Type 0 where
  by_comparison : {last : Last} {token : Token} → AtComparison last token → AtAnd last token
  an_and : {last : Last} → AtAnd last Token.And

pub data AtOr : Last → Token → Type 0 where
  by_conjunction : {last : Last} {token : Token} → AtAnd last token → AtOr last token
  an_or : {last : Last} → AtOr last Token.Or

pub data AtEnd (x : Part) : Token → Type 0 where
  by_last : {token : Token} → AtOr x.last token → AtEnd x token
  by_choice : {token : Token} → x.choice ≡ Some token → AtEnd x token

compares : {last : Last} {token : Token} → AtComparison last token → AtOr last token
compares k = by_conjunction (by_comparison k)

every_behind : (last : Last) → Every (AtOr last) (tokens_behind last)
every_behind Last.Operand =
    (an_or, (by_conjunction an_and, (compares (by_sum a_minus), (compares (by_sum (by_product a_modulo)), (compares an_equal, (compares an_unequal, (compares an_is, (compares an_in, (compares a_not, tt)))))))))
every_behind Last.Compared = (an_or, (by_conjunction an_and, (compares (by_right a_minus), (compares (by_right (by_product a_modulo)), tt))))
every_behind Last.Tested = (an_or, (by_conjunction an_and, tt))

last_nearest : (last : Last) (P : Token → Type 0) (s : List ℕ) → ((token : Token) → AtOr last token → P token) → Nearest text_of P s (reach (tokens_behind last) s)
last_nearest last P s put = by last (every_behind last) put where
  each : (L P' : Token → Type 0) (tokens : List Token) → ((token : Token) → L token → P' token) → Every L tokens → Every P' tokens
  each L P' [] put' e = tt
  each L P' (token ∷ tokens) put' e = (put' token e.0, each L P' tokens put' e.1)

  by : (l : Last) → Every (AtOr l) (tokens_behind l) → ((token : Token) → AtOr l token → P token) → Nearest text_of P s (reach (tokens_behind l) s)
  by Last.Operand e put' = reach_nearest P s Token.Or (drop 1 (tokens_behind Last.Operand)) (each (AtOr Last.Operand) P (tokens_behind Last.Operand) put' e)
  by Last.Compared e put' = reach_nearest P s Token.Or (drop 1 (tokens_behind Last.Compared)) (each (AtOr Last.Compared) P (tokens_behind Last.Compared) put' e)
  by Last.Tested e put' = reach_nearest P s Token.Or (drop 1 (tokens_behind Last.Tested)) (each (AtOr Last.Tested) P (tokens_behind Last.Tested) put' e)

pub none_farther : (P : Token → Type 0) (s : List ℕ) (n : ℕ) → Nearest text_of P s n → Nearest text_of P s (max n 0)
none_farther P s n (nearest i p e) = nearest i p (omega (arith, e))

pub end_nearest : (x : Part) (s : List ℕ) → Nearest text_of (AtEnd x) s (open_reach x.last x.choice s)
end_nearest x s = by x.choice refl where
  first : Nearest text_of (AtEnd x) s (reach (tokens_behind x.last) s)
  first = last_nearest x.last (AtEnd x) s (λ token k. by_last k)

  by : (c : Option Token) → x.choice ≡ c → Nearest text_of (AtEnd x) s (max (reach (tokens_behind x.last) s) (choice_reach c s))
  by None e = none_farther (AtEnd x) s (reach (tokens_behind x.last) s) first
  by (Some token) e = greater text_of (AtEnd x) s (reach (tokens_behind x.last) s) (reach (token ∷ []) s) first (reach_nearest (AtEnd x) s token [] (by_choice e, tt))

-- ---- what may be opened

abbrev pub Parted : Phrase → ℕ → List ℕ → Part → List ℕ → Type 0
Parted r d u x rest = Is r d u x.expr rest

abbrev pub PartOut : Phrase → (Part → Token → Type 0) → ℕ → Reads Part → Type 0
PartOut r E d rule = (t u : List ℕ) → Alike u t → Out E (Parted r d) u (rule t)

abbrev pub ExprOut : Phrase → ℕ → Reads Expr → Type 0
ExprOut r d rule = (t u : List ℕ) → Alike u t → Out Still (Is r d) u (rule t)

abbrev pub Compared : Part → Token → Type 0
Compared x token = AtComparison x.last token

pub record InnerOut (d : ℕ) (inner : Inner) : Type 0 where
  pub expression : PartOut an_expression AtEnd d inner.expression
  pub negation : PartOut a_negation Compared d inner.negation
  pub signed : ExprOut with_sign d inner.signed

pub data Deep : ℕ → Option Inner → Type 0 where
  deepest : Deep zero None
  deeper : {d : ℕ} {inner : Inner} → InnerOut d inner → Deep (suc d) (Some inner)

-- ---- an operand that completes what needs one: the empty string

pub empty_atom : (d : ℕ) (q : List ℕ) → Is an_atom d (32 ∷ 39 ∷ 39 ∷ 32 ∷ q) (Expr.Plain (Value.Text [])) (32 ∷ q)
unfolding spaces
empty_atom d q = of_string refl refl close

pub empty_parts : (d : ℕ) (q : List ℕ) → Is with_parts d (32 ∷ 39 ∷ 39 ∷ 32 ∷ q) (Expr.Plain (Value.Text [])) (32 ∷ q)
empty_parts d q = asked (empty_atom d q) no_part

pub empty_sign : (d : ℕ) (q : List ℕ) → Is with_sign d (32 ∷ 39 ∷ 39 ∷ 32 ∷ q) (Expr.Plain (Value.Text [])) (32 ∷ q)
empty_sign d q = unsigned (empty_parts d q)

pub empty_filters : (d : ℕ) (q : List ℕ) → Is with_filters d (32 ∷ 39 ∷ 39 ∷ 32 ∷ q) (Expr.Plain (Value.Text [])) (32 ∷ q)
empty_filters d q = filtered (empty_sign d q) no_filter

pub empty_sum : (d : ℕ) (q : List ℕ) → Is (operands Level.Sum) d (32 ∷ 39 ∷ 39 ∷ 32 ∷ q) (Expr.Plain (Value.Text [])) (32 ∷ q)
empty_sum d q = chain (chain (chain (empty_filters d q) no_operand) no_operand) no_operand

pub empty_negation : (d : ℕ) (q : List ℕ) → Is a_negation d (32 ∷ 39 ∷ 39 ∷ 32 ∷ q) (Expr.Plain (Value.Text [])) (32 ∷ q)
empty_negation d q = compared (alone (empty_sum d q))

pub empty_or : (d : ℕ) (q : List ℕ) → Is (operands Level.Or) d (32 ∷ 39 ∷ 39 ∷ 32 ∷ q) (Expr.Plain (Value.Text [])) (32 ∷ q)
empty_or d q = chain (chain (empty_negation d q) no_operand) no_operand

pub empty_expression : (d : ℕ) (q : List ℕ) → Is an_expression d (32 ∷ 39 ∷ 39 ∷ 32 ∷ q) (Expr.Plain (Value.Text [])) (32 ∷ q)
empty_expression d q = chosen (empty_or d q)

pub empty_operand : (level : Level) (d : ℕ) (q : List ℕ) → Is (operand_of level) d (32 ∷ 39 ∷ 39 ∷ 32 ∷ q) (Expr.Plain (Value.Text [])) (32 ∷ q)
empty_operand Level.Or d q = chain (empty_negation d q) no_operand
empty_operand Level.And d q = empty_negation d q
empty_operand Level.Sum d q = chain (chain (empty_filters d q) no_operand) no_operand
empty_operand Level.Join d q = chain (empty_filters d q) no_operand
empty_operand Level.Product d q = empty_filters d q

-- ---- tokens behind blanks

pub token_next : (token : Token) (q : List ℕ) → spaces (32 ∷ (text_of token ++ 32 ∷ q)) ≡ text_of token ++ 32 ∷ q
token_next token q = blank_gone (text_of token ++ 32 ∷ q) ∙ solid_at (text_of token) (32 ∷ q) (begun_solid (text_of token) (token_begun token))

pub takes_next : (token : Token) (q : List ℕ) → Takes token (32 ∷ (text_of token ++ 32 ∷ q)) (32 ∷ q)
takes_next token q = takes_at token (32 ∷ (text_of token ++ 32 ∷ q)) q (token_next token q)

-- a suffix has no more behind its blanks
pub spaces_suffix : (b rest : List ℕ) → length (spaces rest) ≤ length (spaces (b ++ rest))
unfolding spaces
spaces_suffix [] rest = omega arith
spaces_suffix (x ∷ b) rest = elim (chosen_is (is_blank_or_break x)) [
  | inl h ↦ rw h (spaces_suffix b rest)
  | inr h ↦ rw h (omega (arith, spaces_within rest, length-append b rest))
]

pub left_shorter : {A : Type 0} {E : A → Token → Type 0} {P : List ℕ → A → List ℕ → Type 0} {u : List ℕ} {x : A} {left : List ℕ} → Grown E P u x left → length (spaces left) ≤ length (spaces u)
left_shorter {u = u} g = omega (arith, spaces_suffix g.before g.rest, ap (λ (v : List ℕ). length (spaces v)) g.parts, ap length g.alike)

-- ---- an expression in brackets

pub data Enclosed (d : ℕ) (end : Token) (t : List ℕ) (e : Expr) (r : List ℕ) : Type 0 where
  encloses : {a : List ℕ} → Is an_expression d t e a → Takes end a r → Enclosed d end t e r

module _ {d : ℕ} {inner : Inner} (sound : InnerOut d inner) (end : Token) where
  end_by : (u : List ℕ) (x : Part) (left : List ℕ) → Grown AtEnd (Parted an_expression d) u x left
      → Out Still (Enclosed d end) u (cond (next_is end left) (Ok (x.expr, behind end left)) (no_end x.last x.choice (end ∷ []) (spaces left)))
  end_by u x left g = elim (chosen_is (next_is end left)) [
    | inl h ↦
        let k = took_token end left g.rest g.alike h in
        rw h (record {
          before = g.before ++ k.before;
          rest = past end left;
          parts = g.parts ∙ ap (λ (v : List ℕ). g.before ++ v) k.parts ∙ sym (append_assoc g.before k.before (past end left));
          alike = refl;
          again = λ o l. subst (λ (v : List ℕ). Enclosed d end v x.expr o) (sym (append_assoc g.before k.before o)) (encloses (g.again (k.before ++ o) (like_put k.before k.parts l)) (k.again o l));
          goes = λ token n. absurd n;
        })
    | inr h ↦ rw h (word_open (Enclosed d end) u g.before g.rest g.parts text_of (λ token. AtEnd x token ⊎ (token ≡ end)) (spaces left) _ g.alike token_begun each
        (greater text_of (λ token. AtEnd x token ⊎ (token ≡ end)) (spaces left) (open_reach x.last x.choice (spaces left)) (reach (end ∷ []) (spaces left)) (as_left (end_nearest x (spaces left))) (reach_nearest (λ token. AtEnd x token ⊎ (token ≡ end)) (spaces left) end [] (inr refl, tt))))
  ] where
    as_left : {n : ℕ} → Nearest text_of (AtEnd x) (spaces left) n → Nearest text_of (λ token. AtEnd x token ⊎ (token ≡ end)) (spaces left) n
    as_left (nearest i p e) = nearest i (inl p) e

    each : (token : Token) → AtEnd x token ⊎ (token ≡ end) → (e : List ℕ) × Spaced e × ((o q : List ℕ) → Like g.rest o → spaces o ≡ text_of token ++ (e ++ 32 ∷ q) → (y : Expr) × Enclosed d end (g.before ++ o) y (32 ∷ q))
    each token (inr same) = ([], bare, λ o q l at. (x.expr, encloses (g.again o l) (takes_at end o q (at ∙ ap (λ (v : Token). text_of v ++ 32 ∷ q) same))))
    each token (inl k) = (
      32 ∷ (tail_of token ++ 32 ∷ text_of end),
      spaced (tail_of token ++ 32 ∷ text_of end),
      λ o q l at.
          let s = g.goes token k o (text_of end ++ 32 ∷ q) l (at ∙ ap (λ (v : List ℕ). text_of token ++ 32 ∷ v) (append_assoc (tail_of token) (32 ∷ text_of end) (32 ∷ q))) in
          (s.0.expr, encloses s.1 (takes_next end q)),
    )

  pub enclosed_out : (t u : List ℕ) → Alike u t → Out Still (Enclosed d end) u (enclosed inner end t)
  unfolding enclosed
  enclosed_out t u alike =
      out_bind AtEnd (Parted an_expression d) Still (Enclosed d end) u (λ part. cond (next_is end part.1) (Ok (part.0.expr, behind end part.1)) (no_end part.0.last part.0.choice (end ∷ []) (spaces part.1))) (inner.expression t)
      (λ x left is g. end_by u x left g)
      (λ f h. open_then AtEnd (Parted an_expression d) Still (Enclosed d end) u (text_of end) (λ o q x is. (x.expr, encloses is (takes_next end q))) f h)
      (sound.expression t u alike)

-- ---- numbers of items

pub both : (a b : Bool) → a ≡ true → b ≡ true → (a && b) ≡ true
both true b p q = q
both false b p q = absurd cc

call_least : (f : Function) → allows (function_row f).counts (function_row f).counts.least ≡ true
call_least Function.States = refl
call_least _ = refl

filter_least : (f : Filter) → allows (filter_row f).counts (filter_row f).counts.least ≡ true
filter_least Filter.Int = refl
filter_least _ = refl

pub least_allowed : (holder : Holder) → allows (counts_of holder) (counts_of holder).least ≡ true
least_allowed of_list = refl
least_allowed (of_call f) = call_least f
least_allowed (of_filter f base) = filter_least f

pub more_within : (most : Option ℕ) (n : ℕ) → takes_behind most n ≡ true → is_within most (suc n) ≡ true
more_within None n h = refl
more_within (Some most) n h = h

-- where no item may stand, none need
none_needed : (least : ℕ) (most : Option ℕ) → (nat_le least least && is_within most least) ≡ true → takes_behind most 0 ≡ false → (nat_le least 0 && is_within most 0) ≡ true
none_needed least None h k = absurd cc
none_needed zero (Some zero) h k = refl
none_needed (suc n) (Some zero) h k = absurd (let w = leb-true (suc n) 0 (and_parts (nat_le (suc n) (suc n)) (nat_le (suc n) 0) h).1 in omega (arith, w))
none_needed least (Some (suc m)) h k = absurd (let w = le-leb 1 (suc m) (omega arith) in let v : true ≡ false = sym w ∙ k in cc)

pub no_room : (holder : Holder) → takes_behind (counts_of holder).most 0 ≡ false → allows (counts_of holder) 0 ≡ true
no_room holder h = none_needed (counts_of holder).least (counts_of holder).most (least_allowed holder) h

pub none_allowed : (holder : Holder) → ((counts_of holder).least == 0) ≡ true → allows (counts_of holder) 0 ≡ true
none_allowed holder h = subst (λ (n : ℕ). allows (counts_of holder) n ≡ true) (eqb-true (counts_of holder).least 0 h) (least_allowed holder)

-- so many more are needed
pub enough : (holder : Holder) (n : ℕ) → is_within (counts_of holder).most n ≡ true → (k : ℕ) × (allows (counts_of holder) (k + n) ≡ true)
enough holder n within = elim (cases_lt n (counts_of holder).least) [
  | inl lt ↦ ((counts_of holder).least - n, subst (λ (m : ℕ). allows (counts_of holder) m ≡ true) (let e : (counts_of holder).least ≡ (counts_of holder).least - n + n = omega (arith, lt) in e) (least_allowed holder))
  | inr le ↦ (0, subst (λ (m : ℕ). allows (counts_of holder) m ≡ true) (let e : n ≡ 0 + n = omega arith in e) (both (nat_le (counts_of holder).least n) (is_within (counts_of holder).most n) (le-leb (counts_of holder).least n le) within))
]

-- ---- the end of items, with those that are still needed

abbrev pub closes : Holder → ℕ → List ℕ
closes holder zero = text_of (closing holder)
closes holder (suc k) = 44 ∷ 32 ∷ 39 ∷ 39 ∷ 32 ∷ closes holder k

pub one_longer : (found : List Expr) (e : Expr) → length (found ++ e ∷ []) ≡ suc (length found)
one_longer found e = omega (arith, length-append found (e ∷ []))

comma_next : (q : List ℕ) → Takes Token.Comma (32 ∷ 44 ∷ 32 ∷ q) (32 ∷ q)
unfolding spaces
comma_next q = takes_at Token.Comma (32 ∷ 44 ∷ 32 ∷ q) q refl

abbrev pub MoreListed : Holder → List Expr → ℕ → List ℕ → List Expr → List ℕ → Type 0
MoreListed holder found d u items rest = Is (more_items holder found) d u (made_of holder items) rest

abbrev pub Listed : Holder → ℕ → List ℕ → List Expr → List ℕ → Type 0
Listed holder d u items rest = Is (in_brackets holder) d u (made_of holder items) rest

pub item_closes : (holder : Holder) (d k : ℕ) (found : List Expr) (t : List ℕ) (e : Expr) (q : List ℕ) → allows (counts_of holder) (k + suc (length found)) ≡ true
    → Is an_expression d t e (32 ∷ (closes holder k ++ 32 ∷ q)) → (items : List Expr) × MoreListed holder found d t items (32 ∷ q)
item_closes holder d zero found t e q fits h =
    (found ++ e ∷ [], last_item h (ap (λ (n : ℕ). allows (counts_of holder) n) (let n : length (found ++ e ∷ []) ≡ 0 + suc (length found) = omega (arith, one_longer found e) in n) ∙ fits) (takes_next (closing holder) q))
item_closes holder d (suc k) found t e q fits h =
    let z : List ℕ = closes holder k ++ 32 ∷ q in
    let count : k + suc (length (found ++ e ∷ [])) ≡ suc k + suc (length found) = omega (arith, one_longer found e) in
    let m = item_closes holder d k (found ++ e ∷ []) (32 ∷ 39 ∷ 39 ∷ 32 ∷ z) (Expr.Plain (Value.Text [])) q (ap (λ (n : ℕ). allows (counts_of holder) n) count ∙ fits) (empty_expression d z) in
    (m.0, one_item h (comma_next (39 ∷ 39 ∷ 32 ∷ z)) m.1)

-- all that brackets need
pub brackets_whole : (holder : Holder) (d : ℕ) → takes_behind (counts_of holder).most 0 ≡ true → (e : List ℕ) × ((q : List ℕ) → (items : List Expr) × Listed holder (suc d) (32 ∷ (e ++ 32 ∷ q)) items (32 ∷ q))
brackets_whole holder d room =
    let n = enough holder 1 (more_within (counts_of holder).most 0 room) in (
      39 ∷ 39 ∷ 32 ∷ closes holder n.0,
      λ q.
          let m = item_closes holder d n.0 [] (32 ∷ 39 ∷ 39 ∷ 32 ∷ (closes holder n.0 ++ 32 ∷ q)) (Expr.Plain (Value.Text [])) q n.1 (empty_expression d (closes holder n.0 ++ 32 ∷ q)) in
          (m.0, some_items m.1),
    )
