-- A tag, and where a fault in it leaves the whole.
use Rattle.std.proofs.Common.{◌≡◌, ℕ, Bool, true, false, inl, inr, List, [], ◌∷◌, ◌++◌, length, drop, Option, Some, None, Ok, Err, refl, sym, ap, ◌∙◌, subst}
use Rattle.ha_config.specs.declared.template.Expr.{Expr}
use Rattle.ha_config.specs.declared.template.Piece.{Piece}
use Rattle.ha_config.specs.declared.template.Template.{Template}
use Rattle.reading.specs.Answer.{◌>>=◌, made}
use Rattle.reading.proofs.Basics.{chosen_is}
use Rattle.tpl_parse.specs.declared.token.Token.{Token}
use Rattle.tpl_parse.specs.Token.{spaces, next_is, past, reach, text_of}
use Rattle.tpl_parse.specs.Pieces.{Choosing, Found, begun, closed, comment, last_expression, next_arm, one_of, set_name, statement, statement_by, statements, tag_by, tag_end, tag_expression, with_piece}
use Rattle.tpl_parse.specs.Grammar.{Takes, Place, behind as behind_tag, inside_tag, IsEnd, ends}
use Rattle.tpl_parse.proofs.OnlyPieces.{state, by_test}
use Rattle.tpl_laws.proofs.TagKinds.{Kind, show_kind, statement_kind, comment_kind, IsKind, is_show, is_statement, is_comment}
use Rattle.tpl_laws.proofs.Likes.{Like}
use Rattle.tpl_laws.proofs.Outcomes.{Gave}
use Rattle.tpl_laws.proofs.Tokens.{token_begun, takes_at, took_token, Spaced, spaced, Nearest, nearest, Every, reach_nearest, word_open}
use Rattle.tpl_laws.proofs.Depths.{takes_next}
use Rattle.tpl_laws.proofs.Shuts.{Shut, shut_put}
use Rattle.tpl_laws.proofs.Tags.{Ends as EndsTag, Lasts, Sets, end_out, last_out, last_whole, set_out, sets_whole}
use Rattle.tpl_laws.proofs.Shapes.{shape_of, Ends, comment_before, show_before, set_before, if_before, elif_before, else_before, endif_before, ending, shortest}
use Rattle.tpl_laws.proofs.Betweens.{Opened, opened_by}
use Rattle.tpl_laws.proofs.Comments.{Comments, comment_out, comment_shut}

-- what a tag took: where the text behind it goes on to the end, so does the text from the tag on
pub record Stepped (shape shape' : List Bool) (place : Place) (trims : Bool) (t after : List ℕ) : Type 0 where
  pub before : List ℕ
  pub parts : t ≡ before ++ after
  pub put : (o : List ℕ) → Like after o → Ends shape' (behind_tag trims) o → Ends shape place (before ++ o)

abbrev pub StepOut : List Bool → Place → List ℕ → Gave Found → Type 0
StepOut shape place t (Ok x) = Stepped shape (shape_of x.0.open') place x.0.trims t x.1
StepOut shape place t (Err f) = Opened shape place t f

module _ {A : Type 0} (P : List ℕ → A → List ℕ → Type 0) (shape shape' : List Bool) (place : Place) (t : List ℕ) (m : A → Found) (same : (x : A) → shape_of (m x).open' ≡ shape')
    (put : (o r : List ℕ) (x : A) → P o x r → Ends shape' (behind_tag (m x).trims) r → Ends shape place o) where
  step_of : (r : Gave A) → Shut P t r → StepOut shape place t (made m r)
  step_of (Ok x) g = record {
    before = g.before;
    parts = g.parts;
    put = λ o l e. put (g.before ++ o) o x.0 (g.again o l) (subst (λ (s : List Bool). Ends s (behind_tag (m x.0).trims) o) (same x.0) e);
  }
  step_of (Err f) h = opened_by P shape place t (ending shape') (λ o x is. put o (32 ∷ ending shape') x is (shortest shape' (m x).trims)) f h

module _ (P : List ℕ → Found → List ℕ → Type 0) (shape shape' : List Bool) (place : Place) (t : List ℕ) (same : (o r : List ℕ) (x : Found) → P o x r → shape_of x.open' ≡ shape')
    (put : (o r : List ℕ) (x : Found) → P o x r → Ends shape' (behind_tag x.trims) r → Ends shape place o) where
  step_plain : (r : Gave Found) → Shut P t r → StepOut shape place t r
  step_plain (Ok x) g = record {
    before = g.before;
    parts = g.parts;
    put = λ o l e. put (g.before ++ o) o x.0 (g.again o l) (subst (λ (s : List Bool). Ends s (behind_tag x.0.trims) o) (same (g.before ++ o) o x.0 (g.again o l)) e);
  }
  step_plain (Err f) h = opened_by P shape place t (ending shape') (λ o x is. put o (32 ∷ ending shape') x is (shortest shape' x.trims)) f h

-- ---- the word of a statement

abbrev Statement : Place
Statement = inside_tag statement_kind

-- what makes a statement of a word
record Whole (shape : List Bool) (token : Token) : Type 0 where
  shape' : List Bool
  e : List ℕ
  spaced' : Spaced e
  is : (o q : List ℕ) → spaces o ≡ text_of token ++ (e ++ 32 ∷ q) → (trims : Bool) × (Ends shape' (behind_tag trims) (32 ∷ q) → Ends shape Statement o)

data OneOut (P : Token → Type 0) (all : List Token) (t : List ℕ) : Gave Token → Type 0 where
  one_taken : (token : Token) → P token → next_is token t ≡ true → OneOut P all t (Ok (token, past token t))
  none_taken : OneOut P all t (Err (record { left = length (drop (reach all (spaces t)) (spaces t)); code = tt }))

one_out : (P : Token → Type 0) (all tokens : List Token) (t : List ℕ) → Every P tokens → OneOut P all t (one_of all tokens t)
unfolding one_of
one_out P all [] t each = none_taken
one_out P all (token ∷ tokens) t each = elim (chosen_is (next_is token t)) [
  | inl h ↦ rw h (one_taken token each.0 h)
  | inr h ↦ rw h (one_out P all tokens t each.1)
]

word_fails : (shape : List Bool) (t : List ℕ) (n : ℕ) → Nearest text_of (Whole shape) (spaces t) n → Opened shape Statement t (record { left = length (drop n (spaces t)); code = tt })
word_fails shape t n (nearest token w far) =
    opened_by Q shape Statement t (ending w.shape') (λ o trims is. is (shortest w.shape' trims)) (record { left = length (drop n (spaces t)); code = tt })
    (word_open Q t [] t refl text_of (λ i. i ≡ token) (spaces t) n refl token_begun (λ i e. (w.e, w.spaced', λ o q l at. w.is o q (at ∙ ap (λ (z : Token). text_of z ++ (w.e ++ 32 ∷ q)) e))) (nearest token refl far)) where
      Q : List ℕ → Bool → List ℕ → Type 0
      Q o trims r = Ends w.shape' (behind_tag trims) r → Ends shape Statement o

record Word (found : Found) (t : List ℕ) (token : Token) : Type 0 where
  step : next_is token t ≡ true → StepOut (shape_of found.open') Statement t (statement_by token found (past token t))
  whole : Whole (shape_of found.open') token

-- a word, and what stands behind it
module _ {A : Type 0} (token : Token) (P : List ℕ → A → List ℕ → Type 0) (shape shape' : List Bool) (t : List ℕ) (m : A → Found) (same : (x : A) → shape_of (m x).open' ≡ shape')
    (put : (o a r : List ℕ) (x : A) → Takes token o a → P a x r → Ends shape' (behind_tag (m x).trims) r → Ends shape Statement o) where
  abbrev Behind : List ℕ → A → List ℕ → Type 0
  Behind o x r = (a : List ℕ) × Takes token o a × P a x r

  word_step : next_is token t ≡ true → (r : Gave A) → Shut P (past token t) r → StepOut shape Statement t (made m r)
  word_step h r s =
      let k = took_token token t t refl h in
      step_of Behind shape shape' Statement t m same (λ o r' x is e. put o is.0 r' x is.1 is.2 e) r (shut_put P Behind t k.before (past token t) k.parts (λ o r' x l is. (o, k.again o l, is)) r s)

abbrev TagLasts : List ℕ → Expr × Bool → List ℕ → Type 0
TagLasts = Lasts Token.TagEnd Token.TrimTagEnd

abbrev TagEnds : List ℕ → Bool → List ℕ → Type 0
TagEnds = EndsTag Token.TagEnd Token.TrimTagEnd

-- what an expression and its end are, at the shortest
abbrev shortest_value : List ℕ
shortest_value = 39 ∷ 39 ∷ 32 ∷ text_of Token.TagEnd

module _ (stack : List Choosing) (old : List Piece) (front : Bool) (t : List ℕ) where
  abbrev found : Found
  found = state stack old front

  if_word : Word found t Token.If
  if_word = record {
    step = λ h. word_step Token.If TagLasts (shape_of stack) (true ∷ shape_of stack) t (λ test'. begun found test'.0 test'.1) (λ x. refl) (λ o a r x i is e. if_before (shape_of stack) x.0 x.1 o a r i is e) h
        (tag_expression (past Token.If t)) (last_out Token.TagEnd Token.TrimTagEnd (past Token.If t) (past Token.If t) refl);
    whole = record {
      shape' = true ∷ shape_of stack;
      e = 32 ∷ shortest_value;
      spaced' = spaced shortest_value;
      is = λ o q at.
          let l = last_whole Token.TagEnd Token.TrimTagEnd q in
          (l.0.1, λ e. if_before (shape_of stack) l.0.0 l.0.1 o (32 ∷ (shortest_value ++ 32 ∷ q)) (32 ∷ q) (takes_at Token.If o (shortest_value ++ 32 ∷ q) at) l.1 e);
    };
  }

  sets_before : (o a r : List ℕ) (x : Found) → Takes Token.Set o a → Sets found a x r → Ends (shape_of stack) (behind_tag x.trims) r → Ends (shape_of stack) Statement o
  sets_before o a r x i s e =
      let v = s.3.2 in
      set_before (shape_of stack) s.0 v.0 v.1 o a s.1 s.3.0 r i s.2 s.3.1 v.2 (subst (λ (z : Found). Ends (shape_of stack) (behind_tag z.trims) r) v.3 e)

  set_word : Word found t Token.Set
  set_word = record {
    step = λ h.
        let k = took_token Token.Set t t refl h in
        let v : List ℕ = past Token.Set t in
        let B : List ℕ → Found → List ℕ → Type 0 = λ o x r. (a : List ℕ) × Takes Token.Set o a × Sets found a x r in
        step_plain B (shape_of stack) (shape_of stack) Statement t (λ o r x is. ap (λ (z : Found). shape_of z.open') is.2.3.2.3) (λ o r x is e. sets_before o is.0 r x is.1 is.2 e) (set_name found v)
        (shut_put (Sets found) B t k.before v k.parts (λ o r x l is. (o, k.again o l, is)) (set_name found v) (set_out found v v refl));
    whole = record {
      shape' = shape_of stack;
      e = 32 ∷ 97 ∷ 32 ∷ 61 ∷ 32 ∷ shortest_value;
      spaced' = spaced (97 ∷ 32 ∷ 61 ∷ 32 ∷ shortest_value);
      is = λ o q at.
          let s = sets_whole found q in
          (s.0.trims, λ e. sets_before o (32 ∷ 97 ∷ 32 ∷ 61 ∷ 32 ∷ (shortest_value ++ 32 ∷ q)) (32 ∷ q) s.0 (takes_at Token.Set o (97 ∷ 32 ∷ 61 ∷ 32 ∷ (shortest_value ++ 32 ∷ q)) at) s.1 e);
    };
  }

-- in an arm, or in the fallback
module _ (before : List Piece) (arms : List (Expr × Template)) (outer : List Choosing) (old : List Piece) (front : Bool) (t : List ℕ) where
  abbrev choosing : Option Expr → Choosing
  choosing test' = record { before = before; arms = arms; test = test' }

  abbrev within : Option Expr → Found
  within test' = state (choosing test' ∷ outer) old front

  abbrev end_text : List ℕ
  end_text = text_of Token.TagEnd

  end_whole : (q : List ℕ) → IsEnd Token.TagEnd Token.TrimTagEnd false (32 ∷ (end_text ++ 32 ∷ q)) (32 ∷ q)
  end_whole q = ends (takes_next Token.TagEnd q)

  elif_word : (test' : Expr) → Word (within (Some test')) t Token.Elif
  elif_word test' = record {
    step = λ h. word_step Token.Elif TagLasts (true ∷ shape_of outer) (true ∷ shape_of outer) t (λ x. next_arm (within (Some test')) (choosing (Some test')) outer (Some x.0) x.1) (λ x. refl)
        (λ o a r x i is e. elif_before (shape_of outer) x.0 x.1 o a r i is e) h (tag_expression (past Token.Elif t)) (last_out Token.TagEnd Token.TrimTagEnd (past Token.Elif t) (past Token.Elif t) refl);
    whole = record {
      shape' = true ∷ shape_of outer;
      e = 32 ∷ shortest_value;
      spaced' = spaced shortest_value;
      is = λ o q at.
          let l = last_whole Token.TagEnd Token.TrimTagEnd q in
          (l.0.1, λ e. elif_before (shape_of outer) l.0.0 l.0.1 o (32 ∷ (shortest_value ++ 32 ∷ q)) (32 ∷ q) (takes_at Token.Elif o (shortest_value ++ 32 ∷ q) at) l.1 e);
    };
  }

  else_word : (test' : Expr) → Word (within (Some test')) t Token.Else
  else_word test' = record {
    step = λ h. word_step Token.Else TagEnds (true ∷ shape_of outer) (false ∷ shape_of outer) t (next_arm (within (Some test')) (choosing (Some test')) outer None) (λ x. refl)
        (λ o a r x i is e. else_before (shape_of outer) x o a r i is e) h (tag_end (past Token.Else t)) (end_out Token.TagEnd Token.TrimTagEnd (past Token.Else t) (past Token.Else t) refl);
    whole = record {
      shape' = false ∷ shape_of outer;
      e = 32 ∷ end_text;
      spaced' = spaced end_text;
      is = λ o q at. (false, λ e. else_before (shape_of outer) false o (32 ∷ (end_text ++ 32 ∷ q)) (32 ∷ q) (takes_at Token.Else o (end_text ++ 32 ∷ q) at) (end_whole q) e);
    };
  }

  endif_whole : (tested : Bool) → Whole (tested ∷ shape_of outer) Token.Endif
  endif_whole tested = record {
    shape' = shape_of outer;
    e = 32 ∷ end_text;
    spaced' = spaced end_text;
    is = λ o q at. (false, λ e. endif_before tested (shape_of outer) false o (32 ∷ (end_text ++ 32 ∷ q)) (32 ∷ q) (takes_at Token.Endif o (end_text ++ 32 ∷ q) at) (end_whole q) e);
  }

  endif_word : (test' : Expr) → Word (within (Some test')) t Token.Endif
  endif_word test' = record {
    step = λ h. word_step Token.Endif TagEnds (true ∷ shape_of outer) (shape_of outer) t (closed (within (Some test')) (choosing (Some test')) outer) (λ x. refl)
        (λ o a r x i is e. endif_before true (shape_of outer) x o a r i is e) h (tag_end (past Token.Endif t)) (end_out Token.TagEnd Token.TrimTagEnd (past Token.Endif t) (past Token.Endif t) refl);
    whole = endif_whole true;
  }

  last_endif_word : Word (within None) t Token.Endif
  last_endif_word = record {
    step = λ h. word_step Token.Endif TagEnds (false ∷ shape_of outer) (shape_of outer) t (closed (within None) (choosing None) outer) (λ x. refl)
        (λ o a r x i is e. endif_before false (shape_of outer) x o a r i is e) h (tag_end (past Token.Endif t)) (end_out Token.TagEnd Token.TrimTagEnd (past Token.Endif t) (past Token.Endif t) refl);
    whole = endif_whole false;
  }

-- a statement, by the words that may begin it
abbrev Words : List Choosing → List Piece → Bool → List ℕ → Type 0
Words stack old front t = (first : Token) × (tokens : List Token) × (statements stack ≡ first ∷ tokens) × Every (Word (state stack old front) t) (first ∷ tokens)

all_words : (stack : List Choosing) (old : List Piece) (front : Bool) (t : List ℕ) → Words stack old front t
all_words [] old front t = (Token.Set, Token.If ∷ [], refl, (set_word [] old front t, (if_word [] old front t, tt)))
all_words (c ∷ outer) old front t =
    by_test (λ (c : Choosing). Words (c ∷ outer) old front t)
    (λ c.
    let k : Choosing = record { before = c.before; arms = c.arms; test = None } in
    (Token.Set, Token.If ∷ Token.Endif ∷ [], refl, (set_word (k ∷ outer) old front t, (if_word (k ∷ outer) old front t, (last_endif_word c.before c.arms outer old front t, tt)))))
    (λ c e.
    let k : Choosing = record { before = c.before; arms = c.arms; test = Some e } in (
      Token.Set,
      Token.If ∷ Token.Elif ∷ Token.Else ∷ Token.Endif ∷ [],
      refl,
      (
        set_word (k ∷ outer) old front t,
        (if_word (k ∷ outer) old front t, (elif_word c.before c.arms outer old front t e, (else_word c.before c.arms outer old front t e, (endif_word c.before c.arms outer old front t e, tt)))),
      ),
    ))
    c

module _ (found : Found) (t : List ℕ) where
  every_whole : (tokens : List Token) → Every (Word found t) tokens → Every (Whole (shape_of found.open')) tokens
  every_whole [] each = tt
  every_whole (token ∷ tokens) each = (each.0.whole, every_whole tokens each.1)

  statement_by_word : (first : Token) (tokens : List Token) → Every (Word found t) (first ∷ tokens) → (r : Gave Token) → OneOut (Word found t) (first ∷ tokens) t r
      → StepOut (shape_of found.open') Statement t (r >>= λ token. statement_by token.0 found token.1)
  statement_by_word first tokens each r (one_taken token w h) = w.step h
  statement_by_word first tokens each r none_taken =
      word_fails (shape_of found.open') t (reach (first ∷ tokens) (spaces t)) (reach_nearest (Whole (shape_of found.open')) (spaces t) first tokens (every_whole (first ∷ tokens) each))

statement_out : (stack : List Choosing) (old : List Piece) (front : Bool) (t : List ℕ) → StepOut (shape_of stack) Statement t (statement (state stack old front) t)
unfolding statement
statement_out stack old front t =
    let found : Found = state stack old front in
    let w = all_words stack old front t in
    subst (λ (all : List Token). StepOut (shape_of stack) Statement t (one_of all all t >>= λ token. statement_by token.0 found token.1)) (sym w.2)
    (statement_by_word found t w.0 w.1 w.3 (one_of (w.0 ∷ w.1) (w.0 ∷ w.1) t) (one_out (Word found t) (w.0 ∷ w.1) (w.0 ∷ w.1) t w.3))

-- ---- tags

pub tag_out : {kind : Kind} → IsKind kind → (stack : List Choosing) (old : List Piece) (front : Bool) (t : List ℕ) → StepOut (shape_of stack) (inside_tag kind) t (tag_by kind (state stack old front) t)
tag_out is_statement stack old front t = statement_out stack old front t
tag_out is_show stack old front t =
    step_of (Lasts Token.ShowEnd Token.TrimShowEnd) (shape_of stack) (shape_of stack) (inside_tag show_kind) t (λ e. with_piece (state stack old front) (Piece.Show e.0) e.1) (λ x. refl)
    (λ o r x is e. show_before (shape_of stack) x.0 x.1 o r is e) (last_expression Token.ShowEnd Token.TrimShowEnd t) (last_out Token.ShowEnd Token.TrimShowEnd t t refl)
tag_out is_comment stack old front t =
    step_of Comments (shape_of stack) (shape_of stack) (inside_tag comment_kind) t (λ trims. state stack old trims) (λ x. refl) (λ o r x is e. comment_before (shape_of stack) x o r is e) (comment t) (comment_shut t (comment t) (comment_out t))
