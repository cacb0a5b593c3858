-- What is read as a template is in the grammar.
use Rattle.std.proofs.Common.{◌≡◌, ℕ, suc, zero, Bool, false, List, [], ◌∷◌, ◌++◌, length, Option, Some, None, Ok, refl, sym, ap, ◌∙◌, subst, append_assoc, append-nil}
use Rattle.ha_config.specs.declared.template.Expr.{Expr}
use Rattle.ha_config.specs.declared.template.Piece.{Piece}
use Rattle.ha_config.specs.declared.template.Piece
use Rattle.ha_config.specs.declared.template.Template.{Template}
use Rattle.reading.specs.Answer.{◌>>=◌}
use Rattle.reading.proofs.Basics.{bind_ok, ok_parts, made_ok}
use Rattle.tpl_parse.specs.declared.token.Token.{Token}
use Rattle.tpl_parse.specs.declared.pieces.Tag.{Tag}
use Rattle.tpl_parse.specs.Token.{spaces, want}
use Rattle.tpl_parse.specs.Literal.{before, name}
use Rattle.tpl_parse.specs.Pieces.{Choosing, Found, template_of, text, text_piece, trimmed, with_text, with_piece, begun, next_arm, closed, statements, statement, statement_by, set_name, tag_by, tag_expression, tag_end, one_of, comment, finished, sign_of, behind_sign, after_piece, piece_turns, template, last_expression}
use Rattle.tpl_parse.specs.Grammar.{Takes, IsText, IsTagEnd, IsTagExpression, Place, behind as behind_tag, inside_tag, after_arms, Stop, at_the_end, at_a_statement, IsPieces, last_text, tag, comment as comment_is, shown, stops, set, choice, elif, otherwise, endif, IsTemplate, template as template_is}
use Rattle.tpl_parse.proofs.Next.{Fault}
use Rattle.tpl_parse.proofs.Runs.{name_found}
use Rattle.tpl_parse.proofs.FoundExpressions.{want_found}
use Rattle.tpl_parse.proofs.OnlyTags.{text_before}
use Rattle.tpl_parse.proofs.OnlyPieces.{state, choosing_of, by_test}
use Rattle.tpl_parse.proofs.FoundTags.{TextFound, text_found, opens_found, comment_found, end_found, last_found, AllTokens, one_found}

-- ---- what is still to be read, behind what stands before it, makes up the whole

abbrev Following : Type 1
Following = List Piece → Place → List ℕ → Type 0

-- the tag that ends a fallback, and what follows it
record AfterFallback (old : List Piece) (arms : List (Expr × Template)) (body : List Piece) (t : List ℕ) (Next : Following) : Type 0 where
  a : List ℕ
  b : List ℕ
  trims : Bool
  word : Takes Token.Endif t a
  end' : IsTagEnd trims a b
  next : Next (old ++ Piece.Choice arms (template_of body) ∷ []) (behind_tag trims) b

-- what follows the pieces of an arm, or of the fallback
abbrev AfterArm : Option Expr → List Piece → List (Expr × Template) → List Piece → List ℕ → Following → Type 0
AfterArm None old arms body t Next = AfterFallback old arms body t Next
AfterArm (Some e) old arms body t Next = Next old (after_arms (arms ++ (e, template_of body) ∷ [])) t

record ToTheEnd (whole : Template) (old : List Piece) (place : Place) (t : List ℕ) : Type 0 where
  ps : List Piece
  is : IsPieces place at_the_end t ps []
  all : template_of (old ++ ps) ≡ whole

record ToTheTag (choosing : Choosing) (Next : Following) (old : List Piece) (place : Place) (t : List ℕ) : Type 0 where
  ps : List Piece
  after : List ℕ
  is : IsPieces place at_a_statement t ps after
  next : AfterArm choosing.test choosing.before choosing.arms (old ++ ps) after Next

abbrev Left : List Choosing → Template → Following
Left [] whole old place t = ToTheEnd whole old place t
Left (choosing ∷ outer) whole old place t = ToTheTag choosing (Left outer whole) old place t

-- where pieces stand before what is left, more is left
extend : (stack : List Choosing) (whole : Template) (old old' pre : List Piece) (place place' : Place) (t t' : List ℕ)
    → ((stop' : Stop) (ps : List Piece) (rest : List ℕ) → IsPieces place' stop' t' ps rest → IsPieces place stop' t (pre ++ ps) rest)
    → old' ≡ old ++ pre → Left stack whole old' place' t' → Left stack whole old place t
extend [] whole old old' pre place place' t t' put e l = record {
  ps = pre ++ l.ps;
  is = put at_the_end l.ps [] l.is;
  all = ap (λ (xs : List Piece). template_of xs) (sym (append_assoc old pre l.ps) ∙ ap (λ (xs : List Piece). xs ++ l.ps) (sym e)) ∙ l.all;
}
extend (c ∷ outer) whole old old' pre place place' t t' put e l = record {
  ps = pre ++ l.ps;
  after = l.after;
  is = put at_a_statement l.ps l.after l.is;
  next = subst (λ (xs : List Piece). AfterArm c.test c.before c.arms xs l.after (Left outer whole)) (ap (λ (xs : List Piece). xs ++ l.ps) e ∙ append_assoc old pre l.ps) l.next;
}

-- ---- tags

-- what is left behind a step
abbrev Behind : Template → Found → List ℕ → Type 0
Behind whole found t = Left found.open' whole found.pieces (behind_tag found.trims) t

behind_is : (whole : Template) (found next : Found) (t : List ℕ) → found ≡ next → Behind whole next t → Behind whole found t
behind_is whole found next t e l = subst (λ (x : Found). Behind whole x t) (sym e) l

module _ (whole : Template) where
  comment_tag : (stack : List Choosing) (old : List Piece) (front : Bool) (t : List ℕ) (next : Found) (after : List ℕ) → tag_by Tag.Comment (state stack old front) t ≡ Ok (next, after) → Behind whole next after → Left stack whole old (inside_tag Tag.Comment) t
  comment_tag stack old front t next after e l =
      let m = made_ok {F = Fault} (λ (trims : Bool). state stack old trims) (comment t) next after e in
      extend stack whole old old [] (inside_tag Tag.Comment) (behind_tag m.0) t after (λ s ps rest is. comment_is (comment_found t m.0 after m.1) is) (sym (append-nil old)) (behind_is whole (state stack old m.0) next after m.2 l)

  show_tag : (stack : List Choosing) (old : List Piece) (front : Bool) (t : List ℕ) (next : Found) (after : List ℕ) → tag_by Tag.Show (state stack old front) t ≡ Ok (next, after) → Behind whole next after → Left stack whole old (inside_tag Tag.Show) t
  show_tag stack old front t next after e l =
      let m = made_ok {F = Fault} (λ (x : Expr × Bool). with_piece (state stack old front) (Piece.Show x.0) x.1) (last_expression Token.ShowEnd Token.TrimShowEnd t) next after e in
      extend stack whole old (old ++ Piece.Show m.0.0 ∷ []) (Piece.Show m.0.0 ∷ []) (inside_tag Tag.Show) (behind_tag m.0.1) t after
      (λ s ps rest is. shown (last_found Token.ShowEnd Token.TrimShowEnd t m.0.0 m.0.1 after m.1) is) refl (behind_is whole (with_piece (state stack old front) (Piece.Show m.0.0) m.0.1) next after m.2 l)

  -- a statement with this word
  abbrev ByWord : Found → List ℕ → Token → Type 0
  ByWord found t token = (u : List ℕ) (next : Found) (after : List ℕ) → Takes token t u → statement_by token found u ≡ Ok (next, after) → Behind whole next after → Left found.open' whole found.pieces (inside_tag Tag.Statement) t

  set_word : (stack : List Choosing) (old : List Piece) (front : Bool) (t : List ℕ) → ByWord (state stack old front) t Token.Set
  unfolding set_name name
  set_word stack old front t u next after i e l =
      let found : Found = state stack old front in
      let n = bind_ok (name u) (λ n. want Token.Assign n.1 >>= λ sign. tag_expression sign.1 >>= λ value. Ok (with_piece found (Piece.Assign n.0 value.0.0) value.0.1, value.1)) (next, after) e in
      let s = bind_ok (want Token.Assign n.0.1) (λ sign. tag_expression sign.1 >>= λ value. Ok (with_piece found (Piece.Assign n.0.0 value.0.0) value.0.1, value.1)) (next, after) n.2 in
      let v = bind_ok (tag_expression s.0.1) (λ value. Ok (with_piece found (Piece.Assign n.0.0 value.0.0) value.0.1, value.1)) (next, after) s.2 in
      let p = ok_parts {F = Fault} (with_piece found (Piece.Assign n.0.0 v.0.0.0) v.0.0.1, v.0.1) (next, after) v.2 in
      let here : Takes Token.Assign n.0.1 s.0.1 = want_found Token.Assign n.0.1 s.0.0 s.0.1 s.1 in
      let value : IsTagExpression v.0.0.0 v.0.0.1 s.0.1 after = subst (λ (r : List ℕ). IsTagExpression v.0.0.0 v.0.0.1 s.0.1 r) p.1 (last_found Token.TagEnd Token.TrimTagEnd s.0.1 v.0.0.0 v.0.0.1 v.0.1 v.1) in
      extend stack whole old (old ++ Piece.Assign n.0.0 v.0.0.0 ∷ []) (Piece.Assign n.0.0 v.0.0.0 ∷ []) (inside_tag Tag.Statement) (behind_tag v.0.0.1) t after
      (λ s' ps rest is. set i (name_found (spaces u) n.0.0 n.0.1 n.1) here value is) refl (behind_is whole (with_piece found (Piece.Assign n.0.0 v.0.0.0) v.0.0.1) next after p.0 l)

  if_word : (stack : List Choosing) (old : List Piece) (front : Bool) (t : List ℕ) → ByWord (state stack old front) t Token.If
  if_word stack old front t u next after i e l =
      let found : Found = state stack old front in
      let m = made_ok {F = Fault} (λ (test' : Expr × Bool). begun found test'.0 test'.1) (tag_expression u) next after e in
      let b : Behind whole (begun found m.0.0 m.0.1) after = behind_is whole (begun found m.0.0 m.0.1) next after m.2 l in
      extend stack whole old old [] (inside_tag Tag.Statement) (after_arms ((m.0.0, template_of b.ps) ∷ [])) t b.after
      (λ s ps rest is. choice i (last_found Token.TagEnd Token.TrimTagEnd u m.0.0 m.0.1 after m.1) b.is is) (sym (append-nil old)) b.next

  -- a statement that ends an arm: what the tag says stands behind the pieces that were found
  module _ (outer : List Choosing) (kept : List Piece) (arms : List (Expr × Template)) (test' : Expr) (body : List Piece) (front : Bool) (t : List ℕ) where
    abbrev arm : Choosing
    arm = choosing_of kept arms (Some test')

    abbrev in_arm : Found
    in_arm = state (arm ∷ outer) body front

    abbrev all_arms : List (Expr × Template)
    all_arms = arms ++ (test', template_of body) ∷ []

    ends_arm : Left outer whole kept (after_arms all_arms) t → Left (arm ∷ outer) whole body (inside_tag Tag.Statement) t
    ends_arm l = record { ps = []; after = t; is = stops; next = subst (λ (xs : List Piece). Left outer whole kept (after_arms (arms ++ (test', template_of xs) ∷ [])) t) (sym (append-nil body)) l }

    elif_word : ByWord in_arm t Token.Elif
    elif_word u next after i e l =
        let m = made_ok {F = Fault} (λ (x : Expr × Bool). next_arm in_arm arm outer (Some x.0) x.1) (tag_expression u) next after e in
        let b : Behind whole (next_arm in_arm arm outer (Some m.0.0) m.0.1) after = behind_is whole (next_arm in_arm arm outer (Some m.0.0) m.0.1) next after m.2 l in
        ends_arm (extend outer whole kept kept [] (after_arms all_arms) (after_arms (all_arms ++ (m.0.0, template_of b.ps) ∷ [])) t b.after
        (λ s ps rest is. elif i (last_found Token.TagEnd Token.TrimTagEnd u m.0.0 m.0.1 after m.1) b.is is) (sym (append-nil kept)) b.next)

    else_word : ByWord in_arm t Token.Else
    else_word u next after i e l =
        let m = made_ok {F = Fault} (next_arm in_arm arm outer None) (tag_end u) next after e in
        let b : Behind whole (next_arm in_arm arm outer None m.0) after = behind_is whole (next_arm in_arm arm outer None m.0) next after m.2 l in
        let f : AfterFallback kept all_arms b.ps b.after (Left outer whole) = b.next in
        ends_arm (extend outer whole kept (kept ++ Piece.Choice all_arms (template_of b.ps) ∷ []) (Piece.Choice all_arms (template_of b.ps) ∷ []) (after_arms all_arms) (behind_tag f.trims) t f.b
        (λ s ps rest is. otherwise i (end_found Token.TagEnd Token.TrimTagEnd u m.0 after m.1) b.is f.word f.end' is) refl f.next)

    endif_word : ByWord in_arm t Token.Endif
    endif_word u next after i e l =
        let m = made_ok {F = Fault} (closed in_arm arm outer) (tag_end u) next after e in
        let b : Behind whole (closed in_arm arm outer m.0) after = behind_is whole (closed in_arm arm outer m.0) next after m.2 l in
        ends_arm (extend outer whole kept (kept ++ Piece.Choice all_arms (template_of []) ∷ []) (Piece.Choice all_arms (template_of []) ∷ []) (after_arms all_arms) (behind_tag m.0) t after
        (λ s ps rest is. endif i (end_found Token.TagEnd Token.TrimTagEnd u m.0 after m.1) is) refl b)

  last_endif_word : (outer : List Choosing) (kept : List Piece) (arms : List (Expr × Template)) (body : List Piece) (front : Bool) (t : List ℕ) → ByWord (state (choosing_of kept arms None ∷ outer) body front) t Token.Endif
  last_endif_word outer kept arms body front t u next after i e l =
      let c : Choosing = choosing_of kept arms None in
      let found : Found = state (c ∷ outer) body front in
      let m = made_ok {F = Fault} (closed found c outer) (tag_end u) next after e in
      let b : Behind whole (closed found c outer m.0) after = behind_is whole (closed found c outer m.0) next after m.2 l in
      let f : AfterFallback kept arms body t (Left outer whole) = record { a = u; b = after; trims = m.0; word = i; end' = end_found Token.TagEnd Token.TrimTagEnd u m.0 after m.1; next = b } in
      record { ps = []; after = t; is = stops; next = subst (λ (xs : List Piece). AfterFallback kept arms xs t (Left outer whole)) (sym (append-nil body)) f }

  all_words : (stack : List Choosing) (old : List Piece) (front : Bool) (t : List ℕ) → AllTokens (ByWord (state stack old front) t) (statements stack)
  all_words [] old front t = (set_word [] old front t, (if_word [] old front t, tt))
  all_words (c ∷ outer) old front t =
      by_test (λ (c : Choosing). AllTokens (ByWord (state (c ∷ outer) old front) t) (statements (c ∷ outer)))
      (λ c. (set_word (choosing_of c.before c.arms None ∷ outer) old front t, (if_word (choosing_of c.before c.arms None ∷ outer) old front t, (last_endif_word outer c.before c.arms old front t, tt))))
      (λ c e. (
        set_word (choosing_of c.before c.arms (Some e) ∷ outer) old front t,
        (if_word (choosing_of c.before c.arms (Some e) ∷ outer) old front t, (elif_word outer c.before c.arms e old front t, (else_word outer c.before c.arms e old front t, (endif_word outer c.before c.arms e old front t, tt)))),
      )) c

  statement_tag : (stack : List Choosing) (old : List Piece) (front : Bool) (t : List ℕ) (next : Found) (after : List ℕ) → statement (state stack old front) t ≡ Ok (next, after) → Behind whole next after
      → Left stack whole old (inside_tag Tag.Statement) t
  unfolding statement
  statement_tag stack old front t next after e l =
      let found : Found = state stack old front in
      let b = bind_ok (one_of (statements stack) (statements stack) t) (λ token. statement_by token.0 found token.1) (next, after) e in
      let o = one_found (ByWord found t) (statements stack) (statements stack) t b.0.0 b.0.1 (all_words stack old front t) b.1 in
      o.0 b.0.1 next after o.1 b.2 l

  tag_found : (kind : Tag) (stack : List Choosing) (old : List Piece) (front : Bool) (t : List ℕ) (next : Found) (after : List ℕ) → tag_by kind (state stack old front) t ≡ Ok (next, after) → Behind whole next after
      → Left stack whole old (inside_tag kind) t
  tag_found Tag.Show = show_tag
  tag_found Tag.Statement = statement_tag
  tag_found Tag.Comment = comment_tag

-- ---- the whole text

end_of_text : (stack : List Choosing) (old : List Piece) (trims : Bool) (t a : List ℕ) (x : Template) (rest : List ℕ) → a ≡ [] → (s : List ℕ) → IsText t s a → finished (state stack old trims) (before t a) a ≡ Ok (x, rest)
    → Left stack x old (behind_tag trims) t × (rest ≡ [])
end_of_text [] old trims t a x rest none s h e =
    let p = ok_parts {F = Fault} (template_of (with_text (state [] old trims) false (before t a)).pieces, a) (x, rest) e in
    let here : IsPieces (behind_tag trims) at_the_end t (text_piece (trimmed trims false s)) [] = last_text (subst (λ (r : List ℕ). IsText t s r) none h) in
    (record { ps = text_piece (trimmed trims false s); is = here; all = ap (λ (v : List ℕ). template_of (old ++ text_piece (trimmed trims false v))) (sym (text_before h)) ∙ p.0 }, sym p.1 ∙ none)
end_of_text (c ∷ outer) old trims t a x rest none s h e = absurd cc

after_found : (n : ℕ) (stack : List Choosing) (old : List Piece) (trims : Bool) (t a : List ℕ) (o : Option Tag) (x : Template) (rest : List ℕ) → TextFound t o a
    → ((next : Found) (u : List ℕ) → piece_turns n next u ≡ Ok (x, rest) → Behind x next u × (rest ≡ [])) → after_piece o (piece_turns n) (state stack old trims) (before t a) a ≡ Ok (x, rest)
    → Left stack x old (behind_tag trims) t × (rest ≡ [])
after_found n stack old trims t a None x rest f again e = end_of_text stack old trims t a x rest (f.end refl) f.s f.is e
after_found n stack old trims t a (Some kind) x rest f again e =
    let pre : List Piece = text_piece (trimmed trims (sign_of a) (before t a)) in
    let b = bind_ok (tag_by kind (with_text (state stack old trims) (sign_of a) (before t a)) (behind_sign a)) (λ next. piece_turns n next.0 next.1) (x, rest) e in
    let g = again b.0.0 b.0.1 b.2 in
    let inner : Left stack x (old ++ pre) (inside_tag kind) (behind_sign a) = tag_found x kind stack (old ++ pre) trims (behind_sign a) b.0.0 b.0.1 b.1 g.0 in
    let same : f.s ≡ before t a = sym (text_before f.is) in
    let here : IsText t (before t a) a = subst (λ (v : List ℕ). IsText t v a) same f.is in
    (extend stack x old (old ++ pre) pre (behind_tag trims) (inside_tag kind) t (behind_sign a) (λ s ps r is. tag here (opens_found kind a f.tag) is) refl inner, g.1)

pieces_found : (n : ℕ) (found : Found) (t : List ℕ) (x : Template) (rest : List ℕ) → piece_turns n found t ≡ Ok (x, rest) → Behind x found t × (rest ≡ [])
unfolding piece_turns
pieces_found zero found t x rest e = absurd cc
pieces_found (suc n) found t x rest e =
    let b = bind_ok (text t) (λ tag. after_piece tag.0 (piece_turns n) found (before t tag.1) tag.1) (x, rest) e in
    after_found n found.open' found.pieces found.trims t b.0.1 b.0.0 x rest (text_found t b.0.0 b.0.1 b.1) (λ next u h. pieces_found n next u x rest h) b.2

pub template_found : (t : List ℕ) (x : Template) (rest : List ℕ) → template t ≡ Ok (x, rest) → IsTemplate t x × (rest ≡ [])
unfolding template
template_found t x rest e =
    let g = pieces_found (suc (length t)) (state [] [] false) t x rest e in
    (subst (λ (y : Template). IsTemplate t y) g.0.all (template_is g.0.is), g.1)
