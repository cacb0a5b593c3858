-- Pieces in the grammar are read, and so is the whole text.
use Rattle.std.proofs.Common.{◌≡◌, ℕ, suc, zero, ◌<◌, Bool, true, false, List, [], ◌∷◌, ◌++◌, length, Option, Some, None, Ok, refl, sym, ap, ◌∙◌, subst, arith, append_assoc, append-nil}
use Rattle.ha_config.specs.declared.template.Expr.{Expr}
use Rattle.ha_config.specs.declared.template.Piece.{Piece}
use Rattle.ha_config.specs.declared.template.Piece
use Rattle.ha_config.specs.declared.template.Template.{Template}
use Rattle.reading.specs.Answer.{◌>>=◌, Answer, made}
use Rattle.tpl_parse.specs.declared.token.Token.{Token}
use Rattle.tpl_parse.specs.declared.pieces.Tag.{Tag}
use Rattle.tpl_parse.specs.Token.{spaces, next_is, behind, want}
use Rattle.tpl_parse.specs.Literal.{before, name}
use Rattle.tpl_parse.specs.Pieces.{Choosing, Found, template_of, text_piece, trimmed, with_text, with_piece, begun, next_arm, closed, statements, statement, statement_by, set_name, tag_by, one_of, finished, after_piece, piece_turns, template}
use Rattle.tpl_parse.specs.Grammar.{Takes, takes, IsName, IsText, Opens, IsComment, IsLast, IsTagEnd, IsTagExpression, Place, behind as behind_tag, inside_tag, after_arms, Stop, at_the_end, at_a_statement, IsPieces, last_text, tag, comment as comment_is, shown, stops, set, choice, elif, otherwise, endif, IsTemplate, template as template_is}
use Rattle.tpl_parse.proofs.Next.{Fault, taken, spaces_within}
use Rattle.tpl_parse.proofs.Runs.{name_read}
use Rattle.tpl_parse.proofs.Starts.{name_within}
use Rattle.tpl_parse.proofs.OnlyTags.{text_to_tag, text_to_end, text_before, text_within, opens_read, comment_read, comment_within, end_within, last_within, show_read, tag_read, tag_end_read, one_read}

abbrev pub Turned : Type 0
Turned = Answer ℕ Fault Template

abbrev pub state : List Choosing → List Piece → Bool → Found
state stack pieces trims = record { open' = stack; pieces = pieces; trims = trims }

-- the turns behind a step
abbrev pub then_turns : ℕ → Answer ℕ Fault Found → Turned
then_turns m step = step >>= λ next. piece_turns m next.0 next.1

-- what is answered where pieces are read behind those that stand before them
abbrev pub Goes : Stop → List Choosing → List Piece → List Piece → List ℕ → Turned → Type 0
Goes at_the_end stack old ps rest answer = stack ≡ [] → answer ≡ Ok (template_of (old ++ ps), rest)
Goes at_a_statement stack old ps rest answer = (m : ℕ) × (trims : Bool) × (length rest < m) × (answer ≡ then_turns m (statement (state stack (old ++ ps) trims) rest))

goes_is : (stop' : Stop) (stack : List Choosing) (old old' ps ps' : List Piece) (rest : List ℕ) (answer answer' : Turned) → answer' ≡ answer → old ++ ps ≡ old' ++ ps' → Goes stop' stack old ps rest answer → Goes stop' stack old' ps' rest answer'
goes_is at_the_end stack old old' ps ps' rest answer answer' a e g = λ none. a ∙ g none ∙ ap (λ (xs : List Piece). Ok (template_of xs, rest)) e
goes_is at_a_statement stack old old' ps ps' rest answer answer' a e g = (g.0, g.1, g.2, a ∙ g.3 ∙ ap (λ (xs : List Piece). then_turns g.0 (statement (state stack xs g.1) rest)) e)

-- a piece more stands before
one_before : (old ps : List Piece) (p : Piece) → (old ++ p ∷ []) ++ ps ≡ old ++ p ∷ ps
one_before old ps p = append_assoc old (p ∷ []) ps

-- ---- the words of statements

abbrev Words : List Choosing → List Token
Words stack = statements stack

abbrev pub choosing_of : List Piece → List (Expr × Template) → Option Expr → Choosing
choosing_of old arms test' = record { before = old; arms = arms; test = test' }

-- what holds for a choice whose test is written out holds for all
pub by_test : (P : Choosing → Type 0) → ((c : Choosing) → P (choosing_of c.before c.arms None)) → ((c : Choosing) (e : Expr) → P (choosing_of c.before c.arms (Some e))) → (c : Choosing) → P c
by_test P no_test some_test c = go c.test refl
  where
    go : (o : Option Expr) → c.test ≡ o → P c
    go None e = subst (λ (o : Option Expr). P (choosing_of c.before c.arms o)) (sym e) (no_test c)
    go (Some x) e = subst (λ (o : Option Expr). P (choosing_of c.before c.arms o)) (sym e) (some_test c x)

set_first : (stack : List Choosing) (t : List ℕ) → next_is Token.Set t ≡ true → one_of (statements stack) (statements stack) t ≡ Ok (Token.Set, behind Token.Set t)
set_first [] t h = one_read Token.Set (statements []) [] (Token.If ∷ []) t tt h
set_first (c ∷ outer) t h =
    by_test (λ (c : Choosing). one_of (statements (c ∷ outer)) (statements (c ∷ outer)) t ≡ Ok (Token.Set, behind Token.Set t))
    (λ c. one_read Token.Set (Token.Set ∷ Token.If ∷ Token.Endif ∷ []) [] (Token.If ∷ Token.Endif ∷ []) t tt h)
    (λ c e. one_read Token.Set (Token.Set ∷ Token.If ∷ Token.Elif ∷ Token.Else ∷ Token.Endif ∷ []) [] (Token.If ∷ Token.Elif ∷ Token.Else ∷ Token.Endif ∷ []) t tt h) c

if_first : (stack : List Choosing) (t : List ℕ) → next_is Token.If t ≡ true → one_of (statements stack) (statements stack) t ≡ Ok (Token.If, behind Token.If t)
if_first [] t h = one_read Token.If (statements []) (Token.Set ∷ []) [] t (refl, tt) h
if_first (c ∷ outer) t h =
    by_test (λ (c : Choosing). one_of (statements (c ∷ outer)) (statements (c ∷ outer)) t ≡ Ok (Token.If, behind Token.If t))
    (λ c. one_read Token.If (Token.Set ∷ Token.If ∷ Token.Endif ∷ []) (Token.Set ∷ []) (Token.Endif ∷ []) t (refl, tt) h)
    (λ c e. one_read Token.If (Token.Set ∷ Token.If ∷ Token.Elif ∷ Token.Else ∷ Token.Endif ∷ []) (Token.Set ∷ []) (Token.Elif ∷ Token.Else ∷ Token.Endif ∷ []) t (refl, tt) h) c

abbrev arm_words : List Token
arm_words = Token.Set ∷ Token.If ∷ Token.Elif ∷ Token.Else ∷ Token.Endif ∷ []

-- ---- statements

-- the step of a statement whose word stands next
by_word : (found : Found) (t : List ℕ) (token : Token) (u : List ℕ) → one_of (statements found.open') (statements found.open') t ≡ Ok (token, u) → statement found t ≡ statement_by token found u
unfolding statement
by_word found t token u e = ap (λ (w : Answer ℕ Fault Token). w >>= λ token. statement_by token.0 found token.1) e

at_word : (found : Found) (t a : List ℕ) (token : Token) → one_of (statements found.open') (statements found.open') t ≡ Ok (token, behind token t) → Takes token t a → statement found t ≡ statement_by token found a
at_word found t a token e i = by_word found t token (behind token t) e ∙ ap (statement_by token found) (taken {t = t} refl i).rest_is

takes_next : {token : Token} {t a : List ℕ} → Takes token t a → next_is token t ≡ true
takes_next (takes h) = h

set_read : (found : Found) (t a b c d w : List ℕ) (e : Expr) (trims : Bool) → Takes Token.Set t a → IsName (spaces a) w b → Takes Token.Assign b c → IsTagExpression e trims c d
    → statement found t ≡ Ok (with_piece found (Piece.Assign w e) trims, d)
unfolding set_name name want
set_read found t a b c d w e trims i n j l =
    let k = taken {t = b} refl j in
    at_word found t a Token.Set (set_first found.open' t (takes_next i)) i ∙ rw (name_read n, k.rest_is, k.next, tag_read l) refl

if_read : (found : Found) (t a b : List ℕ) (e : Expr) (trims : Bool) → Takes Token.If t a → IsTagExpression e trims a b → statement found t ≡ Ok (begun found e trims, b)
if_read found t a b e trims i l = at_word found t a Token.If (if_first found.open' t (takes_next i)) i ∙ rw (tag_read l) refl

-- a tag that ends an arm
module _ (outer : List Choosing) (old body : List Piece) (arms : List (Expr × Template)) (test' : Expr) (front_trims : Bool) where
  abbrev arm : Choosing
  arm = choosing_of old arms (Some test')

  abbrev in_arm : Found
  in_arm = state (arm ∷ outer) body front_trims

  elif_read : (t a b : List ℕ) (e : Expr) (trims : Bool) → Takes Token.Elif t a → IsTagExpression e trims a b → statement in_arm t ≡ Ok (next_arm in_arm arm outer (Some e) trims, b)
  elif_read t a b e trims i l =
      at_word in_arm t a Token.Elif (one_read Token.Elif arm_words (Token.Set ∷ Token.If ∷ []) (Token.Else ∷ Token.Endif ∷ []) t (refl, (refl, tt)) (takes_next i)) i ∙ rw (tag_read l) refl

  else_read : (t a b : List ℕ) (trims : Bool) → Takes Token.Else t a → IsTagEnd trims a b → statement in_arm t ≡ Ok (next_arm in_arm arm outer None trims, b)
  else_read t a b trims i l =
      at_word in_arm t a Token.Else (one_read Token.Else arm_words (Token.Set ∷ Token.If ∷ Token.Elif ∷ []) (Token.Endif ∷ []) t (refl, (refl, (refl, tt))) (takes_next i)) i
      ∙ ap (made (next_arm in_arm arm outer None)) (tag_end_read l)

  endif_read : (t a b : List ℕ) (trims : Bool) → Takes Token.Endif t a → IsTagEnd trims a b → statement in_arm t ≡ Ok (closed in_arm arm outer trims, b)
  endif_read t a b trims i l =
      at_word in_arm t a Token.Endif (one_read Token.Endif arm_words (Token.Set ∷ Token.If ∷ Token.Elif ∷ Token.Else ∷ []) [] t (refl, (refl, (refl, (refl, tt)))) (takes_next i)) i
      ∙ ap (made (closed in_arm arm outer)) (tag_end_read l)

-- the tag that ends the fallback
last_endif : (outer : List Choosing) (old body : List Piece) (arms : List (Expr × Template)) (front_trims : Bool) (t a b : List ℕ) (trims : Bool) → Takes Token.Endif t a → IsTagEnd trims a b
    → statement (state (choosing_of old arms None ∷ outer) body front_trims) t ≡ Ok (closed (state (choosing_of old arms None ∷ outer) body front_trims) (choosing_of old arms None) outer trims, b)
last_endif outer old body arms front_trims t a b trims i l =
    at_word (state (choosing_of old arms None ∷ outer) body front_trims) t a Token.Endif
    (one_read Token.Endif (Token.Set ∷ Token.If ∷ Token.Endif ∷ []) (Token.Set ∷ Token.If ∷ []) [] t (refl, (refl, tt)) (takes_next i)) i
    ∙ ap (made (closed (state (choosing_of old arms None ∷ outer) body front_trims) (choosing_of old arms None) outer)) (tag_end_read l)

-- ---- pieces

-- what is owed for pieces at each place
abbrev pub Owed : Place → Stop → List ℕ → List Piece → List ℕ → Type 0
Owed (behind_tag trims) stop' t ps rest = (n : ℕ) → length t < n → (stack : List Choosing) (old : List Piece) → Goes stop' stack old ps rest (piece_turns n (state stack old trims) t)
Owed (inside_tag kind) stop' t ps rest = (m : ℕ) → length t < m → (stack : List Choosing) (old : List Piece) (trims : Bool) → Goes stop' stack old ps rest (then_turns m (tag_by kind (state stack old trims) t))
Owed (after_arms all) stop' t ps rest =
    (m : ℕ) → length t < m → (outer : List Choosing) (old body : List Piece) (arms : List (Expr × Template)) (test' : Expr) (trims : Bool) → arms ++ (test', template_of body) ∷ [] ≡ all
    → Goes stop' outer old ps rest (then_turns m (statement (state (choosing_of old arms (Some test') ∷ outer) body trims) t))

last_text_read : (t s : List ℕ) (trims : Bool) → IsText t s [] → Owed (behind_tag trims) at_the_end t (text_piece (trimmed trims false s)) []
unfolding piece_turns
last_text_read t s trims h zero lt stack old = absurd (omega arith)
last_text_read t s trims h (suc n) lt stack old = λ none.
    ap (λ (w : Answer ℕ Fault (Option Tag)). w >>= λ tag. after_piece tag.0 (piece_turns n) (state stack old trims) (before t tag.1) tag.1) (text_to_end h)
    ∙ ap (λ (v : List ℕ). finished (state stack old trims) v []) (text_before h)
    ∙ ap (λ (k : List Choosing). finished (state k old trims) s []) none

tag_step : (t s a b : List ℕ) (kind : Tag) (sign trims : Bool) (n : ℕ) (stack : List Choosing) (old : List Piece) → IsText t s a → Opens kind sign a b
    → piece_turns (suc n) (state stack old trims) t ≡ then_turns n (tag_by kind (state stack (old ++ text_piece (trimmed trims sign s)) trims) b)
unfolding piece_turns
tag_step t s a b kind sign trims n stack old h o =
    let k = opens_read o in
    ap (λ (w : Answer ℕ Fault (Option Tag)). w >>= λ tag. after_piece tag.0 (piece_turns n) (state stack old trims) (before t tag.1) tag.1) (text_to_tag kind h k.tag)
    ∙ (λ i. then_turns n (tag_by kind (with_text (state stack old trims) (k.sign_is i) (text_before h i)) (k.rest i)))

tag_piece_read : (t s a b rest : List ℕ) (kind : Tag) (sign trims : Bool) (stop' : Stop) (ps : List Piece) → IsText t s a → Opens kind sign a b → Owed (inside_tag kind) stop' b ps rest
    → Owed (behind_tag trims) stop' t (text_piece (trimmed trims sign s) ++ ps) rest
tag_piece_read t s a b rest kind sign trims stop' ps h o more zero lt stack old = absurd (omega arith)
tag_piece_read t s a b rest kind sign trims stop' ps h o more (suc n) lt stack old =
    let g = more n (omega (arith, text_within h, (opens_read o).shorter)) stack (old ++ text_piece (trimmed trims sign s)) trims in
    goes_is stop' stack (old ++ text_piece (trimmed trims sign s)) old ps (text_piece (trimmed trims sign s) ++ ps) rest _ _ (tag_step t s a b kind sign trims n stack old h o) (append_assoc old (text_piece (trimmed trims sign s)) ps) g

after_step : (m : ℕ) (step : Answer ℕ Fault Found) (found : Found) (rest : List ℕ) → step ≡ Ok (found, rest) → then_turns m step ≡ piece_turns m found rest
after_step m step found rest e = ap (then_turns m) e

comment_piece_read : (t a rest : List ℕ) (trims : Bool) (stop' : Stop) (ps : List Piece) → IsComment trims t a → Owed (behind_tag trims) stop' a ps rest → Owed (inside_tag Tag.Comment) stop' t ps rest
comment_piece_read t a rest trims stop' ps h more m lt stack old front =
    goes_is stop' stack old old ps ps rest _ _
    (after_step m (tag_by Tag.Comment (state stack old front) t) (state stack old trims) a (ap (made (λ (k : Bool). state stack old k)) (comment_read h))) refl (more m (omega (arith, comment_within h)) stack old)

show_piece_read : (t a rest : List ℕ) (e : Expr) (trims : Bool) (stop' : Stop) (ps : List Piece) → IsLast Token.ShowEnd Token.TrimShowEnd e trims t a → Owed (behind_tag trims) stop' a ps rest
    → Owed (inside_tag Tag.Show) stop' t (Piece.Show e ∷ ps) rest
show_piece_read t a rest e trims stop' ps l more m lt stack old front =
    goes_is stop' stack (old ++ Piece.Show e ∷ []) old ps (Piece.Show e ∷ ps) rest _ _
    (after_step m (tag_by Tag.Show (state stack old front) t) (state stack (old ++ Piece.Show e ∷ []) trims) a (ap (made (λ (x : Expr × Bool). with_piece (state stack old front) (Piece.Show x.0) x.1)) (show_read l)))
    (one_before old ps (Piece.Show e)) (more m (omega (arith, last_within l)) stack (old ++ Piece.Show e ∷ []))

stops_read : (t : List ℕ) → Owed (inside_tag Tag.Statement) at_a_statement t [] t
stops_read t m lt stack old front = (m, front, lt, ap (λ (xs : List Piece). then_turns m (statement (state stack xs front) t)) (sym (append-nil old)))

set_size : (t a b c d w : List ℕ) (e : Expr) (trims : Bool) → Takes Token.Set t a → IsName (spaces a) w b → Takes Token.Assign b c → IsTagExpression e trims c d → length d < length t
set_size t a b c d w e trims i n j l =
    let k = taken {t = t} refl i in
    let k' = taken {t = b} refl j in
    omega (arith, k.shorter, spaces_within t, name_within n, spaces_within a, k'.shorter, spaces_within b, last_within l)

set_piece_read : (t a b c d rest w : List ℕ) (e : Expr) (trims : Bool) (stop' : Stop) (ps : List Piece) → Takes Token.Set t a → IsName (spaces a) w b → Takes Token.Assign b c → IsTagExpression e trims c d
    → Owed (behind_tag trims) stop' d ps rest → Owed (inside_tag Tag.Statement) stop' t (Piece.Assign w e ∷ ps) rest
set_piece_read t a b c d rest w e trims stop' ps i n j l more m lt stack old front =
    goes_is stop' stack (old ++ Piece.Assign w e ∷ []) old ps (Piece.Assign w e ∷ ps) rest _ _
    (after_step m (statement (state stack old front) t) (state stack (old ++ Piece.Assign w e ∷ []) trims) d (set_read (state stack old front) t a b c d w e trims i n j l))
    (one_before old ps (Piece.Assign w e)) (more m (omega (arith, set_size t a b c d w e trims i n j l)) stack (old ++ Piece.Assign w e ∷ []))

word_size : {token : Token} {t a : List ℕ} → Takes token t a → length a < length t
word_size {t = t} i = omega (arith, (taken {t = t} refl i).shorter, spaces_within t)

-- a choice: the pieces of its first arm, and then what the tag behind them says
choice_piece_read : (t a b c rest : List ℕ) (e : Expr) (trims : Bool) (stop' : Stop) (body ps : List Piece) → Takes Token.If t a → IsTagExpression e trims a b → Owed (behind_tag trims) at_a_statement b body c
    → Owed (after_arms ((e, template_of body) ∷ [])) stop' c ps rest → Owed (inside_tag Tag.Statement) stop' t ps rest
choice_piece_read t a b c rest e trims stop' body ps i l inner more m lt stack old front =
    let g = inner m (omega (arith, word_size i, last_within l)) (choosing_of old [] (Some e) ∷ stack) [] in
    goes_is stop' stack old old ps ps rest _ _
    (after_step m (statement (state stack old front) t) (state (choosing_of old [] (Some e) ∷ stack) [] trims) b (if_read (state stack old front) t a b e trims i l) ∙ g.3) refl
    (more g.0 g.2 stack old body [] e g.1 refl)

elif_piece_read : (t a b c rest : List ℕ) (e : Expr) (trims : Bool) (stop' : Stop) (all : List (Expr × Template)) (body ps : List Piece) → Takes Token.Elif t a → IsTagExpression e trims a b
    → Owed (behind_tag trims) at_a_statement b body c → Owed (after_arms (all ++ (e, template_of body) ∷ [])) stop' c ps rest → Owed (after_arms all) stop' t ps rest
elif_piece_read t a b c rest e trims stop' all body ps i l inner more m lt outer old last' arms test' front is =
    let new : List (Expr × Template) = arms ++ (test', template_of last') ∷ [] in
    let g = inner m (omega (arith, word_size i, last_within l)) (choosing_of old new (Some e) ∷ outer) [] in
    goes_is stop' outer old old ps ps rest _ _
    (after_step m (statement (state (choosing_of old arms (Some test') ∷ outer) last' front) t) (state (choosing_of old new (Some e) ∷ outer) [] trims) b (elif_read outer old last' arms test' front t a b e trims i l) ∙ g.3) refl
    (more g.0 g.2 outer old body new e g.1 (ap (λ (xs : List (Expr × Template)). xs ++ (e, template_of body) ∷ []) is))

endif_piece_read : (t a b rest : List ℕ) (trims : Bool) (stop' : Stop) (all : List (Expr × Template)) (ps : List Piece) → Takes Token.Endif t a → IsTagEnd trims a b → Owed (behind_tag trims) stop' b ps rest
    → Owed (after_arms all) stop' t (Piece.Choice all (template_of []) ∷ ps) rest
endif_piece_read t a b rest trims stop' all ps i l more m lt outer old last' arms test' front is =
    let new : List (Expr × Template) = arms ++ (test', template_of last') ∷ [] in
    let p : List (Expr × Template) → Piece = λ xs. Piece.Choice xs (template_of []) in
    goes_is stop' outer (old ++ p new ∷ []) old ps (p all ∷ ps) rest _ _
    (after_step m (statement (state (choosing_of old arms (Some test') ∷ outer) last' front) t) (state outer (old ++ p new ∷ []) trims) b (endif_read outer old last' arms test' front t a b trims i l))
    (one_before old ps (p new) ∙ ap (λ (xs : List (Expr × Template)). old ++ p xs ∷ ps) is)
    (more m (omega (arith, word_size i, end_within l, spaces_within a)) outer (old ++ p new ∷ []))

otherwise_piece_read : (t a b c d f rest : List ℕ) (trims trims_end : Bool) (stop' : Stop) (all : List (Expr × Template)) (body ps : List Piece) → Takes Token.Else t a → IsTagEnd trims a b
    → Owed (behind_tag trims) at_a_statement b body c → Takes Token.Endif c d → IsTagEnd trims_end d f → Owed (behind_tag trims_end) stop' f ps rest
    → Owed (after_arms all) stop' t (Piece.Choice all (template_of body) ∷ ps) rest
otherwise_piece_read t a b c d f rest trims trims_end stop' all body ps i l inner j k more m lt outer old last' arms test' front is =
    let new : List (Expr × Template) = arms ++ (test', template_of last') ∷ [] in
    let p : List (Expr × Template) → Piece = λ xs. Piece.Choice xs (template_of body) in
    let g = inner m (omega (arith, word_size i, end_within l, spaces_within a)) (choosing_of old new None ∷ outer) [] in
    goes_is stop' outer (old ++ p new ∷ []) old ps (p all ∷ ps) rest _ _
    (after_step m (statement (state (choosing_of old arms (Some test') ∷ outer) last' front) t) (state (choosing_of old new None ∷ outer) [] trims) b (else_read outer old last' arms test' front t a b trims i l) ∙ g.3
    ∙ after_step g.0 (statement (state (choosing_of old new None ∷ outer) body g.1) c) (state outer (old ++ p new ∷ []) trims_end) f (last_endif outer old body new g.1 c d f trims_end j k))
    (one_before old ps (p new) ∙ ap (λ (xs : List (Expr × Template)). old ++ p xs ∷ ps) is)
    (more g.0 (let lt' = g.2 in omega (arith, word_size j, end_within k, spaces_within d)) outer (old ++ p new ∷ []))

pub pieces_read : {place : Place} {stop' : Stop} {t rest : List ℕ} {ps : List Piece} → IsPieces place stop' t ps rest → Owed place stop' t ps rest
pieces_read (last_text {trims = trims} {text = t} {t = s} h) = last_text_read t s trims h
pieces_read (tag {trims = trims} {sign = sign} {kind = kind} {stop = stop'} {text = t} {t = s} {a = a} {b = b} {rest = rest} {ps = ps} h o more) =
    tag_piece_read t s a b rest kind sign trims stop' ps h o (pieces_read more)
pieces_read (comment_is {trims = trims} {stop = stop'} {text = t} {a = a} {rest = rest} {ps = ps} h more) = comment_piece_read t a rest trims stop' ps h (pieces_read more)
pieces_read (shown {trims = trims} {stop = stop'} {text = t} {a = a} {rest = rest} {e = e} {ps = ps} l more) = show_piece_read t a rest e trims stop' ps l (pieces_read more)
pieces_read (stops {text = t}) = stops_read t
pieces_read (set {trims = trims} {stop = stop'} {text = t} {a = a} {b = b} {c = c} {d = d} {word = w} {rest = rest} {e = e} {ps = ps} i n j l more) =
    set_piece_read t a b c d rest w e trims stop' ps i n j l (pieces_read more)
pieces_read (choice {trims = trims} {stop = stop'} {text = t} {a = a} {b = b} {c = c} {rest = rest} {test' = e} {body = body} {ps = ps} i l inner more) =
    choice_piece_read t a b c rest e trims stop' body ps i l (pieces_read inner) (pieces_read more)
pieces_read (elif {trims = trims} {stop = stop'} {arms = all} {text = t} {a = a} {b = b} {c = c} {rest = rest} {test' = e} {body = body} {ps = ps} i l inner more) =
    elif_piece_read t a b c rest e trims stop' all body ps i l (pieces_read inner) (pieces_read more)
pieces_read (otherwise {trims = trims} {trims_end = trims_end} {stop = stop'} {arms = all} {text = t} {a = a} {b = b} {c = c} {d = d} {f = f} {rest = rest} {body = body} {ps = ps} i l inner j k more) =
    otherwise_piece_read t a b c d f rest trims trims_end stop' all body ps i l (pieces_read inner) j k (pieces_read more)
pieces_read (endif {trims = trims} {stop = stop'} {arms = all} {text = t} {a = a} {b = b} {rest = rest} {ps = ps} i l more) = endif_piece_read t a b rest trims stop' all ps i l (pieces_read more)

-- the whole text of a tree is read
whole_read : (t : List ℕ) (ps : List Piece) → IsPieces (behind_tag false) at_the_end t ps [] → template t ≡ Ok (template_of ps, [])
unfolding template
whole_read t ps h = pieces_read h (suc (length t)) (omega arith) [] [] refl

pub template_read : (t : List ℕ) (x : Template) → IsTemplate t x → template t ≡ Ok (x, [])
template_read t x (template_is {ps = ps} h) = whole_read t ps h
