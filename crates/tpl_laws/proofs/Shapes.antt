-- Texts that go on to the end of the whole from a place within it, by the choices that are open there.
use Rattle.std.proofs.Common.{◌≡◌, ℕ, ◌<◌, Bool, true, false, cond, ◌⊎◌, inl, inr, List, [], ◌∷◌, ◌++◌, length, Option, Some, None, refl, sym, ap, ◌∙◌, subst, arith, append_assoc, append-nil}
use Rattle.std.specs.Prelude.{◌==◌, encode_utf8}
use Rattle.ha_config.specs.declared.template.Expr.{Expr}
use Rattle.ha_config.specs.declared.template.Piece.{Piece}
use Rattle.ha_config.specs.declared.template.Piece
use Rattle.ha_config.specs.declared.template.Template.{Template}
use Rattle.reading.specs.Answer.{front}
use Rattle.reading.proofs.Characters.{ascii_read}
use Rattle.tpl_parse.specs.declared.token.Token.{Token}
use Rattle.tpl_parse.specs.Token.{spaces, text_of}
use Rattle.tpl_parse.specs.Pieces.{Choosing, template_of, tag_at, tag_of, text_piece, trimmed}
use Rattle.tpl_parse.specs.Grammar.{Takes, IsName, IsCharacter, IsText, no_character, one_character, Opens, plain, IsComment, IsTagEnd, IsTagExpression, IsLast, ends, Place, behind as behind_tag, inside_tag, after_arms, Stop, at_the_end, at_a_statement, IsPieces, last_text, tag, comment as comment_is, shown, stops, set, choice, elif, otherwise, endif}
use Rattle.tpl_parse.proofs.OnlyTags.{text_parts}
use Rattle.tpl_parse.proofs.Characters.{character_found, character_some}
use Rattle.tpl_laws.proofs.TagKinds.{Kind, show_kind, statement_kind, comment_kind}
use Rattle.tpl_laws.proofs.Lexical.{char_again, char_parts}
use Rattle.tpl_laws.proofs.Depths.{takes_next}

-- the open choices, the innermost first: whether the arm that is read has a test, which the fallback has not
abbrev pub shape_of : List Choosing → List Bool
shape_of [] = []
shape_of (c ∷ outer) = has_test c.test ∷ shape_of outer
  where
    has_test : Option Expr → Bool
    has_test None = false
    has_test (Some e) = true

abbrev Following : Type 1
Following = Place → List ℕ → Type 0

-- the tag that ends a fallback, and what follows it
pub record AfterFallback (t : List ℕ) (Next : Following) : Type 0 where
  pub a : List ℕ
  pub b : List ℕ
  pub trims : Bool
  pub word : Takes Token.Endif t a
  pub end' : IsTagEnd trims a b
  pub next : Next (behind_tag trims) b

-- what follows the pieces of an arm, whatever the arms are, or of the fallback
abbrev pub AfterArm : Bool → List ℕ → Following → Type 0
AfterArm false t Next = AfterFallback t Next
AfterArm true t Next = (arms : List (Expr × Template)) → Next (after_arms arms) t

pub record ToTheEnd (place : Place) (t : List ℕ) : Type 0 where
  pub ps : List Piece
  pub is : IsPieces place at_the_end t ps []

pub record ToTheTag (tested : Bool) (Next : Following) (place : Place) (t : List ℕ) : Type 0 where
  pub ps : List Piece
  pub after : List ℕ
  pub is : IsPieces place at_a_statement t ps after
  pub next : AfterArm tested after Next

-- the text goes on from the place to the end of the whole
abbrev pub Ends : List Bool → Following
Ends [] place t = ToTheEnd place t
Ends (tested ∷ outer) place t = ToTheTag tested (Ends outer) place t

-- where pieces stand before what is left
pub put_before : (shape : List Bool) (place place' : Place) (t t' : List ℕ) → ((stop' : Stop) (ps : List Piece) (rest : List ℕ) → IsPieces place' stop' t' ps rest → (all : List Piece) × IsPieces place stop' t all rest)
    → Ends shape place' t' → Ends shape place t
put_before [] place place' t t' put e = let p = put at_the_end e.ps [] e.is in record { ps = p.0; is = p.1 }
put_before (tested ∷ outer) place place' t t' put e = let p = put at_a_statement e.ps e.after e.is in record { ps = p.0; after = e.after; is = p.1; next = e.next }

-- ---- tags

pub comment_before : (shape : List Bool) (trims : Bool) (t a : List ℕ) → IsComment trims t a → Ends shape (behind_tag trims) a → Ends shape (inside_tag comment_kind) t
comment_before shape trims t a c = put_before shape (inside_tag comment_kind) (behind_tag trims) t a (λ s ps rest is. (ps, comment_is c is))

pub show_before : (shape : List Bool) (e : Expr) (trims : Bool) (t a : List ℕ) → IsLast Token.ShowEnd Token.TrimShowEnd e trims t a → Ends shape (behind_tag trims) a → Ends shape (inside_tag show_kind) t
show_before shape e trims t a l = put_before shape (inside_tag show_kind) (behind_tag trims) t a (λ s ps rest is. (Piece.Show e ∷ ps, shown l is))

pub set_before : (shape : List Bool) (w : List ℕ) (e : Expr) (trims : Bool) (t a b c d : List ℕ) → Takes Token.Set t a → IsName (spaces a) w b → Takes Token.Assign b c → IsTagExpression e trims c d → Ends shape (behind_tag trims) d
    → Ends shape (inside_tag statement_kind) t
set_before shape w e trims t a b c d i n j l = put_before shape (inside_tag statement_kind) (behind_tag trims) t d (λ s ps rest is. (Piece.Assign w e ∷ ps, set i n j l is))

pub if_before : (shape : List Bool) (e : Expr) (trims : Bool) (t a b : List ℕ) → Takes Token.If t a → IsTagExpression e trims a b → Ends (true ∷ shape) (behind_tag trims) b → Ends shape (inside_tag statement_kind) t
if_before shape e trims t a b i l m =
    put_before shape (inside_tag statement_kind) (after_arms ((e, template_of m.ps) ∷ [])) t m.after (λ s ps rest is. (ps, choice i l m.is is)) (m.next ((e, template_of m.ps) ∷ []))

pub elif_before : (shape : List Bool) (e : Expr) (trims : Bool) (t a b : List ℕ) → Takes Token.Elif t a → IsTagExpression e trims a b → Ends (true ∷ shape) (behind_tag trims) b → Ends (true ∷ shape) (inside_tag statement_kind) t
elif_before shape e trims t a b i l m = record {
  ps = [];
  after = t;
  is = stops;
  next = λ arms.
      put_before shape (after_arms arms) (after_arms (arms ++ (e, template_of m.ps) ∷ [])) t m.after (λ s ps rest is. (ps, elif i l m.is is)) (m.next (arms ++ (e, template_of m.ps) ∷ []));
}

pub else_before : (shape : List Bool) (trims : Bool) (t a b : List ℕ) → Takes Token.Else t a → IsTagEnd trims a b → Ends (false ∷ shape) (behind_tag trims) b → Ends (true ∷ shape) (inside_tag statement_kind) t
else_before shape trims t a b i l m =
    let f : AfterFallback m.after (Ends shape) = m.next in
    record {
      ps = [];
      after = t;
      is = stops;
      next = λ arms. put_before shape (after_arms arms) (behind_tag f.trims) t f.b (λ s ps rest is. (Piece.Choice arms (template_of m.ps) ∷ ps, otherwise i l m.is f.word f.end' is)) f.next;
    }

pub endif_before : (tested : Bool) (shape : List Bool) (trims : Bool) (t a b : List ℕ) → Takes Token.Endif t a → IsTagEnd trims a b → Ends shape (behind_tag trims) b → Ends (tested ∷ shape) (inside_tag statement_kind) t
endif_before true shape trims t a b i l m = record {
  ps = [];
  after = t;
  is = stops;
  next = λ arms. put_before shape (after_arms arms) (behind_tag trims) t b (λ s ps rest is. (Piece.Choice arms (template_of []) ∷ ps, endif i l is)) m;
}
endif_before false shape trims t a b i l m = record { ps = []; after = t; is = stops; next = record { a = a; b = b; trims = trims; word = i; end' = l; next = m } }

-- ---- texts

tag_like : (x : ℕ) (a o : List ℕ) → (front o ≡ front a) ⊎ (front o ≡ Some 32) → tag_at (x ∷ a) ≡ None → tag_at (x ∷ o) ≡ None
tag_like x a o (inl e) h = ap (λ (v : Option ℕ). cond (x == 123) (tag_of v) None) e ∙ h
tag_like x a o (inr e) h = ap (λ (v : Option ℕ). cond (x == 123) (tag_of v) None) e ∙ nothing (x == 123) where
  nothing : (y : Bool) → cond {A = Option Kind} y None None ≡ None
  nothing true = refl
  nothing false = refl

-- no tag begins at a character, whatever goes on alike
pub no_tag_again : (c rest o : List ℕ) → 0 < length c → (front o ≡ front rest) ⊎ (front o ≡ Some 32) → tag_at (c ++ rest) ≡ None → tag_at (c ++ o) ≡ None
no_tag_again [] rest o some l h = absurd (omega arith)
no_tag_again (x ∷ []) rest o some l h = tag_like x rest o l h
no_tag_again (x ∷ y ∷ c) rest o some l h = h

front_behind : (c rest o : List ℕ) → (front o ≡ front rest) ⊎ (front o ≡ Some 32) → (front (c ++ o) ≡ front (c ++ rest)) ⊎ (front (c ++ o) ≡ Some 32)
front_behind [] rest o l = l
front_behind (x ∷ c) rest o l = inl refl

pub text_behind : {t s a : List ℕ} → IsText t s a → (o s2 b : List ℕ) → (front o ≡ front a) ⊎ (front o ≡ Some 32) → IsText o s2 b → IsText (s ++ o) (s ++ s2) b
text_behind no_character o s2 b l more = more
text_behind {a = a} (one_character {text = t} {c = c} {after = u} {t = s} none is rest) o s2 b l more =
    let r = text_behind rest o s2 b l more in
    let same : u ≡ s ++ a = text_parts rest in
    let free : tag_at (c ++ (s ++ o)) ≡ None = no_tag_again c (s ++ a) (s ++ o) (character_some is) (front_behind s a o l) (ap tag_at (sym (char_parts is ∙ ap (λ (v : List ℕ). c ++ v) same)) ∙ none) in
    subst (λ (v : List ℕ). IsText v ((c ++ s) ++ s2) b) (sym (append_assoc c s o)) (subst (λ (v : List ℕ). IsText (c ++ (s ++ o)) v b) (sym (append_assoc c s s2)) (one_character free (char_again is (s ++ o)) r))

pub text_again : {t s a : List ℕ} → IsText t s a → (o : List ℕ) → (front o ≡ front a) ⊎ (front o ≡ Some 32) → IsText (s ++ o) s o
text_again {s = s} h o l = subst (λ (v : List ℕ). IsText (s ++ o) v o) (append-nil s) (text_behind h o [] o l no_character)

pieces_behind : {t s a : List ℕ} → IsText t s a → (o : List ℕ) → (front o ≡ front a) ⊎ (front o ≡ Some 32) → (trims : Bool) (stop' : Stop) (ps : List Piece) (rest : List ℕ) → IsPieces (behind_tag trims) stop' o ps rest
    → (all : List Piece) × IsPieces (behind_tag trims) stop' (s ++ o) all rest
pieces_behind {s = s} h o l trims stop' ps rest (last_text {t = s2} k) = (text_piece (trimmed trims false (s ++ s2)), last_text (text_behind h o s2 [] l k))
pieces_behind {s = s} h o l trims stop' ps rest (tag {sign = sign} {t = s2} {a = a} {ps = more} k opens is) = (text_piece (trimmed trims sign (s ++ s2)) ++ more, tag (text_behind h o s2 a l k) opens is)

pub text_before_end : (shape : List Bool) (trims : Bool) {t s a : List ℕ} → IsText t s a → (o : List ℕ) → (front o ≡ front a) ⊎ (front o ≡ Some 32) → Ends shape (behind_tag trims) o → Ends shape (behind_tag trims) (s ++ o)
text_before_end shape trims {s = s} h o l = put_before shape (behind_tag trims) (behind_tag trims) (s ++ o) o (pieces_behind h o l trims)

pub tag_before : (shape : List Bool) (trims : Bool) (kind : Kind) (sign : Bool) (t s a b : List ℕ) → IsText t s a → Opens kind sign a b → Ends shape (inside_tag kind) b → Ends shape (behind_tag trims) t
tag_before shape trims kind sign t s a b h opens = put_before shape (behind_tag trims) (inside_tag kind) t b (λ s' ps rest is. (text_piece (trimmed trims sign s) ++ ps, tag h opens is))

-- ---- the shortest end

abbrev pub closing_tag : List ℕ
closing_tag = 123 ∷ 37 ∷ 32 ∷ (text_of Token.Endif ++ 32 ∷ text_of Token.TagEnd)

-- a tag for each open choice, each behind a blank, and a blank
abbrev pub ending : List Bool → List ℕ
ending [] = []
ending (tested ∷ outer) = closing_tag ++ 32 ∷ ending outer

blank_character : (o : List ℕ) → IsCharacter (32 ∷ o) (encode_utf8 32) o
blank_character o = character_found (32 ∷ o) 32 o (ascii_read tt 32 o (omega arith))

blank_text : (o : List ℕ) → IsText (32 ∷ o) (encode_utf8 32 ++ []) o
blank_text o = one_character refl (blank_character o) no_character

pub shortest : (shape : List Bool) (trims : Bool) → Ends shape (behind_tag trims) (32 ∷ ending shape)
shortest [] trims = record { ps = text_piece (trimmed trims false (encode_utf8 32 ++ [])); is = last_text (blank_text []) }
shortest (tested ∷ outer) trims =
    let q : List ℕ = ending outer in
    let z : List ℕ = text_of Token.TagEnd ++ 32 ∷ q in
    let t : List ℕ = 32 ∷ (text_of Token.Endif ++ 32 ∷ z) in
    tag_before (tested ∷ outer) trims statement_kind false (32 ∷ 123 ∷ 37 ∷ t) (encode_utf8 32 ++ []) (123 ∷ 37 ∷ t) t (blank_text (123 ∷ 37 ∷ t)) (plain refl refl)
    (endif_before tested outer false t (32 ∷ z) (32 ∷ q) (takes_next Token.Endif z) (ends (takes_next Token.TagEnd q)) (shortest outer false))
